-- GL!ER, or the header of the request, which has room.
use Rattle.std.proofs.Common.{rules, arith}
use Rattle.std.proofs.lemmas.Grind.{common_steps}
use Rattle.message_frames.specs.Frames.{answered}
use Rattle.response_refusals.proofs.RefusalLaws.{own_room}
use Rattle.response_refusals.proofs.refuse.Goals as goal

pub write_refusal-requires-in_default : goal.write_refusal-requires-in_default
write_refusal-requires-in_default c = search (own_room, rules)

pub returns-in-5-to-7-clause-writes : goal.returns-in-5-to-7-clause-writes
unfolding answered
returns-in-5-to-7-clause-writes c = grind (arith, common_steps)
