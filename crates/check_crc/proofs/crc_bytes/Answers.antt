-- The check value of a list of bytes is a fold over it.
use Rattle.std.proofs.Common.{arith}
use Rattle.std.proofs.lemmas.Grind.{common_steps}
use Rattle.check_crc.proofs.Steps.{folded}
use Rattle.check_crc.proofs.crc_bytes.Goals as goal

pub returns : goal.returns
returns c = rw (← folded c.args.start c.args.s.now) (grind (arith, common_steps))
