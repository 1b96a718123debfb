-- The fields of a PENDING slot, and those of another.
use Rattle.std.proofs.Common.{rules}
use Rattle.response_slots.proofs.RowReplyLaws.{pending_told, other_told}
use Rattle.response_slots.proofs.put_slot.Goals as goal

pub returns-then-has_state-clause-writes : goal.returns-then-has_state-clause-writes
returns-then-has_state-clause-writes c = search (pending_told, rules)

pub returns-else-has_state-clause-writes : goal.returns-else-has_state-clause-writes
returns-else-has_state-clause-writes c = search (other_told, rules)
