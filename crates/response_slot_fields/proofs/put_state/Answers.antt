-- The text of a state, by the tests that were made of it.
use Rattle.std.proofs.Common.{arith}
use Rattle.std.proofs.lemmas.Grind.{common_steps}
use Rattle.row_types.specs.RowReplies.{state_text}
use Rattle.response_slot_fields.proofs.put_state.Goals as goal

pub returns-then-has_state-clause-writes : goal.returns-then-has_state-clause-writes
unfolding state_text
returns-then-has_state-clause-writes c = grind (arith, common_steps)

pub returns-then-has_state-2-clause-writes : goal.returns-then-has_state-2-clause-writes
unfolding state_text
returns-then-has_state-2-clause-writes c = grind (arith, common_steps)

pub returns-else-has_state-2-clause-writes : goal.returns-else-has_state-2-clause-writes
unfolding state_text
returns-else-has_state-2-clause-writes c = grind (arith, common_steps)
