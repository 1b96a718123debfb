-- A line, from its words, or nothing.
use Rattle.console_prints.proofs.PrintLaws.{words, unwritten, written_unless}
use Rattle.console_shown_rows.specs.OneRow.{slot_shown}
use Rattle.console_shown_rows.proofs.put_slot.Goals as goal

pub returns-then-is_zero-clause-writes : goal.returns-then-is_zero-clause-writes
unfolding slot_shown
returns-then-is_zero-clause-writes c = search unwritten

pub returns-clause-writes : goal.returns-clause-writes
unfolding slot_shown
returns-clause-writes c = search (written_unless, words)
