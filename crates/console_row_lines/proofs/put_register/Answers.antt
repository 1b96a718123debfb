-- A line, from its words, or nothing.
use Rattle.console_prints.proofs.PrintLaws.{words, unwritten, written_unless}
use Rattle.console_row_lines.specs.OneRow.{register_line}
use Rattle.console_row_lines.proofs.put_register.Goals as goal

pub returns-then-is_zero-clause-writes : goal.returns-then-is_zero-clause-writes
unfolding register_line
returns-then-is_zero-clause-writes c = search unwritten

pub returns-clause-writes : goal.returns-clause-writes
unfolding register_line
returns-clause-writes c = search (written_unless, words)
