-- A line, from its words.
use Rattle.console_prints.proofs.PrintLaws.{words}
use Rattle.console_shown_rows.specs.OneRow.{counts_shown}
use Rattle.console_shown_rows.proofs.put_counts.Goals as goal

pub returns-clause-writes : goal.returns-clause-writes
unfolding counts_shown
returns-clause-writes c = search words
