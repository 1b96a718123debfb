-- Three words.
use Rattle.console_prints.proofs.PrintLaws.{words}
use Rattle.console_shown_rows.proofs.put_key.Goals as goal

pub returns-clause-writes : goal.returns-clause-writes
returns-clause-writes c = search words
