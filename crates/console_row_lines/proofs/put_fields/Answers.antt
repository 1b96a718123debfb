-- Three words.
use Rattle.console_prints.proofs.PrintLaws.{words}
use Rattle.console_row_lines.proofs.put_fields.Goals as goal

pub returns-clause-writes : goal.returns-clause-writes
returns-clause-writes c = search words
