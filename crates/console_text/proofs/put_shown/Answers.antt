-- The bytes as text, and the byte where they end.
use Rattle.console_text.proofs.TextLaws.{shown_written}
use Rattle.console_text.proofs.put_shown.Goals as goal

pub returns-clause-writes : goal.returns-clause-writes
returns-clause-writes c = search shown_written
