-- What is handed in is a text, with its checksum and carriage return.
use Rattle.std.proofs.Common.{rules}
use Rattle.console_requests.proofs.RequestLaws.{dots_sent, same_state, same_said}
use Rattle.console_requests.proofs.send.Goals as goal

pub returns-clause-console_value : goal.returns-clause-console_value
returns-clause-console_value c = search (rules, same_state, dots_sent)

pub returns-clause-printed : goal.returns-clause-printed
returns-clause-printed c = search (rules, same_said, dots_sent)
