-- What is handed in is the octets of the digits.
use Rattle.std.proofs.Common.{rules}
use Rattle.console_requests.proofs.RequestLaws.{sent_octets, same_state, same_said}
use Rattle.console_requests.proofs.send_octets.Goals as goal

pub returns-clause-console_value : goal.returns-clause-console_value
returns-clause-console_value c = search (rules, same_state, sent_octets)

pub returns-clause-printed : goal.returns-clause-printed
returns-clause-printed c = search (rules, same_said, sent_octets)
