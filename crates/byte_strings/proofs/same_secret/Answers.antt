-- Strings of one length are the same where each byte is the one at its own place.
use Rattle.std.proofs.Common.{rules}
use Rattle.byte_strings.proofs.StringLaws.{same_at_places}
use Rattle.byte_strings.proofs.same_secret.Goals as goal

pub returns-then-left-right : goal.returns-then-left-right
returns-then-left-right c = search (rules, same_at_places)
