-- `message_commands::header_at` meets its contract: the list of the definition is the table.
use Rattle.message_commands.specs.Commands.{headers}
use Rattle.message_commands.proofs.HeaderLaws.{at_place}
use borrow.Author.Rules.{rules}
use Rattle.message_commands.proofs.header_at.Statement.{statement}
use Rattle.message_commands.proofs.header_at.Tie as tie

returns : tie.Need-returns
unfolding headers
returns c = at_place _ c.before.args.k (search rules)

pub header_at_spec : {M : Type 1} → statement M
header_at_spec =
    tie.close
    (tie.spec
    (λ c. search rules)
    (λ c. search rules)
    returns)
