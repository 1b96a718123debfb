-- The value is noted at 0 where the card has none.
use Rattle.std.proofs.Common.{rules}
use Rattle.card_writer.proofs.LoadLaws.{value_absent, value_there}
use Rattle.card_writer.proofs.card_value.Goals as goal

pub returns-then-bounds-eq0 : goal.returns-then-bounds-eq0
returns-then-bounds-eq0 c = search (rules, value_absent)

pub returns : goal.returns
returns c = search (rules, value_there)
