-- The cards of the first i lent rows stand in the first places.
use Rattle.std.proofs.Common.{◌≡◌, take}
use Rattle.row_lending.specs.Tables.{each_with}
use Rattle.row_lending.proofs.load_cards.Given as goal

abbrev pub invariant-loop-i : goal.invariant-loop-i
invariant-loop-i l = l.cards ≡ each_with (λ _ r. r.card) l.initial.cards (take l.i l.row-items)
