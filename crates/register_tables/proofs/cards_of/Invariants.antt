-- The cards so far stand in their places.
use Rattle.std.proofs.Common.{◌≡◌, map, take, length}
use Rattle.row_index.specs.Lent.{card_in}
use Rattle.register_tables.proofs.cards_of.Given as goal

abbrev pub invariant-loop-i : goal.invariant-loop-i
invariant-loop-i l = record { cards : take l.i l.cards ≡ map card_in (take l.i l.row-items); places : length l.cards ≡ 32 }
