-- The first i cards are put into the first lent rows.
use Rattle.std.proofs.Common.{◌≡◌, take}
use Rattle.row_lending.specs.Tables.{each_with, with_card}
use Rattle.row_lending.proofs.store_cards.Given as goal

abbrev pub invariant-loop-i : goal.invariant-loop-i
invariant-loop-i l = l.registers ≡ each_with with_card l.initial.registers (take l.i l.card-items)
