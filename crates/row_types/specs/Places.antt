-- Places among rows, and the rows that a caller has of the places that there are.
use Rattle.std.specs.Prelude.{ℕ, ◌<◌, List, take}
use Rattle.std.proofs.Math.Option.{Option, none, some}
use Rattle.row_types.specs.declared.SlotRow.{SlotRow}
use Rattle.row_types.specs.declared.RegisterRow.{RegisterRow}
use Rattle.row_types.specs.declared.Tables.{Tables}
use Rattle.row_types.specs.declared.Place.{Place}
use Rattle.row_types.specs.declared.Place.TheVariants.{At, Nothing}

-- the place that a search answered
abbrev pub place_of : Place → Option ℕ
place_of (At i) = some i
place_of Nothing = none

-- the place lies among n rows
abbrev pub PlaceWithin : ℕ → Place → Type 0
PlaceWithin n (At i) = i < n
PlaceWithin n Nothing = Unit {0}

abbrev pub slot_rows : Tables → List SlotRow
slot_rows t = take t.slot_count t.slots

abbrev pub register_rows : Tables → List RegisterRow
register_rows t = take t.register_count t.registers
