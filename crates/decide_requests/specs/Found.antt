-- What question 3 has answered, and found of the registers where the rows are sound.
use Rattle.std.specs.Prelude.{ℕ, ◌≡◌, Bool, true, List, take}
use Rattle.row_types.specs.Sound.{are_sound}
use Rattle.row_types.specs.declared.SlotRow.{SlotRow}
use Rattle.row_types.specs.declared.RegisterRow.{RegisterRow}
use Rattle.row_index.specs.Found.{AreKeys}

-- S and R are the rows, m how many registers; there are places for 32 keys
abbrev pub IsFound : Bool → List ℕ → List SlotRow → List RegisterRow → ℕ → Type 0
IsFound sound keys S R m = (sound ≡ are_sound S R) × (sound ≡ true → AreKeys (take m keys) R)
