-- What question 3 finds of the registers' owners, where the rows are sound.
use Rattle.std.specs.Prelude.{ℕ, ◌≡◌, true, List, map, take}
use Rattle.row_types.specs.Sound.{are_sound}
use Rattle.row_types.specs.Index.{kept_name}
use Rattle.row_types.specs.declared.SlotRow.{SlotRow}
use Rattle.row_types.specs.declared.RegisterRow.{RegisterRow}
use Rattle.row_index.specs.Found.{owner_number}

-- S and R are the rows, m how many registers; there are places for 32 owners
abbrev pub AreOwners : List ℕ → List SlotRow → List RegisterRow → ℕ → Type 0
AreOwners owners S R m = are_sound S R ≡ true → take m owners ≡ map (owner_number (map kept_name S)) R
