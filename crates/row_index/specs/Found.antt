-- What question 3 finds of the registers: the key of each as a number (key_number of `row_types`), and the number of
-- the slot that owns it.
use Rattle.std.specs.Prelude.{ℕ, ◌≡◌, Bool, true, cond, List, map, eqb}
use Rattle.std.proofs.Math.Option.{Option, none, some}
use Rattle.card_attributes.specs.Table.{KSL}
use Rattle.row_types.specs.Lists.{every_row, first_from}
use Rattle.row_types.specs.Registers.{is_vacant, attribute_of, is_under, is_register_sound}
use Rattle.row_types.specs.Index.{is_called, key_number}
use Rattle.row_types.specs.declared.RegisterRow.{RegisterRow}

abbrev pub or_zero : Option ℕ → ℕ
or_zero none = 0
or_zero (some i) = i

-- the number of the first that passes a test, counted from 1; 0 where none does
abbrev pub number_of : {A : Type 0} → (A → Bool) → List A → ℕ
number_of f l = or_zero (first_from f 1 l)

-- the number of the slot that owns a register, by the slots' kept names; 0 of a free row
unfoldable pub owner_number : List (List ℕ) → RegisterRow → ℕ
owner_number names r = cond (is_vacant r) 0 (number_of (is_called (attribute_of KSL r)) names)

-- a number is k
abbrev pub is_the : ℕ → ℕ → Bool
is_the k a = eqb a k

-- the keys are those of the rows, and each row is sound by itself
abbrev pub AreKeys : List ℕ → List RegisterRow → Type 0
AreKeys keys rows = (every_row is_register_sound rows ≡ true) × (keys ≡ map key_number rows)

-- among the owners, the number k stands just where a row holds a key of the slot s
abbrev pub AreOwnedBy : ℕ → List ℕ → List ℕ → List RegisterRow → Type 0
AreOwnedBy k s owners rows = map (is_the k) owners ≡ map (is_under s) rows
