-- Which key may vend (document 02, N3, in the place of document 01's rule).
use Rattle.std.specs.Prelude.{ℕ, Bool, [], ◌∷◌}
use Rattle.byte_strings.specs.Texts.{all}
use Rattle.row_types.specs.Registers.{is_closed}
use Rattle.row_types.specs.Sound.{are_sound}
use Rattle.row_types.specs.Places.{slot_rows, register_rows}
use Rattle.row_types.specs.declared.Tables.{Tables}
use Rattle.engine.specs.Questions.{are_counts, register_numbered, is_filled}

-- a register's key may vend exactly when it is marked closed, whatever its slot's state; a register that is 0, beyond
-- the rows or free, unsound rows and counts out of range are a no
unfoldable pub is_usable : Tables → ℕ → Bool
is_usable t n = all (
    are_counts t.slot_count t.register_count
    ∷ are_sound (slot_rows t) (register_rows t)
    ∷ is_filled n (register_rows t)
    ∷ is_closed (register_numbered n (register_rows t))
    ∷ [])
