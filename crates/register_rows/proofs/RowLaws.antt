-- A free row and one that is zero.
use mathlib.Core.Path.{◌≡◌, refl}
use mathlib.Core.Bool.{Bool, true, false, ◌&&◌}
use mathlib.Core.List.{List}
use lib.Dec.{eqb}
use Rattle.text_classes.specs.Classes.{are_all}
use Rattle.text_classes.specs.declared.Class.TheVariants.{Zero}
use Rattle.row_types.specs.Registers.{is_vacant, is_closed}
use Rattle.row_types.specs.Sound.{is_mark_sound}
use Rattle.row_types.specs.declared.SlotRow.{SlotRow}
use Rattle.row_types.specs.declared.RegisterRow.{RegisterRow}
use Rattle.row_types.proofs.SoundLaws.{free_is_closed}
use Rattle.register_rows.specs.ZeroRegisters.{is_zero_register}

-- of the rows whose mark is sound, the free ones are those that are zero
pub free_is_zero : (slots : List SlotRow) (r : RegisterRow) → is_mark_sound slots r ≡ true → is_vacant r ≡ is_zero_register r
unfolding is_zero_register is_vacant is_closed
free_is_zero slots r h = go (are_all Zero r.card) (eqb r.mark 0) (free_is_closed slots r h)
  where
    go : (b c : Bool) → (b ≡ true → c ≡ true) → b ≡ (c && b)
    go true c f = rw (f refl)
    go false true f = refl
    go false false f = refl
