-- Register rows of which nothing is kept, their mark neither (document 02, N3).
use Rattle.std.specs.Prelude.{Bool, [], ◌∷◌, eqb}
use Rattle.byte_strings.specs.Texts.{all}
use Rattle.text_classes.specs.Classes.{are_all}
use Rattle.text_classes.specs.declared.Class.TheVariants.{Zero}
use Rattle.row_types.specs.declared.RegisterRow.{RegisterRow}

-- every byte of the row is zero. Of sound rows these are the free ones (`free-is-zero`, proofs/RowLaws.antt)
unfoldable pub is_zero_register : RegisterRow → Bool
is_zero_register r = all (eqb r.mark 0 ∷ are_all Zero r.card ∷ [])
