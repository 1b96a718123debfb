-- Bytes of a row shown as text.
use Rattle.std.specs.Prelude.{ℕ, cond, List, [], ◌∷◌, map}
use Prim.Native.Char.{code}
use Rattle.text_classes.specs.Classes.{is_of}
use Rattle.text_classes.specs.declared.Class.TheVariants.{Text}
use Rattle.byte_strings.specs.Texts.{text}
use Rattle.row_types.specs.Lists.{trimmed}

-- a byte that is not 20 to 7D hexadecimal is a full stop
unfoldable pub legible : ℕ → ℕ
legible b = cond (is_of Text b) b (code ".")

-- nothing is -
abbrev pub or_dash : List ℕ → List ℕ
or_dash [] = text "-"
or_dash (b ∷ bs) = b ∷ bs

-- what stands before the first zero, as text
unfoldable pub shown : List ℕ → List ℕ
shown s = or_dash (map legible (trimmed s))
