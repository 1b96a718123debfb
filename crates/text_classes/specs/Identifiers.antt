-- Identifiers, the type IDENT (003 clause 5.1.3; document 01, Records).
use Rattle.std.specs.Prelude.{ℕ, Bool, List, [], ◌∷◌, leb, length, get_or}
use Rattle.byte_strings.specs.Texts.{all}
use Rattle.text_classes.specs.Classes.{are_all, is_alphanumeric}
use Rattle.text_classes.specs.declared.Class.TheVariants.{Identifier}

unfoldable pub is_identifier : List ℕ → Bool
is_identifier v =
    all (
    leb 1 (length v)
    ∷ leb (length v) 40  -- document 01, Records: 1 to 40 bytes
    ∷ is_alphanumeric (get_or v 0 0)  -- 003 clause 5.1.3: one alphanumeric character
    ∷ are_all Identifier v  -- followed by letters, digits and _ - . ,
    ∷ [])
