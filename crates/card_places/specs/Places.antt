-- Where the entries of a stored card stand, which are those of the table in its sequence (document 01, Cards). Places
-- are counted from 0.
use Rattle.std.specs.Prelude.{ℕ, ◌+◌, Bool, cond, List, [], ◌∷◌, eqb, leb, length, drop}
use Rattle.byte_strings.specs.Texts.{all}
use Rattle.text_classes.specs.Classes.{are_all}
use Rattle.text_classes.specs.declared.Class.TheVariants.{Zero}
use Rattle.text_forms.specs.declared.Form.{Form}
use Rattle.card_entries.specs.Entries.{name_of}
use Rattle.card_attributes.specs.Table.{name, form}
use Rattle.card_attributes.specs.declared.Attribute.{Attribute}
use Rattle.text_patterns.specs.Patterns.{fits}
use Rattle.card_steps.specs.Steps.{after}

-- the place after an entry for each attribute, the first at a place
abbrev pub after_all : List Attribute → List ℕ → ℕ → ℕ
after_all [] s at = at
after_all (a ∷ rs) s at = after_all rs s (after (name a) (form a) s at)

-- the place after such an entry of a kept attribute, where its name stands at a place; the place itself, where it does
-- not
unfoldable pub after_kept : ℕ → Form → List ℕ → ℕ → ℕ
after_kept n f s at = cond (eqb (name_of (drop at s)) n) (after n f s at) at

-- the place after bytes that fit a pattern and stand at a place; beyond the end, if they do not fit
unfoldable pub after_fitting : List ℕ → List ℕ → ℕ → ℕ
after_fitting p s at = cond (fits p (drop at s)) (at + length p) (length s + 1)

-- s is 256 bytes, and from a place within them on only zeros stand
unfoldable pub is_clear : List ℕ → ℕ → Bool
is_clear s at =
    all (
    eqb (length s) 256
    ∷ leb at (length s)
    ∷ are_all Zero (drop at s)
    ∷ [])
