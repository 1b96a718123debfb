-- The incoming card (document 01, Cards).
use Rattle.std.specs.Prelude.{ℕ, suc, ◌<◌, ◌≡◌, Bool, true, false, cond, not, ◌&&◌, List, [], ◌∷◌}
use Rattle.std.specs.Prelude.{map, eqb, leb, ltb, length, get_or, drop}
use Rattle.std.proofs.Math.Option.{Option, none, some}
use Rattle.byte_strings.specs.Texts.{all}
use Rattle.byte_bounds.specs.Bounds.{bytes_in, FitIn, nowhere}
use Rattle.byte_bounds.specs.declared.Bounds.{Bounds}
use Rattle.byte_pieces.specs.Pieces.{is_ended}
use Rattle.text_classes.specs.Classes.{are_all}
use Rattle.text_classes.specs.declared.Class.TheVariants.{Value}
use Rattle.text_forms.specs.Forms.{in_form}
use Rattle.text_forms.specs.declared.Form.{Form}
use Rattle.card_entries.specs.Entries.{semicolon, entries, is_named, name_of, value_of, is_some}
use Rattle.card_attributes.specs.Table.{table, rows, name, presence, form}
use Rattle.card_attributes.specs.declared.Presence.{Presence}
use Rattle.card_attributes.specs.declared.Presence.TheVariants.{Required, Optional, Engine, Kept}
use Rattle.card_attributes.specs.declared.Attribute.{Attribute}

-- v under a known name: in form, so its bytes are 20 to 7D but ; and | (forms, in-form-value); the engine's own are not
-- judged, but not empty. SGN alone may be empty (document 02, N2)
abbrev pub fits_as : Presence → Form → List ℕ → Bool
fits_as Required f v = in_form f v
fits_as Optional f v = in_form f v
fits_as Engine f v = leb 1 (length v) && are_all Value v
fits_as Kept f v = in_form f v

unfoldable pub fits : Attribute → List ℕ → Bool
fits a v = fits_as (presence a) (form a) v

-- v under the name n; under an unknown one it may be empty
abbrev pub fits_name : List Attribute → ℕ → List ℕ → Bool
fits_name [] n v = are_all Value v
fits_name (a ∷ rs) n v = cond (eqb (name a) n) (fits a v) (fits_name rs n v)

-- the value of an entry has the form of its name
abbrev pub is_fitting : List ℕ → Bool
is_fitting entry = fits_name table (name_of entry) (drop 3 entry)

-- every entry passes the test
abbrev pub every : (List ℕ → Bool) → List (List ℕ) → Bool
every f [] = true
every f (p ∷ ps) = f p && every f ps

-- numbers ascend, none twice
abbrev pub ascend : List ℕ → Bool
ascend [] = true
ascend (m ∷ []) = true
ascend (m ∷ n ∷ ns) = ltb m n && ascend (n ∷ ns)

-- entries in form, and nothing else
unfoldable pub is_card : List ℕ → Bool
is_card card =
    all (
    is_ended semicolon card  -- each entry ends with a semicolon
    ∷ every is_named (entries card)  -- and starts with a name of three capitals
    ∷ ascend (map name_of (entries card))  -- names ascend, none twice
    ∷ every is_fitting (entries card)  -- each value has its name's form
    ∷ [])

abbrev pub is_required : Presence → Bool
is_required Required = true
is_required Optional = false
is_required Engine = false
is_required Kept = false

-- the attribute is there, if it is required
unfoldable pub is_met : Attribute → List ℕ → Bool
is_met a card = cond (is_required (presence a)) (is_some (value_of (name a) card)) true

-- every required attribute is there
abbrev pub has_required : List Attribute → List ℕ → Bool
has_required [] card = true
has_required (a ∷ rs) card = is_met a card && has_required rs card

-- an incoming card in form
unfoldable pub is_incoming : List ℕ → Bool
is_incoming card = is_card card && has_required table card

-- the name of the attribute with an index
unfoldable pub name_at : ℕ → ℕ
name_at index = get_or (map name table) index 0

-- the value within bounds; none where they start at 0, since three letters stand before a value
abbrev pub value_at : List ℕ → Bounds → Option (List ℕ)
value_at card b = cond (eqb b.start 0) none (some (bytes_in card b))

-- the bounds of the value that a card has under a name
abbrev pub IsValue : List ℕ → ℕ → Bounds → Type 0
IsValue card n b = FitIn (length card) b × (value_at card b ≡ value_of n card)

-- the bounds of the value of each attribute, by its index
unfoldable pub AreValues : List Bounds → List ℕ → Type 0
AreValues values card = (k : ℕ) → k < rows → IsValue card (name_at k) (get_or values k nowhere)

-- the index of the attribute with a name; their number where none has it
abbrev pub index_of : List Attribute → ℕ → ℕ
index_of [] n = 0
index_of (a ∷ rs) n = cond (eqb (name a) n) 0 (suc (index_of rs n))

-- v under the first attribute; under an unknown name where there is none
abbrev pub fits_first : List Attribute → List ℕ → Bool
fits_first [] v = are_all Value v
fits_first (a ∷ rs) v = fits a v

-- every required attribute has its value noted, the first of them at the index k
abbrev pub has_noted : List Attribute → ℕ → List Bounds → Bool
has_noted [] k values = true
has_noted (a ∷ rs) k values =
    cond (is_required (presence a)) (not (eqb (get_or values k nowhere).start 0)) true && has_noted rs (suc k) values
