-- A card, a term of document 01 (Cards): entries, each a name of three capitals, a value and a semicolon.
use Rattle.std.specs.Prelude.{ℕ, ◌-◌, ◌/◌, ◌%◌, ◌≤◌, Bool, true, false, cond, List, [], ◌∷◌}
use Rattle.std.specs.Prelude.{◌++◌, eqb, get_or, take, drop}
use Prim.Native.Char.{code}
use Rattle.std.proofs.Math.Option.{Option, none, some}
use Rattle.byte_strings.specs.Strings.{run, is_not}
use Rattle.byte_strings.specs.Texts.{all}
use Rattle.byte_pieces.specs.Pieces.{pieces}
use Rattle.text_classes.specs.Classes.{is_of}
use Rattle.text_classes.specs.declared.Class.TheVariants.{Capital}
use Rattle.card_attributes.specs.Table.{name_number}
use Rattle.card_entries.specs.declared.Found.{Found}
use Rattle.card_entries.specs.declared.Found.TheVariants.{At, Nothing}

-- what ends an entry
abbrev pub semicolon : ℕ
semicolon = code ";"

-- the entries of a card, each without its semicolon
abbrev pub entries : List ℕ → List (List ℕ)
entries card = pieces semicolon card

-- how long the first entry of a list is, without its semicolon
abbrev pub entry_length : List ℕ → ℕ
entry_length s = run (is_not semicolon) s

-- an entry starts with a name of three capitals
abbrev pub is_named : List ℕ → Bool
is_named p =
    all (
    is_of Capital (get_or p 0 0)
    ∷ is_of Capital (get_or p 1 0)
    ∷ is_of Capital (get_or p 2 0)
    ∷ [])

-- the name of an entry as a number; 0 where the entry has none
unfoldable pub name_of : List ℕ → ℕ
name_of p = cond (is_named p) (name_number p) 0

-- the value under a name among entries
abbrev pub value_in : ℕ → List (List ℕ) → Option (List ℕ)
value_in n [] = none
value_in n (p ∷ ps) = cond (eqb (name_of p) n) (some (drop 3 p)) (value_in n ps)

-- the value under a name in a card; 0 is no name
unfoldable pub value_of : ℕ → List ℕ → Option (List ℕ)
value_of n card = cond (eqb n 0) none (value_in n (entries card))

-- whether there is a value
abbrev pub is_some : Option (List ℕ) → Bool
is_some none = false
is_some (some v) = true

-- what stands between the bounds that a search found
abbrev pub between : List ℕ → Found → Option (List ℕ)
between card (At start end) = some (take (end - start) (drop start card))
between card Nothing = none

-- the bounds lie within n bytes
abbrev pub Within : ℕ → Found → Type 0
Within n (At start end) = (start ≤ end) × (end ≤ n)
Within n Nothing = Unit

-- a value, and where there is none the other
abbrev pub or_else : Option (List ℕ) → List ℕ → List ℕ
or_else (some v) w = v
or_else none w = w

-- the value under a name in one card, where it is absent in the other, and where it is absent in both no byte
unfoldable pub value_or : ℕ → List ℕ → List ℕ → List ℕ
value_or n card other = or_else (value_of n card) (or_else (value_of n other) [])

-- an entry as it is written
abbrev pub name_bytes : ℕ → List ℕ
name_bytes n = n / 65536 ∷ n / 256 % 256 ∷ n % 256 ∷ []

unfoldable pub entry_bytes : ℕ → List ℕ → List ℕ
entry_bytes n v = name_bytes n ++ (v ++ (semicolon ∷ []))
