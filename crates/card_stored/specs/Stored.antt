-- The stored card, which has fifteen attributes and SGN where the incoming card has it, and the test of a card as
-- stored (document 01, Cards and question 3; document 02, N2).
use Rattle.std.specs.Prelude.{ℕ, ◌-◌, Bool, true, false, cond, ◌&&◌, ◌||◌, List, [], ◌∷◌, ◌++◌, eqb}
use Rattle.std.specs.Prelude.{length, take, drop, replicate}
use Rattle.byte_strings.specs.Texts.{text, all}
use Rattle.byte_strings.specs.Strings.{run, is_not}
use Rattle.byte_strings.specs.Lists.{rows_that}
use Rattle.byte_pieces.specs.Pieces.{is_ended}
use Rattle.text_classes.specs.Classes.{are_all}
use Rattle.text_classes.specs.declared.Class.TheVariants.{Zero}
use Rattle.text_forms.specs.Forms.{in_form}
use Rattle.card_entries.specs.Entries.{semicolon, entries, name_of, value_of, is_some, value_or, entry_bytes}
use Rattle.card_attributes.specs.Table.{CLU, KCV, KSL, VND, table, is_always, always, name, presence, form}
use Rattle.card_attributes.specs.declared.Attribute.{Attribute}

-- the default card (001 example 6.3.5.4)
unfoldable pub default_card : List ℕ
default_card = text "CLMFFFFFFFF;IUT20380119T031407Z;SBMFFFF;ULM999999999;"

-- the values that belong to the engine
pub record EngineValues : Type 0 where
  pub clu : List ℕ
  pub kcv : List ℕ
  pub ksl : List ℕ
  pub vnd : List ℕ

-- at a load: CLU and VND start at 0, KCV is the supplement's check value, KSL the slot's identifier
abbrev pub load_values : List ℕ → List ℕ → EngineValues
load_values check slot = record { clu = text "0"; kcv = check; ksl = slot; vnd = text "0" }

-- the value that is stored under a name: the engine's own, else the incoming card's, else the default card's
unfoldable pub stored_value : List ℕ → EngineValues → ℕ → List ℕ
stored_value card own n =
    cond (eqb n CLU) own.clu
    (cond (eqb n KCV) own.kcv
    (cond (eqb n KSL) own.ksl
    (cond (eqb n VND) own.vnd
    (value_or n card default_card))))

-- an entry for each attribute, with the value that f gives its name
abbrev pub card_bytes : List Attribute → (ℕ → List ℕ) → List ℕ
card_bytes [] f = []
card_bytes (a ∷ rs) f = entry_bytes (name a) (f (name a)) ++ card_bytes rs f

-- an attribute of the card that is stored: every stored card has it, or the incoming card does
abbrev pub is_stored_of : List ℕ → Attribute → Bool
is_stored_of card a = is_always (presence a) || is_some (value_of (name a) card)

-- all of these: SGN only where the incoming card has it
abbrev pub rows_for : List ℕ → List Attribute
rows_for card = rows_that (is_stored_of card) table

-- the stored card has them, ascending
unfoldable pub stored_card : List ℕ → EngineValues → List ℕ
stored_card card own = card_bytes (rows_for card) (stored_value card own)

-- in 256 bytes of space, zero after its end
unfoldable pub in_row : List ℕ → List ℕ
in_row card = card ++ replicate (256 - length card) 0

-- an entry of the attribute
unfoldable pub is_entry_of : Attribute → List ℕ → Bool
is_entry_of a entry =
    all (
    eqb (name_of entry) (name a)  -- of its name
    ∷ in_form (form a) (drop 3 entry)  -- its value in form
    ∷ [])

-- an entry for each attribute, in their sequence
abbrev pub are_entries_of : List Attribute → List (List ℕ) → Bool
are_entries_of [] [] = true
are_entries_of [] (p ∷ ps) = false
are_entries_of (a ∷ rs) [] = false
are_entries_of (a ∷ rs) (p ∷ ps) = is_entry_of a p && are_entries_of rs ps

-- a card as stored: n bytes stand before the first zero
unfoldable pub is_stored : List ℕ → Bool
is_stored s =
    let n = run (is_not 0) s in
    let es = entries (take n s) in
    all (
    eqb (length s) 256  -- 256 bytes of space
    ∷ is_ended semicolon (take n s)  -- each entry ends with a semicolon
    ∷ (are_entries_of always es || are_entries_of table es)  -- the fifteen, or with SGN sixteen, ascending
    ∷ are_all Zero (drop n s)  -- zero after its end
    ∷ [])
