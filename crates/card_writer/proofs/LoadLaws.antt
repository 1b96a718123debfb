-- The value that a load stores under a name, by the bounds of the incoming card's.
use mathlib.Core.Path.{◌≡◌, refl, ap, ◌∙◌}
use mathlib.Core.Bool.{Bool, true, false, cond}
use mathlib.Core.List.{List, [], ◌∷◌}
use mathlib.Core.Option.{none, some}
use Prim.Native.Nat.{ℕ, ◌+◌, ◌<◌}
use lib.Dec.{eqb}
use lib.ListN.{get_or, drop}
use borrow.Author.Tests.{eq-eqb, ne_eqb, eqb-true}
use Rattle.byte_strings.specs.Texts.{text}
use Rattle.byte_strings.specs.Strings.{all_of, is_not}
use Rattle.byte_strings.proofs.Flags.{and_first, and_second}
use Rattle.byte_pieces.specs.Pieces.{joined}
use Rattle.byte_pieces.proofs.PieceLaws.{pieces_cons}
use Rattle.byte_bounds.specs.Bounds.{bytes_in, nowhere}
use Rattle.byte_bounds.specs.declared.Bounds.{Bounds}
use Rattle.card_entries.specs.Entries.{semicolon, entries, name_of, value_of, or_else, value_or}
use Rattle.card_attributes.specs.Table.{CLM, IUT, SBM, ULM, table, rows, name}
use Rattle.card_attributes.specs.declared.Attribute.{Attribute}
use Rattle.card_incoming.specs.Incoming.{every, value_at, AreValues}
use Rattle.card_incoming.proofs.ValueLaws.{row_name}
use Rattle.card_stored.specs.Stored.{default_card}

-- default_value: the entries of the default card
cut : (ps : List (List ℕ)) → every (all_of (is_not semicolon)) ps ≡ true → entries (joined semicolon ps) ≡ ps
cut [] e = refl
cut (p ∷ ps) e =
    pieces_cons semicolon p (joined semicolon ps) (and_first (all_of (is_not semicolon) p) (every (all_of (is_not semicolon)) ps) e)
    ∙ ap (λ (qs : List (List ℕ)). p ∷ qs) (cut ps (and_second (all_of (is_not semicolon) p) (every (all_of (is_not semicolon)) ps) e))

abbrev defaults : List (List ℕ)
defaults = text "CLMFFFFFFFF" ∷ text "IUT20380119T031407Z" ∷ text "SBMFFFF" ∷ text "ULM999999999" ∷ []

default_entries : entries default_card ≡ defaults
unfolding default_card
default_entries = let e : default_card ≡ joined semicolon defaults = refl in ap entries e ∙ cut defaults refl

-- the value that it has under a name
module _ (clm iut sbm ulm : List ℕ) where
  abbrev one_of : Bool → Bool → Bool → Bool → List ℕ
  one_of a b c d = cond a clm (cond b iut (cond c sbm (cond d ulm [])))

  some_of : (a b c d : Bool) → or_else (cond a (some clm) (cond b (some iut) (cond c (some sbm) (cond d (some ulm) none)))) [] ≡ one_of a b c d
  some_of true b c d = refl
  some_of false true c d = refl
  some_of false false true d = refl
  some_of false false false true = refl
  some_of false false false false = refl

pub default_is : (n : ℕ) → or_else (value_of n default_card) [] ≡
    cond (eqb CLM n) (text "FFFFFFFF") (cond (eqb IUT n) (text "20380119T031407Z") (cond (eqb SBM n) (text "FFFF") (cond (eqb ULM n) (text "999999999") [])))
unfolding value_of name_of
default_is n = rw default_entries (go (eqb n 0) refl)
  where
    go : (t : Bool) → eqb n 0 ≡ t → or_else (cond t none (cond (eqb CLM n) (some (text "FFFFFFFF")) (cond (eqb IUT n) (some (text "20380119T031407Z")) (cond (eqb SBM n) (some (text "FFFF")) (cond (eqb ULM n) (some (text "999999999")) none))))) [] ≡ one_of (text "FFFFFFFF") (text "20380119T031407Z") (text "FFFF") (text "999999999") (eqb CLM n) (eqb IUT n) (eqb SBM n) (eqb ULM n)
    go true e = let z : n ≡ 0 = eqb-true n 0 e in rw z
    go false e = some_of (text "FFFFFFFF") (text "20380119T031407Z") (text "FFFF") (text "999999999") (eqb CLM n) (eqb IUT n) (eqb SBM n) (eqb ULM n)

-- card_value: b are the bounds that are noted of the incoming card's value
module _ (card : List ℕ) (n : ℕ) (b : Bounds) (w : value_at card b ≡ value_of n card) (v : List ℕ) where
  pub value_absent : b.start ≡ 0 → v ≡ or_else (value_of n default_card) [] → v ≡ value_or n card default_card
  unfolding value_or
  value_absent e p = rw (← w, eq-eqb b.start 0 e, p)

  pub value_there : (b.start ≡ 0 → ⊥) → v ≡ bytes_in card b → v ≡ value_or n card default_card
  unfolding value_or
  value_there e p = rw (← w, ne_eqb b.start 0 e, p)

-- put_stored: the bounds of the k-th attribute's value
module _ (values : List Bounds) (card : List ℕ) (w : AreValues values card) (k : ℕ) (h : k < rows) where
  pub bounds_are : (a : Attribute) → drop k table ≡ a ∷ drop (k + 1) table → value_at card (get_or values k nowhere) ≡ value_of (name a) card
  unfolding AreValues
  bounds_are a e = (w k h).1 ∙ ap (λ (n : ℕ). value_of n card) (row_name k a _ e)
