-- Names of entries, and the value under a name.
use mathlib.Core.Path.{◌≡◌, refl, sym, ap, ◌∙◌}
use mathlib.Core.Bool.{Bool, true, false, cond, ◌&&◌, and-false, and-true}
use mathlib.Core.List.{List, [], ◌∷◌}
use mathlib.Core.Option.{Option, some}
use Prim.Native.Nat.{ℕ, ◌+◌, ◌-◌, ◌≤◌, ◌<◌}
use native.Mathlib.Omega.{arith}
use lib.Dec.{leb}
use lib.ListN.{length, get_or, take, drop, length-append, length-drop, get_or-eq_default}
use lib.Seq.{drop-drop, length-take-le}
use borrow.Author.Tests.{eq-eqb, ne_eqb, leb-true}
use Rattle.byte_strings.specs.Strings.{run, is_not, all_of}
use Rattle.byte_pieces.specs.Pieces.{pieces}
use Rattle.byte_pieces.proofs.PieceLaws.{next_piece}
use Rattle.text_classes.specs.Classes.{is_of}
use Rattle.text_classes.specs.declared.Class.TheVariants.{Capital}
use Rattle.card_attributes.specs.Table.{name_number}
use Rattle.card_entries.specs.Entries.{is_named, name_of, value_in, value_of, Within, entry_bytes}
use Rattle.card_entries.specs.declared.Found.{Found}
use Rattle.card_entries.specs.declared.Found.TheVariants.{At}
use Rattle.byte_strings.proofs.Flags.{and_first}
use Rattle.byte_strings.proofs.StringLaws.{drop_take}

-- what is shorter than three bytes has no name
pub too_short : (p : List ℕ) → length p < 3 → 0 ≡ name_of p
unfolding name_of
too_short p h = rw (get_or-eq_default p 0 {n = 2} (omega arith), and-false, and-false)

-- an entry with a name has three bytes
pub name_length : (p : List ℕ) → 0 < name_of p → 3 ≤ length p
name_length [] h = absurd (omega (arith, too_short [] (omega arith)))
name_length (a ∷ []) h = absurd (omega (arith, too_short (a ∷ []) (omega arith)))
name_length (a ∷ b ∷ []) h = absurd (omega (arith, too_short (a ∷ b ∷ []) (omega arith)))
name_length (a ∷ b ∷ c ∷ v) h = omega arith

-- a name is three capitals, and three capitals are a name
pub some_named : (p : List ℕ) → 0 < name_of p → is_named p ≡ true
unfolding name_of
some_named p h = go (is_named p) h
  where
    go : (t : Bool) → 0 < cond t (name_number p) 0 → t ≡ true
    go true l = refl
    go false l = absurd (omega arith)

pub named_some : (p : List ℕ) → is_named p ≡ true → 0 < name_of p
unfolding name_of
named_some p e =
    let a = and_first (is_of Capital (get_or p 0 0)) (is_of Capital (get_or p 1 0) && is_of Capital (get_or p 2 0)) e in
    let l : 65 ≤ get_or p 0 0 = leb-true 65 (get_or p 0 0) (and_first (leb 65 (get_or p 0 0)) (leb (get_or p 0 0) 90) a) in
    rw e (omega arith)

pub name_capitals : (p : List ℕ) → 0 < name_of p → all_of (is_of Capital) (take 3 p) ≡ true
name_capitals [] h = refl
name_capitals (a ∷ []) h = absurd (omega (arith, name_length (a ∷ []) h))
name_capitals (a ∷ b ∷ []) h = absurd (omega (arith, name_length (a ∷ b ∷ []) h))
name_capitals (a ∷ b ∷ c ∷ v) h = rw and-true (some_named (a ∷ b ∷ c ∷ v) h)

-- the value of the entry from `at` to e
pub value_here : (s : List ℕ) (at e : ℕ) → drop 3 (take (e - at) (drop at s)) ≡ take (e - (at + 3)) (drop (at + 3) s)
value_here s at e =
    let k : e - at - 3 ≡ e - (at + 3) = omega arith in
    drop_take 3 (e - at) (drop at s) ∙ rw (k, drop-drop)

-- an entry with a name is long enough for it
pub name_room : (s : List ℕ) (at e : ℕ) → e < length s → e ≡ at + run (is_not 59) (drop at s) → 0 < name_of (take (e - at) (drop at s)) → at + 3 ≤ e
name_room s at e h k q =
    let l : length (take (e - at) (drop at s)) ≡ e - at = length-take-le (e - at) (drop at s) (omega (arith, length-drop at s)) in
    omega (arith, name_length (take (e - at) (drop at s)) q)

-- the value under a name is that of the first entry with the name
pub a_name : (s : List ℕ) (name : ℕ) → (name ≡ 0 → ⊥) → value_in name (pieces 59 s) ≡ value_of name s
unfolding value_of
a_name s name o = rw (ne_eqb name 0 o)

-- z is the value that is looked for in what is left
module _ (s : List ℕ) (at name : ℕ) (z : Option (List ℕ)) (v : value_in name (pieces 59 (drop at s)) ≡ z) where
  module _ (e : ℕ) (p : e ≡ at + run (is_not 59) (drop at s)) where
    module _ (h : e < length s) (x : ℕ) (q : x ≡ name_of (take (e - at) (drop at s))) where
      pub found_here : x ≡ name → some (take (e - (at + 3)) (drop (at + 3) s)) ≡ z
      found_here i =
          let y : value_in name (pieces 59 (drop at s)) ≡ some (drop 3 (take (e - at) (drop at s))) = rw (next_piece 59 s at e p h, ← q, eq-eqb x name i) in
          ap some (sym (value_here s at e)) ∙ sym y ∙ v

      pub found_later : (x ≡ name → ⊥) → value_in name (pieces 59 (drop (e + 1) s)) ≡ z
      found_later i =
          let y : value_in name (pieces 59 (drop at s)) ≡ value_in name (pieces 59 (drop (e + 1) s)) = rw (next_piece 59 s at e p h, ← q, ne_eqb x name i) in
          sym y ∙ v

-- the bounds that a search found
module _ (n : ℕ) (f : Found) (w : Within n f) (a e : ℕ) (p : f ≡ At a e) where
  within_both : (a ≤ e) × (e ≤ n)
  within_both = rw p at w

  pub start_le : a ≤ e
  start_le = within_both.0

  pub end_le : e ≤ n
  end_le = within_both.1

-- an entry as it is written
pub entry_length_lem : (n : ℕ) (v : List ℕ) → length (entry_bytes n v) ≡ length v + 4
unfolding entry_bytes
entry_length_lem n v = simp length-append (omega arith)
