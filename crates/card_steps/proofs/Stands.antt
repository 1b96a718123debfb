-- The cases of an entry at a place, each with what the code knows where it answers as premises.
use mathlib.Core.Path.{◌≡◌, refl, sym, ◌∙◌}
use mathlib.Core.Bool.{Bool, true, false, not}
use mathlib.Core.List.{List, []}
use Prim.Native.Nat.{ℕ, ◌+◌, ◌-◌, ◌≤◌, ◌<◌}
use native.Mathlib.Omega.{arith}
use lib.Dec.{ltb}
use lib.ListN.{length, take, drop, length-drop, drop_of_length-le}
use borrow.Author.Tests.{eq-eqb, ne_eqb, le-ltb, lt-ltb, not-true, not-false}
use Rattle.byte_strings.specs.Strings.{run, is_not}
use Rattle.byte_pieces.proofs.PieceLaws.{run_here}
use Rattle.text_forms.specs.Forms.{in_form}
use Rattle.text_forms.specs.declared.Form.{Form}
use Rattle.card_entries.specs.Entries.{entry_length, name_of}
use Rattle.card_entries.proofs.EntryLaws.{name_room, value_here}
use Rattle.card_attributes.specs.Table.{name}
use Rattle.card_steps.specs.Steps.{starts_with, after}
use Rattle.card_steps.proofs.EntryPlaces.{starts_short, starts_name}

-- after: where an entry stands, and where none does
module _ (name : ℕ) (f : Form) (s : List ℕ) (at : ℕ) where
  pub stands : starts_with name f (drop at s) ≡ true → (e : ℕ) → entry_length (drop at s) ≡ e → at + (e + 1) ≡ after name f s at
  unfolding after
  stands o e p = sym (rw (o, p))

  pub stands_not : starts_with name f (drop at s) ≡ false → length s + 1 ≡ after name f s at
  unfolding after
  stands_not o = sym (rw o)

-- after_any
pub any_room : (name : ℕ) (s : List ℕ) (at e : ℕ) → e ≡ at + run (is_not 59) (drop at s) → e < length s → (m : ℕ) → m ≡ name_of (take (e - at) (drop at s)) → m ≡ name → 0 < name → at + 3 ≤ e
any_room name s at e p k m q o h = name_room s at e k p (omega (arith, h, q, o))

module _ (name : ℕ) (f : Form) (s : List ℕ) (at : ℕ) where
  pub any_past : length s < at → length s + 1 ≡ after name f s at
  unfolding starts_with
  any_past h =
      let d : drop at s ≡ [] = drop_of_length-le s {i = at} (omega arith) in
      stands_not name f s at (rw d)

  module _ (l : at ≤ length s) (e : ℕ) (p : e ≡ at + run (is_not 59) (drop at s)) where
    pub any_open : length s ≤ e → length s + 1 ≡ after name f s at
    unfolding starts_with
    any_open h = stands_not name f s at (rw (run_here 59 s at e p, le-ltb (e - at) (length (drop at s)) (omega (arith, length-drop at s))))

    module _ (k : e < length s) (m : ℕ) (q : m ≡ name_of (take (e - at) (drop at s))) where
      fits : ltb (e - at) (length (drop at s)) ≡ true
      fits = lt-ltb (e - at) (length (drop at s)) (omega (arith, length-drop at s))

      pub any_other : (m ≡ name → ⊥) → length s + 1 ≡ after name f s at
      unfolding starts_with
      any_other o = stands_not name f s at (rw (run_here 59 s at e p, fits, ← q, ne_eqb m name o))

      module _ (o : m ≡ name) where
        module _ (b : Bool) (v : b ≡ in_form f (take (e - (at + 3)) (drop (at + 3) s))) where
          pub any_out : not b ≡ true → length s + 1 ≡ after name f s at
          unfolding starts_with
          any_out i = stands_not name f s at (rw (run_here 59 s at e p, fits, ← q, eq-eqb m name o, value_here, ← v, not-true b i))

          pub any_in : not b ≡ false → e + 1 ≡ after name f s at
          unfolding starts_with
          any_in i =
              let j : e + 1 ≡ at + (e - at + 1) = omega arith in
              j ∙ stands name f s at (rw (run_here 59 s at e p, fits, ← q, eq-eqb m name o, value_here, ← v, not-false b i)) (e - at) (run_here 59 s at e p)

pub ruleset any_cases = (any_past, any_open, any_other, any_out, any_in)

-- where another name stands, there is no entry of the name
module _ (n : ℕ) (h : 0 < n) (f : Form) (s : List ℕ) (at : ℕ) where
  pub other_name : (name_of (drop at s) ≡ n → ⊥) → length s + 1 ≡ after n f s at
  other_name o = go (starts_with n f (drop at s)) refl
    where
      go : (t : Bool) → starts_with n f (drop at s) ≡ t → length s + 1 ≡ after n f s at
      go false e = stands_not n f s at e
      go true e = absurd (o (starts_name n f (drop at s) e h))

-- an entry that stands ends within the card
module _ (n : ℕ) (f : Form) (s : List ℕ) (at : ℕ) (e : starts_with n f (drop at s) ≡ true) where
  pub stands_within : after n f s at ≤ length s
  stands_within = omega (arith, stands n f s at e (entry_length (drop at s)) refl, starts_short n f (drop at s) e, length-drop at s)

-- beyond the end nothing stands
module _ (s : List ℕ) where
  pub past_stays : (n : ℕ) (f : Form) → after n f s (length s + 1) ≡ length s + 1
  past_stays n f = sym (any_past n f s (length s + 1) (omega arith))
