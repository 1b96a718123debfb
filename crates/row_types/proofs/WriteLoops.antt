-- Loops that write what is told of each row, one after the other: what remains to be written is what is told of the rows that are left.
use mathlib.Core.Path.{◌≡◌}
use mathlib.Core.List.{List, [], ◌∷◌, ◌++◌}
use Prim.Native.Nat.{ℕ, ◌+◌}
use native.Mathlib.Omega.{arith}
use lib.ListN.{length, drop, length-append}
use lib.Seq.{sets}
use Rattle.byte_strings.specs.Wrote.{Wrote}
use Rattle.byte_strings.proofs.Writes.{sets_append}
use Rattle.row_types.specs.Lists.{in_turn}

-- of the bytes ws, to be written into d₀ from a₀ on, vs remain to be written into d from a on
pub record Remains (d₀ : List ℕ) (a₀ : ℕ) (ws : List ℕ) (d : List ℕ) (a : ℕ) (vs : List ℕ) : Type 0 where
  pub next : a + length vs ≡ a₀ + length ws
  pub bytes : sets d a vs ≡ sets d₀ a₀ ws

pub all_remains : (d : List ℕ) (a : ℕ) (ws vs : List ℕ) → vs ≡ ws → Remains d a ws d a vs
all_remains d a ws vs e = record { next = rw e; bytes = rw e }

module _ {d₀ : List ℕ} {a₀ : ℕ} {ws : List ℕ} {d : List ℕ} {a : ℕ} where
  none_remains : Remains d₀ a₀ ws d a [] → Wrote d₀ a₀ ws d a
  none_remains v = record { next = omega (arith, v.next); bytes = v.bytes }

  less_remains : {e : List ℕ} {b : ℕ} (us vs : List ℕ) → Remains d₀ a₀ ws d a (us ++ vs) → Wrote d a us e b → Remains d₀ a₀ ws e b vs
  less_remains us vs v w = record { next = omega (arith, w.next, v.next, length-append us vs); bytes = rw (w.bytes, w.next, sets_append) v.bytes }

-- l is what is looped over, i the turn
module _ {A : Type 0} (tell : ℕ → A → List ℕ) (l : List A) (i : ℕ) (d₀ : List ℕ) (a₀ : ℕ) (ws : List ℕ) (d : List ℕ) (a : ℕ) (inv : Remains d₀ a₀ ws d a (in_turn tell i (drop i l))) where
  pub turns_ended : drop i l ≡ [] → Wrote d₀ a₀ ws d a
  turns_ended h = none_remains (rw h at inv)

  pub turn_written : (x : A) (e : List ℕ) (b : ℕ) → Wrote d a (tell i x) e b → drop i l ≡ x ∷ drop (i + 1) l → Remains d₀ a₀ ws e b (in_turn tell (i + 1) (drop (i + 1) l))
  turn_written x e b w h = less_remains (tell i x) (in_turn tell (i + 1) (drop (i + 1) l)) (rw h at inv) w
