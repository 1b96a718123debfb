-- The cases of the forms, each with what the code knows where it answers as premises.
use mathlib.Core.Path.{◌≡◌, refl}
use mathlib.Core.Bool.{Bool, true, false, ◌&&◌, ◌||◌}
use mathlib.Core.List.{List, [], ◌∷◌}
use Prim.Native.Nat.{ℕ}
use native.Mathlib.Omega.{arith}
use lib.Dec.{eqb}
use lib.ListN.{length, get_or}
use Rattle.byte_strings.specs.Texts.{text}
use Rattle.byte_strings.proofs.StringLaws.{same_length}
use Rattle.text_forms.specs.Forms.{is_algorithm}

-- is_algorithm: two bytes, of which the first is 0 and the second 2 or 4
pub by_bytes : (v : List ℕ) → length v ≡ 2 → is_algorithm v ≡ (eqb (get_or v 0 0) 48 && (eqb (get_or v 1 0) 50 || eqb (get_or v 1 0) 52))
unfolding is_algorithm
by_bytes [] n = absurd (omega arith)
by_bytes (a ∷ []) n = absurd (omega arith)
by_bytes (a ∷ b ∷ []) n = by_case (eqb a 48) (eqb b 50) (eqb b 52)
  where
    by_case : (x y z : Bool) → (x && (y && true) || x && (z && true)) ≡ (x && (y || z))
    by_case false y z = refl
    by_case true true z = refl
    by_case true false true = refl
    by_case true false false = refl
by_bytes (a ∷ b ∷ c ∷ v) n = absurd (omega arith)

pub not_two : (v : List ℕ) → (length v ≡ 2 → ⊥) → is_algorithm v ≡ false
unfolding is_algorithm
not_two v o = rw (← same_length v (text "02") o, ← same_length v (text "04") o)
