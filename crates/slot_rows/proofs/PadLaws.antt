-- Bytes in a space of zeros.
use mathlib.Core.Path.{◌≡◌, refl, sym, ap, ◌∙◌}
use mathlib.Core.List.{List, [], ◌∷◌, ◌++◌}
use Prim.Native.Nat.{ℕ, zero, suc, ◌≤◌, min}
use native.Mathlib.Omega.{arith}
use lib.ListN.{length, take, drop, replicate, length-replicate}
use Rattle.byte_strings.specs.Wrote.{Wrote}
use Rattle.byte_strings.proofs.Writes.{from_start}
use Rattle.row_types.specs.Lists.{padded}

-- a space of n zeros, filled from its start on
zeros_front : (n m : ℕ) → n ≤ m → replicate {A = ℕ} n 0 ≡ take n (replicate m 0)
zeros_front zero m h = refl
zeros_front (suc n) zero h = absurd (omega arith)
zeros_front (suc n) (suc m) h = ap (λ (l : List ℕ). 0 ∷ l) (zeros_front n m (omega arith))

front_filled : (n m : ℕ) (s : List ℕ) → n ≤ m → take n s ++ drop (length (take n s)) (replicate n 0) ≡ take n (s ++ replicate m 0)
front_filled zero m s h = refl
front_filled (suc n) m [] h = zeros_front (suc n) m h
front_filled (suc n) m (b ∷ bs) h = ap (λ (l : List ℕ). b ∷ l) (front_filled n m bs (omega arith))

pub in_zeros : (n : ℕ) (s v e : List ℕ) (b : ℕ) → v ≡ take n s → length v ≤ n → Wrote (replicate n 0) 0 v e b → e ≡ padded n s
unfolding padded
in_zeros n s v e b p h w =
    from_start w (rw length-replicate h)
    ∙ ap (λ (l : List ℕ). l ++ drop (length l) (replicate n 0)) p
    ∙ front_filled n n s (omega arith)

-- in_space: as many bytes as fit, and zeros after them
front_zeros : (n m k : ℕ) (s : List ℕ) → k ≡ min (length s) n → n ≤ m → take n (s ++ replicate m 0) ≡ take k s ++ drop k (replicate n 0)
front_zeros zero m k s e h = let z : k ≡ 0 = omega arith in rw z refl
front_zeros (suc n) m k [] e h = let z : k ≡ 0 = omega arith in rw z (sym (zeros_front (suc n) m h))
front_zeros (suc n) m zero (b ∷ bs) e h = absurd (omega arith)
front_zeros (suc n) m (suc k) (b ∷ bs) e h = ap (λ (l : List ℕ). b ∷ l) (front_zeros n m k bs (omega arith) (omega arith))

pub padded_front : (n : ℕ) (s : List ℕ) → padded n s ≡ take (min (length s) n) s ++ drop (min (length s) n) (replicate n 0)
unfolding padded
padded_front n s = front_zeros n n (min (length s) n) s refl (omega arith)
