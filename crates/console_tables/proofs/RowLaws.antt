-- The octets of digits that are cut, and a place that the tables lack.
use mathlib.Core.Path.{◌≡◌, refl, sym, ap, ◌∙◌}
use mathlib.Core.List.{List, [], ◌∷◌, ◌++◌}
use Prim.Native.Nat.{ℕ, zero, suc, ◌+◌, ◌*◌, ◌≤◌}
use native.Mathlib.Nat.{add-suc, suc-add}
use native.Mathlib.Omega.{arith}
use lib.ListN.{length, set, take, drop, replicate}
use lib.Seq.{set_out}
use Rattle.std.proofs.lemmas.Grind.{common_steps}
use Rattle.std.proofs.lemmas.List.{take-replicate}
use Rattle.byte_strings.specs.Wrote.{Wrote}
use Rattle.byte_strings.proofs.Writes.{from_start}
use Rattle.row_types.specs.Lists.{padded}
use Rattle.console_octets.specs.Octets.{octet_of, octets_of}

-- twice as many digits
cut : (n : ℕ) (s : List ℕ) → octets_of (take (n + n) s) ≡ take n (octets_of s)
cut zero s = refl
cut (suc n) [] = rw (suc-add n (suc n))
cut (suc n) (a ∷ []) = rw (suc-add n (suc n), add-suc n n)
cut (suc n) (a ∷ b ∷ l) = rw (suc-add n (suc n), add-suc n n) (ap (λ (r : List ℕ). octet_of a b ∷ r) (cut n l))

pub digits_cut : (n : ℕ) (s : List ℕ) → octets_of (take (2 * n) s) ≡ take n (octets_of s)
digits_cut n s = let e : 2 * n ≡ n + n = omega arith in rw e (cut n s)

pub no_place : {A : Type 0} (rows : List A) (k : ℕ) (row : A) → length rows ≤ k → set rows k row ≡ rows
no_place rows k row h = set_out rows k row h

-- what fits, over zeros
over_zeros : (n m : ℕ) (o : List ℕ) → n ≤ m → take n o ++ drop (length (take n o)) (replicate n 0) ≡ take n (o ++ replicate m 0)
over_zeros zero m o h = refl
over_zeros (suc n) m [] h = sym (take-replicate (suc n) m 0 h)
over_zeros (suc n) m (b ∷ bs) h = ap (λ (l : List ℕ). b ∷ l) (over_zeros n m bs (omega arith))

pub in_space : (n : ℕ) (d t e : List ℕ) (b : ℕ) → t ≡ take (2 * n) d → Wrote (replicate n 0) 0 (octets_of t) e b → e ≡ padded n (octets_of d)
unfolding padded
in_space n d t e b p w =
    let o : octets_of t ≡ take n (octets_of d) = ap octets_of p ∙ digits_cut n d in
    let l : length (octets_of t) ≤ length (replicate {A = ℕ} n 0) = rw o (grind (arith, common_steps)) in
    from_start w l ∙ (rw o (over_zeros n n (octets_of d) (omega arith)))
