-- The cases of the classes, each with what the code knows where it answers as premises.
use mathlib.Core.Path.{◌≡◌, refl, ap, ◌∙◌}
use mathlib.Core.Bool.{Bool, true, false, and_assoc, not, ◌&&◌}
use mathlib.Core.List.{List, [], ◌∷◌}
use Prim.Native.Nat.{ℕ, zero, suc}
use native.Mathlib.Omega.{arith}
use lib.Dec.{eqb}
use lib.ListN.{get_or}
use borrow.Author.Tests.{eqb-true}
use Rattle.std.specs.Prelude.{◌↔◌, EachIndex, fold}
use Rattle.byte_strings.specs.Strings.{all_of, is_not}
use Rattle.byte_strings.proofs.Flags.{nope, and_first, and_second, and_both, both_ways}
use Rattle.byte_strings.proofs.StringLaws.{all_wider}
use Rattle.text_classes.specs.Classes.{is_of, are_all}
use Rattle.text_classes.specs.declared.Class.{Class}

-- are_all: what the library says of its loops over the bytes
pub all_each : (f : ℕ → Bool) (s : List ℕ) (r : Bool) → (r ≡ true ↔ EachIndex s (λ i. f (get_or s i 0) ≡ true)) → r ≡ all_of f s
all_each f s r e = both_ways r (all_of f s) (λ p. every s (e.0 p)) (λ p. e.1 (each s p))
  where
    every : (t : List ℕ) → EachIndex t (λ i. f (get_or t i 0) ≡ true) → all_of f t ≡ true
    every [] h = refl
    every (b ∷ bs) h = and_both (f b) (all_of f bs) (h 0 (omega arith)) (every bs (λ i l. h (suc i) (omega arith)))

    each : (t : List ℕ) → all_of f t ≡ true → EachIndex t (λ i. f (get_or t i 0) ≡ true)
    each [] p i l = absurd (omega arith)
    each (b ∷ bs) p zero l = and_first (f b) (all_of f bs) p
    each (b ∷ bs) p (suc i) l = each bs (and_second (f b) (all_of f bs) p) i (omega arith)

pub all_fold : (f : ℕ → Bool) (good : Bool) (s : List ℕ) → fold (λ so b. so && f b) good s ≡ (good && all_of f s)
all_fold f true [] = refl
all_fold f false [] = refl
all_fold f good (b ∷ bs) = all_fold f (good && f b) bs ∙ and_assoc good (f b) (all_of f bs)

-- bytes of a class that has no delimiter hold none; computed for the class at each use
other : (f : ℕ → Bool) (d : ℕ) → f d ≡ false → (b : ℕ) → f b ≡ true → is_not d b ≡ true
other f d e b p = by_case (eqb b d) refl
  where
    by_case : (t : Bool) → eqb b d ≡ t → not t ≡ true
    by_case false q = refl
    by_case true q =
        let i : b ≡ d = eqb-true b d q in
        let j : f b ≡ false = ap f i ∙ e in
        nope (cc)

pub class_plain : (k : Class) (d : ℕ) (v : List ℕ) → is_of k d ≡ false → are_all k v ≡ true → all_of (is_not d) v ≡ true
unfolding are_all
class_plain k d v e t = all_wider (is_of k) (is_not d) (other (is_of k) d e) v t
