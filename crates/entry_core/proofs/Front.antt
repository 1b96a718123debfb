-- The first n of a list, as the list has them.
use mathlib.Core.Path.{◌≡◌, refl, sym, ap, ◌∙◌}
use mathlib.Core.List.{List, [], ◌∷◌, ◌++◌}
use Prim.Native.Nat.{ℕ, zero, suc, ◌<◌}
use native.Mathlib.Omega.{arith}
use lib.ListN.{length, get_or, set, take, drop, take-append-drop}
use lib.Seq.{set-append_left}

-- one of the first n rows is set
pub set_front : {A : Type 0} (n : ℕ) (l : List A) (k : ℕ) (v : A) → k < length (take n l) → set l k v ≡ set (take n l) k v ++ drop n l
set_front {A} n l k v h = ap (λ (z : List A). set z k v) (sym (take-append-drop n l)) ∙ set-append_left (take n l) (drop n l) k v h

pub get_d_front : {A : Type 0} (n : ℕ) (l : List A) (k : ℕ) (d : A) → k < length (take n l) → get_or l k d ≡ get_or (take n l) k d
get_d_front zero l k d h = absurd (omega arith)
get_d_front (suc n) [] k d h = refl
get_d_front (suc n) (x ∷ xs) zero d h = refl
get_d_front (suc n) (x ∷ xs) (suc k) d h = get_d_front n xs k d (omega arith)
