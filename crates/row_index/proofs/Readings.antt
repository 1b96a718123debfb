-- Tests of rows that are answered by what is read of each row, where each row is sound.
use mathlib.Core.Path.{◌≡◌, refl}
use mathlib.Core.Bool.{Bool, true}
use mathlib.Core.List.{List, [], ◌∷◌, map}
use Prim.Native.Nat.{ℕ, zero, suc, ◌+◌, ◌<◌}
use native.Mathlib.Omega.{arith}
use lib.ListN.{length, get_or}
use Rattle.byte_strings.proofs.Flags.{and_first, and_second}
use Rattle.row_types.specs.Lists.{every_row, some_row, distinct_rows, first_from}

module _ {A B : Type 0} (sound : A → Bool) (read : A → B) where
  pub some_read : (f : A → Bool) (g : B → Bool) → ((x : A) → sound x ≡ true → f x ≡ g (read x)) → (l : List A) → every_row sound l ≡ true → some_row f l ≡ some_row g (map read l)
  some_read f g h [] e = refl
  some_read f g h (x ∷ xs) e =
      rw (h x (and_first (sound x) (every_row sound xs) e), some_read f g h xs (and_second (sound x) (every_row sound xs) e))

  pub first_read : (f : A → Bool) (g : B → Bool) → ((x : A) → sound x ≡ true → f x ≡ g (read x)) → (i : ℕ) (l : List A) → every_row sound l ≡ true → first_from f i l ≡ first_from g i (map read l)
  first_read f g h i [] e = refl
  first_read f g h i (x ∷ xs) e =
      rw (h x (and_first (sound x) (every_row sound xs) e), first_read f g h (i + 1) xs (and_second (sound x) (every_row sound xs) e))

  pub at_read : (f : A → Bool) (g : B → Bool) → ((x : A) → sound x ≡ true → f x ≡ g (read x)) → (l : List A) → every_row sound l ≡ true → (i : ℕ) → i < length l → (d : A) (o : B) → f (get_or l i d) ≡ g (get_or (map read l) i o)
  at_read f g h [] e i k d o = absurd (omega arith)
  at_read f g h (x ∷ xs) e zero k d o = h x (and_first (sound x) (every_row sound xs) e)
  at_read f g h (x ∷ xs) e (suc i) k d o = at_read f g h xs (and_second (sound x) (every_row sound xs) e) i (omega arith) d o

  module _ (alike : A → A → Bool) (same : B → B → Bool) (h : (x y : A) → sound x ≡ true → sound y ≡ true → alike x y ≡ same (read x) (read y)) where
    pub distinct_read : (l : List A) → every_row sound l ≡ true → distinct_rows alike l ≡ distinct_rows same (map read l)
    distinct_read [] e = refl
    distinct_read (x ∷ xs) e =
        let p : sound x ≡ true = and_first (sound x) (every_row sound xs) e in
        let q : every_row sound xs ≡ true = and_second (sound x) (every_row sound xs) e in
        rw (some_read (alike x) (same (read x)) (λ y o. h x y p o) xs q, distinct_read xs q)

pub every_alike : {A : Type 0} (f g : A → Bool) → ((x : A) → f x ≡ g x) → (l : List A) → every_row f l ≡ every_row g l
every_alike f g h [] = refl
every_alike f g h (x ∷ xs) = rw (h x, every_alike f g h xs)
