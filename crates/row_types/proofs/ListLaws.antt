-- Searches, tests and sweeps over rows, and bytes in a space with zeros after them.
use mathlib.Core.Path.{◌≡◌, refl, ap}
use mathlib.Core.Bool.{Bool, true, false, cond}
use mathlib.Core.List.{List, [], ◌∷◌, ◌++◌, map}
use mathlib.Core.Option.{none, some}
use Prim.Native.Nat.{ℕ, zero, suc, ◌+◌, ◌≤◌, ◌<◌}
use native.Mathlib.Omega.{arith}
use lib.ListN.{length, get_or, set, take, replicate}
use lib.Seq.{length-take-le}
use Rattle.byte_strings.specs.Strings.{is_not, run, all_of}
use Rattle.byte_strings.proofs.Flags.{nope, and_first, and_second}
use Rattle.byte_strings.proofs.StringLaws.{run_le}
use Rattle.row_types.specs.Lists.{every_row, first_from, padded, trimmed}

-- a place that a search counted from i found
pub record Found {A : Type 0} (f : A → Bool) (d : A) (l : List A) (i k : ℕ) : Type 0 where
  pub place : ℕ
  pub is : k ≡ i + place
  pub within : place < length l
  pub passes : f (get_or l place d) ≡ true

module _ {A : Type 0} (f : A → Bool) (d : A) where
  found_from : (l : List A) (i k : ℕ) → first_from f i l ≡ some k → Found f d l i k
  found_from [] i k e = nope (cc)
  found_from (x ∷ xs) i k e = go (f x) refl e (found_from xs (i + 1) k)
    where
      go : (b : Bool) → f x ≡ b → cond b (some i) (first_from f (i + 1) xs) ≡ some k → (first_from f (i + 1) xs ≡ some k → Found f d xs (i + 1) k) → Found f d (x ∷ xs) i k
      go true q w more = let z : i ≡ k = cc in record { place = 0; is = omega arith; within = omega arith; passes = q }
      go false q w more =
          let m = more w in
          let z = m.is in
          let y = m.within in
          record { place = suc m.place; is = omega arith; within = omega arith; passes = m.passes }

  -- what is found passes,
  pub found : (l : List A) (k : ℕ) → first_from f 0 l ≡ some k → (k < length l) × (f (get_or l k d) ≡ true)
  found l k e =
      let m = found_from l 0 k e in
      let z : k ≡ m.place = omega (arith, m.is) in
      (omega (arith, m.within), rw z m.passes)

  -- and where nothing is found, no row passes
  pub found_none : f d ≡ false → (l : List A) (i : ℕ) → first_from f i l ≡ none → (j : ℕ) → f (get_or l j d) ≡ false
  found_none n [] i e j = n
  found_none n (x ∷ xs) i e j = go (f x) refl e (λ w m. found_none n xs (i + 1) w m) j
    where
      go : (b : Bool) → f x ≡ b → cond b (some i) (first_from f (i + 1) xs) ≡ none → (first_from f (i + 1) xs ≡ none → (m : ℕ) → f (get_or xs m d) ≡ false) → (j : ℕ) → f (get_or (x ∷ xs) j d) ≡ false
      go true q w more j = nope (cc)
      go false q w more zero = q
      go false q w more (suc m) = more w m

  -- what holds of every row holds of each, and past the rows
  pub every_at : f d ≡ true → (l : List A) → every_row f l ≡ true → (j : ℕ) → f (get_or l j d) ≡ true
  every_at y [] e j = y
  every_at y (x ∷ xs) e zero = and_first (f x) (every_row f xs) e
  every_at y (x ∷ xs) e (suc j) = every_at y xs (and_second (f x) (every_row f xs) e) j

module _ {A B : Type 0} (read : A → B) where
  pub map_set : (l : List A) (i : ℕ) (v : A) → map read (set l i v) ≡ set (map read l) i (read v)
  map_set [] i v = refl
  map_set (x ∷ xs) zero v = refl
  map_set (x ∷ xs) (suc i) v = ap (λ (ys : List B). read x ∷ ys) (map_set xs i v)

  -- a sweep over rows that pass a test reads as a sweep
  pub map_sweep : (test : A → Bool) (f : A → A) (g : B → B) → ((x : A) → test x ≡ true → read (f x) ≡ g (read x)) → (l : List A) → every_row test l ≡ true → map read (map f l) ≡ map g (map read l)
  map_sweep test f g h [] e = refl
  map_sweep test f g h (x ∷ xs) e =
      let p = h x (and_first (test x) (every_row test xs) e) in
      let q = map_sweep test f g h xs (and_second (test x) (every_row test xs) e) in
      cc

  pub map_replicate : (n : ℕ) (x : A) → map read (replicate n x) ≡ replicate n (read x)
  map_replicate zero x = refl
  map_replicate (suc n) x = ap (λ (ys : List B). read x ∷ ys) (map_replicate n x)

pub every_true : {A : Type 0} (l : List A) → every_row (λ (x : A). true) l ≡ true
every_true [] = refl
every_true (x ∷ xs) = every_true xs

-- what stands before the first zero stays, where it fits
no_trim : (n j : ℕ) → trimmed (take n (replicate j 0)) ≡ []
unfolding trimmed
no_trim zero j = refl
no_trim (suc n) zero = refl
no_trim (suc n) (suc j) = refl

trim_take : (n j : ℕ) (k : List ℕ) → length (trimmed k) ≤ n → trimmed (take n (k ++ replicate j 0)) ≡ trimmed k
unfolding trimmed
trim_take n j [] h = no_trim n j
trim_take zero j (b ∷ bs) h = go (is_not 0 b) refl h
  where
    go : (t : Bool) → is_not 0 b ≡ t → length (take (cond t (suc (run (is_not 0) bs)) 0) (b ∷ bs)) ≤ 0 → [] ≡ take (cond t (suc (run (is_not 0) bs)) 0) (b ∷ bs)
    go true q w = absurd (omega arith)
    go false q w = refl
trim_take (suc n) j (b ∷ bs) h = go (is_not 0 b) refl h (trim_take n j bs)
  where
    go : (t : Bool) → is_not 0 b ≡ t → length (take (cond t (suc (run (is_not 0) bs)) 0) (b ∷ bs)) ≤ suc n
        → (length (take (run (is_not 0) bs) bs) ≤ n → take (run (is_not 0) (take n (bs ++ replicate j 0))) (take n (bs ++ replicate j 0)) ≡ take (run (is_not 0) bs) bs)
        → take (cond t (suc (run (is_not 0) (take n (bs ++ replicate j 0)))) 0) (b ∷ take n (bs ++ replicate j 0)) ≡ take (cond t (suc (run (is_not 0) bs)) 0) (b ∷ bs)
    go true q w more = ap (λ (z : List ℕ). b ∷ z) (more (omega arith))
    go false q w more = refl

pub trimmed_padded : (n : ℕ) (k : List ℕ) → length (trimmed k) ≤ n → trimmed (padded n k) ≡ trimmed k
unfolding padded
trimmed_padded n k h = trim_take n n k h

-- and is no longer than its space
pub trimmed_short : (n : ℕ) (k : List ℕ) → length k ≡ n → length (trimmed k) ≤ n
unfolding trimmed
trimmed_short n k e = omega (arith, run_le (is_not 0) k, length-take-le (run (is_not 0) k) k (run_le (is_not 0) k))

-- a name without a zero is what stands before the first
pub trimmed_all : (k : List ℕ) → all_of (is_not 0) k ≡ true → trimmed k ≡ k
unfolding trimmed
trimmed_all [] e = refl
trimmed_all (b ∷ bs) e = rw (and_first (is_not 0 b) (all_of (is_not 0) bs) e) (ap (λ (z : List ℕ). b ∷ z) (trimmed_all bs (and_second (is_not 0 b) (all_of (is_not 0) bs) e)))
