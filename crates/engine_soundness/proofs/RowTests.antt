-- Tests of all rows, of some row and of pairs of rows, told place by place; past the rows stands d.
use mathlib.Core.Path.{◌≡◌, refl, ap}
use mathlib.Core.Bool.{Bool, true, false, not, ◌||◌}
use mathlib.Core.List.{List, [], ◌∷◌, map}
use Prim.Native.Nat.{ℕ, zero, suc}
use native.Mathlib.Omega.{arith}
use lib.ListN.{get_or, set, replicate}
use Rattle.byte_strings.proofs.Flags.{nope, and_first, and_second, and_both, or_second}
use Rattle.row_types.specs.Lists.{every_row, some_row, distinct_rows}

-- every row still passes after a store, after a sweep, and in rows that are one and the same
module _ {A : Type 0} (f : A → Bool) where
  pub every_set : (l : List A) (i : ℕ) (v : A) → f v ≡ true → every_row f l ≡ true → every_row f (set l i v) ≡ true
  every_set [] i v y e = refl
  every_set (x ∷ xs) zero v y e = and_both (f v) (every_row f xs) y (and_second (f x) (every_row f xs) e)
  every_set (x ∷ xs) (suc i) v y e =
      and_both (f x) (every_row f (set xs i v)) (and_first (f x) (every_row f xs) e) (every_set xs i v y (and_second (f x) (every_row f xs) e))

  pub every_map : (g : A → A) → ((x : A) → f x ≡ true → f (g x) ≡ true) → (l : List A) → every_row f l ≡ true → every_row f (map g l) ≡ true
  every_map g h [] e = refl
  every_map g h (x ∷ xs) e =
      and_both (f (g x)) (every_row f (map g xs)) (h x (and_first (f x) (every_row f xs) e)) (every_map g h xs (and_second (f x) (every_row f xs) e))

  pub every_replicate : (n : ℕ) (v : A) → f v ≡ true → every_row f (replicate n v) ≡ true
  every_replicate zero v y = refl
  every_replicate (suc n) v y = and_both (f v) (every_row f (replicate n v)) y (every_replicate n v y)

-- a place whose row passes
pub record Passes {A : Type 0} (f : A → Bool) (d : A) (l : List A) : Type 0 where
  pub place : ℕ
  pub is : f (get_or l place d) ≡ true

module _ {A : Type 0} (f : A → Bool) (d : A) where
  pub every_to : (l : List A) → ((i : ℕ) → f (get_or l i d) ≡ true) → every_row f l ≡ true
  every_to [] h = refl
  every_to (x ∷ xs) h = and_both (f x) (every_row f xs) (h zero) (every_to xs (λ i. h (suc i)))

  pub some_from : (l : List A) → some_row f l ≡ true → Passes f d l
  some_from [] e = nope (cc)
  some_from (x ∷ xs) e = go (f x) refl e (some_from xs)
    where
      go : (b : Bool) → f x ≡ b → (b || some_row f xs) ≡ true → (some_row f xs ≡ true → Passes f d xs) → Passes f d (x ∷ xs)
      go true q w more = record { place = zero; is = q }
      go false q w more = let m = more w in record { place = suc m.place; is = m.is }

  pub some_to : f d ≡ false → (l : List A) (i : ℕ) → f (get_or l i d) ≡ true → some_row f l ≡ true
  some_to n [] i e = nope (cc)
  some_to n (x ∷ xs) zero e = rw e refl
  some_to n (x ∷ xs) (suc i) e = or_second (f x) (some_row f xs) (some_to n xs i e)

-- Rows are alike where both have one key k; d has none. So no two rows are alike exactly where no key stands in two places.
pub record Shared {A K : Type 0} (has : K → A → Bool) (a b : A) : Type 0 where
  pub key : K
  pub first : has key a ≡ true
  pub second : has key b ≡ true

module _ {A K : Type 0} (has : K → A → Bool) (alike : A → A → Bool) (d : A) (bare : (k : K) → has k d ≡ false) where
  -- no key stands in two places
  abbrev pub Apart : List A → Type 0
  Apart l = (i j : ℕ) (k : K) → has k (get_or l i d) ≡ true → has k (get_or l j d) ≡ true → i ≡ j

  module _ (joined : (k : K) (a b : A) → has k a ≡ true → has k b ≡ true → alike a b ≡ true) where
    alike_some : (x : A) (k : K) → has k x ≡ true → (l : List A) (j : ℕ) → has k (get_or l j d) ≡ true → some_row (alike x) l ≡ true
    alike_some x k p [] j q = let n = bare k in nope (cc)
    alike_some x k p (y ∷ ys) zero q = rw (joined k x y p q) refl
    alike_some x k p (y ∷ ys) (suc j) q = or_second (alike x y) (some_row (alike x) ys) (alike_some x k p ys j q)

    pub distinct_from : (l : List A) → distinct_rows alike l ≡ true → Apart l
    distinct_from [] e i j k p q = let n = bare k in nope (cc)
    distinct_from (x ∷ xs) e zero zero k p q = refl
    distinct_from (x ∷ xs) e zero (suc j) k p q = let w = and_first (not (some_row (alike x) xs)) (distinct_rows alike xs) e in let y = alike_some x k p xs j q in nope (cc)
    distinct_from (x ∷ xs) e (suc i) zero k p q = let w = and_first (not (some_row (alike x) xs)) (distinct_rows alike xs) e in let y = alike_some x k q xs i p in nope (cc)
    distinct_from (x ∷ xs) e (suc i) (suc j) k p q = ap suc (distinct_from xs (and_second (not (some_row (alike x) xs)) (distinct_rows alike xs) e) i j k p q)

  module _ (shared : (a b : A) → alike a b ≡ true → Shared has a b) where
    none_alike : (x : A) (xs : List A) → Apart (x ∷ xs) → some_row (alike x) xs ≡ false
    none_alike x xs h = go (some_row (alike x) xs) refl
      where
        go : (b : Bool) → some_row (alike x) xs ≡ b → b ≡ false
        go true e =
            let m = some_from (alike x) d xs e in
            let s = shared x (get_or xs m.place d) m.is in
            let z : zero ≡ suc m.place = h zero (suc m.place) s.key s.first s.second in
            absurd (omega arith)
        go false e = refl

    pub distinct_to : (l : List A) → Apart l → distinct_rows alike l ≡ true
    distinct_to [] h = refl
    distinct_to (x ∷ xs) h =
        rw (none_alike x xs h) (distinct_to xs (λ i j k p q. let z : suc i ≡ suc j = h (suc i) (suc j) k p q in omega arith))
