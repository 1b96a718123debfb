-- The cards and marks that are cleared; and that the rows with them are those of SM?KX, SM?KF and GL?RS.
use mathlib.Core.Path.{◌≡◌, refl, ap}
use mathlib.Core.Bool.{Bool, true, false, cond}
use mathlib.Core.List.{List, [], ◌∷◌, ◌++◌, map}
use Prim.Native.Nat.{ℕ, zero, suc, ◌+◌, ◌≤◌, ◌<◌}
use native.Mathlib.Numerals.{add-one}
use native.Mathlib.Omega.{arith}
use lib.Dec.{eqb}
use lib.ListN.{length, get_or, set, take, drop, replicate}
use Rattle.row_types.specs.Lists.{mapped}
use Rattle.row_types.specs.Registers.{closed_mark, free_register, without_slot, is_under, closed_row, closed_under}
use Rattle.row_types.specs.declared.RegisterRow.{RegisterRow}
use Rattle.row_index.specs.Found.{is_the, AreOwnedBy}
use Rattle.row_index.specs.Lent.{marked_row, marked_rows}
use Rattle.register_tables.specs.Freed.{cleared, freed, closed, closing}

-- clear_owned, at a turn
cleared_more : {A : Type 0} (x : A) (k : ℕ) (os : List ℕ) (l : List A) (i : ℕ) → i < length os → length os ≤ length l
    → cleared x k (take (suc i) os) l ≡ cond (eqb (get_or os i 0) k) (set (cleared x k (take i os) l) i x) (cleared x k (take i os) l)
cleared_more x k [] l i h r = absurd (omega arith)
cleared_more x k (o ∷ os) [] i h r = absurd (omega arith)
cleared_more {A} x k (o ∷ os) (y ∷ ys) zero h r = go (eqb o k)
  where
    go : (b : Bool) → cond b x y ∷ ys ≡ cond b (x ∷ ys) (y ∷ ys)
    go true = refl
    go false = refl
cleared_more {A} x k (o ∷ os) (y ∷ ys) (suc i) h r = rw (cleared_more x k os ys i (omega arith) (omega arith)) (go (eqb (get_or os i 0) k))
  where
    c : A
    c = cond (eqb o k) x y

    go : (b : Bool) → c ∷ cond b (set (cleared x k (take i os) ys) i x) (cleared x k (take i os) ys) ≡ cond b (c ∷ set (cleared x k (take i os) ys) i x) (c ∷ cleared x k (take i os) ys)
    go true = refl
    go false = refl

pub cleared_turn : {A : Type 0} (x : A) (k : ℕ) (os : List ℕ) (l : List A) (i : ℕ) → i < length os → length os ≤ length l
    → cleared x k (take (i + 1) os) l ≡ cond (eqb (get_or os i 0) k) (set (cleared x k (take i os) l) i x) (cleared x k (take i os) l)
cleared_turn x k os l i h r = rw add-one (cleared_more x k os l i h r)

-- close_all
pub all_closed : (n : ℕ) (l : List ℕ) → n ≤ length l → mapped n closing l ≡ replicate n closed_mark ++ drop n l
unfolding closing
all_closed zero l h = refl
all_closed (suc n) [] h = absurd (omega arith)
all_closed (suc n) (x ∷ xs) h = ap (λ (z : List ℕ). closed_mark ∷ z) (all_closed n xs (omega arith))

-- THE LAWS: where the owners tell the registers under s, the rows that are left are those of SM?KX,
module _ (k : ℕ) (s : List ℕ) where
  pub freed_rows : (os : List ℕ) (m : ℕ) (cards : List (List ℕ)) (marks : List ℕ) → AreOwnedBy k s os (take m (marked_rows cards marks)) → length os ≡ m → length marks ≡ length cards
      → marked_rows (freed k os cards) (closed k os marks) ≡ mapped m (without_slot s) (marked_rows cards marks)
  unfolding marked_rows without_slot free_register
  freed_rows [] zero cards marks p q z = refl
  freed_rows [] (suc m) cards marks p q z = absurd (omega arith)
  freed_rows (o ∷ os) zero cards marks p q z = absurd (omega arith)
  freed_rows (o ∷ os) (suc m) [] marks p q z = refl
  freed_rows (o ∷ os) (suc m) (c ∷ cs) [] p q z = absurd (omega arith)
  freed_rows (o ∷ os) (suc m) (c ∷ cs) (a ∷ ks) p q z =
      let e : eqb o k ≡ is_under s (marked_row c a) = cc in
      let b : map (is_the k) os ≡ map (is_under s) (take m (marked_rows cs ks)) = cc in
      go (eqb o k) e (freed_rows os m cs ks b (omega arith) (omega arith))
    where
      go : (t : Bool) → t ≡ is_under s (marked_row c a) → marked_rows (freed k os cs) (closed k os ks) ≡ mapped m (without_slot s) (marked_rows cs ks)
          → marked_row (cond t (replicate 256 0) c) (cond t closed_mark a) ∷ marked_rows (freed k os cs) (closed k os ks) ≡ cond (is_under s (marked_row c a)) (marked_row (replicate 256 0) closed_mark) (marked_row c a) ∷ mapped m (without_slot s) (marked_rows cs ks)
      go true e f = rw (← e) (ap (λ (l : List RegisterRow). marked_row (replicate 256 0) closed_mark ∷ l) f)
      go false e f = rw (← e) (ap (λ (l : List RegisterRow). marked_row c a ∷ l) f)

  -- those of SM?KF,
  pub closed_rows : (os : List ℕ) (m : ℕ) (cards : List (List ℕ)) (marks : List ℕ) → AreOwnedBy k s os (take m (marked_rows cards marks)) → length os ≡ m → length marks ≡ length cards
      → marked_rows cards (closed k os marks) ≡ mapped m (closed_under s) (marked_rows cards marks)
  unfolding marked_rows closed_under closed_row
  closed_rows [] zero cards marks p q z = refl
  closed_rows [] (suc m) cards marks p q z = absurd (omega arith)
  closed_rows (o ∷ os) zero cards marks p q z = absurd (omega arith)
  closed_rows (o ∷ os) (suc m) [] marks p q z = refl
  closed_rows (o ∷ os) (suc m) (c ∷ cs) [] p q z = absurd (omega arith)
  closed_rows (o ∷ os) (suc m) (c ∷ cs) (a ∷ ks) p q z =
      let e : eqb o k ≡ is_under s (marked_row c a) = cc in
      let b : map (is_the k) os ≡ map (is_under s) (take m (marked_rows cs ks)) = cc in
      go (eqb o k) e (closed_rows os m cs ks b (omega arith) (omega arith))
    where
      go : (t : Bool) → t ≡ is_under s (marked_row c a) → marked_rows cs (closed k os ks) ≡ mapped m (closed_under s) (marked_rows cs ks)
          → marked_row c (cond t closed_mark a) ∷ marked_rows cs (closed k os ks) ≡ cond (is_under s (marked_row c a)) (marked_row c closed_mark) (marked_row c a) ∷ mapped m (closed_under s) (marked_rows cs ks)
      go true e f = rw (← e) (ap (λ (l : List RegisterRow). marked_row c closed_mark ∷ l) f)
      go false e f = rw (← e) (ap (λ (l : List RegisterRow). marked_row c a ∷ l) f)

-- and those of GL?RS
pub reset_rows : (m : ℕ) (cards : List (List ℕ)) (marks : List ℕ) → length marks ≡ length cards → marked_rows cards (mapped m closing marks) ≡ mapped m closed_row (marked_rows cards marks)
unfolding marked_rows closing closed_row
reset_rows zero cards marks z = refl
reset_rows (suc m) [] marks z = refl
reset_rows (suc m) (c ∷ cs) [] z = absurd (omega arith)
reset_rows (suc m) (c ∷ cs) (a ∷ ks) z = ap (λ (l : List RegisterRow). marked_row c closed_mark ∷ l) (reset_rows m cs ks (omega arith))
