-- What sorting by an order gives: the elements that were there, each as often as before, ascending where no two are alike; and an ascending list is told by its elements alone.
use mathlib.Core.Path.{◌≡◌, refl, sym, ap, ◌∙◌}
use mathlib.Core.Bool.{Bool, true, false, cond, Bool-set}
use mathlib.Core.HLevel.{⊥_prop}
use mathlib.Core.Logic.Or
use mathlib.Core.Logic.{◌↔◌, ◌≢◌}
use mathlib.Core.List.Permᴰ
use mathlib.Core.List.Pairwise
use mathlib.Core.List.{List, [], ◌∷◌, map, Permᴰ, Mem, Mem-prop, Pairwise-singleton, rel_of_Pairwise-cons, Nodup, Nodup-cons, not-mem-nil, eq-or-mem_of_mem-cons, mem-cons_self, mem-cons_of_mem, mem-cast}
use Prim.Native.Nat.{suc}
use lib.ListN.{length}
use Rattle.byte_strings.proofs.Flags.{nope}
use Rattle.byte_orders.specs.Orders.{inserted_by, sorted_by, Ascends}

-- what makes a test an order
pub record Order {A : Type 0} (f : A → A → Bool) : Type 0 where
  pub one_way : (x y : A) → f x y ≡ true → f y x ≡ false
  pub same : (x y : A) → f x y ≡ false → f y x ≡ false → x ≡ y
  pub through : (x y z : A) → f z y ≡ false → f z x ≡ true → f y x ≡ true

-- THE SAME ELEMENTS, whatever the test
module _ {A : Type 0} (f : A → A → Bool) where
  pub insert_perm : (x : A) (l : List A) → Permᴰ (inserted_by f x l) (x ∷ l)
  insert_perm x [] = Permᴰ.cons refl Permᴰ.nil
  insert_perm x (y ∷ l) = go (f y x) (insert_perm x l)
    where
      go : (b : Bool) → Permᴰ (inserted_by f x l) (x ∷ l) → Permᴰ (cond b (y ∷ inserted_by f x l) (x ∷ y ∷ l)) (x ∷ y ∷ l)
      go true d = Permᴰ.trans (Permᴰ.cons refl d) (Permᴰ.swap refl refl)
      go false d = Permᴰ.refl (x ∷ y ∷ l)

  pub sort_perm : (l : List A) → Permᴰ (sorted_by f l) l
  sort_perm [] = Permᴰ.nil
  sort_perm (x ∷ l) = Permᴰ.trans (insert_perm x (sorted_by f l)) (Permᴰ.cons refl (sort_perm l))

  length_turned : {l m : List A} → Permᴰ l m → length l ≡ length m
  length_turned Permᴰ.nil = refl
  length_turned (Permᴰ.cons e d) = ap suc (length_turned d)
  length_turned (Permᴰ.swap p q) = refl
  length_turned (Permᴰ.trans d e) = length_turned d ∙ length_turned e

  pub insert_length : (x : A) (l : List A) → length (inserted_by f x l) ≡ suc (length l)
  insert_length x l = length_turned (insert_perm x l)

  pub sort_length : (l : List A) → length (sorted_by f l) ≡ length l
  sort_length l = length_turned (sort_perm l)

-- elements in order of what k makes of them: that is then in order
module _ {A B : Type 0} (before : B → B → Bool) (k : A → B) where
  mapped_inserted : (x : A) (l : List A) → map k (inserted_by (λ y z. before (k y) (k z)) x l) ≡ inserted_by before (k x) (map k l)
  mapped_inserted x [] = refl
  mapped_inserted x (y ∷ ys) = go (before (k y) (k x)) (mapped_inserted x ys)
    where
      go : (t : Bool) → map k (inserted_by (λ y z. before (k y) (k z)) x ys) ≡ inserted_by before (k x) (map k ys)
          → map k (cond t (y ∷ inserted_by (λ y z. before (k y) (k z)) x ys) (x ∷ y ∷ ys)) ≡ cond t (k y ∷ inserted_by before (k x) (map k ys)) (k x ∷ k y ∷ map k ys)
      go true q = ap (λ (l : List B). k y ∷ l) q
      go false q = refl

  pub mapped_sorted : (l : List A) → map k (sorted_by (λ y z. before (k y) (k z)) l) ≡ sorted_by before (map k l)
  mapped_sorted [] = refl
  mapped_sorted (x ∷ xs) = mapped_inserted x (sorted_by (λ y z. before (k y) (k z)) xs) ∙ ap (inserted_by before (k x)) (mapped_sorted xs)

-- ASCENDING
module _ {A : Type 0} (f : A → A → Bool) (o : Order f) where
  on : (x y z : A) → f x y ≡ true → f y z ≡ true → f x z ≡ true
  on x y z p q = o.through z x y (o.one_way x y p) q

  not_itself : (x : A) → f x x ≡ true → ⊥
  not_itself x p = let q = o.one_way x x p in nope (cc)

  other_way : (x y : A) → x ≢ y → f y x ≡ false → f x y ≡ true
  other_way x y n e = go (f x y) refl
    where
      go : (b : Bool) → f x y ≡ b → b ≡ true
      go true p = refl
      go false p = absurd (n (o.same x y p e))

  insert_each : (z x : A) (l : List A) → f z x ≡ true → ((y : A) → Mem y l → f z y ≡ true) → (y : A) → Mem y (inserted_by f x l) → f z y ≡ true
  insert_each z x l p e y m =
      Or.elim (Bool-set (f z y) true) (eq-or-mem_of_mem-cons (Permᴰ.mem (insert_perm f x l) m)) (λ i. rw i p) (λ k. e y k)

  insert_ascends : (x : A) (l : List A) → (Mem x l → ⊥) → Ascends f l → Ascends f (inserted_by f x l)
  insert_ascends x [] n a = Pairwise-singleton _ x
  insert_ascends x (y ∷ l) n a = go (f y x) refl (insert_ascends x l (λ m. n (mem-cons_of_mem y m)) (Pairwise.of_cons a))
    where
      go : (b : Bool) → f y x ≡ b → Ascends f (inserted_by f x l) → Ascends f (cond b (y ∷ inserted_by f x l) (x ∷ y ∷ l))
      go true p k = Pairwise.cons (insert_each y x l p (λ z m. rel_of_Pairwise-cons a m)) k
      go false p k =
          let q = other_way x y (λ i. n (mem-cast i mem-cons_self)) p in
          Pairwise.cons (λ z m. Or.elim (Bool-set (f x z) true) (eq-or-mem_of_mem-cons m) (λ i. rw i q) (λ j. on x y z q (rel_of_Pairwise-cons a j))) a

  pub sort_ascends : (l : List A) → Nodup l → Ascends f (sorted_by f l)
  sort_ascends [] n = Pairwise.nil
  sort_ascends (x ∷ l) n =
      let k = Nodup-cons.0 n in
      insert_ascends x (sorted_by f l) (λ m. k.0 (Permᴰ.mem (sort_perm f l) m)) (sort_ascends l k.1)

  -- none stands twice in an ascending list
  pub ascending_once : {l : List A} → Ascends f l → Nodup l
  ascending_once a = Pairwise.imp (λ x y p e. not_itself y (rw e at p)) a

  -- ascending lists with the same elements are one
  module _ (x y : A) (l m : List A) (a : Ascends f (x ∷ l)) (b : Ascends f (y ∷ m)) (h : (z : A) → Mem z (x ∷ l) ↔ Mem z (y ∷ m)) where
    not_before : (x y : A) (m : List A) → Ascends f (y ∷ m) → Mem x (y ∷ m) → f x y ≡ false
    not_before x y m b i = go (f x y) refl
      where
        go : (t : Bool) → f x y ≡ t → t ≡ false
        go true p = absurd (Or.elim ⊥_prop (eq-or-mem_of_mem-cons i) (λ e. not_itself y (rw e at p)) (λ k. not_itself x (on x y x p (rel_of_Pairwise-cons b k))))
        go false p = refl

    same_first : x ≡ y
    same_first = o.same x y (not_before x y m b ((h x).0 mem-cons_self)) (not_before y x l a ((h y).1 mem-cons_self))

    same_rest : (z : A) → Mem z l ↔ Mem z m
    same_rest z = (λ i. rest x y l m a same_first i ((h z).0 (mem-cons_of_mem x i)), λ i. rest y x m l b (sym same_first) i ((h z).1 (mem-cons_of_mem y i)))
      where
        rest : (x y : A) (l m : List A) → Ascends f (x ∷ l) → x ≡ y → Mem z l → Mem z (y ∷ m) → Mem z m
        rest x y l m a s i j = Or.elim Mem-prop (eq-or-mem_of_mem-cons j) (λ q. absurd (not_itself x (rel_of_Pairwise-cons a (mem-cast (s ∙ sym q) i)))) (λ k. k)

  pub one_ascending : (l m : List A) → Ascends f l → Ascends f m → ((z : A) → Mem z l ↔ Mem z m) → l ≡ m
  one_ascending [] [] a b h = refl
  one_ascending [] (y ∷ m) a b h = absurd (not-mem-nil ((h y).1 mem-cons_self))
  one_ascending (x ∷ l) [] a b h = absurd (not-mem-nil ((h x).0 mem-cons_self))
  one_ascending (x ∷ l) (y ∷ m) a b h =
      let r = one_ascending l m (Pairwise.of_cons a) (Pairwise.of_cons b) (same_rest x y l m a b h) in
      λ j. same_first x y l m a b h j ∷ r j
