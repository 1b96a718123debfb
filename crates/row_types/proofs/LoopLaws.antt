-- The loops over rows, turn by turn: l is what is looped over, i the turn, x what comes of it all. Each is stated of a list from i on; a table's rows are the first n of its m places.
use mathlib.Core.Path.{◌≡◌, refl, sym, ap, ◌∙◌}
use mathlib.Core.Bool.{Bool, true, false, not}
use mathlib.Core.List.{List, [], ◌∷◌, ◌++◌, map, append_assoc, append-nil}
use mathlib.Core.Option.{Option, none, some}
use Prim.Native.Nat.{ℕ, suc, ◌+◌, ◌≤◌, ◌<◌}
use native.Mathlib.Numerals.{add-one}
use native.Mathlib.Omega.{arith}
use lib.ListN.{length, get_or, take, drop, set, length-set, length-map, drop_of_length-le, take-append-drop}
use lib.Seq.{sets, sets-eq, drop-cons, length-take-le, get_or-take, take-suc-set, drop-set-lt, take-set-lt, take_all}
use borrow.Author.Tests.{not-true, not-false}
use Rattle.row_types.specs.Lists.{every_row, some_row, distinct_rows, first_from, mapped}

-- a list from i on, where it goes on and where it ends
pub list_cons : {A : Type 0} (d : A) (l : List A) (i : ℕ) → i < length l → drop i l ≡ get_or l i d ∷ drop (i + 1) l
list_cons d l i h = rw add-one (drop-cons l i d h)

pub list_end : {A : Type 0} (l : List A) (i : ℕ) → length l ≤ i → drop i l ≡ []
list_end l i h = drop_of_length-le l {i = i} h

pub places_end : {A : Type 0} (l : List A) (i m : ℕ) → length l ≡ m → m ≤ i → drop i l ≡ []
places_end l i m z h = list_end l i (omega arith)

-- the rows from i on among the first n of m places
pub rows_cons : {A : Type 0} (d : A) (l : List A) (n i m : ℕ) → length l ≡ m → n ≤ m → i < n → drop i (take n l) ≡ get_or l i d ∷ drop (i + 1) (take n l)
rows_cons {A} d l n i m z r h =
    let k : i < length (take n l) = rw (length-take-le n l (omega arith)) h in
    drop-cons (take n l) i d k ∙ ap (λ (x : A). x ∷ drop (suc i) (take n l)) (get_or-take n l i d h) ∙ rw add-one

pub rows_end : {A : Type 0} (l : List A) (n i m : ℕ) → length l ≡ m → n ≤ m → n ≤ i → drop i (take n l) ≡ []
rows_end l n i m z r h = list_end (take n l) i (rw (length-take-le n l (omega arith)) h)

-- the first row that passes
module _ {A : Type 0} (f : A → Bool) (d : A) (l : List A) (n i m : ℕ) (x : Option ℕ) (inv : first_from f i (drop i (take n l)) ≡ x) (z : length l ≡ m) (r : n ≤ m) where
  pub first_ended : n ≤ i → none ≡ x
  first_ended h = rw (rows_end l n i m z r h) at inv

  module _ (h : i < n) (t : Bool) (e : t ≡ f (get_or l i d)) where
    pub first_here : t ≡ true → some i ≡ x
    first_here o = rw (rows_cons d l n i m z r h, ← e, o) at inv

    pub first_turn : t ≡ false → first_from f (i + 1) (drop (i + 1) (take n l)) ≡ x
    first_turn o = rw (rows_cons d l n i m z r h, ← e, o) at inv

-- every row passes
module _ {A : Type 0} (f : A → Bool) (d : A) (l : List A) (n i m : ℕ) (x : Bool) (inv : every_row f (drop i (take n l)) ≡ x) (z : length l ≡ m) (r : n ≤ m) where
  pub every_ended : n ≤ i → true ≡ x
  every_ended h = rw (rows_end l n i m z r h) at inv

  module _ (h : i < n) (t : Bool) (e : t ≡ f (get_or l i d)) where
    pub every_not : not t ≡ true → false ≡ x
    every_not o = rw (rows_cons d l n i m z r h, ← e, not-true t o) at inv

    pub every_turn : not t ≡ false → every_row f (drop (i + 1) (take n l)) ≡ x
    every_turn o = rw (rows_cons d l n i m z r h, ← e, not-false t o) at inv

-- some row of a lent list passes
module _ {A : Type 0} (f : A → Bool) (d : A) (l : List A) (i : ℕ) (x : Bool) (inv : some_row f (drop i l) ≡ x) where
  pub some_ended : length l ≤ i → false ≡ x
  some_ended h = rw (list_end l i h) at inv

  module _ (h : i < length l) (t : Bool) (e : t ≡ f (get_or l i d)) where
    pub some_here : t ≡ true → true ≡ x
    some_here o = rw (list_cons d l i h, ← e, o) at inv

    pub some_turn : t ≡ false → some_row f (drop (i + 1) l) ≡ x
    some_turn o = rw (list_cons d l i h, ← e, o) at inv

-- no two of a lent list are alike: the outer loop at i, the inner one at j
module _ {A : Type 0} (f : A → A → Bool) (l : List A) (x : Bool) where
  pub pairs_ended : (i : ℕ) → distinct_rows f (drop i l) ≡ x → length l ≤ i → true ≡ x
  pairs_ended i inv h = rw (list_end l i h) at inv

  module _ (d : A) (i j : ℕ) (h : i < length l) (inv : distinct_rows f (drop i l) ≡ x) (left : some_row (f (get_or l i d)) (drop j l) ≡ some_row (f (get_or l i d)) (drop (i + 1) l)) where
    pub pairs_turn : length l ≤ j → distinct_rows f (drop (i + 1) l) ≡ x
    pairs_turn k =
        let no : some_row (f (get_or l i d)) (drop (i + 1) l) ≡ false = sym left ∙ ap (some_row (f (get_or l i d))) (list_end l j k) in
        rw (list_cons d l i h, no) at inv

    pub pair_alike : j < length l → (t : Bool) → t ≡ f (get_or l i d) (get_or l j d) → t ≡ true → false ≡ x
    pair_alike k t e o =
        let yes : some_row (f (get_or l i d)) (drop (i + 1) l) ≡ true = rw (list_cons d l j k, ← e, o) at (sym left) in
        rw (list_cons d l i h, yes) at inv

-- an array filled with what a function makes of each row
pub fill_start : {A B : Type 0} (f : A → B) (l : List A) (k : List B) (m : ℕ) → length l ≡ m → length k ≡ m → sets k 0 (map f l) ≡ map f l
fill_start {A} {B} f l k m p q =
    let n : length (map f l) ≡ length k = length-map l f ∙ p ∙ sym q in
    let e : drop (0 + length (map f l)) k ≡ [] = list_end k (0 + length (map f l)) (omega arith) in
    sets-eq (map f l) k 0 (omega arith) ∙ ap (λ (r : List B). map f l ++ r) e ∙ append-nil (map f l)

module _ {A B : Type 0} (f : A → B) (d : A) (l : List A) (k : List B) (i m : ℕ) (x : List B) (inv : sets k i (map f (drop i l)) ≡ x) (z : length l ≡ m) where
  pub fill_turn : i < m → (v : B) → v ≡ f (get_or l i d) → sets (set k i v) (i + 1) (map f (drop (i + 1) l)) ≡ x
  fill_turn h v e = rw (add-one, e) (rw (drop-cons l i d (omega arith)) at inv)

  pub fill_ended : m ≤ i → k ≡ x
  fill_ended h = rw (places_end l i m z h) at inv

-- where what is stored is read of the row as it stands
pub field_turn : {A B : Type 0} (f : A → B) (d : A) (l : List A) (k : List B) (i m : ℕ) (x : List B) → sets k i (map f (drop i l)) ≡ x → length l ≡ m → i < m
    → sets (set k i (f (get_or l i d))) (i + 1) (map f (drop (i + 1) l)) ≡ x
field_turn f d l k i m x inv z h = fill_turn f d l k i m x inv z h (f (get_or l i d)) refl

-- a sweep in place over the first n of m places: u is the table so far, l what it was
pub record Sweeping {A : Type 0} (f : A → A) (n m : ℕ) (l u : List A) (i : ℕ) : Type 0 where
  pub swept : take i (take n u) ++ map f (drop i (take n u)) ≡ map f (take n l)
  pub beyond : drop n u ≡ drop n l
  pub places : length u ≡ m

module _ {A : Type 0} (f : A → A) (n m : ℕ) (l : List A) where
  pub sweep_starts : length l ≡ m → Sweeping f n m l l 0
  sweep_starts z = record { swept = refl; beyond = refl; places = z }

  module _ (u : List A) (i : ℕ) (w : Sweeping f n m l u i) (r : n ≤ m) where
    pub sweep_turn : (d : A) → i < n → (v : A) → v ≡ f (get_or u i d) → Sweeping f n m l (set u i v) (i + 1)
    sweep_turn d h v e =
        let z = w.places in
        let k : i < length (take n u) = rw (length-take-le n u (omega arith)) h in
        let a : take (suc i) (set (take n u) i v) ≡ take i (take n u) ++ (v ∷ []) = take-suc-set (take n u) i v k in
        let b : drop (suc i) (set (take n u) i v) ≡ drop (suc i) (take n u) = drop-set-lt (suc i) (take n u) i v (omega arith) in
        let c : map f (drop i (take n u)) ≡ v ∷ map f (drop (suc i) (take n u)) = ap (map f) (drop-cons (take n u) i d k) ∙ rw (get_or-take n u i d h, e) in
        let s : take (suc i) (set (take n u) i v) ++ map f (drop (suc i) (set (take n u) i v)) ≡ take i (take n u) ++ map f (drop i (take n u)) =
        rw (a, b, c) (append_assoc (take i (take n u)) (v ∷ []) (map f (drop (suc i) (take n u)))) in
        record {
          swept = rw (add-one, take-set-lt n u i v h) (s ∙ w.swept);
          beyond = drop-set-lt n u i v h ∙ w.beyond;
          places = length-set u i v ∙ z;
        }

    pub sweep_ends : n ≤ i → u ≡ mapped n f l
    sweep_ends h =
        let z = w.places in
        let k : length (take n u) ≤ i = rw (length-take-le n u (omega arith)) h in
        let e : take n u ≡ map f (take n l) = sym (rw (take_all i (take n u) k, list_end (take n u) i k) (append-nil (take n u))) ∙ w.swept in
        sym (take-append-drop n u) ∙ rw (e, w.beyond)
