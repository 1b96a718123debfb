-- Loops over byte strings: two compared, the run at the front counted, every byte tested.
use mathlib.Core.Path.{◌≡◌, refl, sym, ap, ◌∙◌}
use mathlib.Core.Bool.{Bool, true, false, cond, not, ◌&&◌, and-true, and-false, and_assoc}
use mathlib.Core.List.{List, [], ◌∷◌, ◌++◌}
use Prim.Native.Nat.{ℕ, zero, suc, ◌+◌, ◌-◌, ◌≤◌, ◌<◌, zero-le}
use native.Mathlib.Nat.{sub-zero, zero-sub, suc-sub-suc}
use native.Mathlib.Numerals.{add-one}
use native.Mathlib.Omega.{arith}
use lib.Dec.{eqb, ltb}
use lib.ListN.{length, get_or, take, drop, drop_of_length-le, length-drop}
use lib.Seq.{drop-cons, take_all, take-nil}
use borrow.Author.Tests.{eq-eqb, eqb-true, not-true, not-false}
use Rattle.std.specs.List.{fold, zip}
use Rattle.byte_strings.specs.Strings.{same_bytes, all_of, run}
use Rattle.byte_strings.proofs.Flags.{nope, and_first, and_second, and_both}

-- a part from a place to the end
pub rest : (s : List ℕ) (a : ℕ) → take (length s - a) (drop a s) ≡ drop a s
rest s a = take_all (length s - a) (drop a s) (rw length-drop (omega arith))

-- a part of a part
pub drop_take : (m n : ℕ) (l : List ℕ) → drop m (take n l) ≡ take (n - m) (drop m l)
drop_take zero n l = ap (λ (k : ℕ). take k l) (sym (sub-zero n))
drop_take (suc m) zero l = ap (λ (k : ℕ). take k (drop (suc m) l)) (sym (zero-sub (suc m)))
drop_take (suc m) (suc n) [] = sym (take-nil (suc n - suc m))
drop_take (suc m) (suc n) (x ∷ xs) = rw suc-sub-suc (drop_take m n xs)

-- a byte
abbrev pub is_byte : ℕ → Bool
is_byte b = ltb b 256

-- same_secret: each byte compared with the one at its own place
same_folded : (a b : List ℕ) (so : Bool) → length a ≡ length b → fold (λ s (p : ℕ × ℕ). s && eqb p.0 p.1) so (zip a b) ≡ (so && same_bytes a b)
same_folded [] [] so l = sym (and-true so)
same_folded [] (y ∷ ys) so l = absurd (omega arith)
same_folded (x ∷ xs) [] so l = absurd (omega arith)
same_folded (x ∷ xs) (y ∷ ys) so l = same_folded xs ys (so && eqb x y) (omega arith) ∙ and_assoc so (eqb x y) (same_bytes xs ys)

pub same_length : (a b : List ℕ) → (length a ≡ length b → ⊥) → false ≡ same_bytes a b
same_length [] [] n = absurd (n refl)
same_length [] (y ∷ ys) n = refl
same_length (x ∷ xs) [] n = refl
same_length (x ∷ xs) (y ∷ ys) n = sym (rw (← same_length xs ys (λ e. n (ap suc e))) (and-false (eqb x y)))

pub same_at_places : (a b : List ℕ) (x : Bool) → length a ≡ length b → x ≡ fold (λ s (p : ℕ × ℕ). s && eqb p.0 p.1) true (zip a b) → x ≡ same_bytes a b
same_at_places a b x l e = e ∙ same_folded a b true l

-- one byte more behind strings of the same length
pub same_behind : (p q : List ℕ) (x y : ℕ) → length p ≡ length q → same_bytes (p ++ (x ∷ [])) (q ++ (y ∷ [])) ≡ (same_bytes p q && eqb x y)
same_behind [] [] x y e = and-true (eqb x y)
same_behind [] (b ∷ q) x y e = absurd (omega arith)
same_behind (a ∷ p) [] x y e = absurd (omega arith)
same_behind (a ∷ p) (b ∷ q) x y e = rw (same_behind p q x y (omega arith)) (sym (and_assoc (eqb a b) (same_bytes p q) (eqb x y)))

pub same_self : (a : List ℕ) → same_bytes a a ≡ true
same_self [] = refl
same_self (x ∷ xs) = rw (eq-eqb x x refl) (same_self xs)

pub same_equal : (a b : List ℕ) → same_bytes a b ≡ true → a ≡ b
same_equal [] [] e = refl
same_equal [] (y ∷ ys) e = nope (cc)
same_equal (x ∷ xs) [] e = nope (cc)
same_equal (x ∷ xs) (y ∷ ys) e =
    let p : x ≡ y = eqb-true x y (and_first (eqb x y) (same_bytes xs ys) e) in
    let q : xs ≡ ys = same_equal xs ys (and_second (eqb x y) (same_bytes xs ys) e) in
    cc

-- the run at the front
run_more : (f : ℕ → Bool) (s : List ℕ) (i : ℕ) → i < length s → f (get_or s i 0) ≡ true → run f (drop i s) ≡ suc (run f (drop (i + 1) s))
run_more f s i h t = rw (add-one, drop-cons s i 0, t)

run_stop : (f : ℕ → Bool) (s : List ℕ) (i : ℕ) → i < length s → f (get_or s i 0) ≡ false → run f (drop i s) ≡ 0
run_stop f s i h t = rw (drop-cons s i 0, t)

run_end : (f : ℕ → Bool) (s : List ℕ) (i : ℕ) → length s ≤ i → run f (drop i s) ≡ 0
run_end f s i h = ap (run f) (drop_of_length-le s h)

run_bound : (t : Bool) (m n : ℕ) → m ≤ n → cond t (suc m) 0 ≤ suc n
run_bound true m n h = omega arith
run_bound false m n h = zero-le

pub run_le : (f : ℕ → Bool) (s : List ℕ) → run f s ≤ length s
run_le f [] = zero-le
run_le f (b ∷ bs) = run_bound (f b) (run f bs) (length bs) (run_le f bs)

-- the loop that counts a run: i and what is left of the run are the whole, x
module _ (f : ℕ → Bool) (s : List ℕ) (i x : ℕ) (inv : i + run f (drop i s) ≡ x) where
  pub run_ended : length s ≤ i → i ≡ x
  run_ended h = omega (arith, run_end f s i h)

  module _ (h : i < length s) where
    pub run_stopped : f (get_or s i 0) ≡ false → i ≡ x
    run_stopped o = omega (arith, run_stop f s i h o)

    pub run_turn : f (get_or s i 0) ≡ true → i + 1 + run f (drop (i + 1) s) ≡ x
    run_turn o = omega (arith, run_more f s i h o)

-- bytes tested one by one, where none ends the loop
folded : (f : ℕ → Bool) (s : List ℕ) (so : Bool) → fold (λ good b. good && f b) so s ≡ (so && all_of f s)
folded f [] so = sym (and-true so)
folded f (b ∷ bs) so = folded f bs (so && f b) ∙ and_assoc so (f b) (all_of f bs)

pub all_folded : (f : ℕ → Bool) (s : List ℕ) → fold (λ good b. good && f b) true s ≡ all_of f s
all_folded f s = folded f s true

-- a list whose every byte passes is all run, and the run goes on in what follows it
pub all_run : (f : ℕ → Bool) (p q : List ℕ) → all_of f p ≡ true → run f (p ++ q) ≡ length p + run f q
all_run f [] q e = omega arith
all_run f (b ∷ bs) q e = rw (and_first (f b) (all_of f bs) e) (omega (arith, all_run f bs q (and_second (f b) (all_of f bs) e)))

pub all_append : (f : ℕ → Bool) (p q : List ℕ) → all_of f p ≡ true → all_of f q ≡ true → all_of f (p ++ q) ≡ true
all_append f [] q e g = g
all_append f (b ∷ bs) q e g = and_both (f b) (all_of f (bs ++ q)) (and_first (f b) (all_of f bs) e) (all_append f bs q (and_second (f b) (all_of f bs) e) g)

-- what holds of all bytes holds of those at the front
pub all_front : (f : ℕ → Bool) (p q : List ℕ) → all_of f (p ++ q) ≡ true → all_of f p ≡ true
all_front f [] q e = refl
all_front f (b ∷ bs) q e = and_both (f b) (all_of f bs) (and_first (f b) (all_of f (bs ++ q)) e) (all_front f bs q (and_second (f b) (all_of f (bs ++ q)) e))

-- a list passes where both of its parts do
pub all_parts : (f : ℕ → Bool) (n : ℕ) (v : List ℕ) → all_of f (take n v) ≡ true → all_of f (drop n v) ≡ true → all_of f v ≡ true
all_parts f zero v p q = q
all_parts f (suc n) [] p q = refl
all_parts f (suc n) (b ∷ bs) p q =
    and_both (f b) (all_of f bs) (and_first (f b) (all_of f (take n bs)) p) (all_parts f n bs (and_second (f b) (all_of f (take n bs)) p) q)

-- and of a part
pub all_take : (f : ℕ → Bool) (n : ℕ) (v : List ℕ) → all_of f v ≡ true → all_of f (take n v) ≡ true
all_take f zero v e = refl
all_take f (suc n) [] e = refl
all_take f (suc n) (b ∷ bs) e = and_both (f b) (all_of f (take n bs)) (and_first (f b) (all_of f bs) e) (all_take f n bs (and_second (f b) (all_of f bs) e))

pub all_drop : (f : ℕ → Bool) (n : ℕ) (v : List ℕ) → all_of f v ≡ true → all_of f (drop n v) ≡ true
all_drop f zero v e = e
all_drop f (suc n) [] e = refl
all_drop f (suc n) (b ∷ bs) e = all_drop f n bs (and_second (f b) (all_of f bs) e)

-- what passes one test passes another that allows more
pub all_wider : (f g : ℕ → Bool) → ((b : ℕ) → f b ≡ true → g b ≡ true) → (p : List ℕ) → all_of f p ≡ true → all_of g p ≡ true
all_wider f g h [] e = refl
all_wider f g h (b ∷ bs) e = and_both (g b) (all_of g bs) (h b (and_first (f b) (all_of f bs) e)) (all_wider f g h bs (and_second (f b) (all_of f bs) e))

-- the loop that tests every byte: what is left passes as the whole does, x
module _ (f : ℕ → Bool) (s : List ℕ) (i : ℕ) (x : Bool) (inv : all_of f (drop i s) ≡ x) where
  pub all_ended : length s ≤ i → true ≡ x
  all_ended h = ap (all_of f) (sym (drop_of_length-le s h)) ∙ inv

  module _ (h : i < length s) (t : Bool) (e : t ≡ f (get_or s i 0)) where
    all_cons : all_of f (drop i s) ≡ (f (get_or s i 0) && all_of f (drop (i + 1) s))
    all_cons = rw (add-one, drop-cons s i 0)

    pub all_stopped : not t ≡ true → false ≡ x
    all_stopped o = rw (← e, not-true t o) at (sym all_cons ∙ inv)

    pub all_turn : not t ≡ false → all_of f (drop (i + 1) s) ≡ x
    all_turn o = rw (← e, not-false t o) at (sym all_cons ∙ inv)
