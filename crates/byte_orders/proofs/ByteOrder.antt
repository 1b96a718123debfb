-- The byte order: what it says of two strings, and that it is an order.
use mathlib.Core.Path.{◌≡◌, refl, sym, ap}
use mathlib.Core.Bool.{true, false, ◌&&◌, ◌||◌}
use mathlib.Core.Logic.{◌↔◌, ◌⊎◌, inl, inr}
use mathlib.Core.List.{List, [], ◌∷◌, ◌++◌}
use Prim.Native.Nat.{ℕ, ◌<◌, ◌≤◌}
use native.Mathlib.Omega.{arith}
use lib.Dec.{eqb, ltb}
use borrow.Author.Tests.{ltb-true, lt-ltb, le-ltb, eq-eqb, ne_eqb}
use Rattle.byte_strings.proofs.Flags.{nope}
use Rattle.byte_strings.proofs.Below.{below_or}
use Rattle.byte_orders.specs.Orders.{is_before}
use Rattle.byte_orders.proofs.OrderLaws.{Order}

-- two bytes, and what is decided by them
data Compared (a b : ℕ) : Type 0 where
  below : a < b → ltb a b ≡ true → eqb a b ≡ false → ltb b a ≡ false → eqb b a ≡ false → Compared a b
  alike : a ≡ b → ltb a b ≡ false → eqb a b ≡ true → ltb b a ≡ false → eqb b a ≡ true → Compared a b
  above : ltb a b ≡ false → eqb a b ≡ false → ltb b a ≡ true → eqb b a ≡ false → Compared a b

compared : (a b : ℕ) → Compared a b
compared a b = go (below_or a b) (below_or b a)
  where
    go : (a < b) ⊎ (b ≤ a) → (b < a) ⊎ (a ≤ b) → Compared a b
    go (inl h) k = below h (lt-ltb a b h) (ne_eqb a b (λ e. omega arith)) (le-ltb b a (omega arith)) (ne_eqb b a (λ e. omega arith))
    go (inr h) (inl k) = above (le-ltb a b h) (ne_eqb a b (λ e. omega arith)) (lt-ltb b a k) (ne_eqb b a (λ e. omega arith))
    go (inr h) (inr k) = let e : a ≡ b = omega arith in alike e (le-ltb a b h) (eq-eqb a b e) (le-ltb b a k) (eq-eqb b a (sym e))

-- b is a with more after it
pub record Extends (a b : List ℕ) : Type 0 where
  pub next : ℕ
  pub rest : List ℕ
  pub is : b ≡ a ++ next ∷ rest

-- a and b begin alike, and the first byte that differs is lower in a
pub record Lower (a b : List ℕ) : Type 0 where
  pub shared : List ℕ
  pub low : ℕ
  pub high : ℕ
  pub after_low : List ℕ
  pub after_high : List ℕ
  pub a_is : a ≡ shared ++ low ∷ after_low
  pub b_is : b ≡ shared ++ high ∷ after_high
  pub lower : low < high

extension_after : (a : List ℕ) (y : ℕ) (t : List ℕ) → is_before a (a ++ y ∷ t) ≡ true
extension_after [] y t = refl
extension_after (x ∷ a) y t = rw (le-ltb x x (omega arith), eq-eqb x x refl) (extension_after a y t)

lower_before : (s : List ℕ) (x y : ℕ) (t u : List ℕ) → x < y → is_before (s ++ x ∷ t) (s ++ y ∷ u) ≡ true
lower_before [] x y t u h = rw (lt-ltb x y h) refl
lower_before (z ∷ s) x y t u h = rw (le-ltb z z (omega arith), eq-eqb z z refl) (lower_before s x y t u h)

before_says : (a b : List ℕ) → is_before a b ≡ true → Extends a b ⊎ Lower a b
before_says [] [] e = nope (cc)
before_says [] (y ∷ b) e = inl (record { next = y; rest = b; is = refl })
before_says (x ∷ a) [] e = nope (cc)
before_says (x ∷ a) (y ∷ b) e = go (compared x y) (before_says a b)
  where
    longer : x ≡ y → Extends a b ⊎ Lower a b → Extends (x ∷ a) (y ∷ b) ⊎ Lower (x ∷ a) (y ∷ b)
    longer i (inl k) = inl (record { next = k.next; rest = k.rest; is = λ j. sym i j ∷ k.is j })
    longer i (inr k) = inr (record {
      shared = x ∷ k.shared;
      low = k.low;
      high = k.high;
      after_low = k.after_low;
      after_high = k.after_high;
      a_is = ap (λ (s : List ℕ). x ∷ s) k.a_is;
      b_is = λ j. sym i j ∷ k.b_is j;
      lower = k.lower;
    })

    go : Compared x y → (is_before a b ≡ true → Extends a b ⊎ Lower a b) → Extends (x ∷ a) (y ∷ b) ⊎ Lower (x ∷ a) (y ∷ b)
    go (below h p q r t) ih = inr (record { shared = []; low = x; high = y; after_low = a; after_high = b; a_is = refl; b_is = refl; lower = h })
    go (alike i p q r t) ih = longer i (ih (rw (p, q) at e))
    go (above p q r t) ih = nope (let w = rw (p, q) at e in cc)

-- A STRING IS BEFORE ANOTHER exactly where the other is it with more after it, or the first byte that differs is lower in it
pub before_exactly : (a b : List ℕ) → (is_before a b ≡ true) ↔ (Extends a b ⊎ Lower a b)
before_exactly a b = (before_says a b, back)
  where
    back : Extends a b ⊎ Lower a b → is_before a b ≡ true
    back (inl k) = rw k.is (extension_after a k.next k.rest)
    back (inr k) = rw (k.a_is, k.b_is) (lower_before k.shared k.low k.high k.after_low k.after_high k.lower)

one_way : (x y : List ℕ) → is_before x y ≡ true → is_before y x ≡ false
one_way [] [] e = refl
one_way [] (b ∷ y) e = refl
one_way (a ∷ x) [] e = nope (cc)
one_way (a ∷ x) (b ∷ y) e = go (compared a b) (one_way x y)
  where
    go : Compared a b → (is_before x y ≡ true → is_before y x ≡ false) → (ltb b a || (eqb b a && is_before y x)) ≡ false
    go (below h p q r t) ih = rw (r, t) refl
    go (alike h p q r t) ih = rw (r, t) (ih (rw (p, q) at e))
    go (above p q r t) ih = nope (let w = rw (p, q) at e in cc)

same : (x y : List ℕ) → is_before x y ≡ false → is_before y x ≡ false → x ≡ y
same [] [] e f = refl
same [] (b ∷ y) e f = nope (cc)
same (a ∷ x) [] e f = nope (cc)
same (a ∷ x) (b ∷ y) e f = go (compared a b) (same x y)
  where
    go : Compared a b → (is_before x y ≡ false → is_before y x ≡ false → x ≡ y) → a ∷ x ≡ b ∷ y
    go (below h p q r t) ih = nope (let w = rw p at e in cc)
    go (alike h p q r t) ih = let k = ih (rw (p, q) at e) (rw (r, t) at f) in cc
    go (above p q r t) ih = nope (let w = rw r at f in cc)

through : (x y z : List ℕ) → is_before z y ≡ false → is_before z x ≡ true → is_before y x ≡ true
through [] y [] e f = nope (cc)
through [] y (c ∷ z) e f = nope (cc)
through (a ∷ x) [] z e f = refl
through (a ∷ x) (b ∷ y) [] e f = nope (cc)
through (a ∷ x) (b ∷ y) (c ∷ z) e f = go (compared c b) (compared c a) (through x y z)
  where
    go : Compared c b → Compared c a → (is_before z y ≡ false → is_before z x ≡ true → is_before y x ≡ true) → (ltb b a || (eqb b a && is_before y x)) ≡ true
    go (below h p q r t) k ih = nope (let w = rw p at e in cc)
    go (alike h p q r t) (below h' p' q' r' t') ih = rw (← h, p') refl
    go (alike h p q r t) (alike h' p' q' r' t') ih = rw (← h, p', q') (ih (rw (p, q) at e) (rw (p', q') at f))
    go (alike h p q r t) (above p' q' r' t') ih = nope (let w = rw (p', q') at f in cc)
    go (above p q r t) (below h' p' q' r' t') ih = rw (lt-ltb b a (let i = ltb-true b c r in omega (arith, i, h'))) refl
    go (above p q r t) (alike h' p' q' r' t') ih = rw (← h', r) refl
    go (above p q r t) (above p' q' r' t') ih = nope (let w = rw (p', q') at f in cc)

pub bytes_ordered : Order is_before
bytes_ordered = record { one_way = one_way; same = same; through = through }
