-- Digits by subtraction, a power of ten at a turn: what the digits so far say times the power taken last, and the rest, is the number.
use mathlib.Core.Path.{◌≡◌, refl, sym, ap, ◌∙◌}
use mathlib.Core.Bool.{Bool, true, false, cond, ◌&&◌, ◌||◌}
use mathlib.Core.List.{List, [], ◌∷◌, ◌++◌}
use mathlib.Core.Logic.{◌⊎◌, inl, inr, ⊎_elim}
use Prim.Native.Nat.{ℕ, zero, suc, ◌+◌, ◌-◌, ◌*◌, ◌/◌, ◌%◌, ◌^◌, ◌≤◌, ◌<◌}
use native.Mathlib.Nat.{pow-suc, one-le-pow, mul_assoc, add-mul, zero-mul, lt_of_mul-lt-mul_right}
use native.Mathlib.Omega.{arith}
use lib.Dec.{eqb, leb, ltb}
use lib.ListN.{length, get_or, take, drop, length-take, length-drop}
use Rattle.std.proofs.lemmas.List.{get_or-take, get_or-drop}
use borrow.Author.Tests.{lt-ltb, ne_eqb, leb-true, leb-false, eqb-true, eqb-false}
use Rattle.byte_strings.specs.Wrote.{Wrote}
use Rattle.byte_strings.proofs.Flags.{nope}
use Rattle.byte_strings.proofs.Writes.{none, then}
use Rattle.text_decimal_writer.specs.Digits.{dec_digits}
use Rattle.text_decimal_writer.specs.Powers.{are_tens}
use Rattle.text_decimal_writer.proofs.DigitLaws.{digits_none, digits_one, digits_more, some_digits, many_digits}
use Rattle.text_decimal_writer.proofs.PowerLaws.{power_at}

-- v has a digit at 10 ^ m: the power is the last, or is not above v
has_one : (v m : ℕ) → (leb (10 ^ m) v || eqb (10 ^ m) 1) ≡ true → (m ≡ 0) ⊎ (10 ^ m ≤ v)
has_one v zero e = inl refl
has_one v (suc m) e = go (leb (10 ^ suc m) v) (eqb (10 ^ suc m) 1) refl refl e
  where
    go : (x y : Bool) → leb (10 ^ suc m) v ≡ x → eqb (10 ^ suc m) 1 ≡ y → (x || y) ≡ true → (suc m ≡ 0) ⊎ (10 ^ suc m ≤ v)
    go true y p q e = inr (leb-true (10 ^ suc m) v p)
    go false true p q e = absurd (omega (arith, eqb-true (10 ^ suc m) 1 q, pow-suc 10 m, one-le-pow m 10 (omega arith)))
    go false false p q e = nope (cc)

-- and it has none: the power is above v, and is not the last
has_none : (v m : ℕ) → (leb (10 ^ m) v || eqb (10 ^ m) 1) ≡ false → (0 < m) × (v < 10 ^ m)
has_none v m e = go (leb (10 ^ m) v) (eqb (10 ^ m) 1) refl refl e
  where
    some : (m : ℕ) → (10 ^ m ≡ 1 → ⊥) → 0 < m
    some zero n = absurd (n refl)
    some (suc m) n = omega arith

    go : (x y : Bool) → leb (10 ^ m) v ≡ x → eqb (10 ^ m) 1 ≡ y → (x || y) ≡ false → (0 < m) × (v < 10 ^ m)
    go true y p q e = nope (cc)
    go false true p q e = nope (cc)
    go false false p q e = (some m (eqb-false (10 ^ m) 1 q), leb-false (10 ^ m) v p)

-- what is written once j digits say q, with m powers to come: nothing of 0, unless none is to come
abbrev said : ℕ → ℕ → ℕ → List ℕ
said m j q = cond (ltb 0 m && eqb q 0) [] (dec_digits j q)

nothing_said : (m j : ℕ) → 0 < m → said m j 0 ≡ []
nothing_said m j h = rw (lt-ltb 0 m h) refl

all_said : (m j q : ℕ) → (m ≡ 0) ⊎ (0 < q) → said m j q ≡ dec_digits j q
all_said m j q (inl e) = rw e refl
all_said m j q (inr h) = rw (ne_eqb q 0 (λ e. omega arith)) (go (ltb 0 m))
  where
    go : (b : Bool) → cond (b && false) [] (dec_digits j q) ≡ dec_digits j q
    go true = refl
    go false = refl

-- one digit more
said_more : (m j q d : ℕ) → d < 10 → dec_digits (suc j) (q * 10 + d) ≡ said (suc m) j q ++ ((48 + d) ∷ [])
said_more m j zero d l =
    let z : 0 * 10 + d ≡ d = omega arith in
    rw (z, nothing_said (suc m) j (omega arith)) (digits_one j d l)
said_more m j (suc q) d l =
    let a : (suc q * 10 + d) / 10 ≡ suc q = omega arith in
    let b : (suc q * 10 + d) % 10 ≡ d = omega arith in
    rw (all_said (suc m) j (suc q) (inr (omega arith))) (digits_more j (suc q * 10 + d) (omega arith) ∙ rw (a, b) refl)

-- the power 10 ^ m went d times into what was left
module _ (v q m d rest rest' : ℕ) (sum : q * 10 ^ suc m + rest ≡ v) (less : rest < 10 ^ suc m) (taken : d * 10 ^ m + rest' ≡ rest) (left : rest' < 10 ^ m) where
  a_digit : d < 10
  a_digit = lt_of_mul-lt-mul_right (10 ^ m) (omega (arith, pow-suc 10 m))

  sum_stays : (q * 10 + d) * 10 ^ m + rest' ≡ v
  sum_stays =
      let a : (q * 10 + d) * 10 ^ m ≡ q * 10 * 10 ^ m + d * 10 ^ m = add-mul (q * 10) d (10 ^ m) in
      let b : q * 10 * 10 ^ m ≡ q * (10 * 10 ^ m) = mul_assoc q 10 (10 ^ m) in
      let c : q * 10 ^ suc m ≡ q * (10 * 10 ^ m) = ap (λ (z : ℕ). q * z) (omega (arith, pow-suc 10 m)) in
      omega arith

  -- the digits say more than 0 once a power is not above the number
  more_now : 10 ^ m ≤ v → 0 < q * 10 + d
  more_now h = go (q * 10 + d) sum_stays
    where
      go : (n : ℕ) → n * 10 ^ m + rest' ≡ v → 0 < n
      go zero e = absurd (omega (arith, zero-mul (10 ^ m)))
      go (suc n) e = omega arith

  digit_said : (j : ℕ) → (m ≡ 0) ⊎ (10 ^ m ≤ v) → said m (suc j) (q * 10 + d) ≡ said (suc m) j q ++ ((48 + d) ∷ [])
  digit_said j h =
      all_said m (suc j) (q * 10 + d) (⊎_elim (λ (e : m ≡ 0). inl e) (λ (l : 10 ^ m ≤ v). inr (more_now l)) h)
      ∙ said_more m j q d a_digit

-- The loop of put_digits, with the powers below 10 ^ m to come: v has at most k digits, which are written into d from a on.
pub record Told (k v a m : ℕ) (d e : List ℕ) (b rest : ℕ) : Type 0 where
  pub saying : ℕ
  pub sum : saying * 10 ^ m + rest ≡ v
  pub less : rest < 10 ^ m
  pub wrote : Wrote d a (said m (k - m) saying) e b
  pub room : (b ≡ a) ⊎ (b + m ≤ a + length (dec_digits k v))

told_none : (k v a : ℕ) (d : List ℕ) → v < 10 ^ k → Told k v a k d d a v
told_none k v a d h =
    record {
      saying = 0;
      sum = omega (arith, zero-mul (10 ^ k));
      less = h;
      wrote = rw (go k) (none d a);
      room = inl refl;
    }
  where
    go : (n : ℕ) → said n (n - n) 0 ≡ []
    go zero = digits_none 0
    go (suc n) = nothing_said (suc n) (suc n - suc n) (omega arith)

told_all : (k v a : ℕ) {d e : List ℕ} {b rest : ℕ} → Told k v a 0 d e b rest → Wrote d a (dec_digits k v) e b
told_all k v a t =
    let z : k - 0 ≡ k = omega arith in
    let s : t.saying ≡ v = omega (arith, t.sum, t.less) in
    rw (z, s) at t.wrote

module _ (k v a m : ℕ) (d e : List ℕ) (b rest : ℕ) (t : Told k v a (suc m) d e b rest) (l : m < k) where
  room_left : (n : ℕ) → a + length (dec_digits k v) ≤ n → b < n
  room_left n h = ⊎_elim (λ (o : b ≡ a). omega (arith, go k l)) (λ (o : b + suc m ≤ a + length (dec_digits k v)). omega arith) t.room
    where
      go : (k : ℕ) → m < k → 0 < length (dec_digits k v)
      go zero l = absurd (omega arith)
      go (suc k) l = some_digits k v

  -- a power above the number is passed over
  told_none_here : 0 < m → v < 10 ^ m → Told k v a m d e b rest
  told_none_here p h =
      let s : t.saying < 1 = lt_of_mul-lt-mul_right (10 ^ suc m) (omega (arith, t.sum, pow-suc 10 m)) in
      let z : t.saying ≡ 0 = omega arith in
      let w : Wrote d a [] e b = rw (nothing_said (suc m) (k - suc m) (omega arith)) at (rw z at t.wrote) in
      record {
        saying = 0;
        sum = omega (arith, zero-mul (10 ^ m), zero-mul (10 ^ suc m), rw z at t.sum);
        less = omega (arith, t.sum);
        wrote = rw (nothing_said m (k - m) p) w;
        room = inl (omega (arith, w.next));
      }

  -- a digit is written
  module _ (h : (m ≡ 0) ⊎ (10 ^ m ≤ v)) (times rest' : ℕ) (taken : times * 10 ^ m + rest' ≡ rest) (left : rest' < 10 ^ m) {f : List ℕ} {c : ℕ} (w : Wrote e b ((48 + times) ∷ []) f c) where
    many : m < length (dec_digits k v)
    many = ⊎_elim (λ (z : m ≡ 0). omega (arith, room_left (a + length (dec_digits k v)) (omega arith))) (λ (n : 10 ^ m ≤ v). many_digits k m v l n) h

    told_digit : Told k v a m d f c rest'
    told_digit =
        let z : k - m ≡ suc (k - suc m) = omega arith in
        record {
          saying = t.saying * 10 + times;
          sum = sum_stays v t.saying m times rest rest' t.sum t.less taken left;
          less = left;
          wrote = rw (z, digit_said v t.saying m times rest rest' t.sum t.less taken left (k - suc m) h) (then t.wrote w);
          room = inr (⊎_elim (λ (o : b ≡ a). omega (arith, many, w.next)) (λ (o : b + suc m ≤ a + length (dec_digits k v)). omega (arith, w.next)) t.room);
        }

-- put_digits: before its first turn, after its last, and its turn at place j of the last k powers; y is whether v has a digit there
pub told_start : (k v a : ℕ) (d : List ℕ) → v < 10 ^ k → Told k v a (k - 0) d d a v
told_start k v a d h = let z : k - 0 ≡ k = omega arith in rw z (told_none k v a d h)

pub told_end : (k v a j : ℕ) {d e : List ℕ} {b rest : ℕ} → Told k v a (k - j) d e b rest → k ≤ j → Wrote d a (dec_digits k v) e b
told_end k v a j t l = let z : k - j ≡ 0 = omega arith in told_all k v a (rw z at t)

abbrev pub last : ℕ → List ℕ → List ℕ
last k ps = take (20 - (20 - k)) (drop (20 - k) ps)

last_length : (k : ℕ) (ps : List ℕ) → k ≤ 20 → length ps ≡ 20 → length (last k ps) ≡ k
last_length k ps o n = simp (length-take, length-drop) (omega arith)

module _ (k v a j : ℕ) (d e : List ℕ) (b rest : ℕ) (t : Told k v a (k - j) d e b rest) (o : k ≤ 20) (ps : List ℕ) (tens : are_tens ps ≡ true) (n : length ps ≡ 20) (l : j < length (last k ps)) where
  abbrev m : ℕ
  m = k - suc j

  h : j < k
  h = omega (arith, last_length k ps o n)

  here : Told k v a (suc m) d e b rest
  here = let z : k - j ≡ suc m = omega (arith, h) in rw z at t

  power : get_or (last k ps) j 0 ≡ 10 ^ m
  power =
      let z : length ps - suc (20 - k + j) ≡ m = omega (arith, h) in
      get_or-take (20 - (20 - k)) (drop (20 - k) ps) j 0 (omega (arith, h)) ∙ get_or-drop (20 - k) ps j 0
      ∙ power_at ps tens (20 - k + j) (omega (arith, h)) ∙ ap (λ (x : ℕ). 10 ^ x) z

  pub few_times : rest < 10 * get_or (last k ps) j 0
  few_times = rw power (omega (arith, here.less, pow-suc 10 m))

  pub has_room : (r s : ℕ) → a + length (dec_digits k v) ≤ s → r ≡ s → b < r
  has_room r s f q = omega (arith, room_left k v a m d e b rest here (omega (arith, h)) s f)

  module _ (y : Bool) (u : y ≡ (leb (get_or (last k ps) j 0) v || eqb (get_or (last k ps) j 0) 1)) where
    pub told_passed : y ≡ false → Told k v a (k - (j + 1)) d e b rest
    told_passed q =
        let z : k - (j + 1) ≡ m = omega arith in
        let s = has_none v m (rw (power, q) at (sym u)) in
        rw z (told_none_here k v a m d e b rest here (omega (arith, h)) s.0 s.1)

    pub told_next : (times rest' : ℕ) → times * get_or (last k ps) j 0 + rest' ≡ rest → rest' < get_or (last k ps) j 0 → y ≡ true → {f : List ℕ} {c : ℕ} → Wrote e b ((48 + times) ∷ []) f c → Told k v a (k - (j + 1)) d f c rest'
    told_next times rest' taken left q w =
        let z : k - (j + 1) ≡ m = omega arith in
        rw z (told_digit k v a m d e b rest here (omega (arith, h)) (has_one v m (rw (power, q) at (sym u))) times rest' (rw power at taken) (rw power at left) w)
