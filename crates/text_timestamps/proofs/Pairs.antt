-- Digits read two at a time: what the pairs say is what the whole says.
use mathlib.Core.Path.{◌≡◌, refl, sym, ap, subst}
use mathlib.Core.Bool.{Bool, true, false, cond, ◌&&◌}
use mathlib.Core.List.{List, [], ◌∷◌}
use Prim.Native.Nat.{ℕ, ◌+◌, ◌-◌, ◌*◌, ◌≤◌, ◌<◌}
use native.Mathlib.Numerals.{add-one}
use native.Mathlib.Omega.{arith}
use lib.ListN.{length, get_or, take, drop, drop_of_length-le}
use lib.Seq.{drop-cons}
use Rattle.std.specs.Prelude.{Option, Some, None}
use Rattle.std.proofs.lemmas.Option.{cond_some}
use Rattle.byte_strings.specs.Strings.{all_of}
use Rattle.byte_strings.proofs.Flags.{nope}
use Rattle.byte_strings.proofs.StringLaws.{all_take, all_drop}
use Rattle.text_classes.specs.Classes.{are_all, is_of}
use Rattle.text_classes.specs.declared.Class.TheVariants.{Digit}
use Rattle.text_decimals.specs.Decimals.{decimal}
use Rattle.text_timestamps.specs.Timestamps.{number_at}

-- the number that digits say, or none where one is no digit
abbrev pub number_of : List ℕ → Option ℕ
number_of l = cond (are_all Digit l) (Some (decimal l)) None

abbrev pub pair_at : List ℕ → ℕ → Option ℕ
pair_at s at = number_of (take 2 (drop at s))

pub none_if : (t : Bool) (x : ℕ) → None ≡ cond t (Some x) None → t ≡ false
none_if true x e = nope (cc)
none_if false x e = refl

-- digit
abbrev digit_of : ℕ → Option ℕ
digit_of b = cond (is_of Digit b) (Some (b - 48)) None

-- pair: of two bytes
module _ (s : List ℕ) (at : ℕ) (n : at + 2 ≤ length s) where
  split : drop at s ≡ get_or s at 0 ∷ get_or s (at + 1) 0 ∷ drop (at + 2) s
  split =
      let e : at + 2 ≡ at + 1 + 1 = omega arith in
      let h : at < length s = omega arith in
      let k : at + 1 < length s = omega arith in
      rw (drop-cons s at 0 h, ← add-one at, drop-cons s (at + 1) 0 k, ← add-one (at + 1), e)

  pub no_first : None ≡ digit_of (get_or s at 0) → None ≡ pair_at s at
  unfolding are_all
  no_first e = rw (split, none_if (is_of Digit (get_or s at 0)) (get_or s at 0 - 48) e)

  module _ (x : ℕ) (f : Some x ≡ digit_of (get_or s at 0)) where
    one : (is_of Digit (get_or s at 0) ≡ true) × (get_or s at 0 - 48 ≡ x)
    one = cond_some (is_of Digit (get_or s at 0)) (get_or s at 0 - 48) x (sym f)

    pub no_second : None ≡ digit_of (get_or s (at + 1) 0) → None ≡ pair_at s at
    unfolding are_all
    no_second e = rw (split, one.0, none_if (is_of Digit (get_or s (at + 1) 0)) (get_or s (at + 1) 0 - 48) e)

    pub a_pair : (y : ℕ) → Some y ≡ digit_of (get_or s (at + 1) 0) → Some (x * 10 + y) ≡ pair_at s at
    unfolding are_all
    a_pair y e =
        let two = cond_some (is_of Digit (get_or s (at + 1) 0)) (get_or s (at + 1) 0 - 48) y (sym e) in
        rw (split, one.0, two.0) (ap Some (omega (arith, one.1, two.1)))

-- a pair that is none: not all are digits
pub no_pair : (s : List ℕ) (at : ℕ) → None ≡ pair_at s at → are_all Digit s ≡ false
unfolding are_all
no_pair s at e = by_case (all_of (is_of Digit) s) refl
  where
    by_case : (t : Bool) → all_of (is_of Digit) s ≡ t → t ≡ false
    by_case false p = refl
    by_case true p =
        let q = none_if (all_of (is_of Digit) (take 2 (drop at s))) (decimal (take 2 (drop at s))) e in
        let r = all_take (is_of Digit) 2 (drop at s) (all_drop (is_of Digit) at s p) in
        nope (cc)

all_pairs : (a b : ℕ) (l : List ℕ) → are_all Digit (a ∷ b ∷ []) ≡ true → are_all Digit l ≡ true → are_all Digit (a ∷ b ∷ l) ≡ true
unfolding are_all
all_pairs a b l p q = by_case (is_of Digit a) (is_of Digit b) p
  where
    by_case : (x y : Bool) → (x && (y && true)) ≡ true → (x && (y && all_of (is_of Digit) l)) ≡ true
    by_case true true e = q
    by_case true false e = nope (cc)
    by_case false y e = nope (cc)

-- a pair that is read of two bytes
read : (a b p : ℕ) → Some p ≡ number_of (a ∷ b ∷ []) → (are_all Digit (a ∷ b ∷ []) ≡ true) × (decimal (a ∷ b ∷ []) ≡ p)
read a b p e = cond_some (are_all Digit (a ∷ b ∷ [])) (decimal (a ∷ b ∷ [])) p (sym e)

-- what the pairs of a date and of a time say of their digits
abbrev pub DateBy : ℕ → ℕ → ℕ → ℕ → List ℕ → Type 0
DateBy p q r t s = (are_all Digit s ≡ true) × (number_at 0 4 s ≡ p * 100 + q) × (number_at 4 2 s ≡ r) × (number_at 6 2 s ≡ t)
    × (decimal s ≡ ((p * 100 + q) * 100 + r) * 100 + t)

abbrev pub TimeBy : ℕ → ℕ → ℕ → List ℕ → Type 0
TimeBy p q r s = (are_all Digit s ≡ true) × (number_at 0 2 s ≡ p) × (number_at 2 2 s ≡ q) × (number_at 4 2 s ≡ r)
    × (decimal s ≡ (p * 100 + q) * 100 + r)

date_by_pairs : (a b c d e f g h p q r t : ℕ) → Some p ≡ number_of (a ∷ b ∷ []) → Some q ≡ number_of (c ∷ d ∷ []) → Some r ≡ number_of (e ∷ f ∷ []) → Some t ≡ number_of (g ∷ h ∷ []) → DateBy p q r t (a ∷ b ∷ c ∷ d ∷ e ∷ f ∷ g ∷ h ∷ [])
date_by_pairs a b c d e f g h p q r t i j k l =
    let pp = read a b p i in
    let qq = read c d q j in
    let rr = read e f r k in
    let tt' = read g h t l in
    let digits = all_pairs a b (c ∷ d ∷ e ∷ f ∷ g ∷ h ∷ []) pp.0 (all_pairs c d (e ∷ f ∷ g ∷ h ∷ []) qq.0 (all_pairs e f (g ∷ h ∷ []) rr.0 tt'.0)) in
    (digits, omega arith, rr.1, tt'.1, omega arith)

time_by_pairs : (a b c d e f p q r : ℕ) → Some p ≡ number_of (a ∷ b ∷ []) → Some q ≡ number_of (c ∷ d ∷ []) → Some r ≡ number_of (e ∷ f ∷ []) → TimeBy p q r (a ∷ b ∷ c ∷ d ∷ e ∷ f ∷ [])
time_by_pairs a b c d e f p q r i j k =
    let pp = read a b p i in
    let qq = read c d q j in
    let rr = read e f r k in
    let digits = all_pairs a b (c ∷ d ∷ e ∷ f ∷ []) pp.0 (all_pairs c d (e ∷ f ∷ []) qq.0 rr.0) in
    (digits, pp.1, qq.1, rr.1, omega arith)

-- a list of eight bytes, and one of six, as its bytes
module _ (s : List ℕ) where
  two_more : (at : ℕ) → at + 2 ≤ length s → (l : List ℕ) → drop (at + 2) s ≡ l → drop at s ≡ get_or s at 0 ∷ get_or s (at + 1) 0 ∷ l
  two_more at n l e = rw e at (split s at n)

  six_bytes : (at : ℕ) → length s ≡ at + 6 → drop at s ≡ get_or s at 0 ∷ get_or s (at + 1) 0 ∷ get_or s (at + 2) 0 ∷ get_or s (at + 2 + 1) 0 ∷ get_or s (at + 2 + 2) 0 ∷ get_or s (at + 2 + 2 + 1) 0 ∷ []
  six_bytes at n = two_more at (omega arith) _ (two_more (at + 2) (omega arith) _ (two_more (at + 2 + 2) (omega arith) [] (drop_of_length-le s {i = at + 2 + 2 + 2} (omega arith))))

  eight_bytes : length s ≡ 8 → s ≡ get_or s 0 0 ∷ get_or s 1 0 ∷ get_or s 2 0 ∷ get_or s 3 0 ∷ get_or s 4 0 ∷ get_or s 5 0 ∷ get_or s 6 0 ∷ get_or s 7 0 ∷ []
  eight_bytes n = two_more 0 (omega arith) _ (six_bytes 2 n)

pub date_pairs : (s : List ℕ) → length s ≡ 8 → (p q r t : ℕ) → Some p ≡ pair_at s 0 → Some q ≡ pair_at s 2 → Some r ≡ pair_at s 4 → Some t ≡ pair_at s 6 → DateBy p q r t s
date_pairs s n p q r t =
    subst (λ (u : List ℕ). Some p ≡ pair_at u 0 → Some q ≡ pair_at u 2 → Some r ≡ pair_at u 4 → Some t ≡ pair_at u 6 → DateBy p q r t u) (sym (eight_bytes s n))
    (date_by_pairs (get_or s 0 0) (get_or s 1 0) (get_or s 2 0) (get_or s 3 0) (get_or s 4 0) (get_or s 5 0) (get_or s 6 0) (get_or s 7 0) p q r t)

pub time_pairs : (s : List ℕ) → length s ≡ 6 → (p q r : ℕ) → Some p ≡ pair_at s 0 → Some q ≡ pair_at s 2 → Some r ≡ pair_at s 4 → TimeBy p q r s
time_pairs s n p q r =
    subst (λ (u : List ℕ). Some p ≡ pair_at u 0 → Some q ≡ pair_at u 2 → Some r ≡ pair_at u 4 → TimeBy p q r u) (sym (six_bytes s 0 n))
    (time_by_pairs (get_or s 0 0) (get_or s 1 0) (get_or s 2 0) (get_or s 3 0) (get_or s 4 0) (get_or s 5 0) p q r)
