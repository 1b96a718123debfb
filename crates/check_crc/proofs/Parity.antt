-- The parity of the count of ones among 64 digits is linear. It is defined so that antt computes it.
use mathlib.Core.Path.{◌≡◌, refl, ap, ◌∙◌}
use mathlib.Core.Logic.{⊎_elim}
use Prim.Native.Nat.{ℕ, zero, suc, ◌+◌, ◌/◌, ◌%◌, ◌<◌, ◌^◌}
use native.Mathlib.Nat.{mod-lt}
use native.Mathlib.Numerals.{add-one}
use native.Mathlib.Omega.{arith}
use lib.Dec.{lit<}
use lib.Arith.{lt-one}
use lib.Pow.{shr_lt}
use lib.Bits.{bit_xor, xor_lt}
use lib.Count.{ones, ones_step}
use Rattle.check_crc.proofs.Xor.{bit}
use Rattle.check_crc.proofs.Linear.{Linear, right_linear, low_linear, both_linear, then_linear}

-- of the k low digits
unfoldable pub parity_of : ℕ → ℕ → ℕ
parity_of zero n = 0
parity_of (suc k) n = bit_xor (n % 2) (parity_of k (n / 2))

pub parity_linear : (k : ℕ) → Linear (parity_of k)
unfolding parity_of
parity_linear zero = λ a b. refl
parity_linear (suc k) =
    both_linear (λ n. n % 2) (λ n. parity_of k (n / 2)) (low_linear 1) (then_linear (λ n. n / 2) (parity_of k) (right_linear 1) (parity_linear k))

pub parity_bit : (k n : ℕ) → parity_of k n < 2
unfolding parity_of
parity_bit zero n = lit< tt
parity_bit (suc k) n = xor_lt 1 (n % 2) (parity_of k (n / 2)) (mod-lt n (lit< tt)) (parity_bit k (n / 2))

sum_odd : (x y : ℕ) → x < 2 → (x + y) % 2 ≡ bit_xor x (y % 2)
sum_odd x y h =
    ⊎_elim (λ (e : x ≡ 0). rw e (omega arith))
    (λ (e : x ≡ 1).
    ⊎_elim (λ (o : y % 2 ≡ 0). rw (e, o) (omega (arith, o))) (λ (o : y % 2 ≡ 1). rw (e, o) (omega (arith, o))) (bit (y % 2) (mod-lt y (lit< tt))))
    (bit x h)

pub ones_parity : (k n : ℕ) → n < 2 ^ k → ones n % 2 ≡ parity_of k n
unfolding parity_of ones
ones_parity zero n h = ap (λ (m : ℕ). ones m % 2) (lt-one h)
ones_parity (suc k) n h =
    ap (λ (m : ℕ). m % 2) (ones_step n) ∙ sum_odd (n % 2) (ones (n / 2)) (mod-lt n (lit< tt))
    ∙ ap (bit_xor (n % 2)) (ones_parity k (n / 2) (shr_lt k 1 (rw (add-one k) h)))
