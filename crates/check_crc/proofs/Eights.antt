-- The bits of the check value, eight at a time, are linear.
use mathlib.Core.Path.{◌≡◌, refl, sym, ap, ◌∙◌}
use Prim.Native.Nat.{ℕ, zero, suc, ◌+◌, ◌*◌, ◌/◌, ◌%◌, ◌^◌}
use native.Mathlib.Nat.{mod-lt, zero-add, suc-add, mul-one, mul_assoc, pow-suc}
use native.Mathlib.Omega.{arith}
use lib.Dec.{lit<}
use lib.Bits.{xor_zero_r}
use Rattle.check_crc.specs.Crc.{crc_bit, crc_eight}
use Rattle.check_crc.proofs.Linear.{Linear, right_linear, low_linear, both_linear, times_linear}

pub bit_linear : Linear crc_bit
unfolding crc_bit
bit_linear =
    both_linear (λ n. n / 2) (λ n. n % 2 * 0xA001) (right_linear 1)
    (times_linear 0xA001 (λ n. n % 2) (low_linear 1) (λ n. mod-lt n (lit< tt)))

pub eight_linear : Linear crc_eight
unfolding crc_eight
eight_linear a b = simp bit_linear

-- eight bits, k times
unfoldable pub eights : ℕ → ℕ → ℕ
eights zero c = c
eights (suc k) c = eights k (crc_eight c)

pub eights_linear : (k : ℕ) → Linear (eights k)
unfolding eights
eights_linear zero a b = refl
eights_linear (suc k) a b = ap (eights k) (eight_linear a b) ∙ eights_linear k (crc_eight a) (crc_eight b)

pub eights_add : (k m c : ℕ) → eights (k + m) c ≡ eights m (eights k c)
unfolding eights
eights_add zero m c = ap (λ (n : ℕ). eights n c) (zero-add m)
eights_add (suc k) m c = ap (λ (n : ℕ). eights n c) (suc-add k m) ∙ eights_add k m (crc_eight c)

-- an even number is only shifted
even : (n : ℕ) → crc_bit (n * 2) ≡ n
unfolding crc_bit
even n =
    let h : n * 2 / 2 ≡ n = omega arith in
    let o : n * 2 % 2 ≡ 0 = omega arith in
    rw (h, o) (xor_zero_r n)

pub eight_high : (h : ℕ) → crc_eight (h * 256) ≡ h
unfolding crc_eight
eight_high h =
    let e : h * 256 ≡ h * 2 * 2 * 2 * 2 * 2 * 2 * 2 * 2 = omega arith in
    rw e (simp even)

pub eights_high : (k h : ℕ) → eights k (h * 256 ^ k) ≡ h
unfolding eights
eights_high zero h = mul-one h
eights_high (suc k) h =
    ap (λ (n : ℕ). eights k (crc_eight n)) (ap (λ (m : ℕ). h * m) (pow-suc 256 k) ∙ sym (mul_assoc h (256 ^ k) 256))
    ∙ ap (eights k) (eight_high (h * 256 ^ k)) ∙ eights_high k h
