-- Many bits at once, by shifts, against the same bits one by one. Both are linear, so antt computes them at the powers of two.
use mathlib.Core.Path.{◌≡◌, sym, ap, ap₂, ◌∙◌}
use Prim.Native.Nat.{ℕ, ◌*◌, ◌/◌, ◌%◌, ◌<◌, ◌≤◌, ◌^◌}
use native.Mathlib.Nat.{mod-eq_of_lt, mul-le-mul_left, le_of_lt}
use native.Mathlib.Omega.{arith}
use lib.Bits.{bit_xor, xor_lt}
use lib.Count.{ones}
use lib.ListN.{replicate}
use Rattle.check_crc.specs.Crc.{crc_bit, crc_eight, crc_byte, crc_of}
use Rattle.check_crc.proofs.Xor.{xor_assoc}
use Rattle.check_crc.proofs.Linear.{Linear, id_linear, right_linear, low_linear, left_linear, both_linear, then_linear, times_linear, by_basis}
use Rattle.check_crc.proofs.Parity.{parity_of, parity_linear, parity_bit, ones_parity}
use Rattle.check_crc.proofs.Eights.{eights, eight_linear, eights_linear}
use Rattle.check_crc.proofs.Words.{crc_zeros}

-- the second factor, where the bits are odd
unfoldable pub factor : ℕ → ℕ
factor bits = parity_of 64 bits * 0xC001

pub factor_linear : Linear factor
unfolding factor
factor_linear = times_linear 0xC001 (parity_of 64) (parity_linear 64) (parity_bit 64)

pub ones_factor : (n : ℕ) → n < 2 ^ 64 → ones n % 2 * 0xC001 ≡ factor n
unfolding factor
ones_factor n h = ap (λ (k : ℕ). k * 0xC001) (ones_parity 64 n h)

-- what is shifted up fits
pub up_fits : (x s u : ℕ) → x < s → s * u ≡ 16384 → x * (u * 2) ≤ 32768
up_fits x s u h e = omega (arith, mul-le-mul_left u (le_of_lt h))

-- eight and fourteen bits, but for the second factor
unfoldable pub eight_bits : ℕ → ℕ
eight_bits n = bit_xor (bit_xor (n / 256) (n % 256 * 64)) (n % 256 * 128)

unfoldable pub fourteen_bits : ℕ → ℕ
fourteen_bits n = bit_xor (bit_xor (n / 16384) (n % 16384)) (n % 16384 * 2)

low_left_linear : (j k : ℕ) → Linear (λ n. n % 2 ^ j * 2 ^ k)
low_left_linear j k = then_linear (λ n. n % 2 ^ j) (λ n. n * 2 ^ k) (low_linear j) (left_linear k)

eight_bits_linear : Linear eight_bits
unfolding eight_bits
eight_bits_linear =
    both_linear (λ n. bit_xor (n / 256) (n % 256 * 64)) (λ n. n % 256 * 128)
    (both_linear (λ n. n / 256) (λ n. n % 256 * 64) (right_linear 8) (low_left_linear 8 6)) (low_left_linear 8 7)

fourteen_bits_linear : Linear fourteen_bits
unfolding fourteen_bits
fourteen_bits_linear =
    both_linear (λ n. bit_xor (n / 16384) (n % 16384)) (λ n. n % 16384 * 2)
    (both_linear (λ n. n / 16384) (λ n. n % 16384) (right_linear 14) (low_linear 14)) (low_left_linear 14 1)

-- sixty-four bits, but for the second factor
unfoldable pub word_bits : ℕ → ℕ
word_bits n = eight_bits (fourteen_bits (fourteen_bits (fourteen_bits (fourteen_bits n))))

word_bits_linear : Linear word_bits
unfolding word_bits
word_bits_linear a b = simp (fourteen_bits_linear, eight_bits_linear)

-- the sixteen bits that f makes of n, with the second factor where it changed the parity
unfoldable pub with_factor : (ℕ → ℕ) → ℕ → ℕ
with_factor f n = bit_xor (f n) (factor (bit_xor n (f n))) % 65536

with_factor_linear : (f : ℕ → ℕ) → Linear f → Linear (with_factor f)
unfolding with_factor
with_factor_linear f h =
    then_linear (λ n. bit_xor (f n) (factor (bit_xor n (f n)))) (λ n. n % 65536)
    (both_linear f (λ n. factor (bit_xor n (f n))) h
    (then_linear (λ n. bit_xor n (f n)) factor (both_linear (λ n. n) f id_linear h) factor_linear))
    (low_linear 16)

byte_law : (n : ℕ) → n < 65536 → with_factor eight_bits n ≡ crc_eight n
unfolding eight_bits with_factor factor parity_of crc_eight crc_bit
byte_law = by_basis (with_factor eight_bits) crc_eight (with_factor_linear eight_bits eight_bits_linear) eight_linear 16 tt

word_law : (n : ℕ) → n < 2 ^ 64 → with_factor word_bits n ≡ eights 8 n
unfolding word_bits fourteen_bits eight_bits with_factor factor parity_of eights crc_eight crc_bit
word_law = by_basis (with_factor word_bits) (eights 8) (with_factor_linear word_bits word_bits_linear) (eights_linear 8) 64 tt

-- what the code has of a byte b: u is v by eight bits but for the second factor, x the value with it
pub byte_done : (c b w u x : ℕ) → c < 65536 → (w ≡ b) × (w < 256) → u < 2 ^ 64 → u ≡ eight_bits (bit_xor c w)
    → x ≡ bit_xor u (ones (bit_xor (bit_xor c w) u) % 2 * 0xC001) % 65536 → x ≡ crc_byte c b
unfolding with_factor crc_byte
byte_done c b w u x h q l e p =
    let v : ℕ = bit_xor c w in
    let fits : v < 65536 = xor_lt 16 c w h (omega arith) in
    p ∙ ap (λ (k : ℕ). bit_xor u k % 65536) (ones_factor (bit_xor v u) (xor_lt 64 v u (omega arith) l))
    ∙ ap (λ (k : ℕ). bit_xor k (factor (bit_xor v k)) % 65536) e ∙ byte_law v fits ∙ ap (λ (k : ℕ). crc_eight (bit_xor c k)) q.0

-- and of sixty-four bits, in five parts
pub word_done : (v lacks p q r t u x : ℕ) → v < 2 ^ 64 → lacks < 2 ^ 64 → u < 2 ^ 64 → p ≡ fourteen_bits v → q ≡ fourteen_bits p
    → r ≡ fourteen_bits q → t ≡ fourteen_bits r → u ≡ eight_bits t
    → x ≡ bit_xor u (ones (bit_xor (bit_xor v u) lacks) % 2 * 0xC001) % 65536
    → x ≡ bit_xor (crc_of v (replicate 8 0)) (ones lacks % 2 * 0xC001)
unfolding with_factor word_bits factor
word_done v lacks p q r t u x hv hl hu ep eq er et eu e =
    let f : ℕ = factor (bit_xor v u) in
    let g : ℕ = factor lacks in
    let whole : u ≡ word_bits v = rw (eu, et, er, eq, ep) in
    let fits : bit_xor (bit_xor v u) lacks < 2 ^ 64 = xor_lt 64 (bit_xor v u) lacks (xor_lt 64 v u hv hu) hl in
    let odd : parity_of 64 lacks < 2 = parity_bit 64 lacks in
    let small : g % 65536 ≡ g = mod-eq_of_lt (omega arith) in
    e ∙ ap (λ (k : ℕ). bit_xor u k % 65536) (ones_factor (bit_xor (bit_xor v u) lacks) fits ∙ factor_linear (bit_xor v u) lacks)
    ∙ ap (λ (k : ℕ). k % 65536) (sym (xor_assoc u f g)) ∙ low_linear 16 (bit_xor u f) g
    ∙ ap₂ bit_xor (ap (λ (k : ℕ). bit_xor k (factor (bit_xor v k)) % 65536) whole ∙ word_law v hv ∙ sym (crc_zeros v))
    (small ∙ sym (ones_factor lacks hl))

-- Seven bytes take two shifts, but for the second factor. That is so once eight bytes have followed.
seven_linear : Linear (λ n. bit_xor (eights 8 (bit_xor n (n * 16))) (factor n))
seven_linear =
    both_linear (λ n. eights 8 (bit_xor n (n * 16))) factor
    (then_linear (λ n. bit_xor n (n * 16)) (eights 8) (both_linear (λ n. n) (λ n. n * 16) id_linear (left_linear 4)) (eights_linear 8))
    factor_linear

pub seven_law : (n : ℕ) → n < 2 ^ 56 → bit_xor (eights 8 (bit_xor n (n * 16))) (factor n) ≡ eights 15 n
unfolding factor parity_of eights crc_eight crc_bit
seven_law = by_basis (λ n. bit_xor (eights 8 (bit_xor n (n * 16))) (factor n)) (eights 15) seven_linear (eights_linear 15) 56 tt
