-- Bytes as a number, the first lowest: the check value may take them all at once.
use mathlib.Core.Path.{◌≡◌, refl, sym, ap, ◌∙◌}
use mathlib.Core.List.{List, [], ◌∷◌}
use Prim.Native.Nat.{ℕ, zero, suc, ◌+◌, ◌*◌, ◌%◌, ◌<◌, ◌≤◌, ◌^◌}
use native.Mathlib.Nat.{zero-add, add-zero, suc-add, mul-one, mul_assoc, pow-suc, one-le-pow, zero-lt-suc, le_of_suc-le-suc, not-suc-le-zero}
use native.Mathlib.Omega.{arith}
use lib.Dec.{lit<}
use lib.Arith.{digits_lt, digits_mod}
use lib.Bits.{bit_xor, xor_zero_r, xor_comm, xor_shifted}
use lib.ListN.{length, get_or, take, drop, replicate}
use lib.Seq.{get_or-drop}
use Rattle.std.specs.Int.{w64, from_le_bytes}
use Rattle.check_crc.specs.Crc.{crc_byte, crc_eight, crc_of}
use Rattle.check_crc.specs.Words.{little_endian}
use Rattle.check_crc.proofs.Xor.{xor_assoc}
use Rattle.check_crc.proofs.Eights.{eights, eight_linear, eight_high}

abbrev pub Bytes : List ℕ → Type 0
Bytes s = (i : ℕ) → get_or s i 0 < 256

pub bytes_drop : (i : ℕ) (s : List ℕ) → Bytes s → Bytes (drop i s)
bytes_drop i s g j = rw (get_or-drop i s j 0) (g (i + j))

pub word_small : (k : ℕ) (s : List ℕ) → Bytes s → little_endian k s < 256 ^ k
word_small zero s g = lit< tt
word_small (suc k) [] g = one-le-pow (suc k) 256 (zero-lt-suc 255)
word_small (suc k) (b ∷ bs) g = rw (pow-suc 256 k) (digits_lt (word_small k bs (λ i. g (suc i))) (g 0))

-- k bytes, and m more
word_parts : (k m : ℕ) (s : List ℕ) → k ≤ length s → little_endian (k + m) s ≡ little_endian m (drop k s) * 256 ^ k + little_endian k s
word_parts zero m s h = ap (λ (n : ℕ). little_endian n s) (zero-add m) ∙ sym (add-zero (little_endian m s * 1) ∙ mul-one (little_endian m s))
word_parts (suc k) m [] h = absurd (not-suc-le-zero h)
word_parts (suc k) m (b ∷ bs) h =
    let n : ℕ = little_endian m (drop k bs) in
    let l : ℕ = little_endian k bs in
    let up : n * 256 ^ suc k ≡ n * 256 ^ k * 256 = ap (λ (x : ℕ). n * x) (pow-suc 256 k) ∙ sym (mul_assoc n (256 ^ k) 256) in
    ap (λ (x : ℕ). little_endian x (b ∷ bs)) (suc-add k m) ∙ ap (λ (x : ℕ). x * 256 + b) (word_parts k m bs (le_of_suc-le-suc h))
    ∙ omega (arith, up)

-- the last of eight bytes taken off
pub word_low : (s : List ℕ) → Bytes s → 7 ≤ length s → little_endian 8 s % 2 ^ 56 ≡ little_endian 7 s
word_low s g h = ap (λ (n : ℕ). n % 2 ^ 56) (word_parts 7 1 s h) ∙ digits_mod (little_endian 1 (drop 7 s)) (word_small 7 s g)

-- k bytes at once
pub crc_word : (k c : ℕ) (s : List ℕ) → Bytes s → k ≤ length s → crc_of c s ≡ crc_of (eights k (bit_xor c (little_endian k s))) (drop k s)
unfolding eights crc_byte
crc_word zero c s g h = ap (λ (x : ℕ). crc_of x s) (sym (xor_zero_r c))
crc_word (suc k) c [] g h = absurd (not-suc-le-zero h)
crc_word (suc k) c (b ∷ bs) g h =
    let n : ℕ = little_endian k bs in
    crc_word k (crc_eight (bit_xor c b)) bs (λ i. g (suc i)) (le_of_suc-le-suc h)
    ∙ ap (λ (x : ℕ). crc_of (eights k x) (drop k bs))
    (ap (bit_xor (crc_eight (bit_xor c b))) (sym (eight_high n)) ∙ sym (eight_linear (bit_xor c b) (n * 256))
    ∙ ap crc_eight (xor_assoc c b (n * 256) ∙ ap (bit_xor c) (xor_comm b (n * 256) ∙ xor_shifted n 8 b (g 0))))

-- an exclusive or in the check value goes through the bytes by itself
pub crc_xor : (a d : ℕ) (s : List ℕ) → crc_of (bit_xor a d) s ≡ bit_xor (crc_of a s) (eights (length s) d)
unfolding eights crc_byte
crc_xor a d [] = refl
crc_xor a d (b ∷ bs) =
    ap (λ (x : ℕ). crc_of x bs)
    (ap crc_eight (xor_assoc a d b ∙ ap (bit_xor a) (xor_comm d b) ∙ sym (xor_assoc a b d)) ∙ eight_linear (bit_xor a b) d)
    ∙ crc_xor (crc_eight (bit_xor a b)) (crc_eight d) bs

-- zero bytes
pub crc_zeros : (c : ℕ) → crc_of c (replicate 8 0) ≡ eights 8 c
unfolding eights crc_byte
crc_zeros c = simp xor_zero_r

-- eight bytes as std reads them
pub word_value : (s : List ℕ) → length s ≡ 8 → from_le_bytes w64 s ≡ little_endian 8 s
word_value [] e = absurd (omega arith)
word_value (a ∷ []) e = absurd (omega arith)
word_value (a ∷ b ∷ []) e = absurd (omega arith)
word_value (a ∷ b ∷ c ∷ []) e = absurd (omega arith)
word_value (a ∷ b ∷ c ∷ d ∷ []) e = absurd (omega arith)
word_value (a ∷ b ∷ c ∷ d ∷ f ∷ []) e = absurd (omega arith)
word_value (a ∷ b ∷ c ∷ d ∷ f ∷ g ∷ []) e = absurd (omega arith)
word_value (a ∷ b ∷ c ∷ d ∷ f ∷ g ∷ h ∷ []) e = absurd (omega arith)
word_value (a ∷ b ∷ c ∷ d ∷ f ∷ g ∷ h ∷ i ∷ s) e = omega arith

-- of the first eight bytes
pub word_front : (s : List ℕ) → little_endian 8 (take 8 s) ≡ little_endian 8 s
word_front = front 8
  where
    front : (k : ℕ) (l : List ℕ) → little_endian k (take k l) ≡ little_endian k l
    front zero l = refl
    front (suc k) [] = refl
    front (suc k) (b ∷ bs) = rw (front k bs)
