-- The steps over the bytes: the check value from the value so far of the bytes that are left is the whole.
use mathlib.Core.Path.{◌≡◌, refl, sym, ap, ap₂, ◌∙◌}
use mathlib.Core.Logic.{◌⊎◌, inl, inr, ⊎_elim}
use mathlib.Core.List.{List, [], ◌∷◌}
use Prim.Native.Nat.{ℕ, zero, suc, ◌+◌, ◌-◌, ◌*◌, ◌/◌, ◌%◌, ◌<◌, ◌≤◌, ◌^◌}
use native.Mathlib.Nat.{mod-lt, div-eq_of_lt, mod-eq_of_lt}
use native.Mathlib.Omega.{arith}
use lib.Dec.{lit<}
use lib.Pow.{split}
use lib.Bits.{bit_xor, xor_zero_r, xor_self, xor_comm, xor_lt, xor_shifted}
use lib.Count.{ones}
use lib.ListN.{length, drop, replicate, take, length-drop}
use lib.Seq.{drop-drop}
use Rattle.std.specs.List.{fold}
use Rattle.byte_strings.proofs.StringLaws.{rest}
use Rattle.check_crc.specs.Crc.{crc_bit, crc_eight, crc_byte, crc_of}
use Rattle.check_crc.specs.Words.{little_endian}
use Rattle.check_crc.proofs.Xor.{bit, xor_assoc}
use Rattle.check_crc.proofs.Linear.{right_linear, low_linear}
use Rattle.check_crc.proofs.Parity.{parity_of, parity_bit}
use Rattle.check_crc.proofs.Eights.{eights, eights_add, eights_high, eights_linear}
use Rattle.check_crc.proofs.Folds.{factor, factor_linear, ones_factor, seven_law}
use Rattle.check_crc.proofs.Words.{Bytes, bytes_drop, word_small, word_low, word_front, crc_word, crc_xor, crc_zeros}

-- byte by byte
pub folded : (c : ℕ) (s : List ℕ) → fold (λ x b. crc_byte x b) c s ≡ crc_of c s
folded c [] = refl
folded c (b ∷ bs) = folded (crc_byte c b) bs

-- no bit changes the second factor
factor_stays : (k b : ℕ) → b < 2 → eights k (b * 0xC001) ≡ b * 0xC001
unfolding eights crc_eight crc_bit
factor_stays zero b h = refl
factor_stays (suc k) b h =
    ⊎_elim (λ (e : b ≡ 0). rw e (factor_stays k 0 (lit< tt))) (λ (e : b ≡ 1). rw e (factor_stays k 1 (lit< tt))) (bit b h)

-- what eight bytes make the same but for the second factor, more bytes do
same_but : (a u b : ℕ) (s : List ℕ) → 8 ≤ length s → eights 8 a ≡ bit_xor (eights 8 u) (factor b) → crc_of a s ≡ bit_xor (crc_of u s) (factor b)
unfolding factor
same_but a u b s h e =
    let d : ℕ = bit_xor u a in
    let n : ℕ = length s - 8 in
    let whole : length s ≡ 8 + n = omega arith in
    let there : (x y : ℕ) → bit_xor x (bit_xor x y) ≡ y = λ x y. sym (xor_assoc x x y) ∙ ap (λ (z : ℕ). bit_xor z y) (xor_self x) in
    let eight : eights 8 d ≡ factor b = eights_linear 8 u a ∙ ap (bit_xor (eights 8 u)) e ∙ there (eights 8 u) (factor b) in
    let more : eights (length s) d ≡ factor b =
    ap (λ (m : ℕ). eights m d) whole ∙ eights_add 8 n d ∙ ap (eights n) eight ∙ factor_stays n (parity_of 64 b) (parity_bit 64 b) in
    ap (λ (x : ℕ). crc_of x s) (sym (there u a)) ∙ crc_xor u d s ∙ ap (bit_xor (crc_of u s)) more

-- Seven bytes, the first of the eight of w. What was above seven bytes comes down.
module _ (v w : ℕ) (s : List ℕ) (g : Bytes s) (h : 7 ≤ length s) (e : w ≡ little_endian 8 s) where
  word_seven : w % 2 ^ 56 ≡ little_endian 7 s
  word_seven = ap (λ (n : ℕ). n % 2 ^ 56) e ∙ word_low s g h

  low_seven : bit_xor v w % 2 ^ 56 ≡ bit_xor v (little_endian 7 s) % 2 ^ 56
  low_seven =
      low_linear 56 v w ∙ ap (bit_xor (v % 2 ^ 56)) (word_seven ∙ sym (mod-eq_of_lt (word_small 7 s g))) ∙ sym (low_linear 56 v (little_endian 7 s))

  high_seven : bit_xor v (little_endian 7 s) / 2 ^ 56 ≡ v / 2 ^ 56
  high_seven = right_linear 56 v (little_endian 7 s) ∙ ap (bit_xor (v / 2 ^ 56)) (div-eq_of_lt (word_small 7 s g)) ∙ xor_zero_r (v / 2 ^ 56)

  pub crc_seven : crc_of v s ≡ crc_of (bit_xor (eights 7 (bit_xor v w % 2 ^ 56)) (v / 2 ^ 56)) (drop 7 s)
  crc_seven =
      let n : ℕ = bit_xor v (little_endian 7 s) in
      let parts : n ≡ bit_xor (n % 2 ^ 56) (n / 2 ^ 56 * 2 ^ 56) =
      sym (split n 56) ∙ sym (xor_shifted (n / 2 ^ 56) 56 (n % 2 ^ 56) (mod-lt n (lit< tt))) ∙ xor_comm (n / 2 ^ 56 * 2 ^ 56) (n % 2 ^ 56) in
      crc_word 7 v s g h
      ∙ ap (λ (x : ℕ). crc_of x (drop 7 s))
      (ap (eights 7) parts ∙ eights_linear 7 (n % 2 ^ 56) (n / 2 ^ 56 * 2 ^ 56)
      ∙ ap₂ (λ (x y : ℕ). bit_xor (eights 7 x) y) (sym low_seven) (eights_high 7 (n / 2 ^ 56) ∙ high_seven))

aside : (a b c : ℕ) → bit_xor (bit_xor a b) c ≡ bit_xor (bit_xor a c) b
aside a b c = xor_assoc a b c ∙ ap (bit_xor a) (xor_comm b c) ∙ sym (xor_assoc a c b)

seven_step : (v w : ℕ) (s : List ℕ) → Bytes s → 15 ≤ length s → w ≡ little_endian 8 s
    → let low = bit_xor v w % 2 ^ 56 in crc_of v s ≡ bit_xor (crc_of (bit_xor (bit_xor low (low * 16)) (v / 2 ^ 56)) (drop 7 s)) (factor low)
seven_step v w s g h e =
    let low : ℕ = bit_xor v w % 2 ^ 56 in
    let high : ℕ = v / 2 ^ 56 in
    let u : ℕ = bit_xor low (low * 16) in
    let left : 8 ≤ length (drop 7 s) = rw (length-drop 7 s) (omega arith) in
    crc_seven v w s g (omega arith) e
    ∙ same_but (bit_xor (eights 7 low) high) (bit_xor u high) low (drop 7 s) left
    (eights_linear 8 (eights 7 low) high
    ∙ ap (λ (x : ℕ). bit_xor x (eights 8 high)) (sym (eights_add 7 8 low) ∙ sym (seven_law low (mod-lt (bit_xor v w) (lit< tt))))
    ∙ aside (eights 8 u) (factor low) (eights 8 high) ∙ ap (λ (x : ℕ). bit_xor x (factor low)) (sym (eights_linear 8 u high)))

-- the value so far: it fits, and with the second factor, where that is lacking, the check value from it of the bytes that are left is the whole
pub record SoFar (whole v lacks : ℕ) (left : List ℕ) : Type 0 where
  pub bytes : Bytes left
  pub fits : v < 2 ^ 64
  pub lacks_fits : lacks < 2 ^ 64
  pub goes : bit_xor (crc_of v left) (factor lacks) ≡ whole

pub from_start : (c v : ℕ) (s : List ℕ) → Bytes s → c < 65536 → v ≡ c → SoFar (crc_of c s) v 0 s
unfolding factor parity_of
from_start c v s g h e = record { bytes = g; fits = omega arith; lacks_fits = lit< tt; goes = rw e (xor_zero_r (crc_of c s)) }

module _ (whole v lacks w : ℕ) (s e : List ℕ) (i : ℕ) (p : SoFar whole v lacks (drop i s)) (q : w ≡ little_endian 8 e) (n : e ≡ take 8 (take (length s - i) (drop i s))) where
  taken : w ≡ little_endian 8 (drop i s)
  taken = q ∙ ap (little_endian 8) (n ∙ ap (take 8) (rest s i)) ∙ word_front (drop i s)

  pub from_turn : 15 ≤ length s - i
      → let low = bit_xor v w % 72057594037927936 in
      SoFar whole (bit_xor (bit_xor low (low * 16)) (v / 72057594037927936)) (bit_xor lacks low) (drop (i + 7) s)
  from_turn h =
      let low : ℕ = bit_xor v w % 72057594037927936 in
      let high : ℕ = v / 72057594037927936 in
      let l : low < 2 ^ 56 = mod-lt (bit_xor v w) (lit< tt) in
      let x : ℕ = crc_of (bit_xor (bit_xor low (low * 16)) high) (drop (i + 7) s) in
      let step : crc_of v (drop i s) ≡ bit_xor x (factor low) =
      rw (← drop-drop 7 i s) (seven_step v w (drop i s) p.bytes (rw (length-drop i s) h) taken) in
      record {
        bytes = rw (← drop-drop 7 i s) (bytes_drop 7 (drop i s) p.bytes);
        fits =
            xor_lt 64 (bit_xor low (low * 16)) high (xor_lt 64 low (low * 16) (omega arith) (omega arith)) (omega (arith, p.fits));
        lacks_fits = xor_lt 64 lacks low p.lacks_fits (omega arith);
        goes =
            ap (bit_xor x) (factor_linear lacks low ∙ xor_comm (factor lacks) (factor low)) ∙ sym (xor_assoc x (factor low) (factor lacks))
            ∙ ap (λ (y : ℕ). bit_xor y (factor lacks)) (sym step) ∙ p.goes;
      }

  -- eight bytes, which leave sixteen bits and no lack
  pub from_eight : (c : ℕ) → 8 ≤ length s - i → c ≡ bit_xor (crc_of (bit_xor v w) (replicate 8 0)) (ones lacks % 2 * 0xC001) → c < 65536
      → SoFar whole c 0 (drop (i + 8) s)
  unfolding factor parity_of
  from_eight c h r l =
      let t : List ℕ = drop (i + 8) s in
      let o : ℕ = ones lacks % 2 * 0xC001 in
      let before : crc_of v (drop i s) ≡ crc_of (eights 8 (bit_xor v w)) t =
      rw (taken, ← drop-drop 8 i s) (crc_word 8 v (drop i s) p.bytes (rw (length-drop i s) (omega arith))) in
      record {
        bytes = rw (← drop-drop 8 i s) (bytes_drop 8 (drop i s) p.bytes);
        fits = omega arith;
        lacks_fits = lit< tt;
        goes =
            xor_zero_r (crc_of c t) ∙ ap (λ (x : ℕ). crc_of x t) (r ∙ ap (λ (y : ℕ). bit_xor y o) (crc_zeros (bit_xor v w)))
            ∙ crc_xor (eights 8 (bit_xor v w)) o t
            ∙ ap₂ bit_xor (sym before) (factor_stays (length t) (ones lacks % 2) (mod-lt (ones lacks) (lit< tt)) ∙ ones_factor lacks p.lacks_fits)
            ∙ p.goes;
      }

-- before a turn there are eight bytes more, or else sixteen bits alone and nothing lacking
abbrev pub Ready : ℕ → ℕ → ℕ → Type 0
Ready n v lacks = (8 ≤ n) ⊎ ((v < 65536) × (lacks ≡ 0))

pub from_done : (whole v lacks x : ℕ) (s : List ℕ) (i : ℕ) → SoFar whole v lacks (drop i s) → Ready (length s - i) v lacks → length s - i < 8
    → x ≡ crc_of (v % 65536) (take (length s - i) (drop i s)) → x ≡ whole
unfolding factor parity_of
from_done whole v lacks x s i p (inl h) l q = absurd (omega arith)
from_done whole v lacks x s i p (inr h) l q =
    q ∙ ap₂ crc_of (mod-eq_of_lt h.0) (rest s i) ∙ sym (xor_zero_r (crc_of v (drop i s))) ∙ (rw h.1 at p.goes)
