-- Linear functions: what they make of an exclusive or is the exclusive or of what they make of its parts. Shifts and remainders
-- by powers of two are linear, and two linear functions that agree at the powers of two agree.
use mathlib.Core.Path.{◌≡◌, refl, sym, ap, ap₂, subst, ◌∙◌}
use mathlib.Core.Logic.{⊎_elim}
use Prim.Native.Nat.{ℕ, zero, suc, ◌+◌, ◌*◌, ◌/◌, ◌%◌, ◌<◌, ◌^◌}
use native.Mathlib.Nat.{add-zero, zero-add, zero-mul, one-mul, mod-lt, le_refl, le-suc, lt_of_lt_of_le}
use native.Mathlib.Numerals.{one-add}
use lib.Dec.{T, eqb, eqb→eq}
use lib.Arith.{lt-one}
use lib.Pow.{pow_pos, split, shr_lt}
use lib.Bits.{bit_xor, xor_shr, xor_mod, xor_block, xor_self, xor_zero_r, xor_shifted}
use Rattle.byte_strings.proofs.Below.{all_below, at_below}
use Rattle.check_crc.proofs.Xor.{bit, xor_swap}

abbrev pub Linear : (ℕ → ℕ) → Type 0
Linear f = (a b : ℕ) → f (bit_xor a b) ≡ bit_xor (f a) (f b)

pub id_linear : Linear (λ n. n)
id_linear a b = refl

pub right_linear : (k : ℕ) → Linear (λ n. n / 2 ^ k)
right_linear k a b = xor_shr a b k

pub low_linear : (k : ℕ) → Linear (λ n. n % 2 ^ k)
low_linear k a b = xor_mod a b k

pub left_linear : (k : ℕ) → Linear (λ n. n * 2 ^ k)
left_linear k a b =
    sym (add-zero (bit_xor a b * 2 ^ k)) ∙ sym (xor_block k a b 0 0 (pow_pos k) (pow_pos k))
    ∙ ap₂ bit_xor (add-zero (a * 2 ^ k)) (add-zero (b * 2 ^ k))

module _ (f g : ℕ → ℕ) (hf : Linear f) (hg : Linear g) where
  pub both_linear : Linear (λ n. bit_xor (f n) (g n))
  both_linear a b = ap₂ bit_xor (hf a b) (hg a b) ∙ xor_swap (f a) (f b) (g a) (g b)

  pub then_linear : Linear (λ n. g (f n))
  then_linear a b = ap g (hf a b) ∙ hg (f a) (f b)

  zeros : f 0 ≡ g 0
  zeros = hf 0 0 ∙ xor_self (f 0) ∙ sym (xor_self (g 0)) ∙ sym (hg 0 0)

  -- a digit d above, the digits of r below
  digit : (k d r : ℕ) → d < 2 → r < 2 ^ k → f (2 ^ k) ≡ g (2 ^ k) → f r ≡ g r → f (d * 2 ^ k + r) ≡ g (d * 2 ^ k + r)
  digit k d r hd hr e er =
      ⊎_elim (λ (z : d ≡ 0). rw (z, zero-mul (2 ^ k), zero-add r) er)
      (λ (o : d ≡ 1).
      rw (o, ← xor_shifted 1 k r hr, one-mul (2 ^ k)) (hf (2 ^ k) r ∙ ap₂ bit_xor e er ∙ sym (hg (2 ^ k) r)))
      (bit d hd)

  pub basis : (k : ℕ) → ((i : ℕ) → i < k → f (2 ^ i) ≡ g (2 ^ i)) → (n : ℕ) → n < 2 ^ k → f n ≡ g n
  basis zero e n h = rw (lt-one h) zeros
  basis (suc k) e n h =
      subst (λ (m : ℕ). f m ≡ g m) (split n k)
      (digit k (n / 2 ^ k) (n % 2 ^ k) (shr_lt 1 k (rw (one-add k) h)) (mod-lt n (pow_pos k)) (e k (le_refl (suc k)))
      (basis k (λ i l. e i (lt_of_lt_of_le l (le-suc k))) (n % 2 ^ k) (mod-lt n (pow_pos k))))

  -- the same, by a test that antt computes
  pub by_basis : (k : ℕ) → T (all_below (λ i. eqb (f (2 ^ i)) (g (2 ^ i))) k) → (n : ℕ) → n < 2 ^ k → f n ≡ g n
  by_basis k t = basis k (λ i l. eqb→eq (f (2 ^ i)) (g (2 ^ i)) (at_below (λ j. eqb (f (2 ^ j)) (g (2 ^ j))) k t i l))

-- a bit times a number
bit_times : (m x y : ℕ) → x < 2 → y < 2 → bit_xor x y * m ≡ bit_xor (x * m) (y * m)
bit_times m x y hx hy =
    ⊎_elim (λ (ex : x ≡ 0). rw (ex, zero-mul m))
    (λ (ex : x ≡ 1).
    ⊎_elim (λ (ey : y ≡ 0). rw (ex, ey, zero-mul m, one-mul m) (sym (xor_zero_r m)))
    (λ (ey : y ≡ 1). rw (ex, ey, one-mul m) (zero-mul m ∙ sym (xor_self m))) (bit y hy))
    (bit x hx)

pub times_linear : (m : ℕ) (f : ℕ → ℕ) → Linear f → ((n : ℕ) → f n < 2) → Linear (λ n. f n * m)
times_linear m f hf h a b = ap (λ (k : ℕ). k * m) (hf a b) ∙ bit_times m (f a) (f b) (h a) (h b)
