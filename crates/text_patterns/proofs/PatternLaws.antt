-- What fits a pattern.
use mathlib.Core.Path.{◌≡◌, refl, sym, ap, ◌∙◌}
use mathlib.Core.Bool.{Bool, true, false, and-true, and_assoc, ◌&&◌, ◌||◌}
use mathlib.Core.List.{List, [], ◌∷◌, ◌++◌}
use Prim.Native.Nat.{ℕ, zero, suc, ◌+◌, ◌-◌, ◌≤◌}
use native.Mathlib.Omega.{arith}
use lib.Dec.{eqb, leb}
use lib.ListN.{length-drop, length-take, length, take, drop, replicate}
use borrow.Author.Tests.{ne_eqb, le-leb, eqb-true}
use Rattle.std.specs.List.{fold, zip}
use Rattle.byte_strings.specs.Strings.{all_of}
use Rattle.byte_strings.proofs.Flags.{nope, and_second}
use Rattle.text_classes.specs.Classes.{within, is_of}
use Rattle.text_classes.specs.declared.Class.TheVariants.{Digit, Hexadecimal}
use Rattle.text_patterns.specs.Patterns.{fits_byte, fits}

-- a byte of a class, and one that stands for itself
class_byte : (p : ℕ) (f : ℕ → Bool) → f p ≡ true → (b : ℕ) → (eqb p b || f b) ≡ f b
class_byte p f o b = go (eqb p b) refl
  where
    go : (t : Bool) → eqb p b ≡ t → (t || f b) ≡ f b
    go true e = sym o ∙ ap f (eqb-true p b e)
    go false e = refl

or_false : (a : Bool) → (a || false) ≡ a
or_false true = refl
or_false false = refl

pub fits_smaller : (p : ℕ) → 48 ≤ p → p ≤ 57 → (b : ℕ) → fits_byte p b ≡ within b 48 p
unfolding fits_byte
fits_smaller p l h b =
    let self : within p 48 p ≡ true = rw (le-leb 48 p l, le-leb p p (omega arith)) in
    rw (le-leb p 57 h, ne_eqb p 70 (λ e. omega arith), or_false (within b 48 p)) (class_byte p (λ (x : ℕ). within x 48 p) self b)

pub fits_digit : (b : ℕ) → fits_byte 57 b ≡ is_of Digit b
fits_digit = fits_smaller 57 (omega arith) (omega arith)

pub fits_hexadecimal : (b : ℕ) → fits_byte 70 b ≡ is_of Hexadecimal b
unfolding fits_byte
fits_hexadecimal b = class_byte 70 (is_of Hexadecimal) refl b

pub fits_itself : (p b : ℕ) → leb p 57 ≡ false → eqb p 70 ≡ false → fits_byte p b ≡ eqb p b
unfolding fits_byte
fits_itself p b d h = rw (d, h) (or_false (eqb p b))

-- as many bytes of a class as there are in v
module _ (p : ℕ) (f : ℕ → Bool) (same : (b : ℕ) → fits_byte p b ≡ f b) where
  pub fits_class : (n : ℕ) (v : List ℕ) → length v ≡ n → fits (replicate n p) v ≡ all_of f v
  fits_class zero [] l = refl
  fits_class zero (b ∷ v) l = absurd (omega arith)
  fits_class (suc n) [] l = absurd (omega arith)
  fits_class (suc n) (b ∷ v) l = rw (same b, fits_class n v (omega arith)) refl

-- a pattern is no longer than what fits it, and what follows does not matter
pub fits_length : (p s : List ℕ) → fits p s ≡ true → length p ≤ length s
fits_length [] s e = omega arith
fits_length (x ∷ p) [] e = nope (cc)
fits_length (x ∷ p) (b ∷ s) e = omega (arith, fits_length p s (and_second (fits_byte x b) (fits p s) e))

pub fits_front : (p s : List ℕ) → fits p (take (length p) s) ≡ fits p s
fits_front [] s = refl
fits_front (x ∷ p) [] = refl
fits_front (x ∷ p) (b ∷ s) = rw (fits_front p s) refl

-- one pattern after another
pub fits_append : (p q s : List ℕ) → fits (p ++ q) s ≡ (fits p s && fits q (drop (length p) s))
fits_append [] q s = refl
fits_append (x ∷ p) q [] = refl
fits_append (x ∷ p) q (b ∷ s) = rw (fits_append p q s) (sym (and_assoc (fits_byte x b) (fits p s) (fits q (drop (length p) s))))

-- the function fits: each byte of the pattern beside the one at its place, where there are enough
folded : (p s : List ℕ) (so : Bool) → length p ≤ length s → fold (λ good (q : ℕ × ℕ). good && fits_byte q.0 q.1) so (zip p s) ≡ (so && fits p s)
folded [] s so l = sym (and-true so)
folded (x ∷ p) [] so l = absurd (omega arith)
folded (x ∷ p) (b ∷ s) so l = folded p s (so && fits_byte x b) (omega arith) ∙ and_assoc so (fits_byte x b) (fits p s)

pub all_fit : (p s : List ℕ) (at : ℕ) (x : Bool) → at + length p ≤ length s → x ≡ fold (λ good (q : ℕ × ℕ). good && fits_byte q.0 q.1) true (zip p (take (at + length p - at) (drop at s))) → x ≡ fits p (drop at s)
all_fit p s at x l e =
    let n : at + length p - at ≡ length p = omega arith in
    let m : length p ≤ length (take (length p) (drop at s)) = omega (arith, length-take (length p) (drop at s), length-drop at s) in
    rw n at e ∙ folded p (take (length p) (drop at s)) true m ∙ fits_front p (drop at s)
