-- What is written ends in its check value, and only that passes: what four bytes are read as, compared with a number, is
-- their digits compared.
use mathlib.Core.Path.{◌≡◌, refl, ap}
use mathlib.Core.Bool.{Bool, true, false}
use mathlib.Core.List.{List, [], ◌∷◌}
use Prim.Native.Nat.{ℕ, ◌+◌, ◌-◌, ◌<◌}
use native.Mathlib.Omega.{arith}
use lib.Dec.{eqb}
use lib.ListN.{length, take, drop, length-drop}
use borrow.Author.Tests.{le-leb, eq-eqb, eqb-true}
use Rattle.std.specs.Prelude.{Option, Some, None}
use Rattle.std.specs.Option.{option_eq}
use Rattle.byte_strings.specs.Strings.{same_bytes}
use Rattle.byte_strings.proofs.Flags.{both_ways}
use Rattle.byte_strings.proofs.StringLaws.{same_self, same_equal}
use Rattle.check_digits.specs.Hex.{hex4, read_hex4}
use Rattle.check_digits.proofs.RoundTrip.{hex4_read, hex4_only}
use Rattle.check_sums.specs.Checksum.{sum_of, sum_digits, ends_in_sum}
use Rattle.check_sums.specs.declared.Kind.{Kind}

-- what was read is the number n
abbrev pub is_sum : Option ℕ → ℕ → Bool
is_sum (Some v) n = eqb v n
is_sum None n = false

number_is : (h : Option ℕ) (n : ℕ) → is_sum h n ≡ true → h ≡ Some n
number_is (Some v) n e = ap Some (eqb-true v n e)
number_is None n e = absurd (cc)

only_four : (t : List ℕ) (v : ℕ) → length t ≡ 4 → read_hex4 t 0 ≡ Some v → hex4 v ≡ t
unfolding read_hex4
only_four [] v h e = absurd (omega arith)
only_four (a ∷ []) v h e = absurd (omega arith)
only_four (a ∷ b ∷ []) v h e = absurd (omega arith)
only_four (a ∷ b ∷ c ∷ []) v h e = absurd (omega arith)
only_four (a ∷ b ∷ c ∷ d ∷ []) v h e = hex4_only a b c d v e
only_four (a ∷ b ∷ c ∷ d ∷ x ∷ xs) v h e = absurd (omega arith)

-- THE LAW: four bytes are read as a number of 16 bits where they are its digits
pub read_same : (t : List ℕ) (n : ℕ) → length t ≡ 4 → n < 65536 → is_sum (read_hex4 t 0) n ≡ same_bytes t (hex4 n)
read_same t n l m =
    both_ways (is_sum (read_hex4 t 0) n) (same_bytes t (hex4 n))
    (λ e. rw (only_four t n l (number_is (read_hex4 t 0) n e)) (same_self t))
    (λ e. rw (same_equal t (hex4 n) e, hex4_read n [] m) (eq-eqb n n refl))

-- ends_in_sum: what was read of the last four bytes, compared with the check value of those before
pub compared : (k : Kind) (s b t : List ℕ) (c : ℕ) (h : Option ℕ) (r : Bool)
    → b ≡ take (length s - 4) s → t ≡ drop (length s - 4) s → length b + 4 ≡ length s
    → c < 65536 → c ≡ sum_of k b → h ≡ read_hex4 t 0 → r ≡ option_eq eqb h (Some c) → r ≡ ends_in_sum k s
unfolding ends_in_sum sum_digits
compared k s b t c h r p q l m e f g =
    let j : length t ≡ 4 = rw q (omega (arith, length-drop (length s - 4) s)) in
    rw (le-leb 4 (length s) (omega arith), ← p, ← q, ← e, ← read_same t c j m, ← f, g) (sums h)
  where
    sums : (o : Option ℕ) → option_eq eqb o (Some c) ≡ is_sum o c
    sums (Some v) = refl
    sums None = refl
