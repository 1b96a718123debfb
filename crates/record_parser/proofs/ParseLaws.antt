-- The cases of the parser, each with what the code knows where it answers as premises.
use mathlib.Core.Path.{◌≡◌, refl, sym, ◌∙◌}
use mathlib.Core.Bool.{Bool, true, false, not, and-false, and_comm, ◌&&◌}
use mathlib.Core.List.{List, [], ◌∷◌, ◌++◌}
use Prim.Native.Nat.{ℕ, ◌+◌, ◌-◌, ◌≤◌, ◌<◌}
use native.Mathlib.Numerals.{add-one}
use native.Mathlib.Omega.{arith}
use lib.Dec.{leb, eqb}
use lib.ListN.{length, get_or, take}
use lib.Seq.{take-suc, length-take-le}
use borrow.Author.Tests.{eq-eqb, ne_eqb, le-leb, lt-leb, not-true, not-false}
use Rattle.byte_strings.specs.Strings.{same_bytes}
use Rattle.byte_strings.proofs.StringLaws.{same_behind}
use Rattle.byte_pieces.specs.Pieces.{pieces, is_ended}
use Rattle.check_sums.specs.Checksum.{ends_in_sum}
use Rattle.check_sums.specs.declared.Kind.TheVariants.{Modbus}
use Rattle.text_classes.specs.Classes.{are_all}
use Rattle.text_classes.specs.declared.Class.TheVariants.{Printable}
use Rattle.record_parser.specs.Records.{body_of, is_record}
use Rattle.record_parser.proofs.CutLaws.{is_cut}

-- body
pub no_body : (s : List ℕ) → length s < 4 → [] ≡ body_of s
unfolding body_of
no_body s h = let e : length s - 4 ≡ 0 = omega arith in rw e

pub a_body : (s : List ℕ) → take (length s - 4) s ≡ body_of s
unfolding body_of
a_body s = refl

-- has_type
module _ (t : List ℕ) (d : ℕ) (s : List ℕ) where
  abbrev starts : Bool
  starts = same_bytes (take (length t + 1) s) (t ++ (d ∷ []))

  module _ (h : length t < length s) where
    by_byte : starts ≡ (same_bytes (take (length t) s) t && eqb (get_or s (length t) 0) d)
    by_byte =
        rw (add-one, take-suc s (length t) 0 h)
        (same_behind (take (length t) s) t (get_or s (length t) 0) d (length-take-le (length t) s (omega arith)))

    pub other_delimiter : (get_or s (length t) 0 ≡ d → ⊥) → false ≡ starts
    other_delimiter o = rw (by_byte, ne_eqb (get_or s (length t) 0) d o) (sym (and-false (same_bytes (take (length t) s) t)))

    pub type_compared : get_or s (length t) 0 ≡ d → (r : Bool) → r ≡ same_bytes (take (length t) s) t → r ≡ starts
    type_compared o r p = rw (by_byte, eq-eqb (get_or s (length t) 0) d o, ← p) (and_comm true r)

  -- is_framed, a test after the other; the length is looked at first
  abbrev framed : Bool
  framed = starts && (leb (length t + 5) (length s) && ends_in_sum Modbus s)

  pub too_short : length s < 5 → false ≡ framed
  too_short h = simp (lt-leb (length t + 5) (length s) (omega arith), and-false)

  pub no_room : 5 ≤ length s → length s - 5 < length t → false ≡ framed
  no_room l h = simp (lt-leb (length t + 5) (length s) (omega arith), and-false)

  module _ (l : 5 ≤ length s) (h : length t ≤ length s - 5) (x : Bool) (p : x ≡ starts) where
    pub other_type : not x ≡ true → false ≡ framed
    other_type o = rw (← p, not-true x o)

    pub sum_tested : not x ≡ false → (u : Bool) → u ≡ ends_in_sum Modbus s → u ≡ framed
    sum_tested o u c = rw (← p, not-false x o, le-leb (length t + 5) (length s) (omega arith)) c

-- read_record: the frame, then the body
split : (a l m z : Bool) → (a && (l && (m && z))) ≡ (a && (l && m) && z)
split true true m z = refl
split true false m z = refl
split false l m z = refl

module _ (t : List ℕ) (d n : ℕ) (s : List ℕ) (x : Bool) (p : x ≡ framed t d s) where
  abbrev fielded : List ℕ → Bool
  fielded b = is_ended d b && (are_all Printable b && eqb (length (pieces d b)) (n + 1))

  by_body : is_record t d n s ≡ (x && fielded (body_of s))
  unfolding is_record
  by_body = rw p (split (starts t d s) (leb (length t + 5) (length s)) (ends_in_sum Modbus s) (fielded (body_of s)))

  pub not_framed : not x ≡ true → (r : Bool) → r ≡ false → r ≡ is_record t d n s
  not_framed o r q = rw (by_body, not-true x o) q

  module _ (o : not x ≡ false) (b : List ℕ) (e : b ≡ body_of s) (y : Bool) (f : y ≡ are_all Printable b) where
    pub unprintable : not y ≡ true → (r : Bool) → r ≡ false → r ≡ is_record t d n s
    unprintable k r q = rw (by_body, not-false x o, ← e, ← f, not-true y k) (q ∙ sym (and-false (is_ended d b)))

    pub cut : not y ≡ false → (r : Bool) → r ≡ is_cut d n b → r ≡ is_record t d n s
    cut k r q = rw (by_body, not-false x o, ← e, ← f, not-false y k) q
