-- The fields of a record, by the bounds that were noted of them.
use mathlib.Core.Path.{◌≡◌, sym, ap, ◌∙◌}
use mathlib.Core.Bool.{Bool, true, false, not}
use mathlib.Core.List.{List, [], ◌++◌}
use Prim.Native.Nat.{ℕ, ◌+◌, ◌-◌, ◌≤◌, ◌<◌}
use native.Mathlib.Omega.{arith}
use lib.Dec.{eqb}
use lib.ListN.{length, get_or, take, drop, take-append-drop}
use lib.Seq.{take-take, take-append_seam, length-take-le, get_or-take}
use borrow.Author.Tests.{eqb-true, not-false}
use Rattle.byte_strings.proofs.Flags.{nope, and_first, and_second}
use Rattle.byte_strings.proofs.StringLaws.{drop_take}
use Rattle.byte_bounds.specs.Bounds.{bytes_in, FitIn, nowhere}
use Rattle.byte_bounds.specs.declared.Bounds.{Bounds}
use Rattle.byte_pieces.specs.Pieces.{pieces, is_ended}
use Rattle.byte_pieces.proofs.Joined.{pieces_append}
use Rattle.record_parser.specs.Records.{body_of, field, AreFields}
use Rattle.record_parser.proofs.CutLaws.{is_cut}

-- a record that was found to be one has its fields
pub found_fields : (d n : ℕ) (fields : List Bounds) (s : List ℕ) (r : Bool) → (r ≡ true → AreFields d n fields s) → not r ≡ false → AreFields d n fields s
found_fields d n fields s r w o = w (not-false r o)

-- a field, by its bounds
module _ (d n : ℕ) (fields : List Bounds) (s : List ℕ) (w : AreFields d n fields s) (i : ℕ) (h : i ≤ n) where
  pub field_fits : FitIn (length s) (get_or fields i nowhere)
  unfolding AreFields
  field_fits = (w i h).0

  pub field_is : bytes_in s (get_or fields i nowhere) ≡ field d i s
  unfolding AreFields
  field_is = (w i h).1

  -- v is the part with the bounds of the field
  module _ (v : List ℕ) (e : v ≡ bytes_in s (get_or fields i nowhere)) where
    pub part_is : v ≡ field d i s
    part_is = e ∙ field_is

    -- a record inside it
    module _ (c m : ℕ) (inner : List Bounds) (k : AreFields c m inner (field d i s)) where
      pub part_fields : AreFields c m inner v
      part_fields = rw part_is k

-- u is the part of the part v with the bounds of a field of the record inside
pub inner_is : (d n : ℕ) (fields : List Bounds) (s : List ℕ) → AreFields d n fields s → (i : ℕ) → i ≤ n
    → (v : List ℕ) → v ≡ bytes_in s (get_or fields i nowhere) → (c m : ℕ) (inner : List Bounds) → AreFields c m inner (field d i s) → (j : ℕ) → j ≤ m
    → (u : List ℕ) → u ≡ bytes_in v (get_or inner j nowhere) → u ≡ field c j (field d i s)
inner_is d n fields s w i h v e c m inner k j l u p =
    part_is c m inner v (part_fields d n fields s w i h v e c m inner k) j l u p ∙ ap (field c j) (part_is d n fields s w i h v e)

-- what lies before the m-th byte
before : (m : ℕ) (s : List ℕ) (a : Bounds) → a.end ≤ m → bytes_in (take m s) a ≡ bytes_in s a
before m s a h =
    ap (take (a.end - a.start)) (drop_take a.start m s)
    ∙ take-take (a.end - a.start) (m - a.start) (drop a.start s) (omega arith)

front : (xs ys : List (List ℕ)) (i : ℕ) → i < length xs → get_or (xs ++ ys) i [] ≡ get_or xs i []
front xs ys i h = sym (get_or-take (length xs) (xs ++ ys) i [] h) ∙ ap (λ (l : List (List ℕ)). get_or l i []) (take-append_seam xs ys)

-- what is not a record has no fields
pub no_fields : (d n : ℕ) (fields : List Bounds) (s : List ℕ) (r : Bool) → r ≡ false → r ≡ true → AreFields d n fields s
no_fields d n fields s r p q = nope (cc)

-- the fields of the body are those of the record: the digits add no piece before them
module _ (d n : ℕ) (fields : List Bounds) (s b : List ℕ) (e : b ≡ body_of s) (r : Bool) (p : r ≡ is_cut d n b) (w : r ≡ true → AreFields d n fields b) where
  its_fields : (m : ℕ) → take m s ≡ b → m ≤ length s → r ≡ true → AreFields d n fields s
  unfolding AreFields field
  its_fields m q k o i h =
      let u : is_cut d n b ≡ true = sym p ∙ o in
      let ended = and_first (is_ended d b) (eqb (length (pieces d b)) (n + 1)) u in
      let many = eqb-true (length (pieces d b)) (n + 1) (and_second (is_ended d b) (eqb (length (pieces d b)) (n + 1)) u) in
      let f = w o i h in
      let g = f.0.1 in
      let c : length b ≡ m = sym (ap length q) ∙ length-take-le m s k in
      let v : pieces d s ≡ pieces d b ++ pieces d (drop m s) =
      ap (pieces d) (sym (take-append-drop m s) ∙ ap (λ (l : List ℕ). l ++ drop m s) q) ∙ pieces_append d b (drop m s) ended in
      let y : bytes_in b (get_or fields i nowhere) ≡ bytes_in s (get_or fields i nowhere) =
      ap (λ (l : List ℕ). bytes_in l (get_or fields i nowhere)) (sym q) ∙ before m s (get_or fields i nowhere) (omega arith) in
      ((f.0.0, omega arith), sym y ∙ f.1 ∙ sym (ap (λ (l : List (List ℕ)). get_or l i []) v ∙ front (pieces d b) (pieces d (drop m s)) i (omega arith)))

  pub body_fields : r ≡ true → AreFields d n fields s
  unfolding body_of
  body_fields o = its_fields (length s - 4) (sym e) (omega arith) o
