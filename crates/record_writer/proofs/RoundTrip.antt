-- What is built is parsed, field by field, and only what could be built is parsed.
use mathlib.Core.Path.{◌≡◌, refl, sym, ap, ◌∙◌}
use mathlib.Core.Bool.{Bool, true, false, ◌&&◌}
use mathlib.Core.List.{List, [], ◌∷◌, ◌++◌, append_assoc}
use Prim.Native.Nat.{ℕ, ◌+◌, ◌-◌, ◌≤◌}
use native.Mathlib.Numerals.{add-one}
use native.Mathlib.Omega.{arith}
use lib.Dec.{leb, eqb}
use lib.ListN.{length, get_or, take, drop, length-append, take-append-drop}
use lib.Seq.{take_at, take-take}
use borrow.Author.Tests.{eq-eqb, le-leb, leb-true}
use Rattle.byte_strings.specs.Strings.{all_of, is_not, same_bytes}
use Rattle.byte_pieces.specs.Pieces.{pieces, is_ended, joined}
use Rattle.byte_strings.proofs.Flags.{and_first, and_second, and_both}
use Rattle.byte_strings.proofs.StringLaws.{all_append, same_self, same_equal}
use Rattle.byte_pieces.proofs.PieceLaws.{pieces_cons}
use Rattle.check_digits.specs.Hex.{hex_digit}
use Rattle.check_sums.specs.Checksum.{sum_digits, ends_in_sum}
use Rattle.check_sums.specs.declared.Kind.TheVariants.{Modbus}
use Rattle.check_sums.proofs.RoundTrip.{digits_pass, sum_ends, sum_only}
use Rattle.text_classes.specs.Classes.{is_of, are_all}
use Rattle.text_classes.specs.declared.Class.TheVariants.{Hexadecimal, Printable}
use Rattle.text_classes.proofs.ClassLaws.{class_plain}
use Rattle.text_classes.proofs.Printable.{printable_bytes}
use Rattle.record_parser.specs.Records.{body_of, field, is_record}
use Rattle.record_writer.specs.Build.{record_bytes}
use Rattle.byte_pieces.proofs.Joined.{pieces_behind, joined_ended, pieces_joined}

-- what the type and each field must be: printable, without the delimiter (003 clause 5.8)
abbrev pub is_field : ℕ → List ℕ → Bool
is_field d v = are_all Printable v && all_of (is_not d) v

abbrev pub are_fields : ℕ → List (List ℕ) → Bool
are_fields d [] = true
are_fields d (v ∷ vs) = is_field d v && are_fields d vs

-- the four digits of a printable string are printable, and hold no delimiter that is no digit
module _ (s : List ℕ) (e : are_all Printable s ≡ true) where
  digits_hexadecimal : are_all Hexadecimal (sum_digits Modbus s) ≡ true
  unfolding are_all hex_digit
  digits_hexadecimal = digits_pass (is_of Hexadecimal) tt Modbus s (printable_bytes s e)

  digits_plain : (d : ℕ) → is_of Hexadecimal d ≡ false → all_of (is_not d) (sum_digits Modbus s) ≡ true
  digits_plain d h = class_plain Hexadecimal d (sum_digits Modbus s) h digits_hexadecimal

joined_printable : (d : ℕ) → is_of Printable d ≡ true → (ps : List (List ℕ)) → are_fields d ps ≡ true → are_all Printable (joined d ps) ≡ true
unfolding are_all
joined_printable d h [] e = refl
joined_printable d h (p ∷ ps) e =
    let f : is_field d p ≡ true = and_first (is_field d p) (are_fields d ps) e in
    let g : all_of (is_of Printable) p ≡ true = and_first (are_all Printable p) (all_of (is_not d) p) f in
    let i : all_of (is_of Printable) (joined d ps) ≡ true = joined_printable d h ps (and_second (is_field d p) (are_fields d ps) e) in
    all_append (is_of Printable) p (d ∷ joined d ps) g (and_both (is_of Printable d) _ h i)

joined_pieces : (d : ℕ) (ps : List (List ℕ)) → are_fields d ps ≡ true → pieces d (joined d ps) ≡ ps
joined_pieces d [] e = refl
joined_pieces d (p ∷ ps) e =
    let f : is_field d p ≡ true = and_first (is_field d p) (are_fields d ps) e in
    pieces_cons d p (joined d ps) (and_second (are_all Printable p) (all_of (is_not d) p) f)
    ∙ ap (λ (l : List (List ℕ)). p ∷ l) (joined_pieces d ps (and_second (is_field d p) (are_fields d ps) e))

-- before the digits stands what they are the digits of
body_back : (b : List ℕ) → body_of (b ++ sum_digits Modbus b) ≡ b
unfolding body_of sum_digits
body_back b =
    let t = sum_digits Modbus b in
    take_at b t (length (b ++ t) - 4) (omega (arith, length-append b t))

-- THE LAW: what is built of a type and fields is parsed as that type with those fields
module _ (d : ℕ) (p : is_of Printable d ≡ true) (h : is_of Hexadecimal d ≡ false) (kind : List ℕ) (fields : List (List ℕ)) (e : are_fields d (kind ∷ fields) ≡ true) where
  built_printable : are_all Printable (joined d (kind ∷ fields)) ≡ true
  built_printable = joined_printable d p (kind ∷ fields) e

  built_pieces : pieces d (record_bytes kind d fields) ≡ kind ∷ fields
  unfolding record_bytes
  built_pieces =
      let b = joined d (kind ∷ fields) in
      pieces_behind d b (sum_digits Modbus b) (digits_plain b built_printable d h) ∙ joined_pieces d (kind ∷ fields) e

  -- it starts with the type and the delimiter, which more bytes follow than the digits
  built_start : take (length kind + 1) (record_bytes kind d fields) ≡ kind ++ (d ∷ [])
  unfolding record_bytes
  built_start =
      let b = joined d (kind ∷ fields) in
      let t = sum_digits Modbus b in
      let e : b ++ t ≡ (kind ++ (d ∷ [])) ++ (joined d fields ++ t) = rw (append_assoc kind (d ∷ joined d fields) t, append_assoc kind (d ∷ []) (joined d fields ++ t)) in
      rw e (take_at (kind ++ (d ∷ [])) (joined d fields ++ t) (length kind + 1) (length-append kind (d ∷ [])))

  pub built_parses : is_record kind d (length fields) (record_bytes kind d fields) ≡ true
  unfolding is_record record_bytes are_all sum_digits
  built_parses =
      let b = joined d (kind ∷ fields) in
      let s = b ++ sum_digits Modbus b in
      let h : same_bytes (take (length kind + 1) s) (kind ++ (d ∷ [])) ≡ true = rw built_start (same_self (kind ++ (d ∷ []))) in
      let n : length kind + 5 ≤ length s = omega (arith, length-append b (sum_digits Modbus b), length-append kind (d ∷ joined d fields)) in
      let i : body_of s ≡ b = body_back b in
      let j : ends_in_sum Modbus s ≡ true = sum_ends Modbus b in
      let k : is_ended d b ≡ true = joined_ended d (kind ∷ fields) in
      let l : all_of (is_of Printable) b ≡ true = built_printable in
      let m : eqb (length (pieces d b)) (length fields + 1) ≡ true = eq-eqb (length (pieces d b)) (length fields + 1) (ap length (joined_pieces d (kind ∷ fields) e) ∙ omega arith) in
      rw (h, le-leb (length kind + 5) (length s) n, i, j, k, l, m)

  pub built_type : field d 0 (record_bytes kind d fields) ≡ kind
  unfolding field
  built_type = rw built_pieces

  pub built_field : (k : ℕ) → field d (k + 1) (record_bytes kind d fields) ≡ get_or fields k []
  unfolding field
  built_field k = rw (built_pieces, add-one)

-- AND ONLY THAT: what is parsed is what would be built of its type and its fields; the type holds no delimiter (003 clause 5.8)
module _ (d n : ℕ) (h : is_of Hexadecimal d ≡ false) (kind s : List ℕ) (c : all_of (is_not d) kind ≡ true) (e : is_record kind d n s ≡ true) where
  abbrev fielded : Bool
  fielded = is_ended d (body_of s) && (are_all Printable (body_of s) && eqb (length (pieces d (body_of s))) (n + 1))

  its_start : take (length kind + 1) s ≡ kind ++ (d ∷ [])
  unfolding is_record
  its_start = same_equal (take (length kind + 1) s) (kind ++ (d ∷ [])) (and_first (same_bytes (take (length kind + 1) s) (kind ++ (d ∷ []))) _ e)

  after_type : (leb (length kind + 5) (length s) && (ends_in_sum Modbus s && fielded)) ≡ true
  unfolding is_record
  after_type = and_second (same_bytes (take (length kind + 1) s) (kind ++ (d ∷ []))) _ e

  after_length : (ends_in_sum Modbus s && fielded) ≡ true
  after_length = and_second (leb (length kind + 5) (length s)) _ after_type

  its_length : length kind + 5 ≤ length s
  its_length = leb-true (length kind + 5) (length s) (and_first (leb (length kind + 5) (length s)) _ after_type)

  its_fields : fielded ≡ true
  its_fields = and_second (ends_in_sum Modbus s) _ after_length

  its_ended : is_ended d (body_of s) ≡ true
  its_ended = and_first (is_ended d (body_of s)) _ its_fields

  its_printable : are_all Printable (body_of s) ≡ true
  its_printable = and_first (are_all Printable (body_of s)) _ (and_second (is_ended d (body_of s)) _ its_fields)

  pub its_digits : s ≡ body_of s ++ sum_digits Modbus (body_of s)
  unfolding body_of
  its_digits = sum_only Modbus s (and_first (ends_in_sum Modbus s) _ after_length)

  -- the digits are no field
  pub its_pieces : pieces d s ≡ pieces d (body_of s)
  its_pieces = ap (pieces d) its_digits ∙ pieces_behind d (body_of s) (sum_digits Modbus (body_of s)) (digits_plain (body_of s) its_printable d h)

  -- the type is the first piece
  its_type : pieces d (body_of s) ≡ kind ∷ drop 1 (pieces d (body_of s))
  unfolding body_of
  its_type =
      let m = length kind + 1 in
      let b = take (length s - 4) s in
      let i : take m b ≡ kind ++ (d ∷ []) = take-take m (length s - 4) s (omega (arith, its_length)) ∙ its_start in
      let j : b ≡ kind ++ (d ∷ drop m b) = sym (take-append-drop m b) ∙ ap (λ (l : List ℕ). l ++ drop m b) i ∙ append_assoc kind (d ∷ []) (drop m b) in
      let k : pieces d b ≡ kind ∷ pieces d (drop m b) = ap (pieces d) j ∙ pieces_cons d kind (drop m b) c in
      k ∙ ap (λ (l : List (List ℕ)). kind ∷ drop 1 l) (sym k)

  its_body : joined d (kind ∷ drop 1 (pieces d s)) ≡ body_of s
  its_body = rw its_pieces (ap (joined d) (sym its_type) ∙ pieces_joined d (body_of s) its_ended)

  pub parsed_built : s ≡ record_bytes kind d (drop 1 (pieces d s))
  unfolding record_bytes
  parsed_built = rw its_body its_digits
