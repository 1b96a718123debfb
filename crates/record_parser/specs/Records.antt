-- Records (003 clause 5.8; document 01, Records): the type and the fields, each ended by the delimiter, then four
-- digits of the CRC-16/MODBUS of all that.
use Rattle.std.specs.Prelude.{ℕ, ◌+◌, ◌-◌, ◌≤◌, ◌≡◌, Bool, List, [], ◌∷◌, ◌++◌, leb, eqb, length, get_or, take}
use Rattle.byte_strings.specs.Strings.{same_bytes}
use Rattle.byte_strings.specs.Texts.{all}
use Rattle.byte_bounds.specs.Bounds.{bytes_in, FitIn, nowhere}
use Rattle.byte_bounds.specs.declared.Bounds.{Bounds}
use Rattle.byte_pieces.specs.Pieces.{pieces, is_ended}
use Rattle.check_sums.specs.Checksum.{ends_in_sum}
use Rattle.check_sums.specs.declared.Kind.TheVariants.{Modbus}
use Rattle.text_classes.specs.Classes.{are_all}
use Rattle.text_classes.specs.declared.Class.TheVariants.{Printable}

-- R of the split of S into R || C': what stands before the last four characters
unfoldable pub body_of : List ℕ → List ℕ
body_of s = take (length s - 4) s

-- the k-th field, counted from 1, and the type for 0; the four digits are none, as no delimiter ends them
unfoldable pub field : ℕ → ℕ → List ℕ → List ℕ
field delimiter k s = get_or (pieces delimiter s) k []

-- the bounds of the type and of the first n fields
unfoldable pub AreFields : ℕ → ℕ → List Bounds → List ℕ → Type 0
AreFields delimiter n fields s = (i : ℕ) → i ≤ n
    → FitIn (length s) (get_or fields i nowhere) × (bytes_in s (get_or fields i nowhere) ≡ field delimiter i s)

-- PARSE-RECORD(rectype, delim, n, S) (003 clause 5.8.2), with DFPARSE(delim, R) (clause 5.7.2)
unfoldable pub is_record : List ℕ → ℕ → ℕ → List ℕ → Bool
is_record rectype delim n s =
    all (
    same_bytes (take (length rectype + 1) s) (rectype ++ (delim ∷ []))  -- S starts with rectype || delim
    ∷ leb (length rectype + 5) (length s)  -- OctetLen(S) is at least OctetLen(rectype) + 5
    ∷ ends_in_sum Modbus s  -- C' = BASE16(C)
    ∷ is_ended delim (body_of s)  -- DFPARSE: the last octet in R is delim
    ∷ are_all Printable (body_of s)  -- DFPARSE: every octet in R is printable ASCII
    ∷ eqb (length (pieces delim (body_of s))) (n + 1)  -- n fields after the type
    ∷ [])
