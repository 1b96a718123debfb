-- A record as it is written (003 clause 5.8.1; document 01, Records).
use Rattle.std.specs.Prelude.{ℕ, List, ◌∷◌, ◌++◌}
use Rattle.byte_pieces.specs.Pieces.{joined}
use Rattle.check_sums.specs.Checksum.{sum_digits}
use Rattle.check_sums.specs.declared.Kind.TheVariants.{Modbus}

-- BUILD-RECORD(rectype, delim, n, I1 .. In) (003 clause 5.8.1): R || BASE16(C), where R is DFCONCAT (clause 5.7.1) of
-- the type and the fields, each with its delimiter
unfoldable pub record_bytes : List ℕ → ℕ → List (List ℕ) → List ℕ
record_bytes rectype delim fields =
    let r = joined delim (rectype ∷ fields) in r ++ sum_digits Modbus r
