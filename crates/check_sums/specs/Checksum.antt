-- The check value that ends a message (CRC-16/ARC: document 01, Checksum and fields) or a record (CRC-16/MODBUS: 003
-- clause 5.8).
use Rattle.std.specs.Prelude.{ℕ, ◌-◌, Bool, List, [], ◌∷◌, leb, length, take, drop}
use Rattle.byte_strings.specs.Strings.{same_bytes}
use Rattle.byte_strings.specs.Texts.{all}
use Rattle.check_crc.specs.Crc.{arc_of, modbus_of}
use Rattle.check_digits.specs.Hex.{hex4}
use Rattle.check_sums.specs.declared.Kind.{Kind}
use Rattle.check_sums.specs.declared.Kind.TheVariants.{Arc, Modbus}

abbrev pub sum_of : Kind → List ℕ → ℕ
sum_of Arc s = arc_of s  -- 001 clause 5.2
sum_of Modbus s = modbus_of s  -- 003 clause 5.5

-- its four digits, as they are written behind s: BASE16(C)
unfoldable pub sum_digits : Kind → List ℕ → List ℕ
sum_digits kind s = hex4 (sum_of kind s)

-- the last four bytes are the digits of the sum of all before them (001 clause 5.3.1; 003 clause 5.8.2, steps 2 to 5)
unfoldable pub ends_in_sum : Kind → List ℕ → Bool
ends_in_sum kind s =
    all (
    leb 4 (length s)
    ∷ same_bytes (drop (length s - 4) s) (sum_digits kind (take (length s - 4) s))
    ∷ [])
