-- The 16-bit cyclic redundancy check of 001 clause 5.2 and 003 clause 5.5: polynomial x^16 + x^15 + x^2 + 1, least
-- significant bit first (0xA001 is the polynomial with its bits reversed).
use Rattle.std.specs.Prelude.{ℕ, ◌*◌, ◌/◌, ◌%◌, List, [], ◌∷◌}
use Rattle.std.specs.Int.Bits.{bit_xor}

-- one bit: shift right, and where a 1 fell out, exclusive or with the polynomial
unfoldable pub crc_bit : ℕ → ℕ
crc_bit c = bit_xor (c / 2) (c % 2 * 0xA001)

-- eight bits
unfoldable pub crc_eight : ℕ → ℕ
crc_eight c = crc_bit (crc_bit (crc_bit (crc_bit (crc_bit (crc_bit (crc_bit (crc_bit c)))))))

-- a byte: into the low eight bits, then eight bits
unfoldable pub crc_byte : ℕ → ℕ → ℕ
crc_byte c b = crc_eight (bit_xor c b)

-- the check value of a list of bytes, from the value c
abbrev pub crc_of : ℕ → List ℕ → ℕ
crc_of c [] = c
crc_of c (b ∷ bs) = crc_of (crc_byte c b) bs

-- CRC-16/ARC starts at 0 (001 clause 5.2)
abbrev pub arc_of : List ℕ → ℕ
arc_of s = crc_of 0 s

-- CRC-16/MODBUS starts at FFFF hexadecimal (003 clause 5.5)
abbrev pub modbus_of : List ℕ → ℕ
modbus_of s = crc_of 0xFFFF s
