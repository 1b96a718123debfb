-- The check value of bytes fits 16 bits.
use mathlib.Core.List.{List, [], ◌∷◌}
use Prim.Native.Nat.{ℕ, suc, ◌*◌, ◌/◌, ◌%◌, ◌<◌}
use native.Mathlib.Omega.{arith}
use lib.Bits.{xor_lt}
use lib.ListN.{get_or}
use Rattle.check_crc.specs.Crc.{crc_bit, crc_eight, crc_byte, crc_of}

bit_bound : (c : ℕ) → c < 65536 → crc_bit c < 65536
unfolding crc_bit
bit_bound c h = xor_lt 16 (c / 2) (c % 2 * 0xA001) (omega arith) (omega arith)

eight_bound : (c : ℕ) → c < 65536 → crc_eight c < 65536
unfolding crc_eight
eight_bound c h =
    bit_bound _ (bit_bound _ (bit_bound _ (bit_bound _ (bit_bound _ (bit_bound _ (bit_bound _ (bit_bound c h)))))))

pub byte_bound : (c b : ℕ) → c < 65536 → b < 256 → crc_byte c b < 65536
unfolding crc_byte
byte_bound c b h l = eight_bound _ (xor_lt 16 c b h (omega arith))

pub crc_bound : (c : ℕ) (s : List ℕ) → c < 65536 → ((i : ℕ) → get_or s i 0 < 256) → crc_of c s < 65536
crc_bound c [] h g = h
crc_bound c (b ∷ bs) h g = crc_bound (crc_byte c b) bs (byte_bound c b h (g 0)) (λ i. g (suc i))
