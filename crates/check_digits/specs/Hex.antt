-- Hexadecimal digits, 0-9 and A-F, capitals only (document 01; 003 clause 5.1.1), and a 16-bit number as four of
-- them, the high digit first.
use Rattle.std.specs.Prelude.{ℕ, ◌+◌, ◌-◌, ◌*◌, ◌/◌, ◌%◌, cond, List, [], ◌∷◌, ltb, leb, length, get_or}
use Rattle.std.specs.Prelude.{Option, Some, None}

-- the digit of a number below 16: 48 is 0, and 55 + 10 is A
unfoldable pub hex_digit : ℕ → ℕ
hex_digit n = cond (ltb n 10) (48 + n) (55 + n)

-- the number of a digit, where the byte is one
unfoldable pub hex_value : ℕ → Option ℕ
hex_value b =
    cond (ltb b 48) None
    (cond (ltb b 58) (Some (b - 48))  -- 0 to 9
    (cond (ltb b 65) None
    (cond (ltb b 71) (Some (b - 55))  -- A to F
    None)))

-- four digits, the high one first (document 01: the examples win over 001 clause 5.2's low byte first)
abbrev pub hex4 : ℕ → List ℕ
hex4 n = hex_digit (n / 4096) ∷ hex_digit (n / 256 % 16) ∷ hex_digit (n / 16 % 16) ∷ hex_digit (n % 16) ∷ []

-- the number of four digits, where each is one
abbrev pub from_digits : Option ℕ → Option ℕ → Option ℕ → Option ℕ → Option ℕ
from_digits (Some a) (Some b) (Some c) (Some d) = Some (a * 4096 + b * 256 + c * 16 + d)
from_digits a b c d = None

-- the four digits at a place of s
unfoldable pub read_hex4 : List ℕ → ℕ → Option ℕ
read_hex4 s at =
    cond (leb (at + 4) (length s))
    (from_digits
    (hex_value (get_or s at 0))
    (hex_value (get_or s (at + 1) 0))
    (hex_value (get_or s (at + 2) 0))
    (hex_value (get_or s (at + 3) 0)))
    None
