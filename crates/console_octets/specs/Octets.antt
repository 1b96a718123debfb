-- Octets as two hexadecimal digits each, the high digit first.
use Rattle.std.specs.Prelude.{ℕ, ◌+◌, ◌*◌, ◌/◌, ◌%◌, unwrap_or, List, [], ◌∷◌}
use Rattle.check_digits.specs.Hex.{hex_digit, hex_value}

abbrev pub digits_of : List ℕ → List ℕ
digits_of [] = []
digits_of (b ∷ bs) = hex_digit (b / 16) ∷ hex_digit (b % 16) ∷ digits_of bs

-- the octet of two digits; a byte that is no digit counts 16
unfoldable pub octet_of : ℕ → ℕ → ℕ
octet_of a b = (unwrap_or (hex_value a) 16 * 16 + unwrap_or (hex_value b) 16) % 256

-- the octets of pairs of digits; a last digit without its fellow is none
abbrev pub octets_of : List ℕ → List ℕ
octets_of [] = []
octets_of (a ∷ []) = []
octets_of (a ∷ b ∷ ds) = octet_of a b ∷ octets_of ds
