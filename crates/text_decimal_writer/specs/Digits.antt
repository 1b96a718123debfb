-- A number as its decimal digits without leading zero (001 Table 6: the least number of digits).
use Rattle.std.specs.Prelude.{ℕ, zero, suc, ◌+◌, ◌/◌, ◌%◌, cond, List, [], ◌∷◌, ◌++◌, ltb}

-- the decimal digits of v without leading zero, of which there are at most k
unfoldable pub dec_digits : ℕ → ℕ → List ℕ
dec_digits zero v = []
dec_digits (suc k) v = cond (ltb v 10) ((48 + v) ∷ []) (dec_digits k (v / 10) ++ ((48 + v % 10) ∷ []))

-- a number below 10 ^ 10 as it is written
unfoldable pub decimal_bytes : ℕ → List ℕ
decimal_bytes v = dec_digits 10 v

-- a number below 10 ^ 20
unfoldable pub long_bytes : ℕ → List ℕ
long_bytes v = dec_digits 20 v
