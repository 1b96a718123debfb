-- Decimal numbers: read, and in a range without leading zero.
use Rattle.std.specs.Prelude.{ℕ, ◌+◌, ◌-◌, ◌*◌, Bool, not, ◌||◌, List, [], ◌∷◌, leb, eqb, length, get_or}
use Prim.Native.Char.{code}
use Rattle.byte_strings.specs.Texts.{all}
use Rattle.text_classes.specs.Classes.{are_all}
use Rattle.text_classes.specs.declared.Class.TheVariants.{Digit}

-- the number of the decimal digits bs after those of v; the digit 0 is the byte 48
abbrev pub dec_from : ℕ → List ℕ → ℕ
dec_from v [] = v
dec_from v (b ∷ bs) = dec_from (v * 10 + (b - 48)) bs

-- the number that decimal digits say
abbrev pub decimal : List ℕ → ℕ
decimal s = dec_from 0 s

-- no leading zero
unfoldable pub is_unpadded : List ℕ → Bool
is_unpadded v = eqb (length v) 1 || not (eqb (get_or v 0 0) (code "0"))

-- a decimal number from low to high, of 1 to so many digits, without leading zero (001 Table 6; document 01, Cards)
unfoldable pub is_number : ℕ → ℕ → ℕ → List ℕ → Bool
is_number digits low high v =
    all (
    leb 1 (length v)
    ∷ leb (length v) digits
    ∷ are_all Digit v
    ∷ is_unpadded v
    ∷ leb low (decimal v)
    ∷ leb (decimal v) high
    ∷ [])
