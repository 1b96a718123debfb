-- How long octets are as digits.
use mathlib.Core.Path.{◌≡◌, refl}
use mathlib.Core.List.{List, [], ◌∷◌}
use Prim.Native.Nat.{ℕ, ◌+◌}
use native.Mathlib.Omega.{arith}
use lib.ListN.{length}
use Rattle.console_octets.specs.Octets.{digits_of}

pub digits_length : (s : List ℕ) → length (digits_of s) ≡ length s + length s
digits_length [] = refl
digits_length (b ∷ bs) = omega (arith, digits_length bs)
