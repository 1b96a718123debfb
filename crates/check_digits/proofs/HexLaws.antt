-- Four digits written one after the other.
use mathlib.Core.Path.{◌≡◌}
use mathlib.Core.List.{List, [], ◌∷◌}
use Prim.Native.Nat.{ℕ, ◌/◌, ◌%◌}
use Rattle.byte_strings.specs.Wrote.{Wrote}
use Rattle.byte_strings.proofs.Writes.{then}
use Rattle.check_digits.specs.Hex.{hex_digit, hex4}

-- put_hex4
pub four_written : {d e f g h : List ℕ} {a i j k l : ℕ} (n w x y z : ℕ) → w ≡ hex_digit (n / 4096) → x ≡ hex_digit (n / 256 % 16) → y ≡ hex_digit (n / 16 % 16) → z ≡ hex_digit (n % 16)
    → Wrote d a (w ∷ []) e i → Wrote e i (x ∷ []) f j → Wrote f j (y ∷ []) g k → Wrote g k (z ∷ []) h l → Wrote d a (hex4 n) h l
four_written n w x y z p q r s t u v o = rw (← p, ← q, ← r, ← s) (then t (then u (then v o)))
