-- What is shown of bytes, and how long it is.
use mathlib.Core.Path.{◌≡◌, refl, ap, ◌∙◌}
use mathlib.Core.List.{List, [], ◌∷◌, ◌++◌, map}
use Prim.Native.Nat.{ℕ, ◌+◌, ◌≤◌}
use native.Mathlib.Omega.{arith}
use lib.ListN.{length}
use Rattle.byte_strings.specs.Wrote.{Wrote}
use Rattle.byte_strings.proofs.Writes.{then}
use Rattle.row_types.specs.Lists.{trimmed}
use Rattle.console_text.specs.Texts.{legible, or_dash, shown}

pub dash_short : (k : List ℕ) → length (or_dash k) ≤ length k + 1
dash_short [] = omega arith
dash_short (b ∷ k) = omega arith

-- nothing is - as text too
dash_legible : (k : List ℕ) → map legible (or_dash k) ≡ or_dash (map legible k)
unfolding legible
dash_legible [] = refl
dash_legible (b ∷ k) = refl

pub shown_written : {d e f : List ℕ} {a b r x : ℕ} (s k v : List ℕ) → k ≡ trimmed s → v ≡ or_dash k → Wrote d a (map legible v) e b → Wrote e b (x ∷ []) f r → Wrote d a (shown s ++ (x ∷ [])) f r
unfolding shown
shown_written s k v p q w u = rw (← p, ← dash_legible k, ← q) (then w u)
