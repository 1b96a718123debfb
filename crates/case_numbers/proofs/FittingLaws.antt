-- Bytes whose length is known from a first write of them, written again where they fit.
use mathlib.Core.List.{List}
use Prim.Native.Nat.{ℕ, ◌<◌, ◌≤◌}
use native.Mathlib.Omega.{arith}
use lib.ListN.{length}
use borrow.Author.Tests.{le-leb, lt-leb}
use Rattle.byte_strings.specs.Wrote.{Wrote}
use Rattle.byte_strings.proofs.Writes.{none}
use Rattle.case_numbers.specs.Fitting.{that_fit}

-- the bytes p were written from the start of z on, and n is the place after them
module _ {z f p : List ℕ} {n : ℕ} (u : Wrote z 0 p f n) where
  pub too_short : (d : List ℕ) → length d < n → Wrote d 0 (that_fit (length d) p) d 0
  too_short d h = rw (lt-leb (length p) (length d) (omega (arith, u.next))) (none d 0)

  pub fits : {d e : List ℕ} {r : ℕ} → n ≤ length d → Wrote d 0 p e r → Wrote d 0 (that_fit (length d) p) e r
  fits {d} h w = rw (le-leb (length p) (length d) (omega (arith, u.next))) w
