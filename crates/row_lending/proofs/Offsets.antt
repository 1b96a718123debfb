-- How code finds element i of an array of elements of s bytes that lies in a local: its offset is i * s, made in a local of its own; or, where s is 1, i itself.
-- Assumes nothing: this is a definition.
use mathlib.Core.Path.{◌≡◌}
use Prim.Native.Nat.{ℕ, ◌^◌}
use lib.Dec.{T, ltb}

pub data Offset (s : ℕ) : Type 0 where
  product : T (ltb s (2 ^ 64)) → Offset s
  index : s ≡ 1 → Offset s
