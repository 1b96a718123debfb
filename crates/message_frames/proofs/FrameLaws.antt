-- The length of an answered header.
use mathlib.Core.Path.{◌≡◌}
use mathlib.Core.List.{List}
use Prim.Native.Nat.{ℕ, ◌≤◌}
use native.Mathlib.Omega.{arith}
use lib.ListN.{length, length-append, length-drop}
use lib.Seq.{length-take-le}
use Rattle.message_frames.specs.Frames.{answered}

-- a response's header is as long as the request's
pub answered_length : (h : List ℕ) → 3 ≤ length h → length (answered h) ≡ length h
unfolding answered
answered_length h l = simp (length-append, length-drop) (omega (arith, length-take-le 2 h (omega arith)))
