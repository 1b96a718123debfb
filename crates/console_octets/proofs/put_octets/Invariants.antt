-- What is left to write stands where the loop is to go on.
use Rattle.std.proofs.Common.{◌≡◌, ◌+◌, length}
use Rattle.std.proofs.lemmas.List.Edits.{sets}
use Rattle.console_octets.specs.Octets.{octets_of}
use Rattle.console_octets.proofs.put_octets.Given as goal

abbrev pub invariant-loop-left : goal.invariant-loop-left
invariant-loop-left l =
    (length l.left + (l.n + l.n) ≡ length l.digits)
    × (l.n + length (octets_of l.left) ≡ length (octets_of l.digits))
    × (sets l.dst l.n (octets_of l.left) ≡ sets l.fn.dst 0 (octets_of l.digits))

abbrev pub decreases-loop-left : goal.decreases-loop-left
decreases-loop-left l = length l.left
