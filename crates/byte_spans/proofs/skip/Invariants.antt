-- No delimiter stands before the place.
use Rattle.std.proofs.Common.{◌≡◌, true, ◌≤◌, ◌-◌, length, take}
use Rattle.byte_strings.specs.Strings.{is_not, all_of}
use Rattle.byte_spans.proofs.skip.Given as goal

abbrev pub invariant-loop-at : goal.invariant-loop-at
invariant-loop-at l = (l.at ≤ length l.s) × (all_of (is_not l.delimiter) (take l.at l.s) ≡ true)

abbrev pub decreases-loop-at : goal.decreases-loop-at
decreases-loop-at l = length l.s - l.at
