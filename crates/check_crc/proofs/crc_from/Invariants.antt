-- The check value from the value so far, of the bytes that are left, is the whole; and before the last turn there are
-- eight bytes more.
use Rattle.std.proofs.Common.{◌≤◌, ◌-◌, length, drop}
use Rattle.check_crc.specs.Crc.{crc_of}
use Rattle.check_crc.proofs.Steps.{SoFar, Ready}
use Rattle.check_crc.proofs.crc_from.Given as goal

abbrev pub invariant-loop-eight : goal.invariant-loop-eight
invariant-loop-eight l = (l.i ≤ length l.s) × Ready (length l.s - l.i) l.v l.lacks × SoFar (crc_of l.start l.s) l.v l.lacks (drop l.i l.s)

abbrev pub decreases-loop-eight : goal.decreases-loop-eight
decreases-loop-eight l = length l.s - l.i
