-- `case_vectors::show_fields` ends: it reads at most as many fields as a message has bytes.
use Rattle.std.proofs.Common.{◌-◌, ◌≤◌}
use Rattle.case_vectors.proofs.show_fields.Given as goal

abbrev pub invariant-loop-k : goal.invariant-loop-k
invariant-loop-k g l = l.k ≤ 1024

abbrev pub decreases-loop-k : goal.decreases-loop-k
decreases-loop-k g l = 1024 - l.k
