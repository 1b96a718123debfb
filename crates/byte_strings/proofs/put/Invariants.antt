-- What is left of the piece, from the i-th byte on, is to be stored.
use Rattle.std.proofs.Common.{◌≡◌, ◌+◌, drop}
use Rattle.std.proofs.lemmas.List.Edits.{sets}
use Rattle.byte_strings.proofs.put.Given as goal

abbrev pub invariant-loop-i : goal.invariant-loop-i
invariant-loop-i l = sets l.dst (l.at + l.i) (drop l.i l.src) ≡ sets l.fn.dst l.at l.src
