-- What is left to write stands where the loop is to go on.
use Rattle.std.proofs.Common.{◌≡◌, ◌+◌, drop}
use Rattle.std.proofs.lemmas.List.Edits.{sets}
use Rattle.console_octets.specs.Octets.{digits_of}
use Rattle.console_octets.proofs.put_digits.Given as goal

abbrev pub invariant-loop-b : goal.invariant-loop-b
invariant-loop-b l =
    (l.end ≡ l.at + (l.b-index + l.b-index))
    × (sets l.dst l.end (digits_of (drop l.b-index l.bytes)) ≡ sets l.fn.dst l.at (digits_of l.bytes))
