-- What is left to write stands where the loop is to go on.
use Rattle.std.proofs.Common.{◌≡◌, ◌+◌, drop, map}
use Rattle.std.proofs.lemmas.List.Edits.{sets}
use Rattle.console_text.specs.Texts.{legible}
use Rattle.console_text.proofs.put_text.Given as goal

abbrev pub invariant-loop-b : goal.invariant-loop-b
invariant-loop-b l =
    (l.end ≡ l.at + l.b-index)
    × (sets l.dst l.end (map legible (drop l.b-index l.s)) ≡ sets l.fn.dst l.at (map legible l.s))
