-- What was told so far are the names at the places so far.
use Rattle.std.proofs.Common.{◌≡◌, ◌+◌, ◌*◌, ◌≤◌, length, take}
use Rattle.byte_strings.specs.Wrote.{Wrote}
use Rattle.response_slot_lists.proofs.ListedNames.{told}
use Rattle.response_slot_lists.proofs.put_names.Given as goal

abbrev pub invariant-loop-place : goal.invariant-loop-place
invariant-loop-place l = record {
  room : length l.dst ≡ length l.fn.dst;
  short : l.end ≤ l.at + 42 * l.place-index;
  wrote : Wrote l.fn.dst l.at (told l.fn.slots (take l.place-index l.place-items)) l.dst l.end;
}
