-- Each place is that of a row, whose name is told; and they are the places by name.
use Rattle.std.proofs.Common.{rules, arith}
use Rattle.response_slot_lists.proofs.ListedNames.{all_told, place_below, place_fits, name_told}
use Rattle.response_slot_lists.proofs.put_names.Goals as goal

pub offset_bounds-slots-place : goal.offset_bounds-slots-place
offset_bounds-slots-place c = search (place_fits, rules)

pub bounds-slots-place : goal.bounds-slots-place
bounds-slots-place c = search (place_below, rules)

pub loop-place-preserved : goal.loop-place-preserved
loop-place-preserved c = record { room = omega arith; short = omega arith; wrote = search (name_told, rules) }

pub returns-clause-writes : goal.returns-clause-writes
returns-clause-writes c = search (all_told, rules)
