-- What is told of a slot row, and of a register row of the tables.
use Rattle.console_shown_rows.specs.OneRow.{slot_shown}
use Rattle.console_show.specs.Shown.{register_in}
use Rattle.console_show.proofs.put_show.Given as goal

abbrev pub ghost-put_each : goal.ghost-put_each
ghost-put_each a = slot_shown

abbrev pub ghost-put_each-2 : goal.ghost-put_each-2
ghost-put_each-2 a = register_in a.put.0.now
