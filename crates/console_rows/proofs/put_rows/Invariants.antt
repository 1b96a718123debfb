-- What is told of a slot row, and of a register row.
use Rattle.console_row_lines.specs.OneRow.{slot_line, register_line}
use Rattle.console_rows.proofs.put_rows.Given as goal

abbrev pub ghost-put_each : goal.ghost-put_each
ghost-put_each a = slot_line

abbrev pub ghost-put_each-2 : goal.ghost-put_each-2
ghost-put_each-2 a = register_line
