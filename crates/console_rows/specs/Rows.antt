-- The rows in the form of the lines that set them (docs/CONSOLE.md).
use Rattle.std.specs.Prelude.{ℕ, List, ◌++◌}
use Rattle.row_types.specs.Lists.{in_turn}
use Rattle.row_types.specs.declared.SlotRow.{SlotRow}
use Rattle.row_types.specs.declared.RegisterRow.{RegisterRow}
use Rattle.row_types.specs.declared.Tables.{Tables}
use Rattle.console_row_lines.specs.OneRow.{slot_line, register_line}

abbrev pub slot_lines : List SlotRow → List ℕ
slot_lines rows = in_turn slot_line 0 rows

abbrev pub register_lines : List RegisterRow → List ℕ
register_lines rows = in_turn register_line 0 rows

unfoldable pub row_lines : Tables → List ℕ
row_lines t = slot_lines t.slots ++ register_lines t.registers
