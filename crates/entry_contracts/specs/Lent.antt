-- Tables of the very rows that are lent.
use Rattle.std.specs.Prelude.{List, length}
use Rattle.row_types.specs.declared.SlotRow.{SlotRow}
use Rattle.row_types.specs.declared.RegisterRow.{RegisterRow}
use Rattle.row_types.specs.declared.Tables.{Tables}

abbrev pub lent_tables : List SlotRow → List RegisterRow → Tables
lent_tables slots registers = record {
  slots = slots;
  registers = registers;
  slot_count = length slots;
  register_count = length registers;
}
