-- The rows for people: the line `show` (docs/CONSOLE.md).
use Rattle.std.specs.Prelude.{ℕ, ◌+◌, List, ◌++◌}
use Rattle.row_types.specs.Lists.{in_turn}
use Rattle.row_types.specs.declared.RegisterRow.{RegisterRow}
use Rattle.row_types.specs.declared.Tables.{Tables}
use Rattle.engine.specs.Usable.{is_usable}
use Rattle.console_shown_rows.specs.OneRow.{slot_shown, register_shown, counts_shown}

-- a register row of the tables; the place k counts from 0, and registers are numbered from 1
unfoldable pub register_in : Tables → ℕ → RegisterRow → List ℕ
register_in t k r = register_shown (is_usable t (k + 1)) k r

unfoldable pub shown_rows : Tables → List ℕ
shown_rows t = counts_shown t ++ (in_turn slot_shown 0 t.slots ++ in_turn (register_in t) 0 t.registers)
