-- The console's state, and what a line that hands nothing in does to it (docs/CONSOLE.md). r is what stands after the
-- line's first space.
use Rattle.std.specs.Prelude.{ℕ, Bool, true, cond, List, ltb, Option, Some, None}
use Rattle.row_types.specs.declared.Supplement.{Supplement}
use Rattle.row_types.specs.declared.Tables.{Tables}
use Rattle.console_words.specs.Words.{rest}
use Rattle.console_lines.specs.declared.Line.{Line}
use Rattle.console_lines.specs.declared.Line.TheVariants as line
use Rattle.console_supplement.specs.Parts.{with_part, with_passed, start_supplement}
use Rattle.console_tables.specs.RowLines.{slot_of, register_of, empty_tables, with_slot, with_register}
use Rattle.console_state.specs.declared.Console.{Console}

-- the line sets no row, or one that the tables have
abbrev pub has_row : Tables → Line → Bool
has_row t (line.Slot k s) = ltb k t.slot_count
has_row t (line.Register k m) = ltb k t.register_count
has_row t line.Nothing = true
has_row t (line.Tables m n) = true
has_row t (line.Buffer n) = true
has_row t (line.Set p) = true
has_row t (line.Passed n) = true
has_row t line.Send = true
has_row t line.Raw = true
has_row t line.Rows = true
has_row t (line.Usable k) = true
has_row t line.Show = true

-- a line that sets a row that the tables lack is in no form
abbrev pub checked : Tables → Option Line → Option Line
checked t None = None
checked t (Some l) = cond (has_row t l) (Some l) None

abbrev pub with_tables : Tables → Console → Console
with_tables t c = record c { tables = t }

abbrev pub with_supplement : Supplement → Console → Console
with_supplement x c = record c { supplement = x }

-- 8 slot rows, 32 register rows, a buffer of 1,024 bytes
unfoldable pub start : Console
start = record { tables = empty_tables 8 32; supplement = start_supplement; room = 1024 }

-- the other lines leave the state
abbrev pub set_by : Console → Line → List ℕ → Console
set_by c (line.Tables m n) r = with_tables (empty_tables m n) c
set_by c (line.Buffer n) r = record c { room = n }
set_by c (line.Set p) r = with_supplement (with_part p r c.supplement) c
set_by c (line.Passed n) r = with_supplement (with_passed n c.supplement) c
set_by c (line.Slot k s) r = with_tables (with_slot k (slot_of s (rest (rest r))) c.tables) c
set_by c (line.Register k m) r = with_tables (with_register k (register_of m (rest (rest r))) c.tables) c
set_by c line.Nothing r = c
set_by c line.Send r = c
set_by c line.Raw r = c
set_by c line.Rows r = c
set_by c (line.Usable k) r = c
set_by c line.Show r = c
