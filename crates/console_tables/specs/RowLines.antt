-- The tables that the console lends, and the rows that lines set (docs/CONSOLE.md). What is too short for its place has
-- zeros after it; what is too long is cut.
use Rattle.std.specs.Prelude.{ℕ, List, set, replicate}
use Rattle.row_types.specs.Lists.{padded}
use Rattle.row_types.specs.Slots.{free_slot}
use Rattle.row_types.specs.Registers.{free_register}
use Rattle.row_types.specs.declared.SlotRow.{SlotRow}
use Rattle.row_types.specs.declared.RegisterRow.{RegisterRow}
use Rattle.row_types.specs.declared.Tables.{Tables}
use Rattle.console_octets.specs.Octets.{octets_of}
use Rattle.console_words.specs.Words.{word, rest}

-- NAME FINGERPRINT TVP
unfoldable pub slot_of : ℕ → List ℕ → SlotRow
slot_of state d =
    record {
      state = state;
      kmcid = padded 40 (octets_of (word d));
      fingerprint = padded 16 (octets_of (word (rest d)));
      tvp = padded 16 (octets_of (rest (rest d)));
    }

-- CARD, beside the number of the mark (document 02, N3)
unfoldable pub register_of : ℕ → List ℕ → RegisterRow
register_of mark d = record { card = padded 256 (octets_of d); mark = mark }

-- so many rows, all zero
unfoldable pub empty_tables : ℕ → ℕ → Tables
empty_tables slot_count register_count =
    record {
      slots = replicate 8 free_slot;
      registers = replicate 32 free_register;
      slot_count = slot_count;
      register_count = register_count;
    }

-- a row in place k, counted from 0
unfoldable pub with_slot : ℕ → SlotRow → Tables → Tables
with_slot k row t = record t { slots = set t.slots k row }

unfoldable pub with_register : ℕ → RegisterRow → Tables → Tables
with_register k row t = record t { registers = set t.registers k row }
