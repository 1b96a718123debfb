-- One row for people, and how many rows there are: the line `show` (docs/CONSOLE.md). Of a row that is all zero nothing
-- is shown.
use Rattle.std.specs.Prelude.{ℕ, ◌+◌, Bool, cond, List, [], ◌∷◌, ◌++◌, eqb}
use Rattle.byte_strings.specs.Texts.{text}
use Rattle.text_decimal_writer.specs.Digits.{decimal_bytes, long_bytes}
use Rattle.row_types.specs.Slots.{is_zero_slot}
use Rattle.row_types.specs.Registers.{closed_mark, open_mark}
use Rattle.row_types.specs.declared.SlotRow.{SlotRow}
use Rattle.row_types.specs.declared.RegisterRow.{RegisterRow}
use Rattle.row_types.specs.declared.Tables.{Tables}
use Rattle.register_rows.specs.ZeroRegisters.{is_zero_register}
use Rattle.console_prints.specs.Prints.{line_bytes}
use Rattle.console_states.specs.States.{state_name}
use Rattle.console_text.specs.Texts.{shown}

-- usable, unusable
abbrev pub usable_shown : Bool → List ℕ
usable_shown b = cond b (text "usable") (text "unusable")

-- slot K STATE NAME FINGERPRINT TVP, with ? for the number of no state; the place k counts from 0, K from 1
unfoldable pub slot_shown : ℕ → SlotRow → List ℕ
slot_shown k r =
    cond (is_zero_slot r) []
    (line_bytes (
    text "slot"
    ∷ decimal_bytes (k + 1)
    ∷ state_name (text "?") r.state
    ∷ shown r.kmcid
    ∷ shown r.fingerprint
    ∷ shown r.tvp
    ∷ []))

-- closed, open, or mark N for the number N of no mark (document 02, N3)
unfoldable pub mark_shown : ℕ → List ℕ
mark_shown n =
    cond (eqb n closed_mark) (text "closed")
    (cond (eqb n open_mark) (text "open")
    (text "mark " ++ decimal_bytes n))

-- register K MARK USABLE CARD
unfoldable pub register_shown : Bool → ℕ → RegisterRow → List ℕ
register_shown b k r =
    cond (is_zero_register r) []
    (line_bytes (
    text "register"
    ∷ decimal_bytes (k + 1)
    ∷ mark_shown r.mark
    ∷ usable_shown b
    ∷ shown r.card
    ∷ []))

-- S slot rows, R register rows
unfoldable pub counts_shown : Tables → List ℕ
counts_shown t =
    line_bytes
    (long_bytes t.slot_count
    ∷ text "slot rows,"
    ∷ long_bytes t.register_count
    ∷ text "register rows"
    ∷ [])
