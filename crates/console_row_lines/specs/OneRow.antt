-- One row in the form of the line that sets it (docs/CONSOLE.md); of a row that is all zero nothing.
use Rattle.std.specs.Prelude.{ℕ, ◌+◌, cond, List, [], ◌∷◌}
use Rattle.byte_strings.specs.Texts.{text}
use Rattle.text_decimal_writer.specs.Digits.{decimal_bytes}
use Rattle.console_octets.specs.Octets.{digits_of}
use Rattle.row_types.specs.Slots.{is_zero_slot}
use Rattle.row_types.specs.declared.SlotRow.{SlotRow}
use Rattle.row_types.specs.declared.RegisterRow.{RegisterRow}
use Rattle.register_rows.specs.ZeroRegisters.{is_zero_register}
use Rattle.console_prints.specs.Prints.{line_bytes}

-- slot K S NAME FINGERPRINT TVP; the place k counts from 0, K from 1
unfoldable pub slot_line : ℕ → SlotRow → List ℕ
slot_line k r =
    cond (is_zero_slot r) []
    (line_bytes (
    text "slot"
    ∷ decimal_bytes (k + 1)
    ∷ decimal_bytes r.state
    ∷ digits_of r.kmcid
    ∷ digits_of r.fingerprint
    ∷ digits_of r.tvp
    ∷ []))

-- register K M CARD (document 02, N3)
unfoldable pub register_line : ℕ → RegisterRow → List ℕ
register_line k r =
    cond (is_zero_register r) []
    (line_bytes (
    text "register"
    ∷ decimal_bytes (k + 1)
    ∷ decimal_bytes r.mark
    ∷ digits_of r.card
    ∷ []))
