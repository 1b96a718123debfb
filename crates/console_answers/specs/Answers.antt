-- The lines that the console answers with (docs/CONSOLE.md), over numbers.
use Rattle.std.specs.Prelude.{ℕ, ◌-◌, Bool, cond, List, [], ◌∷◌, eqb, length, take}
use Rattle.byte_strings.specs.Texts.{text}
use Rattle.text_decimal_writer.specs.Digits.{decimal_bytes, long_bytes}
use Rattle.console_prints.specs.Prints.{line_bytes}
use Rattle.console_states.specs.States.{state_name}

-- the response without its carriage return, or - where its length is 0
unfoldable pub reply_text : List ℕ → List ℕ
reply_text r = cond (eqb (length r) 0) (text "-") (take (length r - 1) r)

-- line number, outcome, slot state left (- for the number of no state), response
unfoldable pub answer_line : ℕ → ℕ → ℕ → List ℕ → List ℕ
answer_line n outcome left r =
    line_bytes (long_bytes n ∷ decimal_bytes outcome ∷ state_name (text "-") left ∷ reply_text r ∷ [])

-- line number, yes or no
unfoldable pub usable_line : ℕ → Bool → List ℕ
usable_line n b = line_bytes (long_bytes n ∷ cond b (text "yes") (text "no") ∷ [])

-- line number, ?
unfoldable pub other_line : ℕ → List ℕ
other_line n = line_bytes (long_bytes n ∷ text "?" ∷ [])
