-- The marks of registers by the numbers of their owners and of the slots' states (document 02, N3). An owner's number
-- is that of its slot row, counted from 1; 0 is that of a free register.
use Rattle.std.specs.Prelude.{ℕ, ◌-◌, ◌≡◌, Bool, true, not, ◌&&◌, ◌||◌, List, [], ◌∷◌, eqb, leb, get_or}
use Rattle.byte_strings.specs.Texts.{all}
use Rattle.row_types.specs.Lists.{every_row}
use Rattle.row_types.specs.Slots.{state_number}
use Rattle.row_types.specs.Registers.{closed_mark, open_mark}
use Rattle.row_types.specs.declared.SlotState.TheVariants.{Pending, Loading}

-- PENDING or LOADING, by the state's number
abbrev pub is_session_state : ℕ → Bool
is_session_state n = eqb n (state_number Pending) || eqb n (state_number Loading)

-- closed; or open, owned, and the owner PENDING or LOADING
unfoldable pub is_mark_right : List ℕ → ℕ → ℕ → Bool
is_mark_right states owner mark =
    eqb mark closed_mark
    || all (eqb mark open_mark ∷ not (eqb owner 0) ∷ is_session_state (get_or states (owner - 1) 0) ∷ [])

-- each mark beside its owner
unfoldable pub are_marks_right : List ℕ → List ℕ → List ℕ → Bool
are_marks_right states [] marks = true
are_marks_right states (o ∷ os) [] = true
are_marks_right states (o ∷ os) (k ∷ ks) = is_mark_right states o k && are_marks_right states os ks

-- no number is above n
unfoldable pub is_up_to : ℕ → ℕ → Bool
is_up_to n k = leb k n

abbrev pub AreUpTo : ℕ → List ℕ → Type 0
AreUpTo n l = every_row (is_up_to n) l ≡ true
