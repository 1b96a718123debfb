-- Slot rows (document 01, Slots and registers): what a row means, which is sound by itself, and how the states follow
-- each other.
use Rattle.std.specs.Prelude.{ℕ, Bool, cond, not, ◌&&◌, ◌||◌, List, [], ◌∷◌, eqb, leb, drop, replicate}
use Rattle.byte_strings.specs.Strings.{is_not, run, same_bytes}
use Rattle.byte_strings.specs.Texts.{all}
use Rattle.text_classes.specs.Classes.{are_all}
use Rattle.text_classes.specs.Identifiers.{is_identifier}
use Rattle.text_classes.specs.declared.Class.TheVariants.{Zero}
use Rattle.text_timestamps.specs.Timestamps.{is_timestamp}
use Rattle.text_forms.specs.Forms.{in_form}
use Rattle.text_forms.specs.declared.Form.TheVariants.{Hex}
use Rattle.row_types.specs.Lists.{padded, trimmed}
use Rattle.row_types.specs.declared.SlotRow.{SlotRow}
use Rattle.row_types.specs.declared.SlotState.{SlotState}
use Rattle.row_types.specs.declared.SlotState.TheVariants.{Free, Pending, Loading, Idle}

-- the number of a state in a row
abbrev pub state_number : SlotState → ℕ
state_number Free = 0
state_number Pending = 1
state_number Loading = 2
state_number Idle = 3

-- every byte of the row is zero. Of sound rows these are the rows in state Free (`free-is-zero`, proofs/FreeSlots.antt)
unfoldable pub is_zero_slot : SlotRow → Bool
is_zero_slot r = all (
    eqb r.state 0
    ∷ are_all Zero r.kmcid
    ∷ are_all Zero r.fingerprint
    ∷ are_all Zero r.tvp
    ∷ [])

-- Free: of sound rows, those that are zero (`free-is-zero`)
abbrev pub has_state : SlotState → SlotRow → Bool
has_state a r = eqb r.state (state_number a)

-- a session is open or awaited: PENDING or LOADING
unfoldable pub in_session : SlotRow → Bool
in_session r = has_state Pending r || has_state Loading r

-- the KMCID that a row keeps
abbrev pub kmcid_of : SlotRow → List ℕ
kmcid_of r = trimmed r.kmcid

-- the row is not free and keeps the KMCID s
unfoldable pub is_named : List ℕ → SlotRow → Bool
is_named s r = not (has_state Free r) && same_bytes (kmcid_of r) s

-- a slot not free has a KMCID and a fingerprint, and only PENDING a TVP
unfoldable pub is_filled_slot : SlotRow → Bool
is_filled_slot r = all (
    is_identifier (kmcid_of r)
    ∷ are_all Zero (drop (run (is_not 0) r.kmcid) r.kmcid)  -- zero after the KMCID's end
    ∷ in_form (Hex 16) r.fingerprint
    ∷ cond (has_state Pending r) (is_timestamp r.tvp) (are_all Zero r.tvp)  -- in the other states its place is zero
    ∷ [])

-- a slot row that is sound by itself: free and zero, or in one of the other three states and in form
unfoldable pub is_slot_sound : SlotRow → Bool
is_slot_sound r = is_zero_slot r || all (leb 1 r.state ∷ leb r.state 3 ∷ is_filled_slot r ∷ [])

-- two rows that keep one KMCID
unfoldable pub is_same_slot : SlotRow → SlotRow → Bool
is_same_slot a b = not (has_state Free a) && is_named (kmcid_of a) b

-- a freed row
unfoldable pub free_slot : SlotRow
free_slot = record { state = 0; kmcid = replicate 40 0; fingerprint = replicate 16 0; tvp = replicate 16 0 }

-- a row in a state, with a KMCID, a fingerprint and, where the state has it, a TVP
unfoldable pub filled_slot : SlotState → List ℕ → List ℕ → List ℕ → SlotRow
filled_slot a kmcid fingerprint tvp =
    record { state = state_number a; kmcid = padded 40 kmcid; fingerprint = padded 16 fingerprint; tvp = padded 16 tvp }

-- another state, TVP cleared (SM?KR, SM?KF, GL?RS)
abbrev pub moved_slot : SlotState → SlotRow → SlotRow
moved_slot a r = filled_slot a r.kmcid r.fingerprint []

-- GL?RS: PENDING and LOADING become IDLE
unfoldable pub reset_slot : SlotRow → SlotRow
reset_slot r = cond (has_state Pending r || has_state Loading r) (moved_slot Idle r) r
