-- THE OPERATOR'S REFRESH (document 02, N3): two keys of an IDLE slot vend on while new ones are on request, until the
-- first of them is reloaded; SM?KF lets both vend again.
use Rattle.std.specs.Prelude.{ℕ, Bool, true, false, List, [], ◌∷◌, ◌++◌}
use Rattle.byte_strings.specs.Texts.{text}
use Rattle.card_stored.specs.Stored.{in_row}
use Rattle.row_types.specs.Slots.{free_slot}
use Rattle.row_types.specs.Registers.{filled_register, closed_row}
use Rattle.row_types.specs.declared.SlotRow.{SlotRow}
use Rattle.row_types.specs.declared.RegisterRow.{RegisterRow}
use Rattle.row_types.specs.declared.SlotState.TheVariants.{Pending, Loading, Idle}
use Rattle.history.specs.Model.{kc, kr, kl, kf, done, loaded, ◌⇒◌}
use Rattle.engine.specs.Words.{Lent}
use Rattle.case_run.specs.Run.{clock, start_a, response_a, load_a, finish_a, a, group, revision, card_a, slot_a}
use Rattle.case_run.specs.Run.{Stage, stage}

-- a second key of A, of another revision
abbrev pub other_card : List ℕ
other_card =
    text "ACT20130716T151031Z;BDT20130716T151031Z;CLMFFFFFFFF;CLU0;DKG04;IUT20380119T031407Z;KCV92E101;KEN255;"
    ++ text "KRN7;KSLA;KTC2;SBMFFFF;SGC0000758825;ULM999999999;VND0;"

-- slot A, a free slot, and both keys
abbrev pub keys : SlotRow → RegisterRow → Lent
keys s r = record { slots = s ∷ free_slot ∷ []; registers = r ∷ closed_row (filled_register other_card) ∷ [] }

-- both closed, under an IDLE slot
abbrev pub at_rest : Lent
at_rest = keys (slot_a Idle []) (closed_row (filled_register card_a))

-- a call, and which of the two keys may vend after it
pub record Vending : Type 0 where
  pub stage : Stage
  pub first : Bool
  pub second : Bool

abbrev pub vending : Stage → Bool → Bool → Vending
vending stage first second = record { stage = stage; first = first; second = second }

abbrev pub refresh : List Vending
refresh =
    vending (stage start_a (kc a ⇒ done) (keys (slot_a Pending clock) (closed_row (filled_register card_a)))) true true
    ∷ vending (stage response_a (kr a ⇒ done) (keys (slot_a Loading []) (closed_row (filled_register card_a))))
    true true
    ∷ vending
    (stage load_a (kl a group revision ⇒ loaded 1 (in_row card_a)) (keys (slot_a Loading []) (filled_register card_a)))
    false true
    ∷ vending (stage finish_a (kf a ⇒ done) (keys (slot_a Idle []) (closed_row (filled_register card_a)))) true true
    ∷ []
