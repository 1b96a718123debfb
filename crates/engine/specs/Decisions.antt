-- What is to be done with a call: the refusal of the first no, or the command, with the place of the row that it
-- changes.
use Rattle.std.specs.Prelude.{ℕ, ◌-◌, List, ◌++◌}
use Rattle.std.proofs.Math.Option.{Option, none, some}
use Rattle.field_values.specs.Values.{Value}
use Rattle.message_commands.specs.declared.Command.{Command}
use Rattle.message_commands.specs.declared.Command.TheVariants.{RS, KC, KR, KL, KF, KX, KD, GA, GL, KQ, Unknown}
use Rattle.engine.specs.Requests.{command_in, fields_in, register_in, record_in, slot_in, card_in}
use Rattle.engine.specs.Questions.{Call, Question, slot_place, place_in, session_place, slot_named}
use Rattle.engine.specs.Questions.{payload_questions, row_questions, questions, first_no}
use Rattle.engine.specs.Answers.{card_place}
use Rattle.engine.specs.declared.Refusal.{Refusal}
use Rattle.engine.specs.declared.Refusal.TheVariants.{UnknownHeader}
use Rattle.engine.specs.declared.Decision.{Decision}
use Rattle.engine.specs.declared.Decision.TheVariants.{Refuse, Reset, Start, Open, Load, Close}
use Rattle.engine.specs.declared.Decision.TheVariants.{DeleteSlot, DeleteKey, GetCard, ListSlots, QuerySlot}

abbrev pub decided : Option Refusal → Decision → Decision
decided (some r) d = Refuse r
decided none d = d

-- all yes: what the command does; vs are its fields, r the record among them, s the slot that it names
abbrev pub granted : Call → Command → List Value → List ℕ → List ℕ → Decision
granted x RS vs r s = Reset
granted x KC vs r s = Start (place_in x.slots (session_place s x.slots))
granted x KR vs r s = Open (place_in x.slots (slot_place s x.slots))
granted x KL vs r s = Load (card_place (card_in r) x.registers)
granted x KF vs r s = Close (place_in x.slots (slot_place s x.slots))
granted x KX vs r s = DeleteSlot (place_in x.slots (slot_place s x.slots))
granted x KD vs r s = DeleteKey (register_in vs - 1)
granted x GA vs r s = GetCard (register_in vs - 1)
granted x GL vs r s = ListSlots
granted x KQ vs r s = QuerySlot (place_in x.slots (slot_place s x.slots))
granted x Unknown vs r s = Refuse UnknownHeader

-- questions 8 to 18, where the message is right and brings the command c with the fields vs
abbrev pub later_questions : Call → Command → List Value → List Question
later_questions x c vs =
    payload_questions c vs (record_in c vs)
    ++ row_questions x c vs (record_in c vs) (slot_in c vs) (slot_named (slot_in c vs) x.slots)

unfoldable pub decision_for : Call → Command → List Value → Decision
decision_for x c vs = decided (first_no (later_questions x c vs)) (granted x c vs (record_in c vs) (slot_in c vs))

unfoldable pub decision_of : Call → Decision
decision_of x =
    decided (first_no (questions x))
    (granted x (command_in x.request) (fields_in x.request)
    (record_in (command_in x.request) (fields_in x.request))
    (slot_in (command_in x.request) (fields_in x.request)))
