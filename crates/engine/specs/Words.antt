-- How rows, requests and answers are read for demand 3, and the list of calls that it speaks of (document 01, The words
-- of demand 3).
use Rattle.std.specs.Prelude.{ℕ, Bool, cond, List, map, eqb, length, take, replicate}
use Rattle.byte_strings.specs.Strings.{same_bytes}
use Rattle.card_attributes.specs.Table.{SGC, KRN, KSL}
use Rattle.field_values.specs.Values.{Value}
use Rattle.message_replies.specs.Responses.{status_of, fields_of}
use Rattle.card_stored.specs.Stored.{in_row}
use Rattle.message_commands.specs.declared.Command.{Command}
use Rattle.message_commands.specs.declared.Command.TheVariants.{RS, KC, KR, KL, KF, KX, KD, GA, GL, KQ, Unknown}
use Rattle.row_types.specs.Slots.{is_zero_slot, kmcid_of, free_slot}
use Rattle.row_types.specs.Registers.{is_vacant, attribute_of, is_open, free_register}
use Rattle.row_types.specs.declared.SlotRow.{SlotRow}
use Rattle.row_types.specs.declared.RegisterRow.{RegisterRow}
use Rattle.row_types.specs.declared.Supplement.{Supplement}
use Rattle.history.specs.Model.{
  State,
  pending,
  loading,
  idle,
  Slot,
  free,
  used,
  Register,
  vacant,
  key,
  Tables,
  Request,
  kc,
  kr,
  kl,
  kf,
  kx,
  kd,
  rs,
  other,
  refused,
  done,
  loaded,
  Item,
  ◌⇒◌,
}
use Rattle.history.specs.Model as model
use Rattle.engine.specs.Requests.{command_in, fields_in, register_in, record_in, slot_in, card_in, second_text}
use Rattle.engine.specs.Questions.{Call, group_in, revision_in}
use Rattle.engine.specs.Answers.{Answer, response, buffer_after, accepted, answer_of}

-- THE ROWS
abbrev pub state_in : ℕ → State
state_in n = cond (eqb n 1) pending (cond (eqb n 2) loading idle)

-- a slot row is free where every byte is zero
unfoldable pub slot_is : SlotRow → Slot
slot_is r = cond (is_zero_slot r) free (used (kmcid_of r) (state_in r.state))

-- a register row is free where every byte of its card's space is zero; else its card has SGC, KRN and KSL, and its
-- bytes are the card's; beside them it carries whether it is open (document 02, N3)
unfoldable pub register_is : RegisterRow → Register
register_is r =
    cond (is_vacant r) vacant
    (key (attribute_of SGC r) (attribute_of KRN r) (attribute_of KSL r) r.card (record { is_open = is_open r }))

abbrev pub tables_of : List SlotRow → List RegisterRow → Tables
tables_of slots registers = record { slots = map slot_is slots; registers = map register_is registers }

-- A REQUEST: vs are its fields
abbrev pub request_of : Command → List Value → Request
request_of RS vs = rs
request_of KC vs = kc (slot_in KC vs)
request_of KR vs = kr (slot_in KR vs)
request_of KL vs = kl (slot_in KL vs) (group_in (card_in (record_in KL vs))) (revision_in (card_in (record_in KL vs)))
request_of KF vs = kf (slot_in KF vs)
request_of KX vs = kx (slot_in KX vs)
request_of KD vs = kd (register_in vs)
request_of GA vs = other
request_of GL vs = other
request_of KQ vs = other
request_of Unknown vs = other

-- AN ANSWER: accepted with status 00; of a load the reply's register and its card, with zeros after it to the end of a
-- row
unfoldable pub is_accepted : List ℕ → Bool
is_accepted a = same_bytes (status_of a) accepted

abbrev pub says_yes : Request → List ℕ → model.Answer
says_yes (kc s) a = done
says_yes (kr s) a = done
says_yes (kl s g r) a = loaded (register_in (fields_of a)) (in_row (second_text (fields_of a)))
says_yes (kf s) a = done
says_yes (kx s) a = done
says_yes (kd n) a = done
says_yes rs a = done
says_yes other a = done

abbrev pub item_for : Request → List ℕ → Item
item_for e a = e ⇒ cond (is_accepted a) (says_yes e a) refused

-- an item of the list, read off the bytes of a request and of its answer
abbrev pub item_of : List ℕ → List ℕ → Item
item_of request answer = item_for (request_of (command_in request) (fields_in request)) answer

-- THE LIST: what is handed in at each call; each request with a supplement and a response buffer of its own
pub record Input : Type 0 where
  pub request : List ℕ
  pub supplement : Supplement
  pub buffer : List ℕ

pub record Lent : Type 0 where
  pub slots : List SlotRow
  pub registers : List RegisterRow

abbrev pub call_of : Lent → Input → Call
call_of t e = record {
  slots = t.slots;
  registers = t.registers;
  slot_count = length t.slots;
  register_count = length t.registers;
  room = length e.buffer;
  supplement = e.supplement;
  request = e.request;
}

-- the rows after a call
abbrev pub rows_after : Lent → Input → Lent
rows_after t e = record { slots = (answer_of (call_of t e)).slots; registers = (answer_of (call_of t e)).registers }

-- the answer to a call: the first bytes of the buffer, as many as the response has, never what lies beyond
abbrev pub answer_bytes : List ℕ → List ℕ → List ℕ
answer_bytes bytes buffer = take (length bytes) (buffer_after bytes buffer)

abbrev pub item_at : Lent → Input → Item
item_at t e = item_of e.request (answer_bytes (response (answer_of (call_of t e))) e.buffer)

-- empty tables: every row is zero
unfoldable pub empty_rows : ℕ → ℕ → Lent
empty_rows a b = record { slots = replicate a free_slot; registers = replicate b free_register }
