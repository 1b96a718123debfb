-- What each answer replies: nothing for 1 to 4; the refusal's status and fields under GL!ER for 5 to 7, and under the request's own header from 8 on; and 00 exactly on acceptance.
use mathlib.Core.Path.{◌≡◌, refl, ap}
use mathlib.Core.Bool.{Bool, true, false, cond, ◌&&◌, ◌||◌}
use mathlib.Core.List.{List, []}
use mathlib.Core.Option.{Option, none, some}
use Prim.Native.Nat.{ℕ, ◌-◌, ◌≤◌}
use native.Mathlib.Omega.{arith}
use lib.Dec.{eqb, leb}
use lib.ListN.{length}
use borrow.Author.Tests.{eqb-true, le-leb, lt-leb}
use Rattle.byte_strings.specs.Texts.{text}
use Rattle.byte_strings.specs.Strings.{same_bytes}
use Rattle.byte_strings.proofs.Flags.{nope}
use Rattle.field_values.specs.Values.{Value}
use Rattle.message_commands.specs.declared.Command.{Command}
use Rattle.message_commands.specs.declared.Command.TheVariants.{RS, KC, KR, KL, KF, KX, KD, GA, GL, KQ, Unknown}
use Rattle.message_frames.specs.Frames.{header_of}
use Rattle.message_replies.specs.Responses.{reply_to, status_of}
use Rattle.message_replies.proofs.ResponseLaws.{reply_status, answered_five}
use Rattle.engine.specs.Refusals.{Header, general, own, RefusalEntry, extended, km, sm3b, refusal}
use Rattle.engine.specs.Requests.{command_in, fields_in, record_in, slot_in}
use Rattle.engine.specs.Questions.{Call}
use Rattle.engine.specs.Answers.{response, response_of, accepted, error_header, reply_under, answered, effect, refused, answer_of}
use Rattle.engine.specs.Words.{is_accepted}
use Rattle.engine.specs.declared.Refusal.{Refusal}
use Rattle.engine.specs.declared.Refusal.TheVariants.{RowCounts, ShortBuffer, UnsoundRows, BadSupplement, BadFrame, BadChecksum, UnknownHeader, BadFields, BadRecord, BadForm, Expired, UnknownSlot, NoFreeSlot, WrongState, OtherModule, OtherFingerprint, OtherTvp, OtherTag, CheckFailed, NoFreeRegister, EmptyRegister}
use Rattle.engine.specs.declared.Outcome.{Outcome}
use Rattle.engine.specs.declared.Outcome.TheVariants.{Accepted, Done, Refused}
use Rattle.response_numbers.specs.RefusalForms.{header_for}
use Rattle.engine.proofs.RefusalLaws.{is_unwritten, Group, of_tables, of_message, of_later, refusal_group, tables_unwritten, message_general}
use Rattle.engine.proofs.AnswerWords.{header_five, refusal_said}
use Rattle.engine.proofs.AnswerLaws.{is_yes, refused_by}
use Rattle.engine.proofs.Steps.{yes_of}
use Rattle.engine.proofs.Numbers.{number_of, every_refusal}
use Rattle.case_answers.proofs.Accepted.{none_first}

-- how a refusal is replied, by its number: the header as `header_for` has it; the status is 20 for 6, 21 for 7, 27 for 12, 28 for 20, 22 for 21, else EE,
abbrev pub status_for : ℕ → List ℕ
status_for n =
    cond (leb n 4) []
    (cond (eqb n 6) (text "20")
    (cond (eqb n 7) (text "21") (cond (eqb n 12) (text "27") (cond (eqb n 20) (text "28") (cond (eqb n 21) (text "22") extended)))))

-- and with EE comes one string field: SM.3B.6 to SM.3B.9 for 15 to 18, else KM. and the number in two digits
abbrev pub fields_for : ℕ → List Value
fields_for n = cond (same_bytes (status_for n) extended) (cond (leb 15 n && leb n 18) (sm3b (n - 9)) (km n)) []

abbrev pub entry_for : ℕ → RefusalEntry
entry_for n = record { number = n; header = header_for n; status = status_for n; fields = fields_for n }

pub by_number : (r : Refusal) → refusal r ≡ entry_for (number_of r)
by_number RowCounts = refl
by_number ShortBuffer = refl
by_number UnsoundRows = refl
by_number BadSupplement = refl
by_number BadFrame = refl
by_number BadChecksum = refl
by_number UnknownHeader = refl
by_number BadFields = refl
by_number BadRecord = refl
by_number BadForm = refl
by_number Expired = refl
by_number UnknownSlot = refl
by_number NoFreeSlot = refl
by_number WrongState = refl
by_number OtherModule = refl
by_number OtherFingerprint = refl
by_number OtherTvp = refl
by_number OtherTag = refl
by_number CheckFailed = refl
by_number NoFreeRegister = refl
by_number EmptyRegister = refl

header_by_number : (r : Refusal) → (refusal r).header ≡ header_for (number_of r)
header_by_number r = ap (λ (t : RefusalEntry). t.header) (by_number r)

-- from 5 on a status has two characters
status_two : (r : Refusal) → 5 ≤ number_of r → length (refusal r).status ≡ 2
status_two r h = eqb-true (length (refusal r).status) 2 (rw (lt-leb (number_of r) 4 h) at (every_refusal (λ (q : Refusal). leb (number_of q) 4 || eqb (length (refusal q).status) 2) refl r))

-- A REFUSAL
module _ (x : Call) (r : Refusal) (e : (answer_of x).outcome ≡ Refused r) where
  reply_is : (answer_of x).reply ≡ reply_under x.request (header_for (number_of r)) (refusal r)
  unfolding answer_of refused
  reply_is = rw (refused_by x r e, header_by_number r) refl

  pub none_written : number_of r ≤ 4 → (answer_of x).reply ≡ none
  none_written h = rw (reply_is, le-leb (number_of r) 4 h) refl

  pub under_error_header : 5 ≤ number_of r → number_of r ≤ 7 → (answer_of x).reply ≡ some (record { header = error_header; status = (refusal r).status; fields = (refusal r).fields })
  under_error_header l h = rw (reply_is, lt-leb (number_of r) 4 l, le-leb (number_of r) 7 h) refl

  pub under_own_header : 8 ≤ number_of r → (answer_of x).reply ≡ some (reply_to (header_of x.request) (refusal r).status (refusal r).fields)
  under_own_header l = rw (reply_is, lt-leb (number_of r) 4 (omega (arith, l)), lt-leb (number_of r) 7 l) refl

  -- by the group of the question that was the first no: only after a whole message is the header the request's own
  status_from : (h : Option Header) → (refusal r).header ≡ h → is_unwritten h ≡ false → length (refusal r).status ≡ 2 → Group x r → status_of (response_of (reply_under x.request h (refusal r))) ≡ (refusal r).status
  status_from none q n l g = nope (cc)
  status_from (some general) q n l g = reply_status (record { header = error_header; status = (refusal r).status; fields = (refusal r).fields }) refl l
  status_from (some own) q n l (of_tables w) = let z = tables_unwritten x r w in nope (cc)
  status_from (some own) q n l (of_message t w) = let z = message_general x r w in nope (cc)
  status_from (some own) q n l (of_later t y w) =
      reply_status (reply_to (header_of x.request) (refusal r).status (refusal r).fields) (answered_five (header_of x.request) (header_five x.request y.0)) l

  pub status_replied : 5 ≤ number_of r → status_of (response (answer_of x)) ≡ (refusal r).status
  status_replied l =
      let n : is_unwritten (header_for (number_of r)) ≡ false = written (leb (number_of r) 7) in
      rw reply_is (status_from (header_for (number_of r)) (header_by_number r) n (status_two r l) (refusal_group x r (refused_by x r e)))
    where
      written : (b : Bool) → is_unwritten (cond (leb (number_of r) 4) none (cond b (some general) (some own))) ≡ false
      written true = rw (lt-leb (number_of r) 4 l) refl
      written false = rw (lt-leb (number_of r) 4 l) refl

-- ACCEPTANCE
yes_status : (x : Call) → length (header_of x.request) ≡ 5 → (fields : List Value) → status_of (response_of (some (reply_to (header_of x.request) accepted fields))) ≡ accepted
yes_status x l fields = reply_status (reply_to (header_of x.request) accepted fields) (answered_five (header_of x.request) l) refl

effect_status : (x : Call) → length (header_of x.request) ≡ 5 → (c : Command) (vs : List Value) (r s : List ℕ) → status_of (response (effect x c vs r s)) ≡ accepted
unfolding answered
effect_status x l RS vs r s = yes_status x l _
effect_status x l KC vs r s = yes_status x l _
effect_status x l KR vs r s = yes_status x l _
effect_status x l KL vs r s = yes_status x l _
effect_status x l KF vs r s = yes_status x l _
effect_status x l KX vs r s = yes_status x l _
effect_status x l KD vs r s = yes_status x l _
effect_status x l GA vs r s = yes_status x l _
effect_status x l GL vs r s = yes_status x l _
effect_status x l KQ vs r s = yes_status x l _
effect_status x l Unknown vs r s = yes_status x l _

module _ (x : Call) where
  pub accepted_status : is_yes (answer_of x).outcome ≡ true → status_of (response (answer_of x)) ≡ accepted
  unfolding answer_of
  accepted_status y =
      let c = command_in x.request in
      let vs = fields_in x.request in
      let n = none_first x y in
      rw n (effect_status x (header_five x.request (yes_of x n).whole) c vs (record_in c vs) (slot_in c vs))

  -- an answer reads as accepted exactly where its outcome is acceptance
  pub accepted_read : is_accepted (response (answer_of x)) ≡ is_yes (answer_of x).outcome
  unfolding is_accepted
  accepted_read = go (answer_of x).outcome refl
    where
      yes : is_yes (answer_of x).outcome ≡ true → is_accepted (response (answer_of x)) ≡ true
      yes y = rw (accepted_status y) refl

      no : (r : Refusal) → (answer_of x).outcome ≡ Refused r → is_accepted (response (answer_of x)) ≡ false
      no r e = rw (reply_is x r e, ← header_by_number r) (refusal_said x r (refused_by x r e))

      go : (o : Outcome) → (answer_of x).outcome ≡ o → is_accepted (response (answer_of x)) ≡ is_yes o
      go (Accepted a) e = yes (rw e refl)
      go Done e = yes (rw e refl)
      go (Refused r) e = no r e
