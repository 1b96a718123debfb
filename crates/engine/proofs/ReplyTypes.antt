-- The fields of every accepted request and of its reply are of the command's types; a refusal's reply has no field or one string.
use mathlib.Core.Path.{◌≡◌, refl}
use mathlib.Core.Bool.{Bool, true, false, ◌||◌}
use mathlib.Core.List.{List, [], ◌∷◌, map}
use mathlib.Core.Option.{Option, none, some}
use Prim.Native.Nat.{ℕ}
use Rattle.byte_strings.specs.Texts.{text}
use Rattle.byte_strings.proofs.Flags.{nope}
use Rattle.field_values.specs.Values.{Value, number, string}
use Rattle.message_replies.specs.Responses.{Reply}
use Rattle.message_commands.specs.declared.Command.{Command}
use Rattle.message_commands.specs.declared.Command.TheVariants.{RS, KC, KR, KL, KF, KX, KD, GA, GL, KQ, Unknown}
use Rattle.row_types.specs.Slots.{kmcid_of}
use Rattle.row_types.specs.RowReplies.{slot_names, slot_fields, registers_under, query_fields}
use Rattle.engine.specs.FieldTypes.{Number, String, are_of_types, messages}
use Rattle.engine.specs.Refusals.{Header, general, own, RefusalEntry, refusal}
use Rattle.engine.specs.Requests.{are_fields_of, command_in, fields_in, record_in, slot_in}
use Rattle.engine.specs.Questions.{Call, slot_named, questions, first_no}
use Rattle.engine.specs.Answers.{reply_under, answered, effect, refused, answer_to, answer_of}
use Rattle.engine.specs.declared.Refusal.{Refusal}
use Rattle.engine.specs.declared.Outcome.TheVariants.{Refused}
use Rattle.engine.proofs.QuestionLaws.{all_refusals, no_listed}
use Rattle.engine.proofs.AnswerLaws.{is_yes, accepted_exactly, refused_by}

-- the fields of a reply; none where there is none
abbrev pub reply_fields : Option Reply → List Value
reply_fields none = []
reply_fields (some r) = r.fields

-- fields of an accepted reply to the command
abbrev pub AreReplyOf : Command → Option Reply → Type 0
AreReplyOf c o = are_of_types (messages c).reply (messages c).more (reply_fields o) ≡ true

strings : (names : List (List ℕ)) → are_of_types [] (some String) (map string names) ≡ true
strings [] = refl
strings (s ∷ names) = strings names

numbers : (ns : List ℕ) → are_of_types [] (some Number) (map number ns) ≡ true
numbers [] = refl
numbers (n ∷ ns) = numbers ns

effect_types : (x : Call) (c : Command) (vs : List Value) (r s : List ℕ) → AreReplyOf c (effect x c vs r s).reply
unfolding answered query_fields slot_fields
effect_types x RS vs r s = refl
effect_types x KC vs r s = refl
effect_types x KR vs r s = refl
effect_types x KL vs r s = refl
effect_types x KF vs r s = refl
effect_types x KX vs r s = refl
effect_types x KD vs r s = refl
effect_types x GA vs r s = refl
effect_types x GL vs r s = strings (slot_names x.slots)
effect_types x KQ vs r s = numbers (registers_under (kmcid_of (slot_named s x.slots)) x.registers)
effect_types x Unknown vs r s = refl

-- no field, or one string
abbrev pub is_brief : List Value → Bool
is_brief vs = are_of_types [] none vs || are_of_types (String ∷ []) none vs

all_brief : (x : Call) → all_refusals (λ r. is_brief (refusal r).fields) (questions x) ≡ true
unfolding questions
all_brief x = refl

brief_under : (q : List ℕ) (h : Option Header) (e : RefusalEntry) → is_brief e.fields ≡ true → is_brief (reply_fields (reply_under q h e)) ≡ true
brief_under q none e y = refl
brief_under q (some general) e y = y
brief_under q (some own) e y = y

-- SM?KDN13~, the example of 001 clause 6.3.9.4, has the fields of its command; with a string in the number's place it has not
kd_fields : (are_fields_of KD (number 13 ∷ []) ≡ true) × (are_fields_of KD (string (text "13") ∷ []) ≡ false)
unfolding are_fields_of
kd_fields = (refl, refl)

module _ (x : Call) where
  abbrev c : Command
  c = command_in x.request

  abbrev vs : List Value
  vs = fields_in x.request

  -- an accepted request has the fields of its command,
  pub request_types : is_yes (answer_of x).outcome ≡ true → are_fields_of c vs ≡ true
  unfolding questions
  request_types e = ((accepted_exactly x).0 e).1.1.1.1.1.1.1.0

  -- and its reply has those of the reply;
  pub reply_types : is_yes (answer_of x).outcome ≡ true → AreReplyOf c (answer_of x).reply
  unfolding answer_of refused
  reply_types e = go (first_no (questions x)) e
    where
      go : (o : Option Refusal) → is_yes (answer_to x o c vs).outcome ≡ true → AreReplyOf c (answer_to x o c vs).reply
      go (some r) w = nope (cc)
      go none w = effect_types x c vs (record_in c vs) (slot_in c vs)

  -- that of a refused request has no field or one string
  pub refusal_types : (r : Refusal) → (answer_of x).outcome ≡ Refused r → is_brief (reply_fields (answer_of x).reply) ≡ true
  unfolding answer_of refused
  refusal_types r e =
      let w = refused_by x r e in
      rw w (brief_under x.request (refusal r).header (refusal r) (no_listed (λ z. is_brief (refusal z).fields) (questions x) r (all_brief x) w))
