-- The reply to a refused request: none, or its status and fields under GL!ER, or under the request's own header where the message is right.
use mathlib.Core.Path.{◌≡◌, refl}
use mathlib.Core.Logic.{◌⊎◌, inl, inr}
use mathlib.Core.Bool.{Bool, true, false, not}
use mathlib.Core.List.{List, [], ◌++◌}
use mathlib.Core.Option.{Option, some, none}
use Prim.Native.Nat.{ℕ}
use Rattle.byte_strings.proofs.Flags.{nope}
use Rattle.message_frames.specs.Frames.{header_of, answered}
use Rattle.message_replies.specs.Responses.{Reply}
use Rattle.engine.specs.Refusals.{Header, general, own, RefusalEntry, refusal}
use Rattle.engine.specs.Requests.{command_in, fields_in}
use Rattle.engine.specs.Questions.{Call, Question, table_questions, message_questions, questions, first_no}
use Rattle.engine.specs.Answers.{error_header, reply_under, refusal_reply}
use Rattle.engine.specs.Decisions.{later_questions}
use Rattle.engine.specs.declared.Refusal.{Refusal}
use Rattle.engine.proofs.QuestionLaws.{AllYes, all_yes, no_append, all_refusals, no_listed}

-- the header of the reply to a refused request q
pub data Under (q : List ℕ) : List ℕ → Type 0 where
  under_error : Under q error_header
  under_own : AllYes (message_questions q) → Under q (answered (header_of q))

-- a reply of the refusal's status and fields, under such a header
pub record Replied (q : List ℕ) (e : RefusalEntry) (o : Option Reply) : Type 0 where
  pub header : List ℕ
  pub under : Under q header
  pub is : o ≡ some (record { header = header; status = e.status; fields = e.fields })

abbrev pub is_unwritten : Option Header → Bool
is_unwritten none = true
is_unwritten (some h) = false

abbrev pub is_own : Option Header → Bool
is_own none = false
is_own (some general) = false
is_own (some own) = true

not_own : (b : Bool) → not b ≡ true → b ≡ false
not_own true e = nope (cc)
not_own false e = refl

-- e is the refusal of the request q, and h where it is replied
module _ (q : List ℕ) (e : RefusalEntry) where
  unwritten : (h : Option Header) → is_unwritten h ≡ true → reply_under q h e ≡ none
  unwritten none w = refl
  unwritten (some h) w = nope (cc)

  by_header : (h : Option Header) → (is_own h ≡ true → AllYes (message_questions q)) → (reply_under q h e ≡ none) ⊎ Replied q e (reply_under q h e)
  by_header none y = inl refl
  by_header (some general) y = inr (record { header = error_header; under = under_error; is = refl })
  by_header (some own) y = inr (record { header = answered (header_of q); under = under_own (y refl); is = refl })

-- the group of the question that refused
module _ (x : Call) (r : Refusal) where
  abbrev pub later : List Question
  later = later_questions x (command_in x.request) (fields_in x.request)

  pub data Group : Type 0 where
    of_tables : first_no (table_questions x) ≡ some r → Group
    of_message : AllYes (table_questions x) → first_no (message_questions x.request) ≡ some r → Group
    of_later : AllYes (table_questions x) → AllYes (message_questions x.request) → first_no later ≡ some r → Group

  pub refusal_group : first_no (questions x) ≡ some r → Group
  unfolding questions
  refusal_group e = first (no_append (table_questions x) (message_questions x.request ++ later) r e)
    where
      next : AllYes (table_questions x) → (first_no (message_questions x.request) ≡ some r) ⊎ ((first_no (message_questions x.request) ≡ none) × (first_no later ≡ some r)) → Group
      next t (inl w) = of_message t w
      next t (inr w) = of_later t (all_yes (message_questions x.request) w.0) w.1

      first : (first_no (table_questions x) ≡ some r) ⊎ ((first_no (table_questions x) ≡ none) × (first_no (message_questions x.request ++ later) ≡ some r)) → Group
      first (inl w) = of_tables w
      first (inr w) = next (all_yes (table_questions x) w.0) (no_append (message_questions x.request) later r w.1)

  -- refusals 1 to 4 have no reply, and 5 to 7 none under the request's own header
  pub tables_unwritten : first_no (table_questions x) ≡ some r → is_unwritten (refusal r).header ≡ true
  tables_unwritten w = no_listed (λ (z : Refusal). is_unwritten (refusal z).header) (table_questions x) r refl w

  pub message_general : first_no (message_questions x.request) ≡ some r → is_own (refusal r).header ≡ false
  message_general w = not_own (is_own (refusal r).header) (no_listed (λ (z : Refusal). not (is_own (refusal z).header)) (message_questions x.request) r refl w)

  -- f is a test that every refusal passes that has a reply
  abbrev pub reply : Option Reply
  reply = refusal_reply x.request r

  pub refusal_replied : (f : Refusal → Bool) → all_refusals f (message_questions x.request) ≡ true → all_refusals f later ≡ true → first_no (questions x) ≡ some r
      → (reply ≡ none) ⊎ (Replied x.request (refusal r) reply × (f r ≡ true))
  refusal_replied f m l e = go (refusal_group e)
    where
      passed : f r ≡ true → (reply ≡ none) ⊎ Replied x.request (refusal r) reply → (reply ≡ none) ⊎ (Replied x.request (refusal r) reply × (f r ≡ true))
      passed p (inl n) = inl n
      passed p (inr w) = inr (w, p)

      go : Group → (reply ≡ none) ⊎ (Replied x.request (refusal r) reply × (f r ≡ true))
      go (of_tables w) = inl (unwritten x.request (refusal r) (refusal r).header (tables_unwritten w))
      go (of_message t w) = passed (no_listed f (message_questions x.request) r m w) (by_header x.request (refusal r) (refusal r).header (λ o. nope (let n = message_general w in cc)))
      go (of_later t y w) = passed (no_listed f later r l w) (by_header x.request (refusal r) (refusal r).header (λ o. y))
