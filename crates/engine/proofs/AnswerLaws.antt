-- What every answer keeps to: eighteen yeses are acceptance, refusals 1 to 4 alone have no reply, a refusal changes no row, nor does a command that only reads them,
-- SM?KR no register, and status 28 needs full registers.
use mathlib.Core.Path.{◌≡◌, refl, ap}
use mathlib.Core.Logic.{◌⊎◌, inl, inr, ◌↔◌}
use mathlib.Core.Bool.{Bool, true, false, cond, not, ◌&&◌, ◌||◌}
use mathlib.Core.List.{List, [], ◌∷◌}
use mathlib.Core.Option.{Option, none, some}
use Prim.Native.Nat.{ℕ, ◌+◌, ◌≤◌}
use native.Mathlib.Omega.{arith}
use lib.Dec.{eqb, leb}
use lib.ListN.{length}
use borrow.Author.Tests.{leb-true, le-leb}
use Rattle.byte_strings.proofs.Flags.{nope, and_first, and_second, or_cases}
use Rattle.field_values.specs.Values.{Value}
use Rattle.message_commands.specs.declared.Command.{Command}
use Rattle.message_commands.specs.declared.Command.TheVariants.{RS, KC, KR, KL, KF, KX, KD, GA, GL, KQ, Unknown}
use Rattle.message_replies.specs.Responses.{Reply}
use Rattle.message_replies.proofs.ResponseLaws.{reply_some}
use Rattle.row_types.specs.Lists.{some_row, first_from}
use Rattle.row_types.specs.Registers.{is_vacant, is_key_of}
use Rattle.engine.specs.Refusals.{Header, general, own, RefusalEntry, refusal}
use Rattle.engine.specs.Requests.{is_among, command_in, fields_in, record_in, slot_in, card_in}
use Rattle.engine.specs.Questions.{Call, Question, ◌otherwise◌, asked, is_place, place_else, key_place, vacant_place, store_place, group_in, revision_in, questions, first_no}
use Rattle.engine.specs.Answers.{Answer, response, response_of, reply_under, refusal_reply, answered, effect, refused, answer_to, answer_of}
use Rattle.engine.specs.Outcomes.{outcome_number}
use Rattle.engine.specs.declared.Refusal.{Refusal}
use Rattle.engine.specs.declared.Refusal.TheVariants.{NoFreeRegister}
use Rattle.engine.specs.declared.Outcome.{Outcome}
use Rattle.engine.specs.declared.Outcome.TheVariants.{Accepted, Done, Refused}
use Rattle.engine.proofs.QuestionLaws.{AllYes, all_yes, all_refusals, no_listed}
use Rattle.engine.proofs.RefusalLaws.{is_unwritten}

abbrev pub is_yes : Outcome → Bool
is_yes (Accepted a) = true
is_yes Done = true
is_yes (Refused r) = false

yes_all : (qs : List Question) → AllYes qs → first_no qs ≡ none
yes_all [] y = refl
yes_all ((b otherwise r) ∷ qs) y = rw y.0 (yes_all qs y.1)

effect_yes : (x : Call) (c : Command) (vs : List Value) (r s : List ℕ) → is_yes (effect x c vs r s).outcome ≡ true
unfolding answered
effect_yes x RS vs r s = refl
effect_yes x KC vs r s = refl
effect_yes x KR vs r s = refl
effect_yes x KL vs r s = refl
effect_yes x KF vs r s = refl
effect_yes x KX vs r s = refl
effect_yes x KD vs r s = refl
effect_yes x GA vs r s = refl
effect_yes x GL vs r s = refl
effect_yes x KQ vs r s = refl
effect_yes x Unknown vs r s = refl

module _ (x : Call) where
  abbrev c : Command
  c = command_in x.request

  abbrev vs : List Value
  vs = fields_in x.request

  -- an answer is accepted exactly when every question that applies is a yes
  pub accepted_exactly : (is_yes (answer_of x).outcome ≡ true) ↔ AllYes (questions x)
  unfolding answer_of refused
  accepted_exactly = (λ e. go (first_no (questions x)) refl e, λ y. rw (yes_all (questions x) y) (effect_yes x c vs (record_in c vs) (slot_in c vs)))
    where
      go : (o : Option Refusal) → first_no (questions x) ≡ o → is_yes (answer_to x o c vs).outcome ≡ true → AllYes (questions x)
      go (some r) q e = nope (cc)
      go none q e = all_yes (questions x) q

  -- the first no decides
  pub first_no_decides : (r : Refusal) → first_no (questions x) ≡ some r → (answer_of x).outcome ≡ Refused r
  unfolding answer_of refused
  first_no_decides r e = rw e refl

  pub refused_by : (r : Refusal) → (answer_of x).outcome ≡ Refused r → first_no (questions x) ≡ some r
  unfolding answer_of refused
  refused_by r e = go (first_no (questions x)) e
    where
      go : (o : Option Refusal) → (answer_to x o c vs).outcome ≡ Refused r → o ≡ some r
      go (some q) w = cc
      go none w = let y = effect_yes x c vs (record_in c vs) (slot_in c vs) in nope (cc)

  -- a refusal leaves every row as it was
  pub refused_keeps : (r : Refusal) → (answer_of x).outcome ≡ Refused r → ((answer_of x).slots ≡ x.slots) × ((answer_of x).registers ≡ x.registers)
  unfolding answer_of refused
  refused_keeps r e = let w = refused_by r e in (rw w refl, rw w refl)

  -- SM?KR changes no register
  pub kr_keeps : command_in x.request ≡ KR → (answer_of x).registers ≡ x.registers
  unfolding answer_of refused answered
  kr_keeps e = go (first_no (questions x)) (command_in x.request) e
    where
      go : (o : Option Refusal) (d : Command) → d ≡ KR → (answer_to x o d vs).registers ≡ x.registers
      go (some r) d q = refl
      go none d q = rw q refl

-- WHICH ANSWERS HAVE NO REPLY
abbrev is_reply : Option Reply → Bool
is_reply none = false
is_reply (some r) = true

effect_replies : (x : Call) (c : Command) (vs : List Value) (r s : List ℕ) → is_reply (effect x c vs r s).reply ≡ true
unfolding answered
effect_replies x RS vs r s = refl
effect_replies x KC vs r s = refl
effect_replies x KR vs r s = refl
effect_replies x KL vs r s = refl
effect_replies x KF vs r s = refl
effect_replies x KX vs r s = refl
effect_replies x KD vs r s = refl
effect_replies x GA vs r s = refl
effect_replies x GL vs r s = refl
effect_replies x KQ vs r s = refl
effect_replies x Unknown vs r s = refl

-- the refusal of every question has a number above 0, and a header just where it is above 4: computed
abbrev is_numbered : Refusal → Bool
is_numbered r = leb 1 (refusal r).number && cond (leb (refusal r).number 4) (is_unwritten (refusal r).header) (not (is_unwritten (refusal r).header))

all_numbered : (x : Call) → all_refusals is_numbered (questions x) ≡ true
unfolding questions
all_numbered x = refl

-- the number of one of refusals 1 to 4
abbrev pub IsUnwritten : ℕ → Type 0
IsUnwritten n = (1 ≤ n) × (n ≤ 4)

module _ (q : List ℕ) (e : RefusalEntry) where
  header_none : (h : Option Header) → reply_under q h e ≡ none → is_unwritten h ≡ true
  header_none none w = refl
  header_none (some general) w = nope (cc)
  header_none (some own) w = nope (cc)

  none_header : (h : Option Header) → is_unwritten h ≡ true → reply_under q h e ≡ none
  none_header none w = refl
  none_header (some h) w = nope (cc)

-- n is the number, b says that there is no header
by_number : (n : ℕ) (b : Bool) → (leb 1 n && cond (leb n 4) b (not b)) ≡ true → (b ≡ true) ↔ IsUnwritten n
by_number n b h = (λ u. low (leb n 4) b refl u (and_second (leb 1 n) _ h), λ w. rw (le-leb n 4 w.1) at (and_second (leb 1 n) (cond (leb n 4) b (not b)) h))
  where
    low : (t u : Bool) → leb n 4 ≡ t → u ≡ true → cond t u (not u) ≡ true → IsUnwritten n
    low true u w e k = (leb-true 1 n (and_first (leb 1 n) _ h), leb-true n 4 w)
    low false true w e k = nope (cc)
    low false false w e k = nope (cc)

refusal_unwritten : (q : List ℕ) (r : Refusal) → is_numbered r ≡ true → (refusal_reply q r ≡ none) ↔ IsUnwritten (refusal r).number
refusal_unwritten q r h =
    let k = by_number (refusal r).number (is_unwritten (refusal r).header) h in
    (λ w. k.0 (header_none q (refusal r) (refusal r).header w), λ w. none_header q (refusal r) (refusal r).header (k.1 w))

yes_zero : (o : Outcome) → is_yes o ≡ true → outcome_number o ≡ 0
yes_zero (Accepted a) y = refl
yes_zero Done y = refl
yes_zero (Refused r) y = nope (cc)

module _ (x : Call) where
  abbrev answer : Option Refusal → Answer
  answer o = answer_to x o (command_in x.request) (fields_in x.request)

  -- an answer has no reply exactly where its outcome is one of refusals 1 to 4,
  pub no_reply_exactly : ((answer_of x).reply ≡ none) ↔ IsUnwritten (outcome_number (answer_of x).outcome)
  unfolding answer_of refused
  no_reply_exactly = go (first_no (questions x)) refl
    where
      done : (a : Option Reply) (o : Outcome) → is_reply a ≡ true → is_yes o ≡ true → (a ≡ none) ↔ IsUnwritten (outcome_number o)
      done a o i y = (λ w. nope (let z = rw w at i in cc), λ w. absurd (omega (arith, w.0, yes_zero o y)))

      go : (o : Option Refusal) → first_no (questions x) ≡ o → ((answer o).reply ≡ none) ↔ IsUnwritten (outcome_number (answer o).outcome)
      go (some r) e = refusal_unwritten x.request r (no_listed is_numbered (questions x) r (all_numbered x) e)
      go none e = done (answer none).reply (answer none).outcome (effect_replies x (command_in x.request) (fields_in x.request) _ _) (effect_yes x (command_in x.request) (fields_in x.request) _ _)

  -- and nothing is written exactly there
  pub no_bytes_exactly : (length (response (answer_of x)) ≡ 0) ↔ IsUnwritten (outcome_number (answer_of x).outcome)
  no_bytes_exactly = (λ e. no_reply_exactly.0 (no_bytes (answer_of x).reply e), λ w. ap (λ (o : Option Reply). length (response_of o)) (no_reply_exactly.1 w))
    where
      no_bytes : (o : Option Reply) → length (response_of o) ≡ 0 → o ≡ none
      no_bytes none e = refl
      no_bytes (some r) e = absurd (omega (arith, reply_some r))

-- SM?GA, SM?GL and SM?KQ change no row
effect_reads : (x : Call) (c : Command) (vs : List Value) (r s : List ℕ) → is_among c (GA ∷ GL ∷ KQ ∷ []) ≡ true → ((effect x c vs r s).slots ≡ x.slots) × ((effect x c vs r s).registers ≡ x.registers)
unfolding answered
effect_reads x RS vs r s e = nope (cc)
effect_reads x KC vs r s e = nope (cc)
effect_reads x KR vs r s e = nope (cc)
effect_reads x KL vs r s e = nope (cc)
effect_reads x KF vs r s e = nope (cc)
effect_reads x KX vs r s e = nope (cc)
effect_reads x KD vs r s e = nope (cc)
effect_reads x GA vs r s e = (refl, refl)
effect_reads x GL vs r s e = (refl, refl)
effect_reads x KQ vs r s e = (refl, refl)
effect_reads x Unknown vs r s e = nope (cc)

pub reads_keep : (x : Call) → is_among (command_in x.request) (GA ∷ GL ∷ KQ ∷ []) ≡ true → ((answer_of x).slots ≡ x.slots) × ((answer_of x).registers ≡ x.registers)
unfolding answer_of refused
reads_keep x e = go (first_no (questions x))
  where
    go : (o : Option Refusal) → ((answer_to x o (command_in x.request) (fields_in x.request)).slots ≡ x.slots) × ((answer_to x o (command_in x.request) (fields_in x.request)).registers ≡ x.registers)
    go (some r) = (refl, refl)
    go none = effect_reads x (command_in x.request) (fields_in x.request) _ _ e

-- a question that was not a yes has the refusal of the first no
abbrev pub all_hold : (Refusal → Bool) → List Question → Bool
all_hold f [] = true
all_hold f ((b otherwise r) ∷ qs) = cond (f r) b true && all_hold f qs

pub held_not : (f : Refusal → Bool) (qs : List Question) (r : Refusal) → all_hold f qs ≡ true → first_no qs ≡ some r → f r ≡ false
held_not f [] r h e = nope (cc)
held_not f ((true otherwise q) ∷ qs) r h e = held_not f qs r (and_second (cond (f q) true true) (all_hold f qs) h) e
held_not f ((false otherwise q) ∷ qs) r h e = go (f q) refl (and_first (cond (f q) false true) (all_hold f qs) h)
  where
    go : (b : Bool) → f q ≡ b → cond b false true ≡ true → f r ≡ false
    go true w z = nope (cc)
    go false w z = cc

some_place : {A : Type 0} (f : A → Bool) (l : List A) (i : ℕ) → some_row f l ≡ true → is_place (first_from f i l) ≡ true
some_place f [] i e = nope (cc)
some_place f (v ∷ l) i e = go (f v) e (some_place f l (i + 1))
  where
    go : (b : Bool) → (b || some_row f l) ≡ true → (some_row f l ≡ true → is_place (first_from f (i + 1) l) ≡ true) → is_place (cond b (some i) (first_from f (i + 1) l)) ≡ true
    go true w more = refl
    go false w more = more w

either_place : (o p : Option ℕ) → (is_place o ≡ true) ⊎ (is_place p ≡ true) → is_place (place_else o p) ≡ true
either_place (some i) p e = refl
either_place none p (inl e) = nope (cc)
either_place none p (inr e) = e

asked_yes : (l : List Command) (d : Command) (b : Bool) → b ≡ true → asked l d b ≡ true
asked_yes l d b e = go (is_among d l)
  where
    go : (t : Bool) → cond t b true ≡ true
    go true = e
    go false = refl

abbrev is_twenty : Refusal → Bool
is_twenty r = eqb (refusal r).number 20

-- a register that holds the key, or a free one, means no refusal 20
module _ (x : Call) where
  abbrev card : List ℕ
  card = card_in (record_in (command_in x.request) (fields_in x.request))

  pub no_refusal_20 : (some_row (is_key_of (group_in card) (revision_in card)) x.registers || some_row is_vacant x.registers) ≡ true → (answer_of x).outcome ≡ Refused NoFreeRegister → ⊥
  unfolding questions store_place
  no_refusal_20 h e =
      let g = group_in card in
      let k = revision_in card in
      let y = asked_yes (KL ∷ []) (command_in x.request) (is_place (store_place g k x.registers)) (either_place (key_place g k x.registers) (vacant_place x.registers) (places (or_cases (some_row (is_key_of g k) x.registers) (some_row is_vacant x.registers) h))) in
      let w = held_not is_twenty (questions x) NoFreeRegister (rw y refl) (refused_by x NoFreeRegister e) in
      nope (cc)
    where
      places : (some_row (is_key_of (group_in card) (revision_in card)) x.registers ≡ true) ⊎ (some_row is_vacant x.registers ≡ true)
          → (is_place (key_place (group_in card) (revision_in card) x.registers) ≡ true) ⊎ (is_place (vacant_place x.registers) ≡ true)
      places (inl p) = inl (some_place (is_key_of (group_in card) (revision_in card)) x.registers 0 p)
      places (inr p) = inr (some_place is_vacant x.registers 0 p)
