-- A decision is reached group by group of the questions, and tells the answer: what its command is, and that every question was a yes.
use mathlib.Core.Path.{◌≡◌, refl, sym, ap, ◌∙◌}
use mathlib.Core.Bool.{Bool, true, false}
use mathlib.Core.List.{List, [], ◌∷◌, ◌++◌}
use mathlib.Core.Option.{Option, none, some}
use Prim.Native.Nat.{ℕ}
use Rattle.byte_strings.proofs.Flags.{nope}
use Rattle.field_values.specs.Values.{Value}
use Rattle.message_commands.specs.declared.Command.{Command}
use Rattle.message_commands.specs.declared.Command.TheVariants.{RS, KC, KR, KL, KF, KX, KD, GA, GL, KQ, Unknown}
use Rattle.engine.specs.Requests.{is_one_of_ten, command_in, fields_in, record_in, slot_in}
use Rattle.engine.specs.Questions.{Call, Question, ◌otherwise◌, table_questions, message_questions, questions, first_no}
use Rattle.engine.specs.Answers.{effect, refused, answer_of}
use Rattle.engine.specs.Decisions.{decided, granted, later_questions, decision_for, decision_of}
use Rattle.engine.specs.declared.Refusal.{Refusal}
use Rattle.engine.specs.declared.Decision.{Decision}
use Rattle.engine.specs.declared.Decision.TheVariants.{Refuse, Reset, Start, Open, Load, Close, DeleteSlot, DeleteKey, GetCard, ListSlots, QuerySlot}
use Rattle.engine.proofs.Steps.{yes_of}

-- questions in two groups: the first no of the first, else of the second
abbrev pub or_no : Option Refusal → Option Refusal → Option Refusal
or_no (some r) o = some r
or_no none o = o

pub in_turn_lem : (ps qs : List Question) → first_no (ps ++ qs) ≡ or_no (first_no ps) (first_no qs)
in_turn_lem [] qs = refl
in_turn_lem ((true otherwise r) ∷ ps) qs = in_turn_lem ps qs
in_turn_lem ((false otherwise r) ∷ ps) qs = refl

-- the command that a decision carries out
abbrev pub command_for : Decision → Command
command_for (Refuse r) = Unknown
command_for Reset = RS
command_for (Start k) = KC
command_for (Open k) = KR
command_for (Load k) = KL
command_for (Close k) = KF
command_for (DeleteSlot k) = KX
command_for (DeleteKey k) = KD
command_for (GetCard k) = GA
command_for ListSlots = GL
command_for (QuerySlot k) = KQ

abbrev pub is_refuse : Decision → Bool
is_refuse (Refuse r) = true
is_refuse Reset = false
is_refuse (Start k) = false
is_refuse (Open k) = false
is_refuse (Load k) = false
is_refuse (Close k) = false
is_refuse (DeleteSlot k) = false
is_refuse (DeleteKey k) = false
is_refuse (GetCard k) = false
is_refuse ListSlots = false
is_refuse (QuerySlot k) = false

module _ (x : Call) (vs : List Value) (r s : List ℕ) where
  granted_for : (c : Command) → is_one_of_ten c ≡ true → (command_for (granted x c vs r s) ≡ c) × (is_refuse (granted x c vs r s) ≡ false)
  granted_for RS e = (refl, refl)
  granted_for KC e = (refl, refl)
  granted_for KR e = (refl, refl)
  granted_for KL e = (refl, refl)
  granted_for KF e = (refl, refl)
  granted_for KX e = (refl, refl)
  granted_for KD e = (refl, refl)
  granted_for GA e = (refl, refl)
  granted_for GL e = (refl, refl)
  granted_for KQ e = (refl, refl)
  granted_for Unknown e = nope (cc)

-- what is known where a decision is to carry out its command
pub record Granted (x : Call) (d : Decision) : Type 0 where
  pub none_first : first_no (questions x) ≡ none
  pub command : command_in x.request ≡ command_for d
  pub grants : granted x (command_for d) (fields_in x.request) (record_in (command_for d) (fields_in x.request)) (slot_in (command_for d) (fields_in x.request)) ≡ d
  pub answers : answer_of x ≡ effect x (command_for d) (fields_in x.request) (record_in (command_for d) (fields_in x.request)) (slot_in (command_for d) (fields_in x.request))

module _ (x : Call) where
  abbrev c : Command
  c = command_in x.request

  abbrev vs : List Value
  vs = fields_in x.request

  abbrev later : Option Refusal
  later = first_no (later_questions x c vs)

  groups : first_no (questions x) ≡ or_no (first_no (table_questions x)) (or_no (first_no (message_questions x.request)) later)
  unfolding questions
  groups =
      in_turn_lem (table_questions x) (message_questions x.request ++ later_questions x c vs)
      ∙ ap (or_no (first_no (table_questions x))) (in_turn_lem (message_questions x.request) (later_questions x c vs))

  -- a no about tables, buffer or supplement
  pub tables_refused : (r : Refusal) → first_no (table_questions x) ≡ some r → Refuse r ≡ decision_of x
  unfolding decision_of
  tables_refused r e = sym (rw (groups, e))

  module _ (t : first_no (table_questions x) ≡ none) where
    -- a no about the message
    pub message_refused : (r : Refusal) → first_no (message_questions x.request) ≡ some r → Refuse r ≡ decision_of x
    unfolding decision_of
    message_refused r e = sym (rw (groups, t, e))

    -- else the command's own decision
    pub command_decides : first_no (message_questions x.request) ≡ none → (d : Decision) → d ≡ decision_for x c vs → d ≡ decision_of x
    unfolding decision_of decision_for
    command_decides e d p = p ∙ sym (rw (groups, t, e))

  pub refused_first : (r : Refusal) → decision_of x ≡ Refuse r → first_no (questions x) ≡ some r
  unfolding decision_of
  refused_first r e = go (first_no (questions x)) refl e
    where
      go : (o : Option Refusal) → first_no (questions x) ≡ o → decided o (granted x c vs (record_in c vs) (slot_in c vs)) ≡ Refuse r → o ≡ some r
      go (some q) w p = cc
      go none w p = let g = (granted_for x vs (record_in c vs) (slot_in c vs) c (yes_of x w).header).1 in nope (cc)

  pub refused_answer : (r : Refusal) → decision_of x ≡ Refuse r → answer_of x ≡ refused x r
  unfolding answer_of
  refused_answer r e = rw (refused_first r e) refl

  pub granted_answer : (d : Decision) → decision_of x ≡ d → is_refuse d ≡ false → Granted x d
  unfolding decision_of answer_of
  granted_answer d e n = go (first_no (questions x)) refl e
    where
      go : (o : Option Refusal) → first_no (questions x) ≡ o → decided o (granted x c vs (record_in c vs) (slot_in c vs)) ≡ d → Granted x d
      go (some q) w p = nope (cc)
      go none w p =
          let g : c ≡ command_for d = sym (granted_for x vs (record_in c vs) (slot_in c vs) c (yes_of x w).header).0 ∙ ap command_for p in
          record { none_first = w; command = g; grants = rw (← g) p; answers = rw (w, ← g) refl }
