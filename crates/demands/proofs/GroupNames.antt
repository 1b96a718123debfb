-- The supply group name: what SM?KL keeps, what SM?GA shows, and what stands after every list of calls.
use Prim.Native.Nat.{ℕ, zero, suc, ◌+◌, ◌-◌}
use native.Mathlib.Omega.{arith}
use mathlib.Core.Path.{◌≡◌, refl, sym, ap, subst, ◌∙◌}
use mathlib.Core.Bool.{Bool, true, false}
use mathlib.Core.List.{List, [], ◌∷◌, ◌++◌, map, map-append}
use mathlib.Core.Option.{some}
use lib.ListN.{get_or}
use Rattle.byte_strings.proofs.Flags.{nope}
use Rattle.byte_strings.proofs.StringLaws.{same_self}
use Rattle.field_values.specs.Values.{number, string}
use Rattle.message_frames.specs.Frames.{header_of}
use Rattle.message_commands.specs.declared.Command.{Command}
use Rattle.message_commands.specs.declared.Command.TheVariants.{KL, GA}
use Rattle.message_replies.specs.Responses.{Reply, fields_of, reply_to}
use Rattle.card_attributes.specs.Table.{SGN}
use Rattle.card_entries.specs.Entries.{value_of}
use Rattle.card_stored.specs.Stored.{in_row, is_stored}
use Rattle.card_laws.proofs.RoundTrip.{row_value}
use Rattle.card_laws.proofs.StoredText.{shown_value}
use Rattle.row_types.specs.Lists.{trimmed}
use Rattle.row_types.specs.Registers.{is_vacant, is_register_sound, free_register}
use Rattle.row_types.specs.RowReplies.{stored_in}
use Rattle.row_types.specs.declared.RegisterRow.{RegisterRow}
use Rattle.history.specs.Model.{Carried, key, kl, loaded, ◌⇒◌, register_at}
use Rattle.history.specs.Demand3.{Live}
use Rattle.engine.specs.Refusals.{refusal}
use Rattle.engine.specs.Requests.{fields_in, register_in}
use Rattle.engine.specs.Questions.{Call, group_in, revision_in, register_numbered}
use Rattle.engine.specs.Answers.{accepted, loaded_card, card_place, answered, answer_of}
use Rattle.engine.specs.Outcomes.{outcome_number}
use Rattle.engine.specs.Words.{Lent, call_of, register_is, is_accepted, empty_rows}
use Rattle.engine.specs.declared.Outcome.{Outcome}
use Rattle.engine.specs.declared.Outcome.TheVariants.{Accepted, Done, Refused}
use Rattle.engine.proofs.AnswerLaws.{is_yes}
use Rattle.engine.proofs.ReadsBack.{shown_row}
use Rattle.engine.proofs.RowWords.{register_row_lem, filled_key, vacant_reads}
use Rattle.engine.proofs.Steps.{Yes, yes_of}
use Rattle.engine.proofs.Numbers.{number_range}
use Rattle.case_answers.proofs.StoredCard as stored
use Rattle.entry_contracts.specs.Handles.{Run, Handles, input_in}
use Rattle.demands.specs.Demands.{response_in, SaysReply, Runs, item_in}
use Rattle.demands.specs.GroupNames.{SameName, Loads, card_brought, slot_loaded, register_replied, card_replied, LoadsKeepName, Shows, ShowsCards, NamesStand}
use Rattle.demands.proofs.OneCall.{first_yes, response_is, demand2}
use Rattle.demands.proofs.Lists.{demand3}

-- an accepted SM?KL
module _ (rows : Lent) (run : Run) (left : Lent) (h : Handles rows run left) (l : Loads run) where
  abbrev call : Call
  call = call_of rows (input_in run)

  is_yes_lem : is_yes (answer_of call).outcome ≡ true
  is_yes_lem = go (answer_of call).outcome refl
    where
      go : (o : Outcome) → (answer_of call).outcome ≡ o → is_yes o ≡ true
      go (Accepted a) e = refl
      go Done e = refl
      go (Refused q) e = absurd (let w : (refusal q).number ≡ 0 = sym (ap outcome_number e) ∙ sym h.outcome_is ∙ l.1 in omega (arith, w, (number_range q).0))

  -- the row that it fills is the one that its reply tells
  row_told : register_numbered (register_replied run) left.registers ≡ stored.row call l.0 is_yes_lem
  row_told =
      let n : register_replied run - 1 ≡ stored.place call l.0 is_yes_lem = omega (arith, ap (λ (s : List ℕ). register_in (fields_of s)) (response_is rows run left h), stored.answered_register call l.0 is_yes_lem refl) in
      λ j. get_or (h.registers_are j) (n j) free_register

  replied_name : SameName (card_replied run) (card_brought run)
  replied_name = rw (response_is rows run left h) (stored.answered_sgn call l.0 is_yes_lem refl)

  -- as an item of the list
  abbrev replied : Reply
  replied =
      reply_to (header_of run.request) accepted
      (number (card_place (card_brought run) rows.registers + 1) ∷ string (loaded_card (card_brought run) run.supplement.check (slot_loaded run)) ∷ [])

  reply_is : (answer_of call).reply ≡ some replied
  unfolding answer_of answered
  reply_is = rw (first_yes rows run left h l.1, l.0) refl

  is_accepted_lem : is_accepted (response_in run) ≡ true
  unfolding is_accepted
  is_accepted_lem = rw (subst (SaysReply (response_in run)) reply_is (demand2 rows run left h).replied).status_is (same_self accepted)

  load_item : item_in run ≡ (kl (slot_loaded run) (group_in (card_brought run)) (revision_in (card_brought run)) ⇒ loaded (register_replied run) (in_row (card_replied run)))
  load_item = rw (l.0, is_accepted_lem) refl

pub loads_keep_name : LoadsKeepName
loads_keep_name rows run left h l = record {
  replied = replied_name rows run left h l;
  stored = ap (λ (r : RegisterRow). value_of SGN r.card) (row_told rows run left h l) ∙ (stored.stored_card_lem (call rows run left h l) l.0 (is_yes_lem rows run left h l)).sgn;
}

-- an accepted SM?GA
module _ (rows : Lent) (run : Run) (left : Lent) (h : Handles rows run left) (l : Shows run) where
  abbrev shown : RegisterRow
  shown = register_numbered (register_in (fields_in run.request)) rows.registers

  shown_reply : (answer_of (call_of rows (input_in run))).reply ≡ some (reply_to (header_of run.request) accepted (string (stored_in shown) ∷ []))
  unfolding answer_of answered
  shown_reply = rw (first_yes rows run left h l.1, l.0) refl

  shown_sound : is_stored shown.card ≡ true
  unfolding is_register_sound
  shown_sound =
      let x = call_of rows (input_in run) in
      let w = shown_row x (fields_in run.request) (subst (λ (c : Command). Yes x c (fields_in run.request)) l.0 (yes_of x (first_yes rows run left h l.1))) in
      rw w.1 at w.0

pub shows_cards : ShowsCards
unfolding trimmed
shows_cards rows run left h l n =
    let s = subst (SaysReply (response_in run)) (shown_reply rows run left h l) (demand2 rows run left h).replied in
    rw s.fields_are (shown_value n (shown rows run left h l).card (shown_sound rows run left h l))

-- the row of a register that reads as a key has the key's card
read_card_lem : (registers : List RegisterRow) (n : ℕ) (g r s c : List ℕ) (q : Carried) → register_at (map register_is registers) n ≡ key g r s c q → (register_numbered n registers).card ≡ c
read_card_lem registers zero g r s c q e = nope (cc)
read_card_lem registers (suc i) g r s c q e = let n : suc i - 1 ≡ i = omega arith in rw n (go (is_vacant (get_or registers i free_register)) refl)
  where
    reads : register_is (get_or registers i free_register) ≡ key g r s c q
    reads = sym (register_row_lem registers i) ∙ e

    go : (t : Bool) → is_vacant (get_or registers i free_register) ≡ t → (get_or registers i free_register).card ≡ c
    go true o = nope (let w = sym (vacant_reads (get_or registers i free_register) o) ∙ reads in cc)
    go false o = let w = sym (filled_key (get_or registers i free_register) o) ∙ reads in cc

-- a call of a list
record Stage (run : Run) : Type 0 where
  rows : Lent
  left : Lent
  go : Handles rows run left

stage : (before : List Run) (run : Run) (after : List Run) (rows left : Lent) → Runs rows (before ++ (run ∷ after)) left → Stage run
stage [] run after rows left m = record { rows = rows; left = m.0; go = m.1.0 }
stage (r ∷ before) run after rows left m = stage before run after m.0 left m.1.1

pub names_stand : NamesStand
names_stand a b before run after left m l quiet kept =
    let g = stage before run after (empty_rows a b) left m in
    let c : SameName (in_row (card_replied run)) (card_brought run) = row_value SGN (card_replied run) ∙ replied_name g.rows run g.left g.go l in
    let live : Live (map item_in (before ++ (run ∷ after))) (group_in (card_brought run)) (revision_in (card_brought run)) (register_replied run) (slot_loaded run) (in_row (card_replied run)) =
    record {
      before = map item_in before;
      load = item_in run;
      after = map item_in after;
      split = map-append item_in before (run ∷ after);
      is = load_item g.rows run g.left g.go l;
      last = quiet;
      kept = kept;
    } in
    let stands = (demand3 a b (before ++ (run ∷ after)) left m).there _ _ _ _ _ live in
    ap (value_of SGN) (read_card_lem left.registers (register_replied run) _ _ _ _ _ stands.is) ∙ c
