-- What SM?GL lists, and which lists are the same bytes, follows from what `diminurel_handle` promises of a call.
use Prim.Native.Nat.{ℕ}
use mathlib.Core.Path.{◌≡◌, refl, sym, ap, subst, ◌∙◌}
use mathlib.Core.Logic.{◌↔◌}
use mathlib.Core.Bool.{true}
use mathlib.Core.List.{List, [], ◌∷◌, map}
use mathlib.Core.Option.{none, some}
use Rattle.field_values.specs.Values.{Value}
use Rattle.message_commands.proofs.HeaderLaws.{list_header}
use Rattle.message_frames.specs.Frames.{header_of}
use Rattle.message_replies.specs.Responses.{Reply, fields_of, reply_bytes, reply_to}
use Rattle.row_types.specs.Sound.{are_sound}
use Rattle.row_types.specs.RowReplies.{slot_names, name_fields}
use Rattle.row_types.proofs.ListedSlots.{listed_exactly, listed_ascends, listed_once, same_exactly}
use Rattle.engine.specs.Requests.{first_text}
use Rattle.engine.specs.Questions.{Call, questions, first_no}
use Rattle.engine.specs.Answers.{accepted, response_of, answered, answer_of}
use Rattle.engine.specs.Words.{Lent, call_of}
use Rattle.engine.proofs.Steps.{yes_of}
use Rattle.entry_contracts.specs.Handles.{Run, Handles, input_in}
use Rattle.demands.specs.Demands.{response_in, SaysReply}
use Rattle.demands.specs.Screens.{ListsSlots, ListsAscend, SameNames, SameScreens}
use Rattle.demands.proofs.OneCall.{first_yes, response_is, demand2}

-- an accepted SM?GL: its reply, and that the rows are sound
module _ (rows : Lent) (run : Run) (left : Lent) (h : Handles rows run left) (l : ListsSlots run) where
  abbrev call : Call
  call = call_of rows (input_in run)

  abbrev names : List (List ℕ)
  names = slot_names rows.slots

  abbrev listing : List ℕ → Reply
  listing header = reply_to header accepted (name_fields names)

  no_first : first_no (questions call) ≡ none
  no_first = first_yes rows run left h l.1

  reply_is : (answer_of call).reply ≡ some (listing (header_of run.request))
  unfolding answer_of answered
  reply_is = rw (no_first, l.0) refl

  bytes_are : response_in run ≡ reply_bytes (listing (header_of run.request))
  bytes_are = response_is rows run left h ∙ ap response_of reply_is

  told : fields_of (response_in run) ≡ name_fields names
  told = (subst (SaysReply (response_in run)) reply_is (demand2 rows run left h).replied).fields_are

  is_sound : are_sound rows.slots rows.registers ≡ true
  is_sound = (yes_of call no_first).sound

pub lists_ascend : ListsAscend
lists_ascend rows run left h l =
    let e = is_sound rows run left h l in
    record {
      names = slot_names rows.slots;
      told = told rows run left h l;
      ascends = listed_ascends rows.slots rows.registers e;
      exactly = listed_exactly rows.slots;
      once = listed_once rows.slots rows.registers e;
    }

-- names are told by their fields
abbrev texts_in : List Value → List (List ℕ)
texts_in vs = map (λ (v : Value). first_text (v ∷ [])) vs

texts_back : (names : List (List ℕ)) → texts_in (name_fields names) ≡ names
texts_back [] = refl
texts_back (s ∷ names) = ap (λ (l : List (List ℕ)). s ∷ l) (texts_back names)

pub same_screens : SameScreens
same_screens one other run run' left left' h h' l l' = (λ e. exactly.0 (names_same e), λ e. bytes_same (exactly.1 e))
  where
    exactly : (slot_names one.slots ≡ slot_names other.slots) ↔ SameNames one other
    exactly = same_exactly one.slots other.slots one.registers other.registers (is_sound one run left h l) (is_sound other run' left' h' l')

    names_same : response_in run ≡ response_in run' → slot_names one.slots ≡ slot_names other.slots
    names_same e =
        let w : name_fields (slot_names one.slots) ≡ name_fields (slot_names other.slots) = sym (told one run left h l) ∙ ap fields_of e ∙ told other run' left' h' l' in
        sym (texts_back (slot_names one.slots)) ∙ ap texts_in w ∙ texts_back (slot_names other.slots)

    header_same : header_of run.request ≡ header_of run'.request
    header_same = list_header (header_of run.request) l.0 ∙ sym (list_header (header_of run'.request) l'.0)

    bytes_same : slot_names one.slots ≡ slot_names other.slots → response_in run ≡ response_in run'
    bytes_same e = bytes_are one run left h l ∙ (λ j. reply_bytes (reply_to (header_same j) accepted (name_fields (e j)))) ∙ sym (bytes_are other run' left' h' l')
