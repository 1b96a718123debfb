-- What every question having been a yes tells of the places, the strings and the room.
use mathlib.Core.Path.{◌≡◌, refl, subst}
use mathlib.Core.Bool.{Bool, true, false}
use mathlib.Core.List.{List}
use mathlib.Core.Option.{Option, none, some}
use Prim.Native.Nat.{ℕ, ◌-◌, ◌<◌}
use lib.ListN.{length}
use Rattle.byte_strings.proofs.Flags.{nope}
use Rattle.message_commands.specs.declared.Command.{Command}
use Rattle.row_types.specs.Lists.{first_from}
use Rattle.row_types.specs.Slots.{has_state, is_named, free_slot}
use Rattle.row_types.specs.Registers.{is_vacant, is_key_of, free_register}
use Rattle.row_types.specs.declared.SlotRow.{SlotRow}
use Rattle.row_types.specs.declared.RegisterRow.{RegisterRow}
use Rattle.row_types.specs.declared.SlotState.TheVariants.{Free}
use Rattle.row_types.proofs.ListLaws.{found}
use Rattle.engine.specs.Requests.{fields_in}
use Rattle.engine.specs.Questions.{Call, place_in, is_place, place_else, slot_place, free_place, key_place, vacant_place, session_place, store_place, group_in, revision_in}
use Rattle.engine.specs.Answers.{card_place}
use Rattle.engine.specs.Decisions.{decision_of}
use Rattle.engine.specs.declared.Decision.{Decision}
use Rattle.engine.proofs.Steps.{Yes, yes_of}
use Rattle.engine.proofs.DecisionLaws.{command_for, is_refuse, granted_answer}

-- every question of a command was a yes
abbrev pub Asked : Call → Command → Type 0
Asked c k = Yes c k (fields_in c.request)

pub asked_of : (c : Call) (d : Decision) → decision_of c ≡ d → is_refuse d ≡ false → Asked c (command_for d)
asked_of c d e n = let k = granted_answer c d e n in subst (Asked c) k.command (yes_of c k.none_first)

-- a place that was found is one of the rows
pub first_below : {A : Type 0} (f : A → Bool) (d : A) (l : List A) → is_place (first_from f 0 l) ≡ true → place_in l (first_from f 0 l) < length l
first_below f d l e = go (first_from f 0 l) refl e
  where
    go : (o : Option ℕ) → first_from f 0 l ≡ o → is_place o ≡ true → place_in l o < length l
    go (some k) w p = (found f d l k w).0
    go none w p = nope (cc)

else_below : {A : Type 0} (l : List A) (o p : Option ℕ) → (is_place o ≡ true → place_in l o < length l) → (is_place p ≡ true → place_in l p < length l) → is_place (place_else o p) ≡ true → place_in l (place_else o p) < length l
else_below l (some k) p f g e = f refl
else_below l none p f g e = g e

pub slot_below : (s : List ℕ) (l : List SlotRow) → is_place (slot_place s l) ≡ true → place_in l (slot_place s l) < length l
slot_below s l e = first_below (is_named s) free_slot l e

pub session_below : (s : List ℕ) (l : List SlotRow) → is_place (session_place s l) ≡ true → place_in l (session_place s l) < length l
unfolding session_place
session_below s l e = else_below l (slot_place s l) (free_place l) (slot_below s l) (first_below (has_state Free) free_slot l) e

store_below : (g k : List ℕ) (l : List RegisterRow) → is_place (store_place g k l) ≡ true → place_in l (store_place g k l) < length l
unfolding store_place
store_below g k l e = else_below l (key_place g k l) (vacant_place l) (first_below (is_key_of g k) free_register l) (first_below is_vacant free_register l) e

pub card_below : (card : List ℕ) (l : List RegisterRow) → is_place (store_place (group_in card) (revision_in card) l) ≡ true → card_place card l < length l
unfolding card_place
card_below card l e = store_below (group_in card) (revision_in card) l e
