-- The places that the engine finds, in the words of demand 3: a slot's row, the row of a new session, the row of a key.
use mathlib.Core.Path.{◌≡◌, refl, sym, ◌∙◌}
use mathlib.Core.Bool.{true, false}
use mathlib.Core.List.{List, map}
use mathlib.Core.Option.{Option, none, some}
use Prim.Native.Nat.{ℕ, ◌-◌, ◌<◌}
use native.Mathlib.Omega.{arith}
use lib.Dec.{leb}
use lib.ListN.{length, get_or}
use borrow.Author.Tests.{leb-true}
use Rattle.byte_strings.proofs.Flags.{nope, and_first, and_second}
use Rattle.text_classes.specs.Classes.{are_all}
use Rattle.card_attributes.specs.Table.{KSL}
use Rattle.row_types.specs.Lists.{every_row}
use Rattle.row_types.specs.Slots.{is_zero_slot, has_state, is_named, is_slot_sound, free_slot}
use Rattle.row_types.specs.Registers.{is_vacant, attribute_of, is_key_of, free_register}
use Rattle.row_types.specs.declared.SlotRow.{SlotRow}
use Rattle.row_types.specs.declared.RegisterRow.{RegisterRow}
use Rattle.row_types.specs.declared.SlotState.TheVariants.{Free}
use Rattle.row_types.proofs.ListLaws.{found, found_none, every_at}
use Rattle.history.specs.Model.{State, slot_row, used, Carried, vacant, key}
use Rattle.history.specs.Step.{SessionPlace, own, fresh, StorePlace, held, spare}
use Rattle.engine.specs.Questions.{slot_place, free_place, key_place, vacant_place, is_place, place_else, session_place, store_place, is_filled}
use Rattle.engine.specs.Words.{state_in, register_is, tables_of}
use Rattle.engine.proofs.RowWords.{slot_row_lem, named_reads, reads_named, free_state_reads, free_vacant, register_row_lem, vacant_reads, key_reads, reads_key}

-- a slot that is known
pub record KnownAt (slots : List SlotRow) (s : List ℕ) : Type 0 where
  pub place : ℕ
  pub is : slot_place s slots ≡ some place
  pub within : place < length slots
  pub named : is_named s (get_or slots place free_slot) ≡ true

known_from : (slots : List SlotRow) (s : List ℕ) (o : Option ℕ) → slot_place s slots ≡ o → is_place o ≡ true → KnownAt slots s
known_from slots s none e h = nope (cc)
known_from slots s (some i) e h = let m = found (is_named s) free_slot slots i e in record { place = i; is = e; within = m.0; named = m.1 }

pub known_at : (slots : List SlotRow) (s : List ℕ) → is_place (slot_place s slots) ≡ true → KnownAt slots s
known_at slots s h = known_from slots s (slot_place s slots) refl h

pub free_sound : is_slot_sound free_slot ≡ true
unfolding is_slot_sound free_slot is_zero_slot are_all
free_sound = refl

pub sound_at : (slots : List SlotRow) → every_row is_slot_sound slots ≡ true → (i : ℕ) → is_slot_sound (get_or slots i free_slot) ≡ true
sound_at slots h i = every_at is_slot_sound free_slot free_sound slots h i

pub free_unnamed : (s : List ℕ) → is_named s free_slot ≡ false
unfolding is_named free_slot
free_unnamed s = refl

-- the row where a session of s goes
pub record SpotAt (slots : List SlotRow) (registers : List RegisterRow) (s : List ℕ) : Type 0 where
  pub place : ℕ
  pub is : session_place s slots ≡ some place
  pub within : place < length slots
  pub spot : SessionPlace (tables_of slots registers) s place

module _ (slots : List SlotRow) (registers : List RegisterRow) (s : List ℕ) (h : every_row is_slot_sound slots ≡ true) where
  spot_from : (o f : Option ℕ) → slot_place s slots ≡ o → free_place slots ≡ f → is_place (place_else o f) ≡ true → SpotAt slots registers s
  unfolding session_place
  spot_from (some i) f e q y =
      let m = found (is_named s) free_slot slots i e in
      let v = get_or slots i free_slot in
      record { place = i; is = rw e refl; within = m.0; spot = own (state_in v.state) (slot_row_lem slots i ∙ named_reads v s m.1) }
  spot_from none (some i) e q y =
      let m = found (has_state Free) free_slot slots i q in
      record {
        place = i;
        is = rw (e, q) refl;
        within = m.0;
        spot = fresh (slot_row_lem slots i ∙ free_state_reads (get_or slots i free_slot) (sound_at slots h i) m.1) others;
      }
    where
      others : (j : ℕ) (a : State) → ¬ (slot_row (tables_of slots registers) j ≡ used s a)
      others j a w =
          let p = found_none (is_named s) free_slot (free_unnamed s) slots 0 e j in
          let z = reads_named (get_or slots j free_slot) (sound_at slots h j) s a (sym (slot_row_lem slots j) ∙ w) in
          nope (cc)
  spot_from none none e q y = nope (cc)

  pub spot_at : is_place (session_place s slots) ≡ true → SpotAt slots registers s
  unfolding session_place
  spot_at y = spot_from (slot_place s slots) (free_place slots) refl refl y

-- the row where a key of g and k goes
pub record HomeAt (slots : List SlotRow) (registers : List RegisterRow) (g k : List ℕ) : Type 0 where
  pub place : ℕ
  pub is : store_place g k registers ≡ some place
  pub within : place < length registers
  pub home : StorePlace (tables_of slots registers) g k place

pub free_keyless : (g k : List ℕ) → is_key_of g k free_register ≡ false
unfolding is_key_of
free_keyless g k = rw free_vacant refl

module _ (slots : List SlotRow) (registers : List RegisterRow) (g k : List ℕ) where
  home_from : (o f : Option ℕ) → key_place g k registers ≡ o → vacant_place registers ≡ f → is_place (place_else o f) ≡ true → HomeAt slots registers g k
  unfolding store_place
  home_from (some i) f e q y =
      let m = found (is_key_of g k) free_register registers i e in
      let v = get_or registers i free_register in
      record { place = i; is = rw e refl; within = m.0; home = held (attribute_of KSL v) v.card _ (register_row_lem registers i ∙ key_reads g k v m.1) }
  home_from none (some i) e q y =
      let m = found is_vacant free_register registers i q in
      record {
        place = i;
        is = rw (e, q) refl;
        within = m.0;
        home = spare (register_row_lem registers i ∙ vacant_reads (get_or registers i free_register) m.1) others;
      }
    where
      others : (j : ℕ) (s c : List ℕ) (m : Carried) → ¬ (get_or (map register_is registers) j vacant ≡ key g k s c m)
      others j s c m w =
          let p = found_none (is_key_of g k) free_register (free_keyless g k) registers 0 e j in
          let z = reads_key g k s c m (get_or registers j free_register) (sym (register_row_lem registers j) ∙ w) in
          nope (cc)
  home_from none none e q y = nope (cc)

  pub home_at : is_place (store_place g k registers) ≡ true → HomeAt slots registers g k
  unfolding store_place
  home_at y = home_from (key_place g k registers) (vacant_place registers) refl refl y

-- a register that is filled is one of the rows
pub filled_below : (n : ℕ) (l : List RegisterRow) → is_filled n l ≡ true → n - 1 < length l
unfolding is_filled
filled_below n l e =
    let a = leb-true 1 n (and_first (leb 1 n) _ e) in
    let b = leb-true n (length l) (and_first (leb n (length l)) _ (and_second (leb 1 n) _ e)) in
    omega arith
