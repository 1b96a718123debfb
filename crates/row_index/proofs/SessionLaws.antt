-- The slot of a register that is in a session: where no two slots have one name, it is the first of its name. S are slot rows.
use mathlib.Core.Path.{◌≡◌, refl, ◌∙◌}
use mathlib.Core.Bool.{Bool, true, false, not, ◌&&◌, ◌||◌}
use mathlib.Core.List.{List, [], ◌∷◌}
use Prim.Native.Nat.{ℕ, zero, suc, ◌<◌}
use native.Mathlib.Omega.{arith}
use lib.ListN.{length, get_or}
use Rattle.byte_strings.proofs.Flags.{nope, and_first, and_second}
use Rattle.byte_strings.proofs.StringLaws.{same_equal}
use Rattle.row_types.specs.Lists.{some_row, distinct_rows}
use Rattle.row_types.specs.Slots.{has_state, in_session, kmcid_of, is_named, is_same_slot, free_slot}
use Rattle.row_types.specs.Sound.{is_in_session}
use Rattle.row_types.specs.declared.SlotRow.{SlotRow}
use Rattle.row_types.specs.declared.SlotState.TheVariants.{Free}

module _ (s : List ℕ) where
  -- no row of the name, no session of it
  none_named : (S : List SlotRow) → some_row (is_named s) S ≡ false → some_row (is_in_session s) S ≡ false
  unfolding is_in_session
  none_named [] e = refl
  none_named (v ∷ vs) e = go (is_named s v) (some_row (is_named s) vs) e (none_named vs)
    where
      go : (a b : Bool) → (a || b) ≡ false → (b ≡ false → some_row (is_in_session s) vs ≡ false) → ((a && in_session v) || some_row (is_in_session s) vs) ≡ false
      go true b w k = nope (cc)
      go false b w k = k w

  -- a row of the name is alike to another of it
  alike_named : (v : SlotRow) → is_named s v ≡ true → (S : List SlotRow) → some_row (is_same_slot v) S ≡ some_row (is_named s) S
  unfolding is_same_slot is_named
  alike_named v e S =
      let f : not (has_state Free v) ≡ true = and_first (not (has_state Free v)) _ e in
      let n : kmcid_of v ≡ s = same_equal (kmcid_of v) s (and_second (not (has_state Free v)) _ e) in
      go f n S
    where
      go : not (has_state Free v) ≡ true → kmcid_of v ≡ s → (S : List SlotRow) → some_row (is_same_slot v) S ≡ some_row (is_named s) S
      go f n [] = refl
      go f n (x ∷ xs) = rw (f, n, go f n xs) refl

  -- no row before a later one of the name has it too
  not_before : (v : SlotRow) (vs : List SlotRow) → distinct_rows is_same_slot (v ∷ vs) ≡ true → some_row (is_named s) vs ≡ true → is_named s v ≡ false
  not_before v vs d e = go (is_named s v) refl
    where
      go : (b : Bool) → is_named s v ≡ b → is_named s v ≡ false
      go false n = n
      go true n =
          let a : some_row (is_same_slot v) vs ≡ true = alike_named v n vs ∙ e in
          let b = and_first (not (some_row (is_same_slot v) vs)) _ d in
          nope (cc)

  -- nor one after it
  not_after : (v : SlotRow) (vs : List SlotRow) → distinct_rows is_same_slot (v ∷ vs) ≡ true → is_named s v ≡ true → some_row (is_named s) vs ≡ false
  not_after v vs d n = go (some_row (is_named s) vs) refl
    where
      go : (b : Bool) → some_row (is_named s) vs ≡ b → some_row (is_named s) vs ≡ false
      go false e = e
      go true e = let a = not_before v vs d e in nope (cc)

  pub session_at : (S : List SlotRow) → distinct_rows is_same_slot S ≡ true → (k : ℕ) → k < length S → is_named s (get_or S k free_slot) ≡ true → some_row (is_in_session s) S ≡ in_session (get_or S k free_slot)
  unfolding is_in_session
  session_at [] d k h e = absurd (omega arith)
  session_at (v ∷ vs) d zero h e = rw (e, none_named vs (not_after v vs d e)) (or_false (in_session v))
    where
      or_false : (b : Bool) → (b || false) ≡ b
      or_false true = refl
      or_false false = refl
  session_at (v ∷ vs) d (suc k) h e =
      rw (not_before v vs d (some_at vs k (omega arith) e)) (session_at vs (and_second (not (some_row (is_same_slot v) vs)) _ d) k (omega arith) e)
    where
      some_at : (l : List SlotRow) (k : ℕ) → k < length l → is_named s (get_or l k free_slot) ≡ true → some_row (is_named s) l ≡ true
      some_at [] k h e = absurd (omega arith)
      some_at (x ∷ xs) zero h e = rw e refl
      some_at (x ∷ xs) (suc k) h e = rw (some_at xs k (omega arith) e) (or_true (is_named s x))
        where
          or_true : (b : Bool) → (b || true) ≡ true
          or_true true = refl
          or_true false = refl
