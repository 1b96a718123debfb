-- SM?GL's list of sound rows: each slot that is not free is in it just once, nothing else is, and it ascends; so it is told by the slots' names alone.
use mathlib.Core.Path.{◌≡◌, refl, sym, subst, ◌∙◌}
use mathlib.Core.Logic.Or
use mathlib.Core.Logic.{◌↔◌, ◌⊎◌, inl, inr}
use mathlib.Core.Bool.{Bool, true, false, cond, not, ◌||◌, Bool-set}
use mathlib.Core.List.Perm
use mathlib.Core.List.{List, [], ◌∷◌, map, Perm, Mem, Nodup, Nodup-nil, Nodup-cons, not-mem-nil, eq-or-mem_of_mem-cons, mem-cons_self, mem-cons_of_mem, mem-cast}
use Prim.Native.Nat.{ℕ}
use Rattle.byte_strings.specs.Strings.{same_bytes}
use Rattle.byte_strings.proofs.Flags.{nope, and_first, and_second, or_cases, or_second, both_ways}
use Rattle.byte_strings.proofs.StringLaws.{same_self, same_equal}
use Rattle.byte_orders.specs.Orders.{is_before, Ascends}
use Rattle.byte_orders.proofs.OrderLaws.{sort_perm, sort_ascends, ascending_once, one_ascending}
use Rattle.byte_orders.proofs.ByteOrder.{bytes_ordered}
use Rattle.row_types.specs.Lists.{every_row, some_row, distinct_rows}
use Rattle.row_types.specs.Slots.{has_state, kmcid_of, is_named, is_slot_sound, is_same_slot}
use Rattle.row_types.specs.Sound.{are_sound}
use Rattle.row_types.specs.RowReplies.{slot_names}
use Rattle.row_types.specs.declared.SlotRow.{SlotRow}
use Rattle.row_types.specs.declared.RegisterRow.{RegisterRow}
use Rattle.row_types.specs.declared.SlotState.TheVariants.{Free}
use Rattle.row_types.proofs.RowReplyLaws.{not_free, names_in}

or_here : (a b : Bool) → a ≡ true → (a || b) ≡ true
or_here a b e = rw e refl

-- a name of the rows is that of a slot that is not free,
listed_named : (s : List ℕ) (rows : List SlotRow) → Mem s (names_in rows) → some_row (is_named s) rows ≡ true
unfolding is_named
listed_named s [] m = absurd (not-mem-nil m)
listed_named s (x ∷ xs) m = go (has_state Free x) refl m (listed_named s xs)
  where
    go : (t : Bool) → has_state Free x ≡ t → Mem s (map kmcid_of (cond (not t) (x ∷ not_free xs) (not_free xs))) → (Mem s (names_in xs) → some_row (is_named s) xs ≡ true) → some_row (is_named s) (x ∷ xs) ≡ true
    go true q w more = or_second (is_named s x) (some_row (is_named s) xs) (more w)
    go false q w more =
        Or.elim (Bool-set (some_row (is_named s) (x ∷ xs)) true) (eq-or-mem_of_mem-cons w)
        (λ e. or_here (is_named s x) (some_row (is_named s) xs) (rw (q, e) (same_self (kmcid_of x))))
        (λ k. or_second (is_named s x) (some_row (is_named s) xs) (more k))

-- and the name of every such slot is one of them
named_listed : (s : List ℕ) (rows : List SlotRow) → some_row (is_named s) rows ≡ true → Mem s (names_in rows)
unfolding is_named
named_listed s [] e = nope (cc)
named_listed s (x ∷ xs) e = go (has_state Free x) refl (or_cases (is_named s x) (some_row (is_named s) xs) e) (named_listed s xs)
  where
    go : (t : Bool) → has_state Free x ≡ t → (is_named s x ≡ true) ⊎ (some_row (is_named s) xs ≡ true) → (some_row (is_named s) xs ≡ true → Mem s (names_in xs)) → Mem s (map kmcid_of (cond (not t) (x ∷ not_free xs) (not_free xs)))
    go true q (inl h) more = nope (let z = and_first (not (has_state Free x)) (same_bytes (kmcid_of x) s) h in cc)
    go true q (inr h) more = more h
    go false q (inl h) more = mem-cast (sym (same_equal (kmcid_of x) s (and_second (not (has_state Free x)) (same_bytes (kmcid_of x) s) h))) mem-cons_self
    go false q (inr h) more = mem-cons_of_mem (kmcid_of x) (more h)

-- no name stands twice, where the identifiers are distinct
some_same : (x : SlotRow) → has_state Free x ≡ false → (rows : List SlotRow) → some_row (is_named (kmcid_of x)) rows ≡ some_row (is_same_slot x) rows
unfolding is_same_slot
some_same x q [] = refl
some_same x q (y ∷ ys) = rw (q, some_same x q ys) refl

names_once : (rows : List SlotRow) → distinct_rows is_same_slot rows ≡ true → Nodup (names_in rows)
names_once [] e = Nodup-nil
names_once (x ∷ xs) e = go (has_state Free x) refl (names_once xs (and_second (not (some_row (is_same_slot x) xs)) (distinct_rows is_same_slot xs) e))
  where
    go : (t : Bool) → has_state Free x ≡ t → Nodup (names_in xs) → Nodup (map kmcid_of (cond (not t) (x ∷ not_free xs) (not_free xs)))
    go true q d = d
    go false q d = Nodup-cons.1 (λ m. nope (let w = sym (some_same x q xs) ∙ listed_named (kmcid_of x) xs m in let n = and_first (not (some_row (is_same_slot x) xs)) (distinct_rows is_same_slot xs) e in cc), d)

-- THE LIST
module _ (slots : List SlotRow) where
  turned : Perm (slot_names slots) (names_in slots)
  unfolding slot_names
  turned = ∣ sort_perm _ (names_in slots) ∣₁

  -- has a name exactly when it is that of a slot not free,
  pub listed_exactly : (s : List ℕ) → Mem s (slot_names slots) ↔ (some_row (is_named s) slots ≡ true)
  listed_exactly s = (λ m. listed_named s slots ((Perm.mem_iff turned).0 m), λ e. (Perm.mem_iff turned).1 (named_listed s slots e))

  -- and of sound rows it ascends,
  pub listed_ascends : (registers : List RegisterRow) → are_sound slots registers ≡ true → Ascends is_before (slot_names slots)
  unfolding are_sound slot_names
  listed_ascends registers e =
      sort_ascends is_before bytes_ordered (names_in slots) (names_once slots (and_first (distinct_rows is_same_slot slots) _ (and_second (every_row is_slot_sound slots) _ e)))

  -- so that no name stands in it twice
  pub listed_once : (registers : List RegisterRow) → are_sound slots registers ≡ true → Nodup (slot_names slots)
  listed_once registers e = ascending_once is_before bytes_ordered (listed_ascends registers e)

-- two lists of sound rows are one exactly where the slots have the same names, in whatever rows
module _ (S T : List SlotRow) (Q R : List RegisterRow) (h : are_sound S Q ≡ true) (k : are_sound T R ≡ true) where
  same_list : ((s : List ℕ) → some_row (is_named s) S ≡ some_row (is_named s) T) → slot_names S ≡ slot_names T
  same_list e = one_ascending is_before bytes_ordered (slot_names S) (slot_names T) (listed_ascends S Q h) (listed_ascends T R k)
      (λ s. (λ m. (listed_exactly T s).1 (sym (e s) ∙ (listed_exactly S s).0 m), λ m. (listed_exactly S s).1 (e s ∙ (listed_exactly T s).0 m)))

  same_named : slot_names S ≡ slot_names T → (s : List ℕ) → some_row (is_named s) S ≡ some_row (is_named s) T
  same_named e s = both_ways (some_row (is_named s) S) (some_row (is_named s) T) (λ y. (listed_exactly T s).0 (subst (Mem s) e ((listed_exactly S s).1 y))) (λ y. (listed_exactly S s).0 (subst (Mem s) (sym e) ((listed_exactly T s).1 y)))

  pub same_exactly : (slot_names S ≡ slot_names T) ↔ ((s : List ℕ) → some_row (is_named s) S ≡ some_row (is_named s) T)
  same_exactly = (same_named, same_list)
