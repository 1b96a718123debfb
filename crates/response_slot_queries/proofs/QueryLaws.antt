-- What is told of the registers, one after the other, and of a slot with them.
use mathlib.Core.Path.{◌≡◌, refl}
use mathlib.Core.Bool.{Bool, true, false, cond}
use mathlib.Core.List.{List, [], ◌∷◌, ◌++◌, append_assoc}
use Prim.Native.Nat.{ℕ, ◌+◌, ◌≤◌, ◌<◌}
use lib.ListN.{length, get_or, take, drop}
use borrow.Author.Tests.{eq-eqb, ne_eqb}
use Rattle.byte_strings.specs.Wrote.{Wrote}
use Rattle.byte_strings.proofs.Writes.{then, none}
use Rattle.field_values.specs.Values.{number, field_bytes, payload_bytes}
use Rattle.field_writer.proofs.WriteLaws.{payload_append}
use Rattle.row_types.specs.Lists.{numbers_from, in_turn}
use Rattle.row_types.specs.RowReplies.{slot_fields, number_fields}
use Rattle.row_types.specs.declared.SlotRow.{SlotRow}
use Rattle.row_types.proofs.LoopLaws.{rows_cons}
use Rattle.row_types.proofs.WriteLoops.{Remains, turn_written}
use Rattle.row_index.specs.Found.{is_the}

-- put_register
module _ (s o n : ℕ) (d : List ℕ) (a : ℕ) where
  pub other_untold : (o ≡ s → ⊥) → Wrote d a (payload_bytes (number_fields (numbers_from (is_the s) n (o ∷ [])))) d a
  other_untold e = rw (ne_eqb o s e) (none d a)

  pub number_told : (f : List ℕ) (b : ℕ) → Wrote d a (field_bytes (number n)) f b → o ≡ s → Wrote d a (payload_bytes (number_fields (numbers_from (is_the s) n (o ∷ [])))) f b
  number_told f b w e = rw (eq-eqb o s e) (then w (none f b))

-- put_registers
module _ (s : ℕ) where
  abbrev pub one_number : ℕ → ℕ → List ℕ
  one_number i o = payload_bytes (number_fields (numbers_from (is_the s) (i + 1) (o ∷ [])))

  pub numbers_told : (i : ℕ) (owners : List ℕ) → in_turn one_number i owners ≡ payload_bytes (number_fields (numbers_from (is_the s) (i + 1) owners))
  numbers_told i [] = refl
  numbers_told i (x ∷ xs) = go (is_the s x) (numbers_told (i + 1) xs)
    where
      go : (t : Bool) → in_turn one_number (i + 1) xs ≡ payload_bytes (number_fields (numbers_from (is_the s) (i + 1 + 1) xs))
          → payload_bytes (number_fields (cond t ((i + 1) ∷ []) [])) ++ in_turn one_number (i + 1) xs ≡ payload_bytes (number_fields (cond t ((i + 1) ∷ numbers_from (is_the s) (i + 1 + 1) xs) (numbers_from (is_the s) (i + 1 + 1) xs)))
      go true q = rw (append_assoc, q)
      go false q = q

  -- the owner at i is told of
  pub owner_told : {d₀ d e : List ℕ} {a₀ a b : ℕ} (ws owners : List ℕ) (m i : ℕ) → Wrote d a (one_number i (get_or owners i 0)) e b → Remains d₀ a₀ ws d a (in_turn one_number i (drop i (take m owners)))
      → length owners ≡ 32 → m ≤ 32 → i < m → Remains d₀ a₀ ws e b (in_turn one_number (i + 1) (drop (i + 1) (take m owners)))
  owner_told ws owners m i w inv z r h = turn_written one_number (take m owners) i _ _ ws _ _ inv (get_or owners i 0) _ _ w (rows_cons 0 owners m i 32 z r h)

-- put_query: the slot's fields, and the registers' numbers ns
pub query_told : {d e f : List ℕ} {a b c : ℕ} (r : SlotRow) (ns : List ℕ) → Wrote d a (payload_bytes (slot_fields r)) e b → Wrote e b (payload_bytes (number_fields ns)) f c
    → Wrote d a (payload_bytes (slot_fields r ++ number_fields ns)) f c
query_told r ns v w = rw (payload_append (slot_fields r) (number_fields ns)) (then v w)
