-- How the stored card is written.
use mathlib.Core.Path.{◌≡◌, refl, sym, ap, ◌∙◌}
use mathlib.Core.Bool.{Bool, true, false, cond, not, ◌||◌}
use mathlib.Core.List.{List, [], ◌∷◌, ◌++◌}
use Prim.Native.Nat.{ℕ, ◌+◌, ◌≤◌, ◌<◌}
use native.Mathlib.Omega.{arith}
use lib.Dec.{eqb}
use lib.ListN.{length, take, drop, replicate, length-append, length-replicate}
use lib.Seq.{sets}
use Rattle.std.specs.Int.{to_be_bytes}
use Rattle.std.proofs.Common.{w32}
use Rattle.byte_strings.specs.Wrote.{Wrote}
use Rattle.byte_strings.specs.Lists.{rows_that}
use Rattle.byte_strings.proofs.Writes.{then, from_start, sets_append, none}
use Rattle.byte_bounds.specs.declared.Bounds.{Bounds}
use Rattle.card_entries.specs.Entries.{name_bytes, value_of, is_some, entry_bytes}
use Rattle.card_entries.proofs.EntryLaws.{entry_length_lem}
use Rattle.card_attributes.specs.Table.{table, rows, name, presence, is_always}
use Rattle.card_attributes.specs.declared.Attribute.{Attribute}
use Rattle.card_attributes.proofs.TableLaws.{table_end}
use Rattle.card_incoming.specs.Incoming.{value_at}
use Rattle.card_stored.specs.Stored.{EngineValues, stored_value, stored_card, is_stored_of, in_row, card_bytes}
use Rattle.card_writer.specs.Written.{written_of}
use Rattle.std.proofs.lemmas.List.{drop-replicate}

-- put_entry: a name is the low three of the four bytes of its number
name_written : (n : ℕ) → n < 16777216 → drop 1 (to_be_bytes w32 n) ≡ name_bytes n
name_written n h = grind arith

pub entry_written : {d e f g v : List ℕ} {a b c r : ℕ} (n : ℕ) → n < 16777216 → (m : List ℕ) → m ≡ to_be_bytes w32 n
    → Wrote d a (take 3 (drop 1 m)) e b → Wrote e b v f c → Wrote f c (59 ∷ []) g r → Wrote d a (entry_bytes n v) g r
unfolding entry_bytes
entry_written n h m o p q s = then (rw (o, name_written n h) at p) (then q s)

-- put_attribute
module _ (card : List ℕ) (own : EngineValues) (a : Attribute) (b : Bounds) (w : value_at card b ≡ value_of (name a) card) (r : Bool) (e : r ≡ (is_always (presence a) || not (eqb b.start 0))) where
  found : not (eqb b.start 0) ≡ is_some (value_of (name a) card)
  found = go (eqb b.start 0) refl
    where
      go : (t : Bool) → eqb b.start 0 ≡ t → not t ≡ is_some (value_of (name a) card)
      go true p = ap is_some (sym (rw p at (sym w)))
      go false p = ap is_some (sym (rw p at (sym w)))

  stored_of : r ≡ is_stored_of card a
  stored_of = e ∙ ap (λ (t : Bool). is_always (presence a) || t) found

  -- nothing is written,
  pub left_out : r ≡ false → (d : List ℕ) (at : ℕ) → Wrote d at (written_of card own a) d at
  unfolding written_of
  left_out o d at = rw (← stored_of, o) (none d at)

  -- or the entry
  module _ (o : r ≡ true) (v : List ℕ) (p : v ≡ stored_value card own (name a)) where
    entry_is : written_of card own a ≡ entry_bytes (name a) v
    unfolding written_of
    entry_is = rw (← stored_of, o, p)

    pub entry_fits : (at n : ℕ) → at + length (written_of card own a) ≤ n → at + length v + 4 ≤ n
    entry_fits at n h = omega (arith, ap length entry_is, entry_length_lem (name a) v)

    pub is_written_lem : (d g : List ℕ) (at z : ℕ) → Wrote d at (entry_bytes (name a) v) g z → Wrote d at (written_of card own a) g z
    is_written_lem d g at z q = rw entry_is q

-- put_stored: what is written of attributes
unfoldable pub written : List ℕ → EngineValues → List Attribute → List ℕ
written card own rs = card_bytes (rows_that (is_stored_of card) rs) (stored_value card own)

module _ (card : List ℕ) (own : EngineValues) where
  -- of none
  none_left : (k : ℕ) → rows ≤ k → written card own (drop k table) ≡ []
  unfolding written
  none_left k h = ap (written card own) (table_end k h)

  -- of the first, then of the others
  first_left : (k : ℕ) (a : Attribute) → drop k table ≡ a ∷ drop (k + 1) table → written card own (drop k table) ≡ written_of card own a ++ written card own (drop (k + 1) table)
  unfolding written written_of
  first_left k a e = ap (written card own) e ∙ go (is_stored_of card a)
    where
      go : (t : Bool) → card_bytes (cond t (a ∷ rows_that (is_stored_of card) (drop (k + 1) table)) (rows_that (is_stored_of card) (drop (k + 1) table))) (stored_value card own)
          ≡ cond t (entry_bytes (name a) (stored_value card own (name a))) [] ++ written card own (drop (k + 1) table)
      go true = refl
      go false = refl

  -- what is left of the table, from the k-th attribute on, is what is left to write
  pub record Left (d₀ d : List ℕ) (at k : ℕ) : Type 0 where
    pub next : at + length (written card own (drop k table)) ≡ length (stored_card card own)
    pub bytes : sets d at (written card own (drop k table)) ≡ sets d₀ 0 (stored_card card own)

  pub all_left : (d : List ℕ) → Left d d 0 0
  unfolding written stored_card
  all_left d = record { next = omega arith; bytes = refl }

  module _ (d₀ d : List ℕ) (at k : ℕ) (inv : Left d₀ d at k) where
    pub all_written : rows ≤ k → Wrote d₀ 0 (stored_card card own) d at
    all_written h =
        let e = none_left k h in
        record {
          next = omega (arith, inv.next, ap length e);
          bytes = ap (sets d at) (sym e) ∙ inv.bytes;
        }

    module _ (a : Attribute) (e : drop k table ≡ a ∷ drop (k + 1) table) where
      here : length (written card own (drop k table)) ≡ length (written_of card own a) + length (written card own (drop (k + 1) table))
      here = ap length (first_left k a e) ∙ length-append (written_of card own a) (written card own (drop (k + 1) table))

      pub entry_room : (n : ℕ) → length (stored_card card own) ≤ n → at + length (written_of card own a) ≤ n
      entry_room n h = omega (arith, here, inv.next)

      pub entry_turn : (g : List ℕ) (b : ℕ) → Wrote d at (written_of card own a) g b → Left d₀ g b (k + 1)
      entry_turn g b w =
          record {
            next = omega (arith, here, inv.next, w.next);
            bytes = rw (w.bytes, w.next, sets_append) (ap (sets d at) (sym (first_left k a e)) ∙ inv.bytes);
          }

-- write_stored
pub in_row_lem : (xs e : List ℕ) (b : ℕ) → Wrote (replicate 256 0) 0 xs e b → length xs ≤ 256 → e ≡ in_row xs
unfolding in_row
in_row_lem xs e b w h = from_start w (rw length-replicate h) ∙ ap (λ (l : List ℕ). xs ++ l) (drop-replicate (length xs) 256 0)
