-- A card as stored has each attribute that every stored card has, its value in form.
use mathlib.Core.Path.{◌≡◌, refl}
use mathlib.Core.Bool.{Bool, true, false}
use mathlib.Core.Logic.{⊎_elim}
use mathlib.Core.List.{List, [], ◌∷◌}
use Prim.Native.Nat.{ℕ, zero, suc, ◌+◌}
use native.Mathlib.Omega.{arith}
use lib.Dec.{T, eqb}
use lib.ListN.{take, drop}
use borrow.Author.Tests.{eq-eqb}
use Rattle.byte_strings.proofs.Flags.{and_left, and_right, no}
use Rattle.byte_pieces.specs.Pieces.{pieces}
use Rattle.byte_pieces.proofs.PieceLaws.{pieces_first}
use Rattle.text_forms.specs.Forms.{in_form}
use Rattle.card_entries.specs.Entries.{entry_length, value_in, value_of, or_else}
use Rattle.card_entries.proofs.EntryLaws.{a_name}
use Rattle.card_attributes.specs.Table.{always, name, form}
use Rattle.card_attributes.specs.declared.Attribute.{Attribute}
use Rattle.card_attributes.proofs.TableLaws.{all_rows, at_row, name_some}
use Rattle.card_stored.specs.Stored.{is_stored}
use Rattle.card_stored.proofs.Sequence.{is_stored_from, stored_walk}
use Rattle.card_laws.proofs.RoundTrip.{rows_of, among_both, is_other, is_distinct, all_distinct}
use Rattle.card_laws.proofs.StoredText.{entry_ends, entry_name, entry_form, stored_behind}

first_piece : (x : Attribute) (rs : List Attribute) (s : List ℕ) → is_stored_from (x ∷ rs) s ≡ true → pieces 59 s ≡ take (entry_length s) s ∷ pieces 59 (drop (entry_length s + 1) s)
first_piece x rs s e = pieces_first 59 s (entry_ends x rs s e)

stored_from : (rs : List Attribute) → T (is_distinct rs) → (s : List ℕ) → is_stored_from rs s ≡ true → (k : ℕ) (a : Attribute) (r : List Attribute) → drop k rs ≡ a ∷ r
    → in_form (form a) (or_else (value_in (name a) (pieces 59 s)) []) ≡ true
stored_from [] d s e k a r q = absurd (at_row (λ (x : Attribute). false) [] tt k a r q)
stored_from (x ∷ rs) d s e zero a r q =
    let h : x ≡ a = cc in
    rw (← h, first_piece x rs s e, entry_name x rs s e, eq-eqb (name x) (name x) refl) (entry_form x rs s e)
stored_from (x ∷ rs) d s e (suc k) a r q =
    let o = at_row (is_other x) rs (and_left (all_rows (is_other x) rs) (is_distinct rs) d) k a r q in
    let n : eqb (name x) (name a) ≡ false = no (eqb (name x) (name a)) o in
    rw (first_piece x rs s e, entry_name x rs s e, n)
    (stored_from rs (and_right (all_rows (is_other x) rs) (is_distinct rs) d) (drop (entry_length s + 1) s) (stored_behind x rs s e) k a r q)

pub stored_in_form : (s : List ℕ) → is_stored s ≡ true → (k : ℕ) (a : Attribute) (r : List Attribute) → drop k always ≡ a ∷ r → in_form (form a) (or_else (value_of (name a) s) []) ≡ true
stored_in_form s e k a r q =
    let m = among_both true k a r q in
    rw (a_name s (name a) (λ z. omega (arith, name_some m.place a m.rest m.is)))
    at (⊎_elim (of_kind false) (of_kind true) (stored_walk s e))
  where
    of_kind : (t : Bool) → is_stored_from (rows_of t) s ≡ true → in_form (form a) (or_else (value_in (name a) (pieces 59 s)) []) ≡ true
    of_kind t w = let m = among_both t k a r q in stored_from (rows_of t) (all_distinct t) s w m.place a m.rest m.is
