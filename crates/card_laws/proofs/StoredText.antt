-- A card as stored, entry by entry: a name and a value in form. So what stands before its zeros is text.
use mathlib.Core.Path.{◌≡◌, refl, sym, ap, ◌∙◌}
use mathlib.Core.Bool.{Bool, true, false, cond, ◌&&◌, ◌||◌}
use mathlib.Core.List.{List, [], ◌∷◌, ◌++◌}
use mathlib.Core.Logic.{⊎_elim}
use mathlib.Core.Option.{none}
use Prim.Native.Nat.{ℕ, suc, ◌+◌, ◌<◌}
use lib.Dec.{T, eqb, ltb, ltb→lt}
use lib.ListN.{length, take, drop, take-append-drop}
use borrow.Author.Tests.{ltb-true, eqb-true}
use Rattle.byte_strings.specs.Strings.{run, is_not, all_of}
use Rattle.byte_strings.proofs.Flags.{and_first, and_second, and_both, and_left, and_right}
use Rattle.byte_pieces.specs.Pieces.{pieces, is_ended}
use Rattle.byte_pieces.proofs.PieceLaws.{pieces_open}
use Rattle.text_classes.specs.Classes.{is_of, are_all}
use Rattle.text_classes.specs.declared.Class.TheVariants.{Text, Zero}
use Rattle.text_forms.specs.Forms.{in_form}
use Rattle.card_entries.specs.Entries.{entry_length, name_of, value_in, value_of}
use Rattle.card_attributes.specs.Table.{table, always, name, form}
use Rattle.card_attributes.specs.declared.Attribute.{Attribute}
use Rattle.card_attributes.proofs.TableLaws.{all_rows}
use Rattle.card_stored.specs.Stored.{is_entry_of, are_entries_of, is_stored}
use Rattle.card_stored.proofs.Runs.{parted}
use Rattle.card_stored.proofs.Sequence.{is_stored_from, entry_text, has_name, stored_walk}
use Rattle.card_laws.proofs.RoundTrip.{zero_pieces}

-- the first entry, and what follows it
module _ (x : Attribute) (rs : List Attribute) (s : List ℕ) (e : is_stored_from (x ∷ rs) s ≡ true) where
  abbrev pub entry : List ℕ
  entry = take (entry_length s) s

  abbrev pub behind : List ℕ
  behind = drop (entry_length s + 1) s

  pub entry_ends : entry_length s < length s
  entry_ends = ltb-true (entry_length s) (length s) (and_first (ltb (entry_length s) (length s)) (is_entry_of x entry && is_stored_from rs behind) e)

  both : (is_entry_of x entry && is_stored_from rs behind) ≡ true
  both = and_second (ltb (entry_length s) (length s)) (is_entry_of x entry && is_stored_from rs behind) e

  entry_is : is_entry_of x entry ≡ true
  entry_is = and_first (is_entry_of x entry) (is_stored_from rs behind) both

  pub entry_name : name_of entry ≡ name x
  unfolding is_entry_of
  entry_name = eqb-true (name_of entry) (name x) (and_first (eqb (name_of entry) (name x)) (in_form (form x) (drop 3 entry)) entry_is)

  pub entry_form : in_form (form x) (drop 3 entry) ≡ true
  unfolding is_entry_of
  entry_form = and_second (eqb (name_of entry) (name x)) (in_form (form x) (drop 3 entry)) entry_is

  pub stored_behind : is_stored_from rs behind ≡ true
  stored_behind = and_second (is_entry_of x entry) (is_stored_from rs behind) both

-- what passes up to the end of a run in the rest passes up to it in the whole
module _ (f g : ℕ → Bool) where
  upto : (p r : List ℕ) → all_of f p ≡ true → all_of f (take (run g r) r) ≡ true → all_of f (take (run g (p ++ r)) (p ++ r)) ≡ true
  upto [] r e k = k
  upto (b ∷ bs) r e k = go (g b) (upto bs r (and_second (f b) (all_of f bs) e) k)
    where
      go : (t : Bool) → all_of f (take (run g (bs ++ r)) (bs ++ r)) ≡ true → all_of f (take (cond t (suc (run g (bs ++ r))) 0) (b ∷ (bs ++ r))) ≡ true
      go true m = and_both (f b) (all_of f (take (run g (bs ++ r)) (bs ++ r))) (and_first (f b) (all_of f bs) e) m
      go false m = refl

zeros_text : (s : List ℕ) → all_of (is_of Zero) s ≡ true → all_of (is_of Text) (take (run (is_not 0) s) s) ≡ true
zeros_text [] e = refl
zeros_text (b ∷ bs) e = rw (and_first (eqb b 0) (all_of (is_of Zero) bs) e) refl

text_from : (rs : List Attribute) → T (all_rows has_name rs) → (s : List ℕ) → is_stored_from rs s ≡ true → all_of (is_of Text) (take (run (is_not 0) s) s) ≡ true
unfolding are_all
text_from [] w s e = zeros_text s e
text_from (x ∷ rs) w s e =
    let n : 0 < name x = ltb→lt 0 (name x) (and_left (has_name x) (all_rows has_name rs) w) in
    let p = entry x rs s e in
    let t : all_of (is_of Text) p ≡ true = entry_text x n p (entry_is x rs s e) in
    let m = text_from rs (and_right (has_name x) (all_rows has_name rs) w) (behind x rs s e) (stored_behind x rs s e) in
    rw (parted 59 s (entry_ends x rs s e)) (upto (is_of Text) (is_not 0) p (59 ∷ behind x rs s e) t m)

pub stored_text : (s : List ℕ) → is_stored s ≡ true → are_all Text (take (run (is_not 0) s) s) ≡ true
unfolding are_all table always
stored_text s e = ⊎_elim (text_from always tt s) (text_from table tt s) (stored_walk s e)

-- and what stands there has the same values as the row
pub shown_value : (n : ℕ) (s : List ℕ) → is_stored s ≡ true → value_of n (take (run (is_not 0) s) s) ≡ value_of n s
unfolding value_of is_stored
shown_value n s e =
    let m = run (is_not 0) s in
    let es = pieces 59 (take m s) in
    let both = are_entries_of always es || are_entries_of table es in
    let z : are_all Zero (drop m s) ≡ true = and_second both (are_all Zero (drop m s)) (and_second (is_ended 59 (take m s)) (both && are_all Zero (drop m s)) (and_second (eqb (length s) 256) _ e)) in
    let p : pieces 59 (take m s) ≡ pieces 59 s = sym (pieces_open 59 (take m s) (drop m s) (zero_pieces (drop m s) z)) ∙ ap (pieces 59) (take-append-drop m s) in
    ap (λ (ps : List (List ℕ)). cond (eqb n 0) none (value_in n ps)) p
