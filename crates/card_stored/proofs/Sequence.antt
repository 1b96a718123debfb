-- A card as stored read entry by entry, beside the attributes: the shape of the proofs, and that it says the same.
use mathlib.Core.Path.{◌≡◌, refl, sym, ap, subst, ◌∙◌}
use mathlib.Core.Bool.{Bool, true, false, cond, not, ◌&&◌, ◌||◌, and-false}
use mathlib.Core.List.{List, [], ◌∷◌, ◌++◌, append_assoc, append-nil}
use mathlib.Core.Logic.{◌⊎◌}
use Prim.Native.Nat.{ℕ, suc, ◌+◌, ◌<◌}
use native.Mathlib.Omega.{arith}
use lib.Dec.{T, eqb, ltb, ltb→lt}
use lib.ListN.{length, take, drop, length-append, take-append-drop}
use lib.Seq.{take_at, take-length, drop-append-add}
use borrow.Author.Tests.{eqb-true, lt-ltb, le-ltb, ltb-true, ltb-false}
use Rattle.byte_strings.specs.Strings.{run, is_not, all_of}
use Rattle.byte_strings.proofs.Flags.{nope, and_first, and_second, and_left, and_right, or_cases}
use Rattle.byte_strings.proofs.StringLaws.{run_le, all_run, all_parts, all_wider, all_drop}
use Rattle.byte_pieces.specs.Pieces.{pieces, is_ended}
use Rattle.byte_pieces.proofs.PieceLaws.{pieces_first, pieces_none, pieces_cons, ended_cons, not_ended}
use Rattle.text_classes.specs.Classes.{is_of, are_all}
use Rattle.text_classes.specs.declared.Class.TheVariants.{Capital, Text, Zero}
use Rattle.text_classes.proofs.Printable.{Within, wider}
use Rattle.text_forms.specs.Forms.{in_form}
use Rattle.text_forms.proofs.FormBounds.{in_form_text}
use Rattle.card_entries.specs.Entries.{entry_length, name_of}
use Rattle.card_entries.proofs.EntryLaws.{name_capitals}
use Rattle.card_attributes.specs.Table.{table, always, name, form}
use Rattle.card_attributes.specs.declared.Attribute.{Attribute}
use Rattle.card_attributes.proofs.TableLaws.{all_rows}
use Rattle.card_stored.specs.Stored.{is_entry_of, are_entries_of, is_stored}
use Rattle.card_stored.proofs.Runs.{run_all, run_over, parted, passes_at}

-- an entry for each attribute, then zeros
abbrev pub is_stored_from : List Attribute → List ℕ → Bool
is_stored_from [] s = are_all Zero s
is_stored_from (a ∷ rs) s =
    ltb (entry_length s) (length s) && (is_entry_of a (take (entry_length s) s) && is_stored_from rs (drop (entry_length s + 1) s))

-- the first entry is cut off at its semicolon
pub first_cut : (a : Attribute) (rs : List Attribute) (p u : List ℕ) → all_of (is_not 59) p ≡ true → is_stored_from (a ∷ rs) (p ++ (59 ∷ u)) ≡ (is_entry_of a p && is_stored_from rs u)
first_cut a rs p u h =
    let n : run (is_not 59) (p ++ (59 ∷ u)) ≡ length p = all_run (is_not 59) p (59 ∷ u) h ∙ omega arith in
    let l : ltb (length p) (length (p ++ (59 ∷ u))) ≡ true = lt-ltb (length p) (length (p ++ (59 ∷ u))) (omega (arith, length-append p (59 ∷ u))) in
    rw (n, l, take_at p (59 ∷ u) (length p) refl, drop-append-add p (59 ∷ u) 1)

-- an entry is text: a name is three capitals
capital_text : Within Capital Text
capital_text b = wider b 65 90 32 125 (omega arith) (omega arith)

pub entry_text : (a : Attribute) → 0 < name a → (p : List ℕ) → is_entry_of a p ≡ true → all_of (is_of Text) p ≡ true
unfolding is_entry_of are_all
entry_text a h p e =
    let n : name_of p ≡ name a = eqb-true (name_of p) (name a) (and_first (eqb (name_of p) (name a)) (in_form (form a) (drop 3 p)) e) in
    all_parts (is_of Text) 3 p
    (all_wider (is_of Capital) (is_of Text) capital_text (take 3 p) (name_capitals p (omega (arith, n))))
    (in_form_text (form a) (drop 3 p) (and_second (eqb (name_of p) (name a)) (in_form (form a) (drop 3 p)) e))

-- so none goes past a zero
module _ (a : Attribute) (h : 0 < name a) (rs : List Attribute) (c : List ℕ) (o : all_of (is_not 59) c ≡ true) where
  no_entry : (u : List ℕ) (t : Bool) → is_entry_of a (take (entry_length (c ++ (0 ∷ u))) (c ++ (0 ∷ u))) ≡ t → t ≡ false
  no_entry u false e = refl
  no_entry u true e =
      let n : length c < entry_length (c ++ (0 ∷ u)) = omega (arith, all_run (is_not 59) c (0 ∷ u) o) in
      let z : false ≡ true = passes_at (is_of Text) c 0 u (entry_length (c ++ (0 ∷ u))) n (entry_text a h (take (entry_length (c ++ (0 ∷ u))) (c ++ (0 ∷ u))) e) in
      nope (cc)

  -- z is empty or starts with a zero
  uncut : (z : List ℕ) → run (is_not 0) z ≡ 0 → is_stored_from (a ∷ rs) (c ++ z) ≡ false
  uncut [] q = rw (append-nil, le-ltb (entry_length c) (length c) (omega (arith, all_run (is_not 59) c [] o, ap (λ (l : List ℕ). entry_length l) (append-nil c))))
  uncut (b ∷ u) q = go (eqb b 0) refl q
    where
      go : (t : Bool) → eqb b 0 ≡ t → cond (not t) (suc (run (is_not 0) u)) 0 ≡ 0 → is_stored_from (a ∷ rs) (c ++ (b ∷ u)) ≡ false
      go true e w = rw (eqb-true b 0 e, no_entry u (is_entry_of a (take (entry_length (c ++ (0 ∷ u))) (c ++ (0 ∷ u)))) refl, and-false)
      go false e w = absurd (omega arith)

-- a list that is not empty, and ended, has an entry
some_entry : (b : ℕ) (bs : List ℕ) (x t : Bool) → ltb (run (is_not 59) (b ∷ bs)) (length (b ∷ bs)) ≡ t → (is_ended 59 (b ∷ bs) && (are_entries_of [] (pieces 59 (b ∷ bs)) && x)) ≡ false
some_entry b bs x true e = rw (pieces_first 59 (b ∷ bs) (ltb-true (run (is_not 59) (b ∷ bs)) (length (b ∷ bs)) e), and-false)
some_entry b bs x false e =
    let l = ltb-false (run (is_not 59) (b ∷ bs)) (length (b ∷ bs)) e in
    rw (not_ended 59 (b ∷ bs) 0 (run (is_not 59) (b ∷ bs)) (omega arith) (omega arith) (omega (arith, l)))

not_zero : (t : Bool) → not t ≡ true → t ≡ false
not_zero true e = sym e
not_zero false e = refl

-- an attribute has a name
abbrev pub has_name : Attribute → Bool
has_name a = ltb 0 (name a)

-- c are the bytes before the first zero, z what follows them
abbrev Same : List Attribute → List ℕ → List ℕ → Type 0
Same rs c z = is_stored_from rs (c ++ z) ≡ (is_ended 59 c && (are_entries_of rs (pieces 59 c) && are_all Zero z))

cut_same : (a : Attribute) (rs : List Attribute) (p c z : List ℕ) → all_of (is_not 59) p ≡ true → Same rs c z → Same (a ∷ rs) (p ++ (59 ∷ c)) z
cut_same a rs p c z h more =
    rw (append_assoc, first_cut a rs p (c ++ z) h, more, ended_cons 59 p c, pieces_cons 59 p c h) (turn (is_entry_of a p) (is_ended 59 c) (are_entries_of rs (pieces 59 c)) (are_all Zero z))
  where
    turn : (x e y w : Bool) → (x && (e && (y && w))) ≡ (e && ((x && y) && w))
    turn true e y w = refl
    turn false true y w = refl
    turn false false y w = refl

by_entries : (rs : List Attribute) → T (all_rows has_name rs) → (c z : List ℕ) → all_of (is_not 0) c ≡ true → run (is_not 0) z ≡ 0 → Same rs c z
unfolding are_all
by_entries [] w [] z o q = refl
by_entries [] w (b ∷ bs) z o q =
    rw (not_zero (eqb b 0) (and_first (not (eqb b 0)) (all_of (is_not 0) bs) o), some_entry b bs (are_all Zero z) (ltb (run (is_not 59) (b ∷ bs)) (length (b ∷ bs))) refl)
by_entries (a ∷ rs) w c z o q = go (ltb (run (is_not 59) c) (length c)) refl (by_entries rs (and_right (has_name a) (all_rows has_name rs) w))
  where
    go : (t : Bool) → ltb (run (is_not 59) c) (length c) ≡ t → ((d y : List ℕ) → all_of (is_not 0) d ≡ true → run (is_not 0) y ≡ 0 → Same rs d y) → Same (a ∷ rs) c z
    go true e more =
        let l = ltb-true (run (is_not 59) c) (length c) e in
        subst (λ (d : List ℕ). Same (a ∷ rs) d z) (sym (parted 59 c l))
        (cut_same a rs (take (run (is_not 59) c) c) (drop (run (is_not 59) c + 1) c) z (run_all (is_not 59) c)
        (more (drop (run (is_not 59) c + 1) c) z (all_drop (is_not 0) (run (is_not 59) c + 1) c o) q))
    go false e more =
        let k : run (is_not 59) c ≡ length c = omega (arith, ltb-false (run (is_not 59) c) (length c) e, run_le (is_not 59) c) in
        let m : all_of (is_not 59) c ≡ true = rw (k, take-length) at (run_all (is_not 59) c) in
        rw (uncut a (ltb→lt 0 (name a) (and_left (has_name a) (all_rows has_name rs) w)) rs c m z q, pieces_none 59 c k, and-false)

-- of one list of attributes, or of another
module _ (s : List ℕ) where
  abbrev before : List ℕ
  before = take (run (is_not 0) s) s

  abbrev after : List ℕ
  after = drop (run (is_not 0) s) s

  by_list : (rs : List Attribute) → T (all_rows has_name rs) → is_stored_from rs s ≡ (is_ended 59 before && (are_entries_of rs (pieces 59 before) && are_all Zero after))
  by_list rs w = ap (is_stored_from rs) (sym (take-append-drop (run (is_not 0) s) s)) ∙ by_entries rs w before after (run_all (is_not 0) s) (run_over (is_not 0) s)

  by_either : (rs qs : List Attribute) → T (all_rows has_name rs) → T (all_rows has_name qs)
      → (is_stored_from rs s || is_stored_from qs s) ≡ (is_ended 59 before && ((are_entries_of rs (pieces 59 before) || are_entries_of qs (pieces 59 before)) && are_all Zero after))
  by_either rs qs w v = rw (by_list rs w, by_list qs v) (either (is_ended 59 before) (are_entries_of rs (pieces 59 before)) (are_entries_of qs (pieces 59 before)) (are_all Zero after))
    where
      either : (e x y w : Bool) → (e && (x && w) || e && (y && w)) ≡ (e && ((x || y) && w))
      either false x y w = refl
      either true true y true = refl
      either true true true false = refl
      either true true false false = refl
      either true false y w = refl

-- THE LAW
pub stored_by_entries : (s : List ℕ) → is_stored s ≡ (eqb (length s) 256 && (is_stored_from always s || is_stored_from table s))
unfolding is_stored table always
stored_by_entries s = ap (λ (b : Bool). eqb (length s) 256 && b) (sym (by_either s always table tt tt))

-- so one as stored is of one kind or the other
pub stored_walk : (s : List ℕ) → is_stored s ≡ true → (is_stored_from always s ≡ true) ⊎ (is_stored_from table s ≡ true)
stored_walk s e =
    or_cases (is_stored_from always s) (is_stored_from table s)
    (and_second (eqb (length s) 256) (is_stored_from always s || is_stored_from table s) (sym (stored_by_entries s) ∙ e))
