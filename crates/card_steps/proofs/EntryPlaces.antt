-- An entry whose value has one length stands where its name, so many bytes in form and a semicolon stand.
use mathlib.Core.Path.{◌≡◌, refl, sym, ap, ◌∙◌}
use mathlib.Core.Bool.{Bool, true, false, cond, not, ◌&&◌}
use mathlib.Core.List.{List, [], ◌∷◌, ◌++◌}
use Prim.Native.Nat.{ℕ, suc, ◌+◌, ◌-◌, ◌≤◌, ◌<◌}
use native.Mathlib.Omega.{arith}
use lib.Dec.{eqb, ltb, leb}
use lib.ListN.{length, get_or, take, drop, length-drop, take-append-drop}
use lib.Seq.{drop-drop, drop-cons, length-take-le, get_or-take}
use borrow.Author.Tests.{eq-eqb, lt-ltb, leb-true, ltb-true, eqb-true}
use mathlib.Core.Logic.{⊎_elim}
use Rattle.byte_strings.specs.Texts.{text}
use Rattle.byte_strings.specs.Strings.{run, is_not, all_of}
use Rattle.byte_strings.proofs.Flags.{nope, and_first, and_second, and_both}
use Rattle.byte_strings.proofs.StringLaws.{drop_take, all_run}
use Rattle.text_classes.specs.Classes.{are_all}
use Rattle.text_classes.specs.declared.Class.TheVariants.{Capital, Digit, Hexadecimal}
use Rattle.text_classes.proofs.ClassLaws.{class_plain}
use Rattle.text_decimals.specs.Decimals.{decimal, is_unpadded, is_number}
use Rattle.text_decimals.proofs.NumberLaws.{number_short}
use Rattle.text_timestamps.proofs.Plain.{timestamp_length}
use Rattle.text_forms.specs.Forms.{is_algorithm, in_form}
use Rattle.text_forms.specs.declared.Form.{Form}
use Rattle.text_forms.specs.declared.Form.TheVariants.{Timestamp, Algorithm, Number, Digits, Hex, HexSome, Name, Empty, Label}
use Rattle.text_forms.proofs.FormBounds.{in_form_plain, semicolon, algorithm_is}
use Rattle.card_entries.specs.Entries.{entry_length, name_of}
use Rattle.card_entries.proofs.EntryLaws.{name_length, name_capitals}
use Rattle.card_steps.specs.Steps.{starts_with, is_long}

-- the length of a value in such a form
number_some : (digits low high : ℕ) (v : List ℕ) → is_number digits low high v ≡ true → 1 ≤ length v
unfolding is_number
number_some digits low high v e =
    leb-true 1 (length v) (and_first (leb 1 (length v)) (leb (length v) digits && (are_all Digit v && (is_unpadded v && (leb low (decimal v) && leb (decimal v) high)))) e)

algorithm_two : (v : List ℕ) → is_algorithm v ≡ true → length v ≡ 2
algorithm_two v e = ⊎_elim (λ (p : v ≡ text "02"). ap length p) (λ (p : v ≡ text "04"). ap length p) (algorithm_is v e)

pub long_value : (f : Form) (n : ℕ) → is_long f n ≡ true → (v : List ℕ) → in_form f v ≡ true → length v ≡ n
long_value Timestamp n w v e = timestamp_length v e ∙ sym (eqb-true n 16 w)
long_value Algorithm n w v e = algorithm_two v e ∙ sym (eqb-true n 2 w)
long_value (Number digits low high) n w v e =
    let o = eqb-true digits 1 (and_first (eqb digits 1) (eqb n 1) w) in
    let p = eqb-true n 1 (and_second (eqb digits 1) (eqb n 1) w) in
    let i = and_second (leb digits 10) (is_number digits low high v) e in
    omega (arith, o, p, number_some digits low high v i, number_short digits low high v i)
long_value (Digits k) n w v e = eqb-true (length v) k (and_first (eqb (length v) k) (are_all Digit v) e) ∙ eqb-true k n w
long_value (Hex k) n w v e = eqb-true (length v) k (and_first (eqb (length v) k) (are_all Hexadecimal v) e) ∙ eqb-true k n w
long_value HexSome n w v e = nope (cc)
long_value Name n w v e = nope (cc)
long_value Empty n w v e = eqb-true (length v) 0 e ∙ sym (eqb-true n 0 w)
long_value (Label k) n w v e = nope (cc)

-- a name is read of its three bytes
pub name_front : (t : List ℕ) (k : ℕ) → 3 ≤ k → name_of (take k t) ≡ name_of t
unfolding name_of
name_front t k h = rw (get_or-take k t 0 0 (omega arith), get_or-take k t 1 0 (omega arith), get_or-take k t 2 0 (omega arith))

-- and has no semicolon
name_plain : (t : List ℕ) → 0 < name_of (take 3 t) → all_of (is_not 59) (take 3 t) ≡ true
unfolding are_all
name_plain t h = class_plain Capital 59 (take 3 t) refl (rw (← take_three t) (name_capitals (take 3 t) h))
  where
    take_three : (l : List ℕ) → take 3 (take 3 l) ≡ take 3 l
    take_three [] = refl
    take_three (a ∷ []) = refl
    take_three (a ∷ b ∷ []) = refl
    take_three (a ∷ b ∷ c ∷ v) = refl

-- where a run of other bytes ends within the list, the delimiter stands
pub run_at : (d : ℕ) (t : List ℕ) → run (is_not d) t < length t → get_or t (run (is_not d) t) 0 ≡ d
run_at d [] h = absurd (omega arith)
run_at d (b ∷ bs) h = go (eqb b d) refl h (run_at d bs)
  where
    go : (q : Bool) → eqb b d ≡ q → cond (not q) (suc (run (is_not d) bs)) 0 < suc (length bs) → (run (is_not d) bs < length bs → get_or bs (run (is_not d) bs) 0 ≡ d)
        → get_or (b ∷ bs) (cond (not q) (suc (run (is_not d) bs)) 0) 0 ≡ d
    go true e w more = eqb-true b d e
    go false e w more = more (omega arith)

-- the entry with which a list starts
module _ (name : ℕ) (f : Form) (t : List ℕ) (e : starts_with name f t ≡ true) where
  pub starts_short : entry_length t < length t
  unfolding starts_with
  starts_short = ltb-true (entry_length t) (length t) (and_first (ltb (entry_length t) (length t)) _ e)

  entry : (eqb (name_of (take (entry_length t) t)) name && in_form f (drop 3 (take (entry_length t) t))) ≡ true
  unfolding starts_with
  entry = and_second (ltb (entry_length t) (length t)) _ e

  pub starts_named : name_of (take (entry_length t) t) ≡ name
  starts_named = eqb-true _ name (and_first (eqb (name_of (take (entry_length t) t)) name) (in_form f (drop 3 (take (entry_length t) t))) entry)

  starts_value : in_form f (drop 3 (take (entry_length t) t)) ≡ true
  starts_value = and_second (eqb (name_of (take (entry_length t) t)) name) (in_form f (drop 3 (take (entry_length t) t))) entry

  starts_taken : length (take (entry_length t) t) ≡ entry_length t
  starts_taken = length-take-le (entry_length t) t (omega (arith, starts_short))

  module _ (h : 0 < name) where
    pub starts_three : 3 ≤ entry_length t
    starts_three = omega (arith, starts_taken, name_length (take (entry_length t) t) (omega (arith, h, starts_named)))

    pub starts_name : name_of t ≡ name
    starts_name = sym (name_front t (entry_length t) starts_three) ∙ starts_named

    pub starts_front : name_of (take 3 t) ≡ name
    starts_front = name_front t 3 (omega arith) ∙ starts_name

-- what is known of an entry whose value has n bytes
pub record Framed (name : ℕ) (f : Form) (n : ℕ) (t : List ℕ) : Type 0 where
  pub room : n + 4 ≤ length t
  pub named : name_of (take 3 t) ≡ name
  pub ended : get_or t (n + 3) 0 ≡ 59
  pub value : in_form f (take n (drop 3 t)) ≡ true

module _ (name : ℕ) (h : 0 < name) (f : Form) (n : ℕ) (t : List ℕ) where
  pub starts_framed : starts_with name f t ≡ true → entry_length t ≡ n + 3 → Framed name f n t
  starts_framed e l =
      let k : entry_length t - 3 ≡ n = omega arith in
      record {
        room = omega (arith, starts_short name f t e);
        named = starts_front name f t e h;
        ended = ap (λ (i : ℕ). get_or t i 0) (sym l) ∙ run_at 59 t (starts_short name f t e);
        value = ap (λ (i : ℕ). in_form f (take i (drop 3 t))) (sym k) ∙ ap (in_form f) (sym (drop_take 3 (entry_length t) t)) ∙ starts_value name f t e;
      }

  -- and where that stands there is an entry
  module _ (q : Framed name f n t) where
    pub behind : drop n (drop 3 t) ≡ 59 ∷ drop (n + 4) t
    behind =
        let i : 3 + n ≡ n + 3 = omega arith in
        let j : suc (n + 3) ≡ n + 4 = omega arith in
        let d : drop n (drop 3 t) ≡ drop (n + 3) t = rw (drop-drop, i) in
        d ∙ drop-cons t (n + 3) 0 (omega (arith, q.room)) ∙ rw (q.ended, j)

    parts : t ≡ take 3 t ++ (take n (drop 3 t) ++ (59 ∷ drop (n + 4) t))
    parts = sym (take-append-drop 3 t) ∙ ap (λ (l : List ℕ). take 3 t ++ l) (sym (take-append-drop n (drop 3 t)) ∙ ap (λ (l : List ℕ). take n (drop 3 t) ++ l) behind)

    pub framed_long : entry_length t ≡ n + 3
    framed_long =
        let a = all_run (is_not 59) (take 3 t) (take n (drop 3 t) ++ (59 ∷ drop (n + 4) t)) (name_plain t (omega (arith, h, q.named))) in
        let b = all_run (is_not 59) (take n (drop 3 t)) (59 ∷ drop (n + 4) t) (in_form_plain 59 semicolon f (take n (drop 3 t)) q.value) in
        let x = length-take-le 3 t (omega (arith, q.room)) in
        let y = length-take-le n (drop 3 t) (omega (arith, length-drop 3 t, q.room)) in
        ap (run (is_not 59)) parts ∙ omega (arith, a, b, x, y)

    pub framed_entry : starts_with name f t ≡ true
    unfolding starts_with
    framed_entry =
        let s : ltb (entry_length t) (length t) ≡ true = lt-ltb (entry_length t) (length t) (omega (arith, framed_long, q.room)) in
        let m : name_of (take (entry_length t) t) ≡ name = name_front t (entry_length t) (omega (arith, framed_long)) ∙ sym (name_front t 3 (omega arith)) ∙ q.named in
        let k : entry_length t - 3 ≡ n = omega (arith, framed_long) in
        let v : in_form f (drop 3 (take (entry_length t) t)) ≡ true = ap (in_form f) (drop_take 3 (entry_length t) t) ∙ ap (λ (i : ℕ). in_form f (take i (drop 3 t))) k ∙ q.value in
        and_both (ltb (entry_length t) (length t)) _ s (and_both (eqb (name_of (take (entry_length t) t)) name) _ (eq-eqb _ name m) v)

-- where every value of the form has n bytes, an entry has so many
module _ (name : ℕ) (h : 0 < name) (f : Form) (n : ℕ) (w : is_long f n ≡ true) (t : List ℕ) (e : starts_with name f t ≡ true) where
  pub entry_long : entry_length t ≡ n + 3
  entry_long =
      let l = long_value f n w (drop 3 (take (entry_length t) t)) (starts_value name f t e) in
      omega (arith, l, length-drop 3 (take (entry_length t) t), starts_taken name f t e, starts_three name f t e h)

  pub entry_framed : Framed name f n t
  entry_framed = starts_framed name h f n t e entry_long
