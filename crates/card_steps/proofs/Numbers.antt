-- An entry whose value is a number: its digits end where the semicolon stands. Each law has what the code knows where it answers as premises.
use mathlib.Core.Path.{◌≡◌, refl, sym, ap, ◌∙◌}
use mathlib.Core.Bool.{Bool, true, false, not, cond, ◌&&◌, ◌||◌}
use mathlib.Core.List.{List, [], ◌∷◌, ◌++◌}
use mathlib.Core.Logic.{◌⊎◌, ⊎_elim}
use Prim.Native.Nat.{ℕ, zero, suc, ◌+◌, ◌-◌, ◌≤◌, ◌<◌}
use native.Mathlib.Omega.{arith}
use lib.Dec.{eqb, leb}
use lib.ListN.{length, get_or, take, drop, length-drop, take-append-drop}
use lib.Seq.{drop-drop, get_or-drop, length-take-le, take-take}
use borrow.Author.Tests.{le-leb, not-true, not-false}
use Rattle.byte_strings.specs.Strings.{run, all_of}
use Rattle.byte_strings.proofs.Flags.{nope, and_second, and_both}
use Rattle.byte_strings.proofs.StringLaws.{all_run, run_le, run_stopped, run_turn}
use Rattle.text_classes.specs.Classes.{is_of, are_all}
use Rattle.text_classes.specs.declared.Class.TheVariants.{Digit}
use Rattle.text_decimals.specs.Decimals.{decimal, is_unpadded, is_number}
use Rattle.text_decimals.proofs.NumberLaws.{number_short, number_digits}
use Rattle.text_forms.specs.declared.Form.TheVariants.{Number}
use Rattle.card_entries.specs.Entries.{entry_length, name_of}
use Rattle.card_stored.proofs.Runs.{run_all}
use Rattle.card_steps.specs.Steps.{starts_with, after}
use Rattle.card_steps.proofs.EntryPlaces.{Framed, starts_three, starts_framed, behind, framed_long, framed_entry}
use Rattle.card_steps.proofs.Stands.{stands, stands_not}

-- digit_count: the place and what is left of the run are the whole, x
module _ (s : List ℕ) (i x : ℕ) (inv : i + run (is_of Digit) (drop i s) ≡ x) (h : i < length s) (t : Bool) (e : t ≡ is_of Digit (get_or s i 0)) where
  pub digits_stopped : not t ≡ true → i ≡ x
  digits_stopped o = run_stopped (is_of Digit) s i x inv h (sym e ∙ not-true t o)

  pub digits_turn : not t ≡ false → i + 1 + run (is_of Digit) (drop (i + 1) s) ≡ x
  digits_turn o = run_turn (is_of Digit) s i x inv h (sym e ∙ not-false t o)

-- is_number
module _ (digits high : ℕ) (v : List ℕ) (l : 1 ≤ length v) (k : length v ≤ digits) (a : are_all Digit v ≡ true) where
  unpadded : is_unpadded v ≡ not (not (eqb (length v) 1) && eqb (get_or v 0 0) 48)
  unfolding is_unpadded
  unpadded = either (eqb (length v) 1) (eqb (get_or v 0 0) 48)
    where
      either : (x y : Bool) → (x || not y) ≡ not (not x && y)
      either true y = refl
      either false y = refl

  pub zero_first : (not (eqb (length v) 1) && eqb (get_or v 0 0) 48) ≡ true → false ≡ is_number digits 0 high v
  unfolding is_number
  zero_first o = sym (rw (le-leb 1 (length v) l, le-leb (length v) digits k, a, unpadded, o))

  pub in_range : (not (eqb (length v) 1) && eqb (get_or v 0 0) 48) ≡ false → (x : ℕ) → x ≡ decimal v → leb x high ≡ is_number digits 0 high v
  unfolding is_number
  in_range o x e = sym (rw (le-leb 1 (length v) l, le-leb (length v) digits k, a, unpadded, o, ← e, le-leb 0 x (omega arith)))

-- a run is found in the front where it ends there
run_front : (f : ℕ → Bool) (u : List ℕ) (m : ℕ) → run f u < m → run f (take m u) ≡ run f u
run_front f u zero h = absurd (omega arith)
run_front f [] (suc m) h = refl
run_front f (b ∷ u) (suc m) h = go (f b) h (run_front f u m)
  where
    go : (t : Bool) → cond t (suc (run f u)) 0 < suc m → (run f u < m → run f (take m u) ≡ run f u) → cond t (suc (run f (take m u))) 0 ≡ cond t (suc (run f u)) 0
    go true l more = ap suc (more (omega arith))
    go false l more = refl

-- after_number
module _ (name : ℕ) (h : 0 < name) (digits high : ℕ) (s : List ℕ) (at : ℕ) where
  abbrev count : ℕ
  count = run (is_of Digit) (drop 3 (drop at s))

  number_framed : starts_with name (Number digits 0 high) (drop at s) ≡ true → Framed name (Number digits 0 high) count (drop at s)
  unfolding are_all
  number_framed e =
      let t = drop at s in
      let n = entry_length t - 3 in
      let q = starts_framed name h (Number digits 0 high) n t e (omega (arith, starts_three name (Number digits 0 high) t e h)) in
      let d : all_of (is_of Digit) (take n (drop 3 t)) ≡ true = number_digits digits 0 high (take n (drop 3 t)) (and_second (leb digits 10) (is_number digits 0 high (take n (drop 3 t))) q.value) in
      let p : take n (drop 3 t) ++ (59 ∷ drop (n + 4) t) ≡ drop 3 t = ap (λ (l : List ℕ). take n (drop 3 t) ++ l) (sym (behind name h (Number digits 0 high) n t q)) ∙ take-append-drop n (drop 3 t) in
      let l = length-take-le n (drop 3 t) (omega (arith, q.room, length-drop 3 t)) in
      let k : count ≡ n = ap (run (is_of Digit)) (sym p) ∙ all_run (is_of Digit) (take n (drop 3 t)) (59 ∷ drop (n + 4) t) d ∙ omega (arith, l) in
      rw k q

  no_number : (Framed name (Number digits 0 high) count (drop at s) → ⊥) → length s + 1 ≡ after name (Number digits 0 high) s at
  no_number x = go (starts_with name (Number digits 0 high) (drop at s)) refl
    where
      go : (t : Bool) → starts_with name (Number digits 0 high) (drop at s) ≡ t → length s + 1 ≡ after name (Number digits 0 high) s at
      go false e = stands_not name (Number digits 0 high) s at e
      go true e = absurd (x (number_framed e))

  pub number_none : length s < at + 3 → length s + 1 ≡ after name (Number digits 0 high) s at
  number_none l = no_number (λ q. omega (arith, q.room, length-drop at s))

  module _ (m : ℕ) (p : m ≡ name_of (take (at + 3 - at) (drop at s))) where
    three : m ≡ name_of (take 3 (drop at s))
    three = let i : at + 3 - at ≡ 3 = omega arith in p ∙ rw i refl

    pub number_other : (m ≡ name → ⊥) → length s + 1 ≡ after name (Number digits 0 high) s at
    number_other o = no_number (λ q. o (three ∙ q.named))

  -- the digits are counted as far as the entry may have some
  module _ (limit : ℕ) (w : (limit ≡ at + 3 + digits + 1) ⊎ (limit ≡ length s)) (n : ℕ) (e : n ≡ run (is_of Digit) (take (limit - (at + 3)) (drop (at + 3) s))) where
    counted : Framed name (Number digits 0 high) count (drop at s) → n ≡ count
    counted q =
        let d : drop (at + 3) s ≡ drop 3 (drop at s) = sym (drop-drop 3 at s) in
        let v = take count (drop 3 (drop at s)) in
        let l = length-take-le count (drop 3 (drop at s)) (omega (arith, q.room, length-drop 3 (drop at s))) in
        let k = number_short digits 0 high v (and_second (leb digits 10) (is_number digits 0 high v) q.value) in
        let c : count ≤ digits = omega (arith, k, l) in
        let r : count + 4 + at ≤ length s = omega (arith, q.room, length-drop at s) in
        let h : count < limit - (at + 3) = ⊎_elim (λ (x : limit ≡ at + 3 + digits + 1). omega arith) (λ (x : limit ≡ length s). omega arith) w in
        e ∙ rw d (run_front (is_of Digit) (drop 3 (drop at s)) (limit - (at + 3)) h)

    pub number_open : length s ≤ at + 3 + n → length s + 1 ≡ after name (Number digits 0 high) s at
    number_open l = no_number (λ q. omega (arith, counted q, q.room, length-drop at s))

    pub number_unended : (get_or s (at + 3 + n) 0 ≡ 59 → ⊥) → length s + 1 ≡ after name (Number digits 0 high) s at
    number_unended x =
        no_number
        (λ q.
        let i : at + 3 + n ≡ at + (count + 3) = omega (arith, counted q) in
        x (ap (λ (i : ℕ). get_or s i 0) i ∙ sym (get_or-drop at s (count + 3) 0) ∙ q.ended))

    module _ (b : Bool) (v : b ≡ is_number digits 0 high (take (at + 3 + n - (at + 3)) (drop (at + 3) s))) where
      judged : b ≡ is_number digits 0 high (take n (drop 3 (drop at s)))
      judged =
          let i : at + 3 + n - (at + 3) ≡ n = omega arith in
          let d : drop 3 (drop at s) ≡ drop (at + 3) s = drop-drop 3 at s in
          v ∙ rw (i, d)

      pub number_out : not b ≡ true → length s + 1 ≡ after name (Number digits 0 high) s at
      number_out x =
          no_number
          (λ q.
          let i : is_number digits 0 high (take n (drop 3 (drop at s))) ≡ true = rw (counted q) (and_second (leb digits 10) (is_number digits 0 high (take count (drop 3 (drop at s)))) q.value) in
          let y = judged in
          let z = not-true b x in
          nope (cc))

      module _ (m : ℕ) (p : m ≡ name_of (take (at + 3 - at) (drop at s))) (o : m ≡ name) where
        pub number_stands : digits ≤ 10 → at + 3 + n < length s → get_or s (at + 3 + n) 0 ≡ 59 → not b ≡ false → at + 3 + n + 1 ≡ after name (Number digits 0 high) s at
        number_stands g l x y =
            let i : at + (n + 3) ≡ at + 3 + n = omega arith in
            let q : Framed name (Number digits 0 high) n (drop at s) =
            record {
              room = omega (arith, length-drop at s);
              named = sym (three m p) ∙ o;
              ended = get_or-drop at s (n + 3) 0 ∙ ap (λ (i : ℕ). get_or s i 0) i ∙ x;
              value = and_both (leb digits 10) (is_number digits 0 high (take n (drop 3 (drop at s)))) (le-leb digits 10 g) (sym judged ∙ not-false b y);
            } in
            let j : at + 3 + n + 1 ≡ at + (n + 3 + 1) = omega arith in
            j ∙ stands name (Number digits 0 high) s at (framed_entry name h (Number digits 0 high) n (drop at s) q) (n + 3) (framed_long name h (Number digits 0 high) n (drop at s) q)

-- what is_number is handed there is all digits
take_short : (n : ℕ) (l : List ℕ) → length (take n l) ≤ n
take_short zero l = omega arith
take_short (suc n) [] = omega arith
take_short (suc n) (x ∷ l) = omega (arith, take_short n l)

pub number_all : (s : List ℕ) (start limit n : ℕ) → n ≡ run (is_of Digit) (take (limit - start) (drop start s)) → are_all Digit (take (start + n - start) (drop start s)) ≡ true
unfolding are_all
number_all s start limit n e =
    let i : start + n - start ≡ n = omega arith in
    let l = run_le (is_of Digit) (take (limit - start) (drop start s)) in
    let k : n ≤ limit - start = omega (arith, l, take_short (limit - start) (drop start s)) in
    let t : take n (drop start s) ≡ take n (take (limit - start) (drop start s)) = sym (take-take n (limit - start) (drop start s) k) in
    rw (i, t, e) (run_all (is_of Digit) (take (limit - start) (drop start s)))

pub limit_start : (s : List ℕ) (at digits limit : ℕ) → at + 3 ≤ length s → (limit ≡ at + 3 + digits + 1) ⊎ (limit ≡ length s) → at + 3 ≤ limit
limit_start s at digits limit l w = ⊎_elim (λ (x : limit ≡ at + 3 + digits + 1). omega arith) (λ (x : limit ≡ length s). omega arith) w
