-- From an incoming card every stored value is in form: so what is written of it fits its row, is a card as stored, and reads back.
use mathlib.Core.Path.{◌≡◌, refl, sym, ap, subst, ◌∙◌}
use mathlib.Core.Bool.{Bool, true, false, cond, not, ◌&&◌}
use mathlib.Core.List.{List, [], ◌∷◌, map}
use mathlib.Core.Option.{Option, none, some}
use Prim.Native.Nat.{ℕ, zero, suc, ◌≤◌}
use native.Mathlib.Omega.{arith}
use lib.Dec.{T, eqb}
use lib.ListN.{length, take, drop}
use borrow.Author.Tests.{eq-eqb, eqb-true}
use Rattle.byte_strings.specs.Strings.{run, is_not}
use Rattle.byte_pieces.specs.Pieces.{is_ended}
use Rattle.byte_strings.proofs.Flags.{nope, and_left, and_right, yes, no, holds}
use Rattle.text_classes.specs.Classes.{are_all}
use Rattle.text_classes.specs.declared.Class.TheVariants.{Text, Value}
use Rattle.text_decimals.specs.Decimals.{is_number, is_unpadded}
use Rattle.text_calendar.specs.Calendar.{is_date, is_time, days_in}
use Rattle.text_timestamps.specs.Timestamps.{is_date_and_time, is_timestamp}
use Rattle.text_forms.specs.Forms.{is_algorithm, in_form}
use Rattle.text_forms.specs.declared.Form.TheVariants.{Number, Digits, Hex, Name, Label}
use Rattle.text_forms.proofs.FormBounds.{most, in_form_short, in_form_value}
use Rattle.card_entries.specs.Entries.{semicolon, entries, is_named, name_of, value_in, value_of, is_some, or_else, value_or}
use Rattle.card_attributes.specs.Table.{CLU, KCV, KRN, KSL, SGC, SGN, VND, table, always, name, presence, form}
use Rattle.card_incoming.specs.Incoming.{fits_as, fits, fits_name, is_fitting, every, ascend, is_card, is_met, has_required, is_incoming}
use Rattle.card_stored.specs.Stored.{EngineValues, default_card, stored_value, card_bytes, stored_card, in_row, is_stored}
use Rattle.card_attributes.specs.declared.Presence.{Presence}
use Rattle.card_attributes.specs.declared.Presence.TheVariants.{Required, Optional, Engine, Kept}
use Rattle.card_attributes.specs.declared.Attribute.{Attribute}
use Rattle.card_entries.proofs.EntryLaws.{a_name}
use Rattle.card_attributes.proofs.TableLaws.{all_rows, at_row, all_rows_lem, name_some}
use Rattle.card_incoming.proofs.ValueLaws.{required_at}
use Rattle.card_laws.proofs.RoundTrip.{rows_of, among_both, is_other, is_distinct, all_distinct, room, is_in_form, value_short, has_room, is_short_lem, is_stored_lem, is_text_lem, is_measured, row_value, reads_row, reads_card, not_in_card}

-- the attribute's own test, by its name
fits_at : (rs : List Attribute) → T (is_distinct rs) → (k : ℕ) (a : Attribute) (r : List Attribute) → drop k rs ≡ a ∷ r → (v : List ℕ) → fits_name rs (name a) v ≡ fits a v
fits_at [] d k a r e v = absurd (at_row (λ (x : Attribute). false) [] tt k a r e)
fits_at (x ∷ rs) d zero a r e v = let h : x ≡ a = cc in rw (h, eq-eqb (name a) (name a) refl)
fits_at (x ∷ rs) d (suc k) a r e v =
    let o = at_row (is_other x) rs (and_left (all_rows (is_other x) rs) (is_distinct rs) d) k a r e in
    rw (no (eqb (name x) (name a)) o) (fits_at rs (and_right (all_rows (is_other x) rs) (is_distinct rs) d) k a r e v)

-- a value that is found fits its name; b is whether it is found in the first entry
by_name : (p : List ℕ) (ps : List (List ℕ)) (n : ℕ) (v : List ℕ) (b : Bool) → eqb (name_of p) n ≡ b → T (fits_name table (name_of p) (drop 3 p))
    → (value_in n ps ≡ some v → T (fits_name table n v)) → cond b (some (drop 3 p)) (value_in n ps) ≡ some v → T (fits_name table n v)
by_name p ps n v true q t ih e =
    let m : name_of p ≡ n = eqb-true (name_of p) n q in
    let w : drop 3 p ≡ v = cc in
    rw (← m, ← w) t
by_name p ps n v false q t ih e = ih e

found_fits : (ps : List (List ℕ)) → T (every is_fitting ps) → (n : ℕ) (v : List ℕ) → value_in n ps ≡ some v → T (fits_name table n v)
found_fits [] t n v e = nope (cc)
found_fits (p ∷ ps) t n v e =
    by_name p ps n v (eqb (name_of p) n) refl (and_left (is_fitting p) (every is_fitting ps) t)
    (found_fits ps (and_right (is_fitting p) (every is_fitting ps) t) n v)
    e

-- of the known names SGN alone may have an empty value; computed for the table
pub one_empty : map (λ (a : Attribute). fits a []) table ≡ map (λ (a : Attribute). eqb (name a) SGN) table
unfolding table fits are_all is_algorithm is_number is_unpadded is_timestamp is_date_and_time is_date is_time days_in
one_empty = refl

-- the default card has each optional value, in form, and no byte of SGN; computed for the table
abbrev has_default : Presence → Attribute → Bool
has_default Required a = true
has_default Optional a = in_form (form a) (or_else (value_of (name a) default_card) [])
has_default Engine a = true
has_default Kept a = in_form (form a) (or_else (value_of (name a) default_card) [])

all_default : T (all_rows (λ (a : Attribute). has_default (presence a) a) table)
unfolding table default_card value_of name_of are_all is_number is_unpadded is_timestamp is_date_and_time is_date is_time days_in
all_default = tt

-- the names that are not the engine's; computed for the table
abbrev is_not_own : ℕ → Bool
is_not_own n = not (eqb n CLU) && (not (eqb n KCV) && (not (eqb n KSL) && not (eqb n VND)))

abbrev is_incomings : Presence → ℕ → Bool
is_incomings Engine n = true
is_incomings Required n = is_not_own n
is_incomings Optional n = is_not_own n
is_incomings Kept n = is_not_own n

all_incomings : T (all_rows (λ (a : Attribute). is_incomings (presence a) (name a)) table)
unfolding table
all_incomings = tt

-- such a name's value is the card's or the default card's
from_card : (card : List ℕ) (own : EngineValues) (n : ℕ) → T (is_not_own n) → stored_value card own n ≡ value_or n card default_card
unfolding stored_value
from_card card own n t =
    let a = not (eqb n CLU) in
    let b = not (eqb n KCV) in
    let c = not (eqb n KSL) in
    let d = not (eqb n VND) in
    let t1 = and_right a (b && (c && d)) t in
    let t2 = and_right b (c && d) t1 in
    rw (no (eqb n CLU) (and_left a (b && (c && d)) t), no (eqb n KCV) (and_left b (c && d) t1), no (eqb n KSL) (and_left c d t2), no (eqb n VND) (and_right c d t2))

-- the engine's own values are in form
abbrev is_own : Presence → Attribute → (ℕ → List ℕ) → Bool
is_own Required a f = true
is_own Optional a f = true
is_own Engine a f = in_form (form a) (f (name a))
is_own Kept a f = true

module _ (s : List ℕ) (h : is_incoming s ≡ true) where
  is_card_lem : T (is_card s)
  unfolding is_incoming
  is_card_lem = and_left (is_card s) (has_required table s) (holds (is_card s && has_required table s) h)

  all_there : T (has_required table s)
  unfolding is_incoming
  all_there = and_right (is_card s) (has_required table s) (holds (is_card s && has_required table s) h)

  all_fit : T (every is_fitting (entries s))
  unfolding is_card
  all_fit =
      let a = ascend (map name_of (entries s)) in
      let n = every is_named (entries s) in
      let f = every is_fitting (entries s) in
      and_right a f (and_right n (a && f) (and_right (is_ended semicolon s) (n && (a && f)) is_card_lem))

  module _ (k : ℕ) (a : Attribute) (r : List Attribute) (e : drop k table ≡ a ∷ r) where
    value_fits : (v : List ℕ) → value_of (name a) s ≡ some v → T (fits a v)
    value_fits v q =
        let p : value_in (name a) (entries s) ≡ some v = a_name s (name a) (λ z. omega (arith, name_some k a r e)) ∙ q in
        rw (fits_at table (all_distinct true) k a r e v) at (found_fits (entries s) all_fit (name a) v p)

    -- o is what the card has under the name
    required_there : presence a ≡ Required → (o : Option (List ℕ)) → value_of (name a) s ≡ o → o ≡ some (or_else o (or_else (value_of (name a) default_card) []))
    unfolding is_met
    required_there q (some v) p = refl
    required_there q none p = absurd (rw (q, p) at (required_at table s all_there k a r e))

    required_value : presence a ≡ Required → (o : Option (List ℕ)) → value_of (name a) s ≡ o → T (in_form (form a) (or_else o (or_else (value_of (name a) default_card) [])))
    unfolding is_met fits
    required_value q (some v) p = rw q at (value_fits v p)
    required_value q none p = absurd (rw (q, p) at (required_at table s all_there k a r e))

    -- of an attribute that the card may have: the card's value, or the default card's
    given_value : (q : Presence) → presence a ≡ q → fits_as q (form a) ≡ in_form (form a) → has_default q a ≡ in_form (form a) (or_else (value_of (name a) default_card) [])
        → (o : Option (List ℕ)) → value_of (name a) s ≡ o → T (in_form (form a) (or_else o (or_else (value_of (name a) default_card) [])))
    unfolding fits
    given_value q i h d (some v) p = subst (λ (g : List ℕ → Bool). T (g v)) h (rw i at (value_fits v p))
    given_value q i h d none p = subst T d (subst (λ (u : Presence). T (has_default u a)) i (at_row (λ (x : Attribute). has_default (presence x) x) table all_default k a r e))

    -- a required value is the card's own
    pub required_own : presence a ≡ Required → value_of (name a) s ≡ some (value_or (name a) s default_card)
    unfolding value_or
    required_own q = required_there q (value_of (name a) s) refl

    -- and in form
    pub required_in_form : presence a ≡ Required → in_form (form a) (or_else (value_of (name a) s) []) ≡ true
    unfolding value_or
    required_in_form q = rw (required_own q) (yes (in_form (form a) (value_or (name a) s default_card)) (required_value q (value_of (name a) s) refl))

  -- an SGN has 24 bytes at most, none of them outside 20 to 7D, and none a semicolon or a bar
  pub sgn_in_form : (v : List ℕ) → value_of SGN s ≡ some v → (length v ≤ 24) × (are_all Value v ≡ true)
  unfolding table fits
  sgn_in_form v e =
      let i : in_form (Label 24) v ≡ true = yes (in_form (Label 24) v) (value_fits 13 (SGN, Kept, Label 24) _ refl v e) in
      (in_form_short (Label 24) v refl i, in_form_value (Label 24) v i)

  module _ (own : EngineValues) where
    abbrev value : ℕ → List ℕ
    value = stored_value s own

    row_in_form : T (all_rows (λ (a : Attribute). is_own (presence a) a value) table) → (k : ℕ) (a : Attribute) (r : List Attribute) → drop k table ≡ a ∷ r
        → (q : Presence) → presence a ≡ q → T (is_in_form value a)
    unfolding value_or
    row_in_form o k a r e Required q =
        rw (from_card s own (name a) (rw q at (at_row (λ (x : Attribute). is_incomings (presence x) (name x)) table all_incomings k a r e)))
        (required_value k a r e q (value_of (name a) s) refl)
    row_in_form o k a r e Optional q =
        rw (from_card s own (name a) (rw q at (at_row (λ (x : Attribute). is_incomings (presence x) (name x)) table all_incomings k a r e)))
        (given_value k a r e Optional q refl refl (value_of (name a) s) refl)
    row_in_form o k a r e Kept q =
        rw (from_card s own (name a) (rw q at (at_row (λ (x : Attribute). is_incomings (presence x) (name x)) table all_incomings k a r e)))
        (given_value k a r e Kept q refl refl (value_of (name a) s) refl)
    row_in_form o k a r e Engine q = rw q at (at_row (λ (x : Attribute). is_own (presence x) x value) table o k a r e)

    module _ (a : in_form (Number 1 0 0) own.clu ≡ true) (b : in_form (Hex 6) own.kcv ≡ true) (c : in_form Name own.ksl ≡ true) (d : in_form (Number 9 0 999999999) own.vnd ≡ true) where
      own_in_form : T (all_rows (λ (x : Attribute). is_own (presence x) x value) table)
      unfolding table always stored_value
      own_in_form = rw (a, b, c, d) tt

      -- every stored value is in form,
      pub all_in_form : T (all_rows (is_in_form value) table)
      all_in_form = all_rows_lem (is_in_form value) table (λ k x r e. row_in_form own_in_form k x r e (presence x) refl)

      -- the stored card has SGN or not, as the incoming card has it,
      abbrev named : Bool
      named = is_some (value_of SGN s)

      the_card : stored_card s own ≡ card_bytes (rows_of named) value
      unfolding stored_card table always
      the_card = go named refl
        where
          go : (t : Bool) → named ≡ t → stored_card s own ≡ card_bytes (rows_of t) value
          go true e = rw e
          go false e = rw e

      -- fits its row,
      pub stored_longest : length (stored_card s own) ≤ 230
      stored_longest = rw the_card (is_short_lem value all_in_form named)

      pub stored_short : length (stored_card s own) ≤ 256
      stored_short = omega (arith, stored_longest)

      -- passes the test of a card as stored,
      pub stored_passes : is_stored (in_row (stored_card s own)) ≡ true
      stored_passes = rw the_card (is_stored_lem value all_in_form named)

      -- is text, so that a PTVD string can hold it,
      pub stored_text : are_all Text (stored_card s own) ≡ true
      stored_text = rw the_card (is_text_lem value all_in_form named)

      -- stands in its row up to the first zero,
      pub stored_measured : take (run (is_not 0) (in_row (stored_card s own))) (in_row (stored_card s own)) ≡ stored_card s own
      stored_measured = rw the_card (is_measured value all_in_form named)

      -- and each name that every stored card has reads back its value, in the row and in the card alone
      module _ (k : ℕ) (x : Attribute) (r : List Attribute) (e : drop k always ≡ x ∷ r) where
        pub stored_back : value_of (name x) (in_row (stored_card s own)) ≡ some (value (name x))
        stored_back = let m = among_both named k x r e in rw the_card (reads_row value all_in_form named m.place x m.rest m.is)

        pub card_back : value_of (name x) (stored_card s own) ≡ some (value (name x))
        card_back = let m = among_both named k x r e in rw the_card (reads_card value all_in_form named m.place x m.rest m.is)

        -- a required one as the incoming card had it
        module _ (q : presence x ≡ Required) where
          kept : some (value (name x)) ≡ value_of (name x) s
          kept =
              let m = among_both true k x r e in
              ap some (from_card s own (name x) (rw q at (at_row (λ (y : Attribute). is_incomings (presence y) (name y)) table all_incomings m.place x m.rest m.is)))
              ∙ sym (required_own m.place x m.rest m.is q)

          pub required_back : value_of (name x) (in_row (stored_card s own)) ≡ value_of (name x) s
          required_back = stored_back ∙ kept

          pub required_card_back : value_of (name x) (stored_card s own) ≡ value_of (name x) s
          required_card_back = card_back ∙ kept

      -- SGN reads back as the incoming card had it: the same bytes, empty where it was empty, absent where it was absent
      sgn_value : (v : List ℕ) → value_of SGN s ≡ some v → value SGN ≡ v
      unfolding value_or
      sgn_value v e = from_card s own SGN tt ∙ rw e

      pub sgn_card_back : value_of SGN (stored_card s own) ≡ value_of SGN s
      unfolding table always
      sgn_card_back = rw the_card (go (value_of SGN s) refl)
        where
          go : (o : Option (List ℕ)) → value_of SGN s ≡ o → value_of SGN (card_bytes (rows_of (is_some o)) value) ≡ o
          go (some v) e = reads_card value all_in_form true 13 (SGN, Kept, Label 24) _ refl ∙ ap some (sgn_value v e)
          go none e = not_in_card value all_in_form false SGN (omega arith) tt

      pub sgn_back : value_of SGN (in_row (stored_card s own)) ≡ value_of SGN s
      sgn_back = row_value SGN (stored_card s own) ∙ sgn_card_back

      -- SGC, KRN and KSL
      pub sgc_back : value_of SGC (in_row (stored_card s own)) ≡ value_of SGC s
      unfolding table always
      sgc_back = required_back 12 (SGC, Required, Digits 10) _ refl refl

      pub krn_back : value_of KRN (in_row (stored_card s own)) ≡ value_of KRN s
      unfolding table always
      krn_back = required_back 8 (KRN, Required, Number 1 1 9) _ refl refl

      pub ksl_back : value_of KSL (in_row (stored_card s own)) ≡ some own.ksl
      unfolding table always stored_value
      ksl_back = stored_back 9 (KSL, Engine, Name) _ refl

      pub sgc_card_back : value_of SGC (stored_card s own) ≡ value_of SGC s
      unfolding table always
      sgc_card_back = required_card_back 12 (SGC, Required, Digits 10) _ refl refl

      pub krn_card_back : value_of KRN (stored_card s own) ≡ value_of KRN s
      unfolding table always
      krn_card_back = required_card_back 8 (KRN, Required, Number 1 1 9) _ refl refl

      pub ksl_card_back : value_of KSL (stored_card s own) ≡ some own.ksl
      unfolding table always stored_value
      ksl_card_back = card_back 9 (KSL, Engine, Name) _ refl

      -- with a VND of one digit, as a load writes it, the card has at most 222 bytes
      module _ (l : length own.vnd ≤ 1) where
        abbrev longest : Attribute → ℕ
        longest x = cond (eqb (name x) VND) 1 (most (form x))

        value_within : (k : ℕ) (x : Attribute) (r : List Attribute) → drop k (rows_of named) ≡ x ∷ r → (t : Bool) → eqb (name x) VND ≡ t → length (value (name x)) ≤ cond t 1 (most (form x))
        unfolding stored_value
        value_within k x r e true q = rw (eqb-true (name x) VND q) l
        value_within k x r e false q = value_short value all_in_form named k x r e

        pub loaded_longest : length (stored_card s own) ≤ 222
        unfolding table always
        loaded_longest = within named (rw the_card (has_room value all_in_form named longest (λ k x r e. value_within k x r e (eqb (name x) VND) refl)))
          where
            within : (t : Bool) → length (stored_card s own) ≤ room longest (rows_of t) → length (stored_card s own) ≤ 222
            within true h = omega arith
            within false h = omega arith
