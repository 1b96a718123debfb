-- The bounds of the values, noted entry by entry.
use mathlib.Core.Path.{◌≡◌, refl, sym, ap, subst, ◌∙◌}
use mathlib.Core.Bool.{Bool, true, false, cond, not, ◌&&◌}
use mathlib.Core.List.{List, [], ◌∷◌, map}
use mathlib.Core.Option.{Option, none, some}
use Prim.Native.Nat.{ℕ, zero, suc, ◌+◌, ◌-◌, ◌≤◌, ◌<◌, zero-le}
use native.Mathlib.Omega.{arith}
use lib.Dec.{T, eqb, ltb, eqb→eq, ltb→lt}
use lib.ListN.{length, get_or, take, drop, set, replicate, length-set, get_or-replicate, drop_of_length-le}
use lib.Seq.{get_or-set_same, get_or-set_other}
use borrow.Author.Tests.{eq-eqb, ne_eqb, eqb-true, eqb-false, not-false}
use Rattle.byte_strings.specs.Strings.{run, is_not}
use Rattle.byte_strings.proofs.Below.{at_below}
use Rattle.byte_strings.proofs.Flags.{nope, and_left, and_right, yes, holds}
use Rattle.byte_bounds.specs.Bounds.{bytes_in, FitIn, nowhere}
use Rattle.byte_bounds.specs.declared.Bounds.{Bounds}
use Rattle.card_entries.specs.Entries.{entries, name_of, value_in, value_of, is_some, or_else}
use Rattle.card_entries.proofs.EntryLaws.{a_name, found_here, found_later, name_room}
use Rattle.card_attributes.specs.Table.{KRN, SGC, table, rows, name, presence}
use Rattle.card_attributes.specs.declared.Presence.TheVariants.{Required}
use Rattle.card_attributes.proofs.TableLaws.{at_row}
use Rattle.card_attributes.specs.declared.Attribute.{Attribute}
use Rattle.card_incoming.specs.Incoming.{name_at, AreValues, index_of, is_met, has_noted, has_required, is_card, is_incoming}
use Rattle.card_incoming.specs.declared.Incoming.{Incoming}

-- an attribute's name is none of 0, and its index is the attribute's
name_some : (k : ℕ) → k < rows → 0 < name_at k
unfolding name_at table
name_some k h = ltb→lt 0 (name_at k) (at_below (λ (i : ℕ). ltb 0 (name_at i)) rows tt k h)

index_back : (k : ℕ) → k < rows → index_of table (name_at k) ≡ k
unfolding name_at table
index_back k h = eqb→eq (index_of table (name_at k)) k (at_below (λ (i : ℕ). eqb (index_of table (name_at i)) i) rows tt k h)

-- the attribute at the index of a name has the name
index_named : (n : ℕ) (rs : List Attribute) → index_of rs n < length rs → get_or (map name rs) (index_of rs n) 0 ≡ n
index_named n [] h = absurd (omega arith)
index_named n (a ∷ rs) h = go (eqb (name a) n) refl h (index_named n rs)
  where
    go : (t : Bool) → eqb (name a) n ≡ t → cond t 0 (suc (index_of rs n)) < suc (length rs)
        → (index_of rs n < length rs → get_or (map name rs) (index_of rs n) 0 ≡ n)
        → get_or (name a ∷ map name rs) (cond t 0 (suc (index_of rs n))) 0 ≡ n
    go true e l ih = eqb-true (name a) n e
    go false e l ih = ih (omega arith)

name_back : (n : ℕ) → index_of table n < rows → name_at (index_of table n) ≡ n
unfolding name_at table
name_back n h = index_named n table h

-- what is known of the bounds b of the value under the name n where a card is read up to `at`, its last name `last`:
-- they fit; where the value is not noted it is that of what is left; and none is noted of a name after the last
pub record Noted (card : List ℕ) (at last n : ℕ) (b : Bounds) : Type 0 where
  pub within : FitIn (length card) b
  pub value : cond (eqb b.start 0) (value_in n (entries (drop at card))) (some (bytes_in card b)) ≡ value_of n card
  pub later : last < n → b.start ≡ 0

unfoldable pub AreNoted : List Bounds → List ℕ → ℕ → ℕ → Type 0
AreNoted values card at last = (k : ℕ) → k < rows → Noted card at last (name_at k) (get_or values k nowhere)

-- what was read of a card up to `at`
pub record ReadTo (card : List ℕ) (at last : ℕ) (read : Incoming) : Type 0 where
  pub not_yet : read.in_form ≡ false
  pub long : length read.values ≡ rows
  pub noted : AreNoted read.values card at last

-- read_card: at the start
none_noted : (s : List ℕ) → AreNoted (replicate rows nowhere) s 0 0
unfolding AreNoted
none_noted s k h =
    let n = name_at k in
    let w : Noted s 0 0 n nowhere = record { within = (zero-le, zero-le); value = a_name s n (λ e. absurd (omega (arith, name_some k h))); later = λ l. refl } in
    rw (get_or-replicate rows k nowhere nowhere h) w

pub nothing_read : (s : List ℕ) → ReadTo s 0 0 (record { in_form = false; values = replicate rows nowhere })
nothing_read s = record { not_yet = refl; long = refl; noted = none_noted s }

-- the entry from `at` to e, of the name x
module _ (s : List ℕ) (at last e : ℕ) (p : e ≡ at + run (is_not 59) (drop at s)) (h : e < length s) (x : ℕ) (q : x ≡ name_of (take (e - at) (drop at s))) (l : last < x) where
  -- notes the value under its name,
  noted_here : (n : ℕ) (b : Bounds) → Noted s at last n b → n ≡ x → Noted s (e + 1) x n (record { start = at + 3; end = e })
  noted_here n b w i =
      let v : value_in n (entries (drop at s)) ≡ value_of n s = rw (eq-eqb b.start 0 (w.later (omega arith))) at w.value in
      record {
        within = (name_room s at e h p (omega arith), omega arith);
        value = rw (ne_eqb (at + 3) 0 (λ o. absurd (omega arith))) (found_here s at n _ v e p h x q (sym i));
        later = λ o. absurd (omega arith);
      }

  -- and leaves the others
  noted_before : (n : ℕ) (b : Bounds) → Noted s at last n b → (n ≡ x → ⊥) → Noted s (e + 1) x n b
  noted_before n b w i =
      record {
        within = w.within;
        value = ap (λ (o : Option (List ℕ)). cond (eqb b.start 0) o (some (bytes_in s b))) (found_later s at n _ refl e p h x q (λ o. i (sym o))) ∙ w.value;
        later = λ o. w.later (omega arith);
      }

  module _ (read : Incoming) (w : ReadTo s at last read) (index : ℕ) (d : index ≡ index_of table x) where
    abbrev values : List Bounds
    values = read.values

    other_name : (k : ℕ) → k < rows → (k ≡ index → ⊥) → name_at k ≡ x → ⊥
    other_name k j o i = o (sym (index_back k j) ∙ ap (index_of table) i ∙ sym d)

    before : (k : ℕ) → k < rows → Noted s at last (name_at k) (get_or values k nowhere)
    unfolding AreNoted
    before k j = w.noted k j

    -- notes its value where its name is known,
    known : index < rows → AreNoted (set values index (record { start = at + 3; end = e })) s (e + 1) x
    unfolding AreNoted
    known m k j = go (eqb k index) refl
      where
        b : Bounds
        b = record { start = at + 3; end = e }

        go : (t : Bool) → eqb k index ≡ t → Noted s (e + 1) x (name_at k) (get_or (set values index b) k nowhere)
        go true c =
            let i : k ≡ index = eqb-true k index c in
            let y : name_at k ≡ x = ap name_at (i ∙ d) ∙ name_back x (omega arith) in
            let z : index < length values = omega (arith, w.long) in
            rw (i, get_or-set_same values index b nowhere z) (rw i at (noted_here (name_at k) (get_or values k nowhere) (before k j) y))
        go false c =
            let i : k ≡ index → ⊥ = eqb-false k index c in
            rw (get_or-set_other values index k b nowhere i) (noted_before (name_at k) (get_or values k nowhere) (before k j) (other_name k j i))

    pub read_known : index < rows → ReadTo s (e + 1) x (record { in_form = read.in_form; values = set read.values index (record { start = at + 3; end = e }) })
    read_known m = record { not_yet = w.not_yet; long = length-set values index _ ∙ w.long; noted = known m }

    -- and nothing where it is not
    unknown : rows ≤ index → AreNoted values s (e + 1) x
    unfolding AreNoted
    unknown m k j = noted_before (name_at k) (get_or values k nowhere) (before k j) (other_name k j (λ o. absurd (omega arith)))

    pub read_unknown : rows ≤ index → ReadTo s (e + 1) x read
    read_unknown m = record { not_yet = w.not_yet; long = w.long; noted = unknown m }

-- at the end
module _ (s : List ℕ) (at last : ℕ) (read : Incoming) (w : ReadTo s at last read) where
  pub refused : false ≡ is_card s → read.in_form ≡ is_incoming s
  unfolding is_incoming
  refused e = rw (← e, w.not_yet)

  pub no_values : read.in_form ≡ true → AreValues read.values s
  no_values e = nope (cc w.not_yet)

  module _ (h : length s ≤ at) where
    pub all_noted : AreValues read.values s
    unfolding AreNoted AreValues
    all_noted k j = let v = w.noted k j in (v.within, rw (drop_of_length-le s h) at v.value)

    -- a value is noted where the card has it
    noted_some : (k : ℕ) → k < rows → not (eqb (get_or read.values k nowhere).start 0) ≡ is_some (value_of (name_at k) s)
    unfolding AreValues
    noted_some k j = go (eqb (get_or read.values k nowhere).start 0) (bytes_in s (get_or read.values k nowhere)) (all_noted k j).1
      where
        go : (t : Bool) (v : List ℕ) → cond t none (some v) ≡ value_of (name_at k) s → not t ≡ is_some (value_of (name_at k) s)
        go true v e = ap is_some e
        go false v e = ap is_some e

    required_noted : has_noted table 0 read.values ≡ has_required table s
    unfolding table name_at is_met
    required_noted =
        rw (noted_some 0 (omega arith), noted_some 1 (omega arith), noted_some 4 (omega arith), noted_some 7 (omega arith), noted_some 8 (omega arith), noted_some 10 (omega arith), noted_some 12 (omega arith))

    pub accepted : true ≡ is_card s → (r : Bool) → r ≡ has_noted table 0 read.values → r ≡ is_incoming s
    unfolding is_incoming
    accepted e r p = rw (← e, p, required_noted)

-- the name at an attribute's index is the attribute's
named_at : (rs : List Attribute) (k : ℕ) (a : Attribute) (r : List Attribute) → drop k rs ≡ a ∷ r → get_or (map name rs) k 0 ≡ name a
named_at [] k a r e = absurd (at_row (λ (x : Attribute). false) [] tt k a r e)
named_at (x ∷ rs) zero a r e = let h : x ≡ a = cc in ap name h
named_at (x ∷ rs) (suc k) a r e = named_at rs k a r e

pub row_name : (k : ℕ) (a : Attribute) (r : List Attribute) → drop k table ≡ a ∷ r → name_at k ≡ name a
unfolding name_at
row_name k a r e = named_at table k a r e

-- where every required attribute is there, each is
pub required_at : (rs : List Attribute) (s : List ℕ) → T (has_required rs s) → (k : ℕ) (a : Attribute) (r : List Attribute) → drop k rs ≡ a ∷ r → T (is_met a s)
required_at [] s t k a r e = absurd (at_row (λ (x : Attribute). false) [] tt k a r e)
required_at (x ∷ rs) s t zero a r e = let h : x ≡ a = cc in subst (λ (y : Attribute). T (is_met y s)) h (and_left (is_met x s) (has_required rs s) t)
required_at (x ∷ rs) s t (suc k) a r e = required_at rs s (and_right (is_met x s) (has_required rs s) t) k a r e

-- what a caller has of a card that was read: its values where it is in form;
pub read_values : (f : Bool) (values : List Bounds) (s : List ℕ) → (f ≡ true → AreValues values s) → not f ≡ false → AreValues values s
read_values f values s w o = w (not-false f o)

-- bounds that fit the card;
module _ (s : List ℕ) (values : List Bounds) (w : AreValues values s) where
  pub value_fits : (k : ℕ) → k < rows → FitIn (length s) (get_or values k nowhere)
  unfolding AreValues
  value_fits k h = (w k h).0

  -- and within them the value of an attribute that an incoming card must have
  module _ (i : is_incoming s ≡ true) where
    there : (k : ℕ) (a : Attribute) (r : List Attribute) → drop k table ≡ a ∷ r → presence a ≡ Required → is_some (value_of (name a) s) ≡ true
    unfolding is_incoming is_met
    there k a r e p =
        let t : T (has_required table s) = and_right (is_card s) (has_required table s) (holds (is_card s && has_required table s) i) in
        yes (is_some (value_of (name a) s)) (rw p at (required_at table s t k a r e))

    pub value_is : (k : ℕ) → k < rows → (a : Attribute) (r : List Attribute) → drop k table ≡ a ∷ r → presence a ≡ Required → bytes_in s (get_or values k nowhere) ≡ or_else (value_of (name a) s) []
    unfolding AreValues
    value_is k h a r e p =
        go (eqb (get_or values k nowhere).start 0) (bytes_in s (get_or values k nowhere)) (value_of (name a) s) ((w k h).1 ∙ ap (λ (n : ℕ). value_of n s) (row_name k a r e)) (there k a r e p)
      where
        go : (t : Bool) (v : List ℕ) (o : Option (List ℕ)) → cond t none (some v) ≡ o → is_some o ≡ true → v ≡ or_else o []
        go true v o c j = nope (cc (c, j))
        go false v o c j = rw (← c)

    pub krn_is : (v : List ℕ) → v ≡ bytes_in s (get_or values 8 nowhere) → v ≡ or_else (value_of KRN s) []
    unfolding table
    krn_is v p = p ∙ value_is 8 (omega arith) _ _ refl refl

    pub sgc_is : (v : List ℕ) → v ≡ bytes_in s (get_or values 12 nowhere) → v ≡ or_else (value_of SGC s) []
    unfolding table
    sgc_is v p = p ∙ value_is 12 (omega arith) _ _ refl refl
