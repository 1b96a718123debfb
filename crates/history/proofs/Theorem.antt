-- Demand 3 and the sentence on marks, of every machine whose rows take the steps of specs/Step, for every list of requests and all row counts.
use mathlib.Core.Path.{◌≡◌, refl, sym, subst, ◌∙◌}
use mathlib.Core.Bool.{Bool, true, false}
use mathlib.Core.Logic.{◌↔◌, ◌⊎◌, inl, inr}
use mathlib.Core.List.{List, [], ◌∷◌}
use Prim.Native.Nat.{ℕ, zero, suc}
use Rattle.history.proofs.Latch.{last_after, has_never, has_or_never, inv_finally, latch_to, latch_from, Moment, moment}
use Rattle.byte_strings.proofs.Flags.{nope}
use Rattle.history.proofs.Rows.{get_d_none}
use Rattle.history.specs.Step.{Step}
use Rattle.history.proofs.Sound.{Sound, sound_step, sound_empty}
use Rattle.history.proofs.Laws.{stands, Clears, one_key, none_stands, closes?, key_to, key_sets, key_keeps, Open, load_open, open_to}
use Rattle.history.proofs.MarkLaws.{not_both, ClearsOrCloses, mark_to, mark_sets, mark_keeps}
use Rattle.history.proofs.BusyLaws.{Busy, busy_step, busy_empty}
use Rattle.history.specs.History.{Never, Has, Since, finally, trace}
use Rattle.history.specs.Demand3.{LoadInto, Load, Deletion, Opens, Ends, Live, InSession, StandsIn, OneRow, Demand3}
use Rattle.history.specs.Marks.{Closes, StandsOpen, StandsClosed, Marks}
use Rattle.history.specs.Model.{Tables, Item, free, empty}

-- "none of A or B" is "none of A, and none of B"
never_both : {A : Type 0} (P Q : A → Type 0) (l : List A) → Never P l → Never Q l → Never (λ x. P x ⊎ Q x) l
never_both P Q [] p q = tt
never_both {A} P Q (x ∷ xs) p q = (both, never_both P Q xs p.1 q.1)
  where
    both : ¬ (P x ⊎ Q x)
    both (inl a) = p.0 a
    both (inr b) = q.0 b

never_left : {A : Type 0} (P Q : A → Type 0) (l : List A) → Never (λ x. P x ⊎ Q x) l → Never P l × Never Q l
never_left P Q [] n = (tt, tt)
never_left P Q (x ∷ xs) n = let m = never_left P Q xs n.1 in ((λ a. n.0 (inl a), m.0), (λ b. n.0 (inr b), m.1))

module _ (h : List Item) (g r : List ℕ) (n : ℕ) (s c : List ℕ) where
  pub live_since : Live h g r n s c → Since (LoadInto g r n s c) (Clears g r n s) h
  live_since l = record {
    before = l.before;
    item = l.load;
    after = l.after;
    split = l.split;
    sets = l.is;
    quiet = never_both (Load g r) (Deletion s n) l.after l.last l.kept;
  }

  since_live : Since (LoadInto g r n s c) (Clears g r n s) h → Live h g r n s c
  since_live l = let m = never_left (Load g r) (Deletion s n) l.after l.quiet in record {
    before = l.before;
    load = l.item;
    after = l.after;
    split = l.split;
    is = l.sets;
    last = m.0;
    kept = m.1;
  }

  -- the same of a key that nothing closed after its load: the last load is in one place only
  open_since : (l : Live h g r n s c) → Never (Closes s) l.after → Since (LoadInto g r n s c) (ClearsOrCloses g r n s) h
  open_since l o = record {
    before = l.before;
    item = l.load;
    after = l.after;
    split = l.split;
    sets = l.is;
    quiet = never_both (Clears g r n s) (Closes s) l.after (never_both (Load g r) (Deletion s n) l.after l.last l.kept) o;
  }

  since_open : (l : Live h g r n s c) → Since (LoadInto g r n s c) (ClearsOrCloses g r n s) h → Never (Closes s) l.after
  since_open l k =
      let m = never_left (Clears g r n s) (Closes s) k.after k.quiet in
      let e = last_after (Load g r) k.before k.item k.after l.before l.load l.after (sym k.split ∙ l.split) (load_of k.sets) (load_of l.is) (never_left (Load g r) (Deletion s n) k.after m.0).0 l.last in
      subst (Never (Closes s)) e m.1
    where
      load_of : {x : Item} → LoadInto g r n s c x → Load g r x
      load_of e = record { number = n; slot = s; card = c; is = e }

one_row_of : (t : Tables) → Sound t → (g r : List ℕ) (n : ℕ) (s c : List ℕ) → StandsIn t g r n s c → OneRow t s
one_row_of t σ g r zero s c p = let w = p.is in nope (cc)
one_row_of t σ g r (suc i) s c p =
    let k = σ.known i g r s c p.carries p.is in
    record {
      row = k.row;
      fills = record { state = k.state; is = k.is };
      only = λ j f. σ.names j k.row s f.state k.state f.is k.is;
    }

none_open : (a b : ℕ) (s : List ℕ) → ¬ Open s (empty a b)
unfolding empty
none_open a b s o = let k = get_d_none free a o.row in nope (cc)

-- a machine: its states and requests, the items of its list, and the rows that its states have
module _ {S E : Type 0} (next : S → E → S) (item : S → E → Item) (rows : S → Tables)
    (steps : (t : S) (e : E) → Step (rows t) (item t e) (rows (next t e))) where
  abbrev Fine : S → Type 0
  Fine t = Sound (rows t)

  fine_next : (t : S) (e : E) → Fine t → Fine (next t e)
  fine_next t e σ = sound_step (rows t) (item t e) (rows (next t e)) (steps t e) σ

  module _ (t₀ : S) (a b : ℕ) (start : rows t₀ ≡ empty a b) where
    fine₀ : Fine t₀
    fine₀ = rw start (sound_empty a b)

    stands_live : (es : List E) (g r : List ℕ) (n : ℕ) (s c : List ℕ) → StandsIn (rows (finally next item t₀ es)) g r n s c → Live (trace next item t₀ es) g r n s c
    stands_live es g r n s c p =
        since_live (trace next item t₀ es) g r n s c
        (latch_to next item Fine fine_next (λ t. StandsIn (rows t) g r n s c) (LoadInto g r n s c) (Clears g r n s)
        (λ t e σ q. key_to (rows t) (item t e) (rows (next t e)) (steps t e) σ g r n s c q) t₀ es fine₀
        (λ q. none_stands a b g r n s c (rw start at q)) p)

    live_stands : (es : List E) (g r : List ℕ) (n : ℕ) (s c : List ℕ) → Live (trace next item t₀ es) g r n s c → StandsIn (rows (finally next item t₀ es)) g r n s c
    live_stands es g r n s c l =
        latch_from next item Fine fine_next (λ t. StandsIn (rows t) g r n s c) (LoadInto g r n s c) (Clears g r n s)
        (λ t e σ q. key_sets (rows t) (item t e) (rows (next t e)) (steps t e) g r n s c q)
        (λ t e σ q k. key_keeps (rows t) (item t e) (rows (next t e)) (steps t e) g r n s c q k) t₀ es fine₀
        (live_since (trace next item t₀ es) g r n s c l)

    -- a session that is open in the rows is open by the list
    open_session : (es : List E) (s : List ℕ) → Open s (rows (finally next item t₀ es)) → InSession s (trace next item t₀ es)
    open_session es s p =
        latch_to next item Fine fine_next (λ t. Open s (rows t)) (Opens s) (Ends s)
        (λ t e σ q. open_to (rows t) (item t e) (rows (next t e)) (steps t e) σ s q) t₀ es fine₀ (λ q. none_open a b s (rw start at q)) p

    in_session_lem : (before : List Item) (x : Item) (g r : List ℕ) (n : ℕ) (s c : List ℕ) → Moment next item t₀ before x → LoadInto g r n s c x → InSession s before
    in_session_lem before x g r n s c m l =
        let t = finally next item t₀ m.earlier in
        let e = m.now in
        let o = load_open (rows t) (item t e) (rows (next t e)) (steps t e) g r n s c (sym m.is ∙ l) in
        rw m.past (open_session m.earlier s o)

    pub demand3 : (es : List E) → Demand3 (trace next item t₀ es) (rows (finally next item t₀ es))
    demand3 es = record {
      exactly = λ g r. (
        λ p. record { number = p.number; slot = p.slot; card = p.card; is = stands_live es g r p.number p.slot p.card p.is },
        λ l. record { number = l.number; slot = l.slot; card = l.card; is = live_stands es g r l.number l.slot l.card l.is },
      );
      there = λ g r n s c l. live_stands es g r n s c l;
      only = λ g r n n' s c s' c' l p. one_key t σ g r n n' s c s' c' (live_stands es g r n s c l) p;
      one_row = λ g r n s c l. one_row_of t σ g r n s c (live_stands es g r n s c l);
      no_two_rows = λ s i j p q. σ.names i j s p.state q.state p.is q.is;
      sessions = λ before after x g r n s c e l. in_session_lem before x g r n s c (moment next item t₀ es before x after e) l;
    }
      where
        t : Tables
        t = rows (finally next item t₀ es)

        σ : Sound t
        σ = inv_finally next item Fine fine_next t₀ es fine₀

    -- a key that is open in the rows is open by the list, and the other way
    open_live : (es : List E) (g r : List ℕ) (n : ℕ) (s c : List ℕ) → StandsOpen (rows (finally next item t₀ es)) g r n s c → Since (LoadInto g r n s c) (ClearsOrCloses g r n s) (trace next item t₀ es)
    open_live es g r n s c p =
        latch_to next item Fine fine_next (λ t. StandsOpen (rows t) g r n s c) (LoadInto g r n s c) (ClearsOrCloses g r n s)
        (λ t e σ q. mark_to (rows t) (item t e) (rows (next t e)) (steps t e) σ g r n s c q) t₀ es fine₀
        (λ q. let k = stands q in none_stands a b g r n s c (rw start at k)) p

    live_open : (es : List E) (g r : List ℕ) (n : ℕ) (s c : List ℕ) → Since (LoadInto g r n s c) (ClearsOrCloses g r n s) (trace next item t₀ es) → StandsOpen (rows (finally next item t₀ es)) g r n s c
    live_open es g r n s c l =
        latch_from next item Fine fine_next (λ t. StandsOpen (rows t) g r n s c) (LoadInto g r n s c) (ClearsOrCloses g r n s)
        (λ t e σ q. mark_sets (rows t) (item t e) (rows (next t e)) (steps t e) g r n s c q)
        (λ t e σ q k. mark_keeps (rows t) (item t e) (rows (next t e)) (steps t e) g r n s c q k) t₀ es fine₀ l

    pub marks : (es : List E) → Marks (trace next item t₀ es) (rows (finally next item t₀ es))
    marks es = record { open_exactly = is_open_lem; closed_exactly = λ g r n s c l. (was_closed g r n s c l, is_closed_lem g r n s c l) }
      where
        t : Tables
        t = rows (finally next item t₀ es)

        h : List Item
        h = trace next item t₀ es

        is_open_lem : (g r : List ℕ) (n : ℕ) (s c : List ℕ) (l : Live h g r n s c) → StandsOpen t g r n s c ↔ Never (Closes s) l.after
        is_open_lem g r n s c l = (λ p. since_open h g r n s c l (open_live es g r n s c p), λ o. live_open es g r n s c (open_since h g r n s c l o))

        was_closed : (g r : List ℕ) (n : ℕ) (s c : List ℕ) (l : Live h g r n s c) → StandsClosed t g r n s c → Has (Closes s) l.after
        was_closed g r n s c l p = go (has_or_never (Closes s) (closes? s) l.after)
          where
            go : Has (Closes s) l.after ⊎ Never (Closes s) l.after → Has (Closes s) l.after
            go (inl k) = k
            go (inr o) = absurd (not_both ((is_open_lem g r n s c l).1 o) p)

        is_closed_lem : (g r : List ℕ) (n : ℕ) (s c : List ℕ) (l : Live h g r n s c) → Has (Closes s) l.after → StandsClosed t g r n s c
        is_closed_lem g r n s c l k = go (live_stands es g r n s c l)
          where
            go : StandsIn t g r n s c → StandsClosed t g r n s c
            go p = of p.carries.is_open refl
              where
                of : (b : Bool) → p.carries.is_open ≡ b → StandsClosed t g r n s c
                of true q = absurd (has_never (Closes s) l.after k ((is_open_lem g r n s c l).0 (record { carries = p.carries; is = p.is; mark = q })))
                of false q = record { carries = p.carries; is = p.is; mark = q }

    pub busy : (es : List E) → Busy (rows (finally next item t₀ es))
    busy es = (inv_finally next item Both both_next t₀ es (fine₀, rw start (busy_empty a b))).1
      where
        Both : S → Type 0
        Both t = Fine t × Busy (rows t)

        both_next : (t : S) (e : E) → Both t → Both (next t e)
        both_next t e β = (fine_next t e β.0, busy_step (rows t) (item t e) (rows (next t e)) (steps t e) β.0 β.1)
