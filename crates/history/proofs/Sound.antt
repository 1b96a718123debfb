-- The rows are sound, and every step keeps them so.
use mathlib.Core.Path.{◌≡◌, refl, sym, ap, subst, ◌∙◌}
use mathlib.Core.Logic.{◌≢◌}
use mathlib.Core.Bool.{Bool, true, false}
use mathlib.Core.List.{List, map}
use Prim.Native.Nat.{ℕ, zero, suc, ◌<◌}
use lib.ListN.{get_or, set, length, get_or-map}
use Rattle.byte_strings.proofs.Flags.{nope}
use Rattle.byte_strings.specs.Strings.{same_bytes}
use Rattle.byte_strings.proofs.StringLaws.{same_equal, same_self}
use Rattle.history.proofs.Rows.{clash, within, Stored, new, old, stored, get_d_none}
use Rattle.history.specs.Step.{SessionPlace, own, fresh, StorePlace, held, spare, Step, refuses, reads, starts, opens, loads, closes, deletes_slot, deletes_key, resets}
use Rattle.history.specs.Model.{State, idle, Slot, free, used, Carried, Register, vacant, key, Tables, Item, slot_row, register_at, put_slot, put_register, drop_key, drop_slot, close, close_key, finish, stopped, close_any, reset, empty}

-- no two rows have one name
abbrev pub Names : List Slot → Type 0
Names l = (i j : ℕ) (s : List ℕ) (a b : State) → get_or l i free ≡ used s a → get_or l j free ≡ used s b → i ≡ j

-- no two registers have one group and revision
abbrev pub Keys : List Register → Type 0
Keys l = (i j : ℕ) (g r : List ℕ) (s c s' c' : List ℕ) (q q' : Carried) → get_or l i vacant ≡ key g r s c q → get_or l j vacant ≡ key g r s' c' q' → i ≡ j

-- slot s has a row
pub record Known (l : List Slot) (s : List ℕ) : Type 0 where
  pub row : ℕ
  pub state : State
  pub is : get_or l row free ≡ used s state

known_of : (l : List Slot) (i : ℕ) (s : List ℕ) (a : State) → get_or l i free ≡ used s a → Known l s
known_of l i s a e = record { row = i; state = a; is = e }

pub record Sound (t : Tables) : Type 0 where
  pub names : Names t.slots
  pub keys : Keys t.registers
  pub known : (i : ℕ) (g r : List ℕ) (s c : List ℕ) (q : Carried) → get_or t.registers i vacant ≡ key g r s c q → Known t.slots s

-- a row within
pub used_within : (l : List Slot) (i : ℕ) (s : List ℕ) (a : State) → get_or l i free ≡ used s a → i < length l
used_within l i s a e = within free l i (λ q. nope (cc))

pub key_within : (l : List Register) (i : ℕ) (g r : List ℕ) (s c : List ℕ) (q : Carried) → get_or l i vacant ≡ key g r s c q → i < length l
key_within l i g r s c q e = within vacant l i (λ w. nope (cc))

-- the row of s is the one where its session goes
pub spot_row : (t : Tables) → Names t.slots → (s : List ℕ) (i : ℕ) → SessionPlace t s i → (k : ℕ) (b : State) → slot_row t k ≡ used s b → k ≡ i
spot_row t n s i (own a e) k b q = n k i s b a q e
spot_row t n s i (fresh e f) k b q = absurd (f k b q)

pub home_row : (t : Tables) → Keys t.registers → (g r : List ℕ) (i : ℕ) → StorePlace t g r i → (k : ℕ) (s c : List ℕ) (q : Carried) → get_or t.registers k vacant ≡ key g r s c q → k ≡ i
home_row t n g r i (held s' c' q' e) k s c q w = n k i g r s c s' c' q q' w e
home_row t n g r i (spare e f) k s c q w = absurd (f k s c q w)

-- a store of a slot row
names_put : (t : Tables) → Names t.slots → (s : List ℕ) (i : ℕ) (v : State) → i < length t.slots → SessionPlace t s i → Names (set t.slots i (used s v))
names_put t n s i v h p j k u a b e f = go (stored free t.slots i (used s v) j h) (stored free t.slots i (used s v) k h)
  where
    go : Stored free t.slots i (used s v) j → Stored free t.slots i (used s v) k → j ≡ k
    go (new x q) (new y w) = cc
    go (new x q) (old y w) =
        let z : s ≡ u = cc in
        let m = spot_row t n s i p k b (cc) in cc
    go (old x q) (new y w) =
        let z : s ≡ u = cc in
        let m = spot_row t n s i p j a (cc) in cc
    go (old x q) (old y w) = n j k u a b (cc) (cc)

names_free : (l : List Slot) → Names l → (i : ℕ) → i < length l → Names (set l i free)
names_free l n i h j k u a b e f = go (stored free l i free j h) (stored free l i free k h)
  where
    go : Stored free l i free j → Stored free l i free k → j ≡ k
    go (new x q) y = cc
    go (old x q) (new y w) = cc
    go (old x q) (old y w) = n j k u a b (cc) (cc)

-- every name that had a row has it still
known_put : (t : Tables) (s : List ℕ) (i : ℕ) (v : State) → i < length t.slots → SessionPlace t s i → (u : List ℕ) → Known t.slots u → Known (set t.slots i (used s v)) u
known_put t s i v h p u k = go (stored free t.slots i (used s v) k.row h) p
  where
    go : Stored free t.slots i (used s v) k.row → SessionPlace t s i → Known (set t.slots i (used s v)) u
    go (new x q) (own a e) = record { row = k.row; state = v; is = cc }
    go (new x q) (fresh e f) = record { row = k.row; state = v; is = cc }
    go (old x q) p = record { row = k.row; state = k.state; is = cc }

-- the deletion of slot s takes the keys under s, and leaves those of other slots as they are
drop_taken : (s g r u c : List ℕ) (p : Carried) → same_bytes u s ≡ true → drop_key s (key g r u c p) ≡ vacant
unfolding drop_key
drop_taken s g r u c p q = rw q refl

drop_left : (s g r u c : List ℕ) (p : Carried) → same_bytes u s ≡ false → drop_key s (key g r u c p) ≡ key g r u c p
unfolding drop_key
drop_left s g r u c p q = rw q refl

pub drop_key_lem : (s : List ℕ) (v : Register) (g r : List ℕ) (u c : List ℕ) (p : Carried) → drop_key s v ≡ key g r u c p → (v ≡ key g r u c p) × (same_bytes u s ≡ false)
unfolding drop_key
drop_key_lem s vacant g r u c p e = nope (cc)
drop_key_lem s (key g' r' u' c' p') g r u c p e = go (same_bytes u' s) refl
  where
    go : (b : Bool) → same_bytes u' s ≡ b → (key g' r' u' c' p' ≡ key g r u c p) × (same_bytes u s ≡ false)
    go true q = let w = drop_taken s g' r' u' c' p' q in nope (cc)
    go false q = let w = drop_left s g' r' u' c' p' q in let z : u' ≡ u = cc in (cc, cc)

pub drop_kept : (s : List ℕ) (g r : List ℕ) (u c : List ℕ) (p : Carried) → (s ≢ u) → drop_key s (key g r u c p) ≡ key g r u c p
drop_kept s g r u c p n = go (same_bytes u s) refl
  where
    go : (b : Bool) → same_bytes u s ≡ b → drop_key s (key g r u c p) ≡ key g r u c p
    go true q = absurd (n (sym (same_equal u s q)))
    go false q = drop_left s g r u c p q

pub drop_row : (s : List ℕ) (l : List Register) (i : ℕ) → get_or (map (drop_key s) l) i vacant ≡ drop_key s (get_or l i vacant)
unfolding drop_key
drop_row s l i = get_or-map (drop_key s) l i vacant

pub stop_row : (l : List Slot) (i : ℕ) → get_or (map stopped l) i free ≡ stopped (get_or l i free)
unfolding stopped
stop_row l i = get_or-map stopped l i free

pub stop_used : (v : Slot) (s : List ℕ) (b : State) → stopped v ≡ used s b → (b ≡ idle) × ((a : State) × (v ≡ used s a))
unfolding stopped
stop_used free s b e = nope (cc)
stop_used (used u a) s b e = (cc, (a, cc))

stop_known : (l : List Slot) (u : List ℕ) → Known l u → Known (map stopped l) u
unfolding stopped
stop_known l u k = record { row = k.row; state = idle; is = stop_row l k.row ∙ ap stopped k.is }

-- SM?KF of s closes the keys under s, and leaves those of other slots as they are
pub close_own : (s g r u c : List ℕ) (p : Carried) → same_bytes u s ≡ true → close_key s (key g r u c p) ≡ key g r u c (close p)
unfolding close_key
close_own s g r u c p q = rw q refl

pub close_left : (s g r u c : List ℕ) (p : Carried) → same_bytes u s ≡ false → close_key s (key g r u c p) ≡ key g r u c p
unfolding close_key
close_left s g r u c p q = rw q refl

-- GL?RS closes every key
pub close_all : (g r u c : List ℕ) (p : Carried) → close_any (key g r u c p) ≡ key g r u c (close p)
unfolding close_any
close_all g r u c p = refl

-- A SWEEP over the registers that leaves each key with its slot and card, and changes what it carries at most
pub record Sweep (f : Register → Register) : Type 0 where
  pub none : f vacant ≡ vacant
  pub carried : List ℕ → Carried → Carried
  pub keys : (g r s c : List ℕ) (q : Carried) → f (key g r s c q) ≡ key g r s c (carried s q)

pub close_key_lem : (s : List ℕ) → Sweep (close_key s)
unfolding close_key
close_key_lem s = record { none = refl; carried = _; keys = λ g r u c q. refl }

pub close_any_lem : Sweep close_any
unfolding close_any
close_any_lem = record { none = refl; carried = _; keys = λ g r u c q. refl }

module _ (f : Register → Register) (w : Sweep f) where
  pub swept_row : (l : List Register) (n : ℕ) → register_at (map f l) n ≡ f (register_at l n)
  swept_row l zero = sym w.none
  swept_row l (suc i) = rw w.none at (get_or-map f l i vacant)

  swept_key : (v : Register) (g r s c : List ℕ) (p : Carried) → f v ≡ key g r s c p → (q : Carried) × (v ≡ key g r s c q)
  swept_key vacant g r s c p e = let k = w.none in nope (cc)
  swept_key (key g' r' s' c' q) g r s c p e = let k = w.keys g' r' s' c' q in (q, cc)

  -- a key after the sweep stood before it, and became what it is
  pub swept_from : (l : List Register) (n : ℕ) (g r s c : List ℕ) (p : Carried) → register_at (map f l) n ≡ key g r s c p
      → (q : Carried) × (register_at l n ≡ key g r s c q) × (f (key g r s c q) ≡ key g r s c p)
  swept_from l n g r s c p e =
      let k = swept_key (register_at l n) g r s c p (sym (swept_row l n) ∙ e) in
      (k.0, k.1, ap f (sym k.1) ∙ sym (swept_row l n) ∙ e)

  -- the registers swept, and their slots as they are
  sound_swept : (t : Tables) → Sound t → Sound (record { slots = t.slots; registers = map f t.registers })
  sound_swept t σ = record {
    names = σ.names;
    keys = λ i j g r s c s' c' p p' e e'. let a = swept_from t.registers (suc i) g r s c p e in let b = swept_from t.registers (suc j) g r s' c' p' e' in σ.keys i j g r s c s' c' a.0 b.0 a.1 b.1;
    known = λ i g r s c p e. let a = swept_from t.registers (suc i) g r s c p e in σ.known i g r s c a.0 a.1;
  }

keys_drop : (s : List ℕ) (l : List Register) → Keys l → Keys (map (drop_key s) l)
keys_drop s l n i j g r u c u' c' p p' e f =
    n i j g r u c u' c' p p' (drop_key_lem s _ g r u c p (rw drop_row at e)).0 (drop_key_lem s _ g r u' c' p' (rw drop_row at f)).0

sound_put : (t : Tables) → Sound t → (s : List ℕ) (i : ℕ) (v : State) → i < length t.slots → SessionPlace t s i → Sound (put_slot t i (used s v))
sound_put t σ s i v h p = record {
  names = names_put t σ.names s i v h p;
  keys = σ.keys;
  known = λ j g r u c q e. known_put t s i v h p u (σ.known j g r u c q e);
}

-- what may be stored in register row i: no key, or one whose slot is known and that no other row holds
abbrev Fits : Tables → ℕ → Register → Type 0
Fits t i v = (g r u c : List ℕ) (p : Carried) → v ≡ key g r u c p → Known t.slots u × ((j : ℕ) (u' c' : List ℕ) (p' : Carried) → get_or t.registers j vacant ≡ key g r u' c' p' → j ≡ i)

sound_store : (t : Tables) → Sound t → (i : ℕ) (v : Register) → i < length t.registers → Fits t i v → Sound (put_register t i v)
sound_store t σ i v h fits = record {
  names = σ.names;
  keys = λ j k g r u c u' c' p p' e f. one j k g r u c u' c' p p' e f (stored vacant t.registers i v j h) (stored vacant t.registers i v k h);
  known = λ j g r u c p e. under j g r u c p e (stored vacant t.registers i v j h);
}
  where
    one : (j k : ℕ) (g r u c u' c' : List ℕ) (p p' : Carried) → get_or (set t.registers i v) j vacant ≡ key g r u c p → get_or (set t.registers i v) k vacant ≡ key g r u' c' p' → Stored vacant t.registers i v j → Stored vacant t.registers i v k → j ≡ k
    one j k g r u c u' c' p p' e f (new x q) (new y w) = cc
    one j k g r u c u' c' p p' e f (new x q) (old y w) = let m = (fits g r u c p (cc)).1 k u' c' p' (cc) in cc
    one j k g r u c u' c' p p' e f (old x q) (new y w) = let m = (fits g r u' c' p' (cc)).1 j u c p (cc) in cc
    one j k g r u c u' c' p p' e f (old x q) (old y w) = σ.keys j k g r u c u' c' p p' (cc) (cc)

    under : (j : ℕ) (g r u c : List ℕ) (p : Carried) → get_or (set t.registers i v) j vacant ≡ key g r u c p → Stored vacant t.registers i v j → Known t.slots u
    under j g r u c p e (new x q) = (fits g r u c p (cc)).0
    under j g r u c p e (old x q) = σ.known j g r u c p (cc)

pub sound_step : (t : Tables) (ι : Item) (t' : Tables) → Step t ι t' → Sound t → Sound t'
unfolding drop_slot finish reset
sound_step t ι t' (refuses e') σ = σ
sound_step t ι t' reads σ = σ
sound_step t ι t' (starts s i h p) σ = sound_put t σ s i _ h p
sound_step t ι t' (opens s i q) σ = sound_put t σ s i _ (used_within t.slots i s _ q) (own _ q)
sound_step t ι t' (loads s g r c k i f h p) σ = sound_store t σ i _ h (λ g' r' u d y e. (under u (cc), λ j u' d' y' w. home_row t σ.keys g r i p j u' d' y' (cc)))
  where
    under : (u : List ℕ) → s ≡ u → Known t.slots u
    under u z = subst (Known t.slots) z (known_of t.slots k s _ f)
sound_step t ι t' (closes s i a o q) σ = sound_swept (close_key s) (close_key_lem s) (put_slot t i (used s idle)) (sound_put t σ s i _ (used_within t.slots i s _ q) (own _ q))
sound_step t ι t' (deletes_slot s i a q) σ = record {
  names = names_free t.slots σ.names i (used_within t.slots i s a q);
  keys = keys_drop s t.registers σ.keys;
  known = λ j g r u c p w. let m = drop_key_lem s _ g r u c p (rw drop_row at w) in go u m.1 (σ.known j g r u c p m.0);
}
  where
    go : (u : List ℕ) → same_bytes u s ≡ false → Known t.slots u → Known (set t.slots i free) u
    go u n k = at_row (stored free t.slots i free k.row (used_within t.slots i s a q))
      where
        at_row : Stored free t.slots i free k.row → Known (set t.slots i free) u
        at_row (new x y) = let z : s ≡ u = cc in absurd (clash (same_self s) (rw (← z) at n))
        at_row (old x y) = record { row = k.row; state = k.state; is = cc }
sound_step t ι t' (deletes_key i g r s c p q) σ = sound_store t σ i _ (key_within t.registers i g r s c p q) (λ g' r' u d y e. nope (cc))
sound_step t ι t' resets σ = sound_swept close_any close_any_lem (record { slots = map stopped t.slots; registers = t.registers }) (record {
  names = λ i j s a b p q. let m = (stop_used _ s a (rw stop_row at p)).1 in let n = (stop_used _ s b (rw stop_row at q)).1 in σ.names i j s m.0 n.0 m.1 n.1;
  keys = σ.keys;
  known = λ i g r s c p w. stop_known t.slots s (σ.known i g r s c p w);
})

pub sound_empty : (a b : ℕ) → Sound (empty a b)
unfolding empty
sound_empty a b = record {
  names = λ i j s x y p q. let k = get_d_none free a i in cc;
  keys = λ i j g r s c s' c' d d' p q. let k = get_d_none vacant b i in cc;
  known = λ i g r s c d p. let k = get_d_none vacant b i in nope (cc);
}
