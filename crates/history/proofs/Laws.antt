-- What one step does to a key that stands and to a session that is open, told by the request and its answer.
use mathlib.Core.Path.{◌≡◌, refl, sym, ap, ◌∙◌}
use mathlib.Core.Bool.{Bool, true, false}
use mathlib.Core.Logic.{◌⊎◌, inl, inr, ◌≢◌}
use mathlib.Core.List.{List}
use Prim.Native.Nat.{ℕ, zero, suc, ◌<◌}
use native.Mathlib.Omega.{arith}
use lib.ListN.{get_or, length}
use lib.Seq.{get_or-set_same}
use Rattle.byte_strings.proofs.Flags.{nope}
use Rattle.byte_strings.specs.Strings.{same_bytes}
use Rattle.byte_strings.proofs.StringLaws.{same_equal, same_self}
use Rattle.history.proofs.Rows.{clash, Stored, new, old, stored, get_d_none}
use Rattle.history.specs.Step.{SessionPlace, own, StorePlace, held, spare, Step, refuses, reads, starts, opens, loads, closes, deletes_slot, deletes_key, resets}
use Rattle.history.proofs.Sound.{Sound, sound_step, used_within, key_within, spot_row, drop_key_lem, drop_kept, drop_row, close_own, close_left, close_all, close_key_lem, close_any_lem, swept_row, swept_from, stop_row, stop_used}
use Rattle.history.specs.Demand3.{LoadInto, Load, Deletion, Opens, Ends, closed, restarted, deleted, was_reset, StandsIn}
use Rattle.history.specs.Marks.{Closes, by_finish, by_reset, StandsMarked, StandsOpen, StandsClosed}
use Rattle.history.specs.Model.{pending, loading, idle, Slot, free, used, Carried, vacant, key, Tables, kc, kr, kl, kf, kx, kd, rs, other, refused, done, loaded, Item, ◌⇒◌, slot_row, register_row, put_slot, put_register, drop_key, drop_slot, close, close_key, finish, close_any, reset, empty}

-- a key stands, whatever its mark
pub stands : {b : Bool} {t : Tables} {g r : List ℕ} {n : ℕ} {s c : List ℕ} → StandsMarked b t g r n s c → StandsIn t g r n s c
stands p = record { carries = p.carries; is = p.is }

-- LOADS
-- an accepted load leaves its key standing, open: in the register, under the slot and with the card that it answered
pub load_stands : (t t' : Tables) (s g r c : List ℕ) (n : ℕ) → Step t (kl s g r ⇒ loaded n c) t' → StandsOpen t' g r n s c
load_stands t t' s g r c n (loads s' g' r' c' k i f b p) = record { carries = _; is = get_or-set_same t.registers i _ vacant b; mark = refl }

-- a session of s is open in the rows
pub record Open (s : List ℕ) (t : Tables) : Type 0 where
  pub row : ℕ
  pub is : slot_row t row ≡ used s loading

-- an accepted load met an open session of its slot
load_meets : (t t' : Tables) (s g r c : List ℕ) (n : ℕ) → Step t (kl s g r ⇒ loaded n c) t' → Open s t
load_meets t t' s g r c n (loads s' g' r' c' k i f b p) = record { row = k; is = f }

-- both, of an item that is such a load
pub key_sets : (t : Tables) (ι : Item) (t' : Tables) → Step t ι t' → (g r : List ℕ) (n : ℕ) (s c : List ℕ) → LoadInto g r n s c ι → StandsIn t' g r n s c
key_sets t ι t' m g r n s c l = stands (load_stands t t' s g r c n (rw l at m))

pub load_open : (t : Tables) (ι : Item) (t' : Tables) → Step t ι t' → (g r : List ℕ) (n : ℕ) (s c : List ℕ) → LoadInto g r n s c ι → Open s t
load_open t ι t' m g r n s c l = load_meets t t' s g r c n (rw l at m)

-- KEYS
-- keys of one group and revision are one key
pub one_key : (t : Tables) → Sound t → (g r : List ℕ) (n n' : ℕ) (s c s' c' : List ℕ) → StandsIn t g r n s c → StandsIn t g r n' s' c' → (n' ≡ n) × (s' ≡ s) × (c' ≡ c)
one_key t σ g r zero n' s c s' c' p q = let a = p.is in nope (cc)
one_key t σ g r (suc i) zero s c s' c' p q = let b = q.is in nope (cc)
one_key t σ g r (suc i) (suc j) s c s' c' p q =
    let a = p.is in
    let b = q.is in
    let k = σ.keys i j g r s c s' c' p.carries q.carries a b in
    (cc, cc, cc)

-- none stands in empty tables
pub none_stands : (a b : ℕ) (g r : List ℕ) (n : ℕ) (s c : List ℕ) → ¬ StandsIn (empty a b) g r n s c
unfolding empty
none_stands a b g r zero s c p = let w = p.is in nope (cc)
none_stands a b g r (suc i) s c p = let w = p.is in let k = get_d_none vacant b i in nope (cc)

-- an accepted deletion of a slot leaves no key under it, and one of a register none in it
kx_takes : (t : Tables) (s : List ℕ) (t' : Tables) → Step t (kx s ⇒ done) t' → (g r c : List ℕ) (n : ℕ) → ¬ StandsIn t' g r n s c
unfolding drop_slot
kx_takes t s t' (deletes_slot s' i a q) g r c zero h = let w = h.is in nope (cc)
kx_takes t s t' (deletes_slot s' i a q) g r c (suc j) h = clash (same_self s) (drop_key_lem s (get_or t.registers j vacant) g r s c h.carries (rw drop_row at h.is)).1

kd_takes : (t t' : Tables) (n : ℕ) → Step t (kd n ⇒ done) t' → (g r s c : List ℕ) → ¬ StandsIn t' g r n s c
kd_takes t t' n (deletes_key i g' r' u d p q) g r s c h =
    let w = h.is in
    let y = get_or-set_same t.registers i vacant vacant (key_within t.registers i g' r' u d p q) in nope (cc)

-- what takes a key away that stands in n under s
abbrev pub Clears : List ℕ → List ℕ → ℕ → List ℕ → Item → Type 0
Clears g r n s x = Load g r x ⊎ Deletion s n x

-- a key that stands after such a step was loaded by it
cleared : (t : Tables) (ι : Item) (t' : Tables) → Step t ι t' → Sound t → (g r : List ℕ) (n : ℕ) (s c : List ℕ) → Clears g r n s ι → StandsIn t' g r n s c → LoadInto g r n s c ι
cleared t ι t' m σ g r n s c (inl l) h =
    let e = one_key t' (sound_step t ι t' m σ) g r n l.number s c l.slot l.card h (key_sets t ι t' m g r l.number l.slot l.card l.is) in
    let w = l.is in
    cc
cleared t ι t' m σ g r n s c (inr (inl d)) h = absurd (kx_takes t s t' (rw d at m) g r c n h)
cleared t ι t' m σ g r n s c (inr (inr d)) h = absurd (kd_takes t t' n (rw d at m) g r s c h)

-- an item closes the keys of s, or it does not
pub no_close : (s : List ℕ) (x : Item) → x ≢ (kf s ⇒ done) → x ≢ (rs ⇒ done) → ¬ Closes s x
no_close s x f e (by_finish w) = f w
no_close s x f e (by_reset w) = e w

pub closes? : (s : List ℕ) (x : Item) → Dec (Closes s x)
closes? s (kf u ⇒ done) = go (same_bytes u s) refl
  where
    go : (b : Bool) → same_bytes u s ≡ b → Dec (Closes s (kf u ⇒ done))
    go true q = let z = same_equal u s q in yes (by_finish (cc))
    go false q = no (no_close s _ (λ e. let z : u ≡ s = cc in clash (same_self s) (rw z at q)) (λ e. nope (cc)))
closes? s (rs ⇒ done) = yes (by_reset refl)
closes? s (kc u ⇒ done) = no (no_close s _ (λ e. nope (cc)) (λ e. nope (cc)))
closes? s (kr u ⇒ done) = no (no_close s _ (λ e. nope (cc)) (λ e. nope (cc)))
closes? s (kl u g r ⇒ done) = no (no_close s _ (λ e. nope (cc)) (λ e. nope (cc)))
closes? s (kx u ⇒ done) = no (no_close s _ (λ e. nope (cc)) (λ e. nope (cc)))
closes? s (kd n ⇒ done) = no (no_close s _ (λ e. nope (cc)) (λ e. nope (cc)))
closes? s (other ⇒ done) = no (no_close s _ (λ e. nope (cc)) (λ e. nope (cc)))
closes? s (q ⇒ refused) = no (no_close s _ (λ e. nope (cc)) (λ e. nope (cc)))
closes? s (q ⇒ loaded n c) = no (no_close s _ (λ e. nope (cc)) (λ e. nope (cc)))

-- SM?KF of s and GL?RS, each accepted, leave a key of s standing, closed
kf_closes : (t t' : Tables) (s : List ℕ) → Step t (kf s ⇒ done) t' → (g r c : List ℕ) (n : ℕ) → StandsIn t g r n s c → StandsClosed t' g r n s c
unfolding finish
kf_closes t t' s (closes s' i a o q) g r c n h = record {
  carries = _;
  is = swept_row (close_key s) (close_key_lem s) t.registers n ∙ ap (close_key s) h.is ∙ close_own s g r s c h.carries (same_self s);
  mark = refl;
}

rs_closes : (t t' : Tables) → Step t (rs ⇒ done) t' → (g r s c : List ℕ) (n : ℕ) → StandsIn t g r n s c → StandsClosed t' g r n s c
unfolding reset
rs_closes t t' resets g r s c n h = record {
  carries = _;
  is = swept_row close_any close_any_lem t.registers n ∙ ap close_any h.is ∙ close_all g r s c h.carries;
  mark = refl;
}

pub closed_by : (t : Tables) (ι : Item) (t' : Tables) → Step t ι t' → (g r : List ℕ) (n : ℕ) (s c : List ℕ) → Closes s ι → StandsIn t g r n s c → StandsClosed t' g r n s c
closed_by t ι t' m g r n s c (by_finish e) = kf_closes t t' s (rw e at m) g r c n
closed_by t ι t' m g r n s c (by_reset e) = rs_closes t t' (rw e at m) g r s c n

-- where a key comes from that stands after a step and carries q: the step loaded it; or it stood before and carried the same; or the step closed it
pub data From (t : Tables) (ι : Item) (g r : List ℕ) (n : ℕ) (s c : List ℕ) (q : Carried) : Type 0 where
  new_load : LoadInto g r n s c ι → From t ι g r n s c q
  as_before : ¬ LoadInto g r n s c ι → register_row t n ≡ key g r s c q → From t ι g r n s c q
  now_closed : ¬ LoadInto g r n s c ι → StandsIn t g r n s c → q.is_open ≡ false → From t ι g r n s c q

-- a closed key's mark
mark_of : (g r s c : List ℕ) (q p : Carried) → key g r s c (close p) ≡ key g r s c q → q.is_open ≡ false
mark_of g r s c q p e = let z : q ≡ close p = cc in ap (λ (k : Carried). k.is_open) z

pub row_from : (t : Tables) (ι : Item) (t' : Tables) → Step t ι t' → (g r : List ℕ) (n : ℕ) (s c : List ℕ) (q : Carried) → register_row t' n ≡ key g r s c q → From t ι g r n s c q
unfolding drop_slot finish reset
row_from t ι t' (refuses e) g r n s c y h = as_before (λ l. nope (cc)) h
row_from t ι t' reads g r n s c y h = as_before (λ l. nope (cc)) h
row_from t ι t' (starts u i b p) g r n s c y h = as_before (λ l. nope (cc)) h
row_from t ι t' (opens u i q) g r n s c y h = as_before (λ l. nope (cc)) h
row_from t ι t' (loads u g' r' d k i f b p) g r zero s c y h = nope (cc)
row_from t ι t' (loads u g' r' d k i f b p) g r (suc j) s c y h = go (stored vacant t.registers i (key g' r' u d (record { is_open = true })) j b)
  where
    go : Stored vacant t.registers i (key g' r' u d (record { is_open = true })) j → From t (kl u g' r' ⇒ loaded (suc i) d) g r (suc j) s c y
    go (new x w) = new_load cc
    go (old x w) = as_before (λ l. let z : suc i ≡ suc j = cc in x (omega arith)) cc
row_from t ι t' (closes u i a o q) g r n s c y h = go (swept_from (close_key u) (close_key_lem u) t.registers n g r s c y h) (same_bytes s u) refl
  where
    go : (p : Carried) × (register_row t n ≡ key g r s c p) × (close_key u (key g r s c p) ≡ key g r s c y) → (b : Bool) → same_bytes s u ≡ b → From t (kf u ⇒ done) g r n s c y
    go p true w = now_closed (λ l. nope (cc)) (record { carries = p.0; is = p.1 }) (mark_of g r s c y p.0 (sym (close_own u g r s c p.0 w) ∙ p.2))
    go p false w = as_before (λ l. nope (cc)) (p.1 ∙ sym (close_left u g r s c p.0 w) ∙ p.2)
row_from t ι t' (deletes_slot u i a q) g r zero s c y h = nope (cc)
row_from t ι t' (deletes_slot u i a q) g r (suc j) s c y h = as_before (λ l. nope (cc)) (drop_key_lem u (get_or t.registers j vacant) g r s c y (rw drop_row at h)).0
row_from t ι t' (deletes_key i g' r' u d p q) g r zero s c y h = nope (cc)
row_from t ι t' (deletes_key i g' r' u d p q) g r (suc j) s c y h = go (stored vacant t.registers i vacant j (key_within t.registers i g' r' u d p q))
  where
    go : Stored vacant t.registers i vacant j → From t (kd (suc i) ⇒ done) g r (suc j) s c y
    go (new x w) = nope (cc)
    go (old x w) = as_before (λ l. nope (cc)) cc
row_from t ι t' resets g r n s c y h =
    let p = swept_from close_any close_any_lem t.registers n g r s c y h in
    now_closed (λ l. nope (cc)) (record { carries = p.0; is = p.1 }) (mark_of g r s c y p.0 (sym (close_all g r s c p.0) ∙ p.2))

-- the step loaded it, or it stood before and the step does not clear it
pub key_to : (t : Tables) (ι : Item) (t' : Tables) → Step t ι t' → Sound t → (g r : List ℕ) (n : ℕ) (s c : List ℕ) → StandsIn t' g r n s c
    → LoadInto g r n s c ι ⊎ (StandsIn t g r n s c × (¬ Clears g r n s ι))
key_to t ι t' m σ g r n s c h = go (row_from t ι t' m g r n s c h.carries h.is)
  where
    go : From t ι g r n s c h.carries → LoadInto g r n s c ι ⊎ (StandsIn t g r n s c × (¬ Clears g r n s ι))
    go (new_load l) = inl l
    go (as_before k e) = inr (record { carries = h.carries; is = e }, λ e. k (cleared t ι t' m σ g r n s c e h))
    go (now_closed k p o) = inr (p, λ e. k (cleared t ι t' m σ g r n s c e h))

-- a row that a step neither clears nor closes stays as it is
pub row_keeps : (t : Tables) (ι : Item) (t' : Tables) → Step t ι t' → (g r : List ℕ) (n : ℕ) (s c : List ℕ) (q : Carried) → register_row t n ≡ key g r s c q → ¬ Clears g r n s ι → ¬ Closes s ι → register_row t' n ≡ key g r s c q
unfolding drop_slot finish reset
row_keeps t ι t' (refuses e) g r n s c y h k o = h
row_keeps t ι t' reads g r n s c y h k o = h
row_keeps t ι t' (starts u i b p) g r n s c y h k o = h
row_keeps t ι t' (opens u i q) g r n s c y h k o = h
row_keeps t ι t' (loads u g' r' d k' i f b p) g r zero s c y h k o = h
row_keeps t ι t' (loads u g' r' d k' i f b p) g r (suc j) s c y h k o = go (stored vacant t.registers i (key g' r' u d (record { is_open = true })) j b) p
  where
    go : Stored vacant t.registers i (key g' r' u d (record { is_open = true })) j → StorePlace t g' r' i → register_row (put_register t i (key g' r' u d (record { is_open = true }))) (suc j) ≡ key g r s c y
    go (new x w) (held s' c' q' e) =
        let zg : g' ≡ g = cc in
        let zr : r' ≡ r = cc in
        absurd (k (inl (record { number = suc i; slot = u; card = d; is = cc })))
    go (new x w) (spare e m) = cc
    go (old x w) p = cc
row_keeps t ι t' (closes u i a e q) g r n s c y h k o = go (same_bytes s u) refl
  where
    go : (b : Bool) → same_bytes s u ≡ b → register_row (finish t u i) n ≡ key g r s c y
    go true w = let z = same_equal s u w in absurd (o (by_finish (cc)))
    go false w = swept_row (close_key u) (close_key_lem u) t.registers n ∙ ap (close_key u) h ∙ close_left u g r s c y w
row_keeps t ι t' (deletes_slot u i a q) g r zero s c y h k o = h
row_keeps t ι t' (deletes_slot u i a q) g r (suc j) s c y h k o =
    drop_row u t.registers j ∙ ap (drop_key u) h ∙ drop_kept u g r s c y (λ z. k (inr (inl (cc))))
row_keeps t ι t' (deletes_key i g' r' u d p q) g r zero s c y h k o = h
row_keeps t ι t' (deletes_key i g' r' u d p q) g r (suc j) s c y h k o = go (stored vacant t.registers i vacant j (key_within t.registers i g' r' u d p q))
  where
    go : Stored vacant t.registers i vacant j → register_row (put_register t i vacant) (suc j) ≡ key g r s c y
    go (new x w) = absurd (k (inr (inr (cc))))
    go (old x w) = cc
row_keeps t ι t' resets g r n s c y h k o = absurd (o (by_reset refl))

-- so a key that a step does not clear goes on standing
pub key_keeps : (t : Tables) (ι : Item) (t' : Tables) → Step t ι t' → (g r : List ℕ) (n : ℕ) (s c : List ℕ) → StandsIn t g r n s c → ¬ Clears g r n s ι → StandsIn t' g r n s c
key_keeps t ι t' m g r n s c h k = go (closes? s ι)
  where
    go : Dec (Closes s ι) → StandsIn t' g r n s c
    go (yes o) = stands (closed_by t ι t' m g r n s c o h)
    go (no o) = record { carries = h.carries; is = row_keeps t ι t' m g r n s c h.carries h.is k o }

-- SESSIONS
-- after a store of the row of s that is not LOADING no session of s is open
shuts : (t : Tables) → Sound t → (s : List ℕ) (i : ℕ) → i < length t.slots → SessionPlace t s i → (v : Slot) → v ≢ used s loading → ¬ Open s (put_slot t i v)
shuts t σ s i b p v n h = go (stored free t.slots i v h.row b)
  where
    go : Stored free t.slots i v h.row → ⊥
    go (new x y) = let w = h.is in n (cc)
    go (old x y) = let w = h.is in x (spot_row t σ.names s i p h.row loading (cc))

-- SM?KC, SM?KF and SM?KX of s and GL?RS, each accepted, leave none open
kc_ends : (t t' : Tables) (s : List ℕ) → Step t (kc s ⇒ done) t' → Sound t → ¬ Open s t'
kc_ends t t' s (starts s' i b p) σ h = shuts t σ s i b p _ (λ q. nope (cc)) h

kf_ends : (t t' : Tables) (s : List ℕ) → Step t (kf s ⇒ done) t' → Sound t → ¬ Open s t'
unfolding finish
kf_ends t t' s (closes s' i a o q) σ h = shuts t σ s i (used_within t.slots i s a q) (own a q) _ (λ w. nope (cc)) (record { row = h.row; is = h.is })

kx_ends : (t : Tables) (s : List ℕ) (t' : Tables) → Step t (kx s ⇒ done) t' → Sound t → ¬ Open s t'
unfolding drop_slot
kx_ends t s t' (deletes_slot s' i a q) σ h = shuts t σ s i (used_within t.slots i s a q) (own a q) free (λ w. nope (cc)) (record { row = h.row; is = h.is })

rs_ends : (t t' : Tables) (s : List ℕ) → Step t (rs ⇒ done) t' → ¬ Open s t'
unfolding reset
rs_ends t t' s resets h = let w = (stop_used _ s loading (rw stop_row at h.is)).0 in nope (cc)

ended : (t : Tables) (ι : Item) (t' : Tables) → Step t ι t' → Sound t → (s : List ℕ) → Ends s ι → ¬ Open s t'
ended t ι t' m σ s (closed e) = kf_ends t t' s (rw e at m) σ
ended t ι t' m σ s (restarted e) = kc_ends t t' s (rw e at m) σ
ended t ι t' m σ s (deleted e) = kx_ends t s t' (rw e at m) σ
ended t ι t' m σ s (was_reset e) = rs_ends t t' s (rw e at m)

-- a session that is open after a store: the store opened it, or it was open before
opened_by : (t : Tables) (s : List ℕ) (i : ℕ) (v : Slot) → i < length t.slots → Open s (put_slot t i v) → (v ≡ used s loading) ⊎ Open s t
opened_by t s i v b h = go (stored free t.slots i v h.row b)
  where
    go : Stored free t.slots i v h.row → (v ≡ used s loading) ⊎ Open s t
    go (new x y) = let w = h.is in inl (cc)
    go (old x y) = let w = h.is in inr (record { row = h.row; is = cc })

-- a session that is open after a step: the step opened it, or it was open before
open_from : (t : Tables) (ι : Item) (t' : Tables) → Step t ι t' → (s : List ℕ) → Open s t' → Opens s ι ⊎ Open s t
unfolding drop_slot finish reset
open_from t ι t' (refuses e') s h = inr h
open_from t ι t' reads s h = inr h
open_from t ι t' (starts u i b p) s h = go (opened_by t s i _ b h)
  where
    go : (used u pending ≡ used s loading) ⊎ Open s t → Opens s (kc u ⇒ done) ⊎ Open s t
    go (inl e) = nope (cc)
    go (inr o) = inr o
open_from t ι t' (opens u i q) s h = go (opened_by t s i _ (used_within t.slots i u _ q) h)
  where
    go : (used u loading ≡ used s loading) ⊎ Open s t → Opens s (kr u ⇒ done) ⊎ Open s t
    go (inl e) = inl (cc)
    go (inr o) = inr o
open_from t ι t' (loads u g r c k i f b p) s h = inr (record { row = h.row; is = h.is })
open_from t ι t' (closes u i a o q) s h = go (opened_by t s i _ (used_within t.slots i u a q) (record { row = h.row; is = h.is }))
  where
    go : (used u idle ≡ used s loading) ⊎ Open s t → Opens s (kf u ⇒ done) ⊎ Open s t
    go (inl e) = nope (cc)
    go (inr o) = inr o
open_from t ι t' (deletes_slot u i a q) s h = go (opened_by t s i free (used_within t.slots i u a q) (record { row = h.row; is = h.is }))
  where
    go : (free ≡ used s loading) ⊎ Open s t → Opens s (kx u ⇒ done) ⊎ Open s t
    go (inl e) = nope (cc)
    go (inr o) = inr o
open_from t ι t' (deletes_key i g r u c p q) s h = inr (record { row = h.row; is = h.is })
open_from t ι t' resets s h = let w = (stop_used _ s loading (rw stop_row at h.is)).0 in nope (cc)

-- the step opened it, or it was open before and the step does not end it
pub open_to : (t : Tables) (ι : Item) (t' : Tables) → Step t ι t' → Sound t → (s : List ℕ) → Open s t'
    → Opens s ι ⊎ (Open s t × (¬ Ends s ι))
open_to t ι t' m σ s h = go (open_from t ι t' m s h)
  where
    go : Opens s ι ⊎ Open s t → Opens s ι ⊎ (Open s t × (¬ Ends s ι))
    go (inl o) = inl o
    go (inr o) = inr (o, λ e. ended t ι t' m σ s e h)
