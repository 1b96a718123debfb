-- Every open key's slot is PENDING or LOADING, and every step keeps it so (document 02, N3, question 3).
use mathlib.Core.Path.{◌≡◌, refl, ◌∙◌}
use mathlib.Core.Logic.{◌⊎◌, inl, inr, ◌≢◌}
use mathlib.Core.List.{List}
use Prim.Native.Nat.{ℕ, ◌<◌}
use lib.ListN.{set, length}
use Rattle.byte_strings.proofs.Flags.{nope}
use Rattle.history.proofs.Rows.{Stored, new, old, stored}
use Rattle.history.specs.Step.{SessionPlace, own, fresh, Step, refuses, reads, starts, opens, loads, closes, deletes_slot, deletes_key, resets}
use Rattle.history.proofs.Sound.{Sound, used_within}
use Rattle.history.proofs.Laws.{stands, none_stands, load_open, Open, no_close}
use Rattle.history.proofs.MarkLaws.{ClearsOrCloses, mark_to}
use Rattle.history.specs.Demand3.{LoadInto}
use Rattle.history.specs.Marks.{Closes, by_finish, by_reset, StandsOpen}
use Rattle.history.specs.Model.{State, pending, loading, idle, Slot, free, used, Register, Tables, kx, done, Item, ◌⇒◌, slot_row, put_slot, drop_slot, finish, reset, empty}

-- slot s is PENDING or LOADING
pub record BusySlot (t : Tables) (s : List ℕ) : Type 0 where
  pub row : ℕ
  pub state : State
  pub is : slot_row t row ≡ used s state
  pub busy : state ≢ idle

abbrev pub Busy : Tables → Type 0
Busy t = (g r : List ℕ) (n : ℕ) (s c : List ℕ) → StandsOpen t g r n s c → BusySlot t s

-- the slots alone decide it
busy_like : (l m : List Register) (a : List Slot) (s : List ℕ) → BusySlot (record { slots = a; registers = l }) s → BusySlot (record { slots = a; registers = m }) s
busy_like l m a s k = record { row = k.row; state = k.state; is = k.is; busy = k.busy }

-- a store of a row of s that is busy, or of a row of another slot
busy_put : (t : Tables) (s : List ℕ) (i : ℕ) (v : Slot) → i < length t.slots → (k : BusySlot t s) → (k.row ≡ i → (a : State) × (v ≡ used s a) × (a ≢ idle)) → BusySlot (put_slot t i v) s
busy_put t s i v b k f = go (stored free t.slots i v k.row b)
  where
    go : Stored free t.slots i v k.row → BusySlot (put_slot t i v) s
    go (new x y) = let w = f x in record { row = k.row; state = w.0; is = y ∙ w.1; busy = w.2 }
    go (old x y) = let w = k.is in record { row = k.row; state = k.state; is = cc; busy = k.busy }

-- a step that neither closes nor deletes s leaves it busy
busy_keeps : (t : Tables) (ι : Item) (t' : Tables) → Step t ι t' → (s : List ℕ) → BusySlot t s → (¬ Closes s ι) → ι ≢ (kx s ⇒ done) → BusySlot t' s
unfolding drop_slot finish reset
busy_keeps t ι t' (refuses e) s k n d = k
busy_keeps t ι t' reads s k n d = k
busy_keeps t ι t' (starts u i b p) s k n d = busy_put t s i _ b k (λ e. own_row p e)
  where
    own_row : SessionPlace t u i → k.row ≡ i → (a : State) × (used u pending ≡ used s a) × (a ≢ idle)
    own_row (own a w) e = let m = k.is in (pending, cc, λ z. nope (cc))
    own_row (fresh w z) e = let m = k.is in nope (cc)
busy_keeps t ι t' (opens u i q) s k n d = busy_put t s i _ (used_within t.slots i u pending q) k (λ e. let m = k.is in (loading, cc, λ z. nope (cc)))
busy_keeps t ι t' (loads u g r c x i f b p) s k n d = busy_like _ _ t.slots s k
busy_keeps t ι t' (closes u i a o q) s k n d = busy_like _ _ (set t.slots i (used u idle)) s (busy_put t s i _ (used_within t.slots i u a q) k (λ e. let m = k.is in let z : u ≡ s = cc in absurd (n (by_finish (cc)))))
busy_keeps t ι t' (deletes_slot u i a q) s k n d = busy_like _ _ (set t.slots i free) s (busy_put t s i free (used_within t.slots i u a q) k (λ e. let m = k.is in let z : u ≡ s = cc in absurd (d (cc))))
busy_keeps t ι t' (deletes_key i g r u c x q) s k n d = busy_like _ _ t.slots s k
busy_keeps t ι t' resets s k n d = absurd (n (by_reset refl))

pub busy_step : (t : Tables) (ι : Item) (t' : Tables) → Step t ι t' → Sound t → Busy t → Busy t'
busy_step t ι t' m σ β g r n s c h = go (mark_to t ι t' m σ g r n s c h)
  where
    in_session_lem : Open s t → BusySlot t s
    in_session_lem o = record { row = o.row; state = loading; is = o.is; busy = λ z. nope (cc) }

    go : LoadInto g r n s c ι ⊎ (StandsOpen t g r n s c × (¬ ClearsOrCloses g r n s ι)) → BusySlot t' s
    go (inl l) = busy_keeps t ι t' m s (in_session_lem (load_open t ι t' m g r n s c l)) (no_close s ι (λ e. nope (cc)) (λ e. nope (cc))) (λ e. nope (cc))
    go (inr k) = busy_keeps t ι t' m s (β g r n s c k.0) (λ e. k.1 (inr e)) (λ e. k.1 (inl (inr (inl e))))

pub busy_empty : (a b : ℕ) → Busy (empty a b)
busy_empty a b g r n s c h = absurd (none_stands a b g r n s c (stands h))
