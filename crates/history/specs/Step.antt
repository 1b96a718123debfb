-- What an answered request does to the rows, as a relation: one case for each way in which a request is answered.
-- This is all that demand 3 needs to know of an engine.
use Rattle.std.specs.Prelude.{ℕ, suc, ◌<◌, ◌≡◌, true, ◌≢◌, List, get_or, length}
use Rattle.history.specs.Model.{
  State,
  pending,
  loading,
  idle,
  free,
  used,
  Carried,
  vacant,
  key,
  Tables,
  Request,
  kc,
  kr,
  kl,
  kf,
  kx,
  kd,
  rs,
  other,
  refused,
  done,
  loaded,
  Item,
  ◌⇒◌,
  slot_row,
  put_slot,
  put_register,
  drop_slot,
  finish,
  reset,
}

-- the row where a session of s goes: its own, or a free one where no row is its own
pub data SessionPlace (t : Tables) (s : List ℕ) (i : ℕ) : Type 0 where
  own : (a : State) → slot_row t i ≡ used s a → SessionPlace t s i
  fresh : slot_row t i ≡ free → ((j : ℕ) (a : State) → slot_row t j ≢ used s a) → SessionPlace t s i

-- the row where a key of g and r goes: the one that holds it, or a free one where none does
pub data StorePlace (t : Tables) (g r : List ℕ) (i : ℕ) : Type 0 where
  held : (s c : List ℕ) (q : Carried) → get_or t.registers i vacant ≡ key g r s c q → StorePlace t g r i
  spare : get_or t.registers i vacant ≡ vacant
      → ((j : ℕ) (s c : List ℕ) (q : Carried) → get_or t.registers j vacant ≢ key g r s c q)
      → StorePlace t g r i

-- the tables before an item of the list, the item, and the tables after it
pub data Step (t : Tables) : Item → Tables → Type 0 where
  refuses : (e : Request) → Step t (e ⇒ refused) t
  reads : Step t (other ⇒ done) t
  starts : (s : List ℕ) (i : ℕ) → i < length t.slots → SessionPlace t s i
      → Step t (kc s ⇒ done) (put_slot t i (used s pending))
  opens : (s : List ℕ) (i : ℕ) → slot_row t i ≡ used s pending
      → Step t (kr s ⇒ done) (put_slot t i (used s loading))
  loads : (s g r c : List ℕ) (k i : ℕ) → slot_row t k ≡ used s loading → i < length t.registers → StorePlace t g r i
      → Step t (kl s g r ⇒ loaded (suc i) c) (put_register t i (key g r s c (record { is_open = true })))
  closes : (s : List ℕ) (i : ℕ) (a : State) → a ≢ idle → slot_row t i ≡ used s a
      → Step t (kf s ⇒ done) (finish t s i)
  deletes_slot : (s : List ℕ) (i : ℕ) (a : State) → slot_row t i ≡ used s a → Step t (kx s ⇒ done) (drop_slot t s i)
  deletes_key : (i : ℕ) (g r s c : List ℕ) (q : Carried) → get_or t.registers i vacant ≡ key g r s c q
      → Step t (kd (suc i) ⇒ done) (put_register t i vacant)
  resets : Step t (rs ⇒ done) (reset t)
