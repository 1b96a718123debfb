-- DEMAND 3: what stands in the rows after a list of requests, by the requests and their answers (document 01, The words
-- of demand 3).
use Rattle.std.specs.Prelude.{ℕ, ◌≡◌, ◌↔◌, ◌⊎◌, List, ◌∷◌, ◌++◌}
use Rattle.history.specs.History.{Never, Since}
use Rattle.history.specs.Model.{Tables, used, State, Carried, key, Item, ◌⇒◌, slot_row, register_row}
use Rattle.history.specs.Model.{kc, kr, kl, kf, kx, kd, rs, done, loaded}

-- x is an accepted load of g and r into register n under slot s; c is the card that it answered, as a row holds it:
-- then zeros
abbrev pub LoadInto : List ℕ → List ℕ → ℕ → List ℕ → List ℕ → Item → Type 0
LoadInto g r n s c x = x ≡ (kl s g r ⇒ loaded n c)

-- x is an accepted load of g and r, wherever it went
pub record Load (g r : List ℕ) (x : Item) : Type 0 where
  pub number : ℕ
  pub slot : List ℕ
  pub card : List ℕ
  pub is : LoadInto g r number slot card x

-- x is an accepted deletion of s, or of n
abbrev pub Deletion : List ℕ → ℕ → Item → Type 0
Deletion s n x = (x ≡ (kx s ⇒ done)) ⊎ (x ≡ (kd n ⇒ done))

-- x is an accepted response of s, which opens a session
abbrev pub Opens : List ℕ → Item → Type 0
Opens s x = x ≡ (kr s ⇒ done)

-- how a session of s ends: closed by SM?KF, restarted by SM?KC, deleted by SM?KX, reset by GL?RS, each where accepted
pub data Ends (s : List ℕ) (x : Item) : Type 0 where
  closed : x ≡ (kf s ⇒ done) → Ends s x
  restarted : x ≡ (kc s ⇒ done) → Ends s x
  deleted : x ≡ (kx s ⇒ done) → Ends s x
  was_reset : x ≡ (rs ⇒ done) → Ends s x

-- The last accepted load of g and r in the list, with no accepted deletion of its slot or register after it
pub record Live (h : List Item) (g r : List ℕ) (n : ℕ) (s c : List ℕ) : Type 0 where
  pub before : List Item
  pub load : Item
  pub after : List Item
  pub split : h ≡ before ++ (load ∷ after)
  pub is : LoadInto g r n s c load
  pub last : Never (Load g r) after
  pub kept : Never (Deletion s n) after

-- a session of s is open after the list
abbrev pub InSession : List ℕ → List Item → Type 0
InSession s h = Since (Opens s) (Ends s) h

-- in the rows a key of g and r stands in register n, under slot s, and the bytes of its card's space are c, whatever it
-- carries
pub record StandsIn (t : Tables) (g r : List ℕ) (n : ℕ) (s c : List ℕ) : Type 0 where
  pub carries : Carried
  pub is : register_row t n ≡ key g r s c carries

pub record Stands (t : Tables) (g r : List ℕ) : Type 0 where
  pub number : ℕ
  pub slot : List ℕ
  pub card : List ℕ
  pub is : StandsIn t g r number slot card

-- slot s fills row i: the row is not free and keeps the KMCID s
pub record Fills (t : Tables) (s : List ℕ) (i : ℕ) : Type 0 where
  pub state : State
  pub is : slot_row t i ≡ used s state

-- slot s fills one row only
pub record OneRow (t : Tables) (s : List ℕ) : Type 0 where
  pub row : ℕ
  pub fills : Fills t s row
  pub only : (j : ℕ) → Fills t s j → j ≡ row

-- some load of g and r is live
pub record HasLive (h : List Item) (g r : List ℕ) : Type 0 where
  pub number : ℕ
  pub slot : List ℕ
  pub card : List ℕ
  pub is : Live h g r number slot card

-- the demand, of the list h and the rows t after it
pub record Demand3 (h : List Item) (t : Tables) : Type 0 where
  -- a key of g and r stands exactly when the list has an accepted load of it and, after the last such load, into n
  -- under s, no accepted deletion of s or of n
  pub exactly : (g r : List ℕ) → Stands t g r ↔ HasLive h g r
  -- where it stands, it stands in n, under s, with the card that load answered
  pub there : (g r : List ℕ) (n : ℕ) (s c : List ℕ) → Live h g r n s c → StandsIn t g r n s c
  -- and nowhere else
  pub only : (g r : List ℕ) (n n' : ℕ) (s c s' c' : List ℕ) → Live h g r n s c → StandsIn t g r n' s' c'
      → (n' ≡ n) × (s' ≡ s) × (c' ≡ c)
  -- s fills one slot row only
  pub one_row : (g r : List ℕ) (n : ℕ) (s c : List ℕ) → Live h g r n s c → OneRow t s
  -- no slot fills two rows, whether a key stands under it or not
  pub no_two_rows : (s : List ℕ) (i j : ℕ) → Fills t s i → Fills t s j → i ≡ j
  -- every accepted load lay in a session of its slot, opened by an accepted response and not yet closed, restarted,
  -- deleted or reset
  pub sessions : (before after : List Item) (x : Item) (g r : List ℕ) (n : ℕ) (s c : List ℕ)
      → h ≡ before ++ (x ∷ after) → LoadInto g r n s c x → InSession s before
