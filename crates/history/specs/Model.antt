-- What demand 3 speaks of: rows, requests and answers, as far as it reads them (document 01, The words of demand 3).
use Rattle.std.specs.Prelude.{ℕ, zero, suc, Bool, false, cond, List, map, get_or, set, replicate}
use Rattle.byte_strings.specs.Strings.{same_bytes}

pub data State : Type 0 where
  pending loading idle : State

-- a slot row: free, or a KMCID and a state
pub data Slot : Type 0 where
  free : Slot
  used : List ℕ → State → Slot

-- what a key carries beside its card: its mark, open or closed (document 02, N3)
pub record Carried : Type 0 where
  pub is_open : Bool

-- a register row: free, or a card's SGC, KRN and KSL, all bytes of the card's space, and what the key carries
pub data Register : Type 0 where
  vacant : Register
  key : List ℕ → List ℕ → List ℕ → List ℕ → Carried → Register

pub record Tables : Type 0 where
  pub slots : List Slot
  pub registers : List Register

-- a request: SM?KC, SM?KR, SM?KF, SM?KX of a slot; SM?KL of a slot, a supply group and a revision; SM?KD of a register;
-- GL?RS; any other bytes
pub data Request : Type 0 where
  kc : List ℕ → Request
  kr : List ℕ → Request
  kl : List ℕ → List ℕ → List ℕ → Request
  kf : List ℕ → Request
  kx : List ℕ → Request
  kd : ℕ → Request
  rs : Request
  other : Request

-- an answer: not accepted; accepted; accepted with a register and what its row is to be, the answered card and zeros
-- after it
pub data Answer : Type 0 where
  refused : Answer
  done : Answer
  loaded : ℕ → List ℕ → Answer

-- an item of the list: a request and its answer
infix 3 ◌⇒◌
pub data Item : Type 0 where
  ◌⇒◌ : Request → Answer → Item

-- a row of a slot, counted from 0; past the rows it is free
abbrev pub slot_row : Tables → ℕ → Slot
slot_row t i = get_or t.slots i free

-- a register, counted from 1; 0 and past the rows it is free
abbrev pub register_at : List Register → ℕ → Register
register_at l zero = vacant
register_at l (suc i) = get_or l i vacant

abbrev pub register_row : Tables → ℕ → Register
register_row t n = register_at t.registers n

-- empty tables, whatever the row counts
unfoldable pub empty : ℕ → ℕ → Tables
empty a b = record { slots = replicate a free; registers = replicate b vacant }

abbrev pub put_slot : Tables → ℕ → Slot → Tables
put_slot t i v = record { slots = set t.slots i v; registers = t.registers }

abbrev pub put_register : Tables → ℕ → Register → Tables
put_register t i v = record { slots = t.slots; registers = set t.registers i v }

-- SM?KX of s: its row becomes free, and each register whose KSL is s
unfoldable pub drop_key : List ℕ → Register → Register
drop_key s vacant = vacant
drop_key s (key g r u c q) = cond (same_bytes u s) vacant (key g r u c q)

unfoldable pub drop_slot : Tables → List ℕ → ℕ → Tables
drop_slot t s i = record { slots = set t.slots i free; registers = map (drop_key s) t.registers }

-- what a key carries once it is closed
abbrev pub close : Carried → Carried
close q = record { is_open = false }

-- SM?KF of s: its row becomes IDLE, and each key whose KSL is s is closed (document 02, N3)
unfoldable pub close_key : List ℕ → Register → Register
close_key s vacant = vacant
close_key s (key g r u c q) = key g r u c (cond (same_bytes u s) (close q) q)

unfoldable pub finish : Tables → List ℕ → ℕ → Tables
finish t s i = record { slots = set t.slots i (used s idle); registers = map (close_key s) t.registers }

-- GL?RS: each slot that is not free becomes IDLE, and each key is closed (document 02, N3)
unfoldable pub stopped : Slot → Slot
stopped free = free
stopped (used s a) = used s idle

unfoldable pub close_any : Register → Register
close_any vacant = vacant
close_any (key g r u c q) = key g r u c (close q)

unfoldable pub reset : Tables → Tables
reset t = record { slots = map stopped t.slots; registers = map close_any t.registers }
