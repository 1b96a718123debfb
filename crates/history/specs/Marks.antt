-- MARKS: which of the keys that stand are open and which are closed, by the requests and their answers, in the words of
-- demand 3 (document 02, N3).
use Rattle.std.specs.Prelude.{ℕ, ◌≡◌, Bool, true, false, ◌↔◌, List}
use Rattle.history.specs.History.{Never, Has}
use Rattle.history.specs.Model.{Tables, Carried, key, Item, ◌⇒◌, kf, rs, done, register_row}
use Rattle.history.specs.Demand3.{Live}

-- x closes the keys of s: an accepted SM?KF of s, or an accepted reset (document 02, N3)
pub data Closes (s : List ℕ) (x : Item) : Type 0 where
  by_finish : x ≡ (kf s ⇒ done) → Closes s x
  by_reset : x ≡ (rs ⇒ done) → Closes s x

-- in the rows a key of g and r stands in register n, under slot s and with the bytes c, and its mark is b
pub record StandsMarked (b : Bool) (t : Tables) (g r : List ℕ) (n : ℕ) (s c : List ℕ) : Type 0 where
  pub carries : Carried
  pub is : register_row t n ≡ key g r s c carries
  pub mark : carries.is_open ≡ b

abbrev pub StandsOpen : Tables → List ℕ → List ℕ → ℕ → List ℕ → List ℕ → Type 0
StandsOpen t g r n s c = StandsMarked true t g r n s c

abbrev pub StandsClosed : Tables → List ℕ → List ℕ → ℕ → List ℕ → List ℕ → Type 0
StandsClosed t g r n s c = StandsMarked false t g r n s c

-- the sentence on marks, of the list h and the rows t after it; that a key stands exactly when a load of it is live is
-- demand 3
pub record Marks (h : List Item) (t : Tables) : Type 0 where
  -- a key that stands is open exactly when since its last accepted load there was no accepted SM?KF of its slot and no
  -- accepted reset
  pub open_exactly : (g r : List ℕ) (n : ℕ) (s c : List ℕ) (l : Live h g r n s c)
      → StandsOpen t g r n s c ↔ Never (Closes s) l.after
  -- so it is closed exactly when there was one
  pub closed_exactly : (g r : List ℕ) (n : ℕ) (s c : List ℕ) (l : Live h g r n s c)
      → StandsClosed t g r n s c ↔ Has (Closes s) l.after
