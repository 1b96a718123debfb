-- KEYS THAT VEND WHILE NEW ONES ARE ON REQUEST (document 02, N3), over what a caller of `diminurel_handle` and
-- `diminurel_usable` sees.
use Rattle.std.specs.Prelude.{ℕ, ◌≡◌, true, ◌↔◌, List, map}
use Rattle.history.specs.History.{Has}
use Rattle.history.specs.Model.{Item}
use Rattle.history.specs.Demand3.{Live}
use Rattle.history.specs.Marks.{Closes, Marks}
use Rattle.engine.specs.Usable.{is_usable}
use Rattle.engine.specs.Words.{Lent, tables_of, empty_rows}
use Rattle.entry_contracts.specs.Handles.{Run}
use Rattle.entry_contracts.specs.Lent.{lent_tables}
use Rattle.demands.specs.Demands.{Runs, item_in}

-- beside demand 3, of every list of calls from empty tables of any row counts: a standing key is open exactly when
-- since its last accepted load there was no accepted SM?KF of its slot and no accepted reset
-- (history/specs/Marks.antt)
abbrev pub MarksOfLists : Type 0
MarksOfLists =
    (slot-count register-count : ℕ) (runs : List Run) (left : Lent)
    → Runs (empty_rows slot-count register-count) runs left
    → Marks (map item_in runs) (tables_of left.slots left.registers)

-- by the list, the key of register n may vend: its last accepted load went there, no accepted deletion of its slot or
-- of n came after it, and an accepted SM?KF of its slot or an accepted reset did
pub record MayVend (h : List Item) (n : ℕ) : Type 0 where
  pub group : List ℕ
  pub revision : List ℕ
  pub slot : List ℕ
  pub card : List ℕ
  pub live : Live h group revision n slot card
  pub closed : Has (Closes slot) live.after

-- after every such list `diminurel_usable` says yes of a register exactly when its key may vend
abbrev pub VendsOfLists : Type 0
VendsOfLists =
    (slot-count register-count : ℕ) (runs : List Run) (left : Lent)
    → Runs (empty_rows slot-count register-count) runs left
    → (n : ℕ)
    → (is_usable (lent_tables left.slots left.registers) n ≡ true) ↔ MayVend (map item_in runs) n
