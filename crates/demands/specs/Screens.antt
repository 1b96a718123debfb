-- SM?GL over what a caller of `diminurel_handle` sees: what its list has, and what operators learn who compare those
-- of two modules (document 02, N1).
use Rattle.std.specs.Prelude.{ℕ, ◌≡◌, ◌↔◌, true}
use mathlib.Core.List.{List, Mem, Nodup}
use Rattle.byte_orders.specs.Orders.{is_before, Ascends}
use Rattle.message_commands.specs.declared.Command.TheVariants.{GL}
use Rattle.message_replies.specs.Responses.{fields_of}
use Rattle.row_types.specs.Lists.{some_row}
use Rattle.row_types.specs.Slots.{is_named}
use Rattle.row_types.specs.RowReplies.{name_fields}
use Rattle.engine.specs.Requests.{command_in}
use Rattle.engine.specs.Words.{Lent}
use Rattle.entry_contracts.specs.Handles.{Run, Handles}
use Rattle.demands.specs.Demands.{response_in}

-- an accepted SM?GL
abbrev pub ListsSlots : Run → Type 0
ListsSlots run = (command_in run.request ≡ GL) × (run.outcome ≡ 0)

-- the response's fields are names, ascending byte for byte; a name is among them exactly when a slot not free has it,
-- and none stands there twice
pub record Listing (rows : Lent) (run : Run) : Type 0 where
  pub names : List (List ℕ)
  pub told : fields_of (response_in run) ≡ name_fields names
  pub ascends : Ascends is_before names
  pub exactly : (s : List ℕ) → Mem s names ↔ (some_row (is_named s) rows.slots ≡ true)
  pub once : Nodup names

-- every accepted SM?GL lists the slots so
abbrev pub ListsAscend : Type 0
ListsAscend =
    (rows : Lent) (run : Run) (left : Lent)
    → Handles rows run left
    → ListsSlots run
    → Listing rows run

-- the slots of two modules have the same names, in whatever rows they stand
abbrev pub SameNames : Lent → Lent → Type 0
SameNames one other = (s : List ℕ) → some_row (is_named s) one.slots ≡ some_row (is_named s) other.slots

-- two modules answer SM?GL with the same bytes exactly when their slots have the same names
abbrev pub SameScreens : Type 0
SameScreens =
    (one other : Lent) (run run' : Run) (left left' : Lent)
    → Handles one run left
    → Handles other run' left'
    → ListsSlots run
    → ListsSlots run'
    → (response_in run ≡ response_in run') ↔ SameNames one other
