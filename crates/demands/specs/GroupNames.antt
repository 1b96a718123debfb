-- The supply group name over what a caller of `diminurel_handle` sees: SM?KL keeps it as the incoming card has it, and
-- SM?GA shows it (document 02, N2).
use Rattle.std.specs.Prelude.{ℕ, ◌≡◌, List, ◌∷◌, ◌++◌, map}
use Rattle.card_attributes.specs.Table.{SGN}
use Rattle.card_entries.specs.Entries.{value_of}
use Rattle.message_commands.specs.declared.Command.TheVariants.{KL, GA}
use Rattle.message_replies.specs.Responses.{fields_of}
use Rattle.history.specs.History.{Never}
use Rattle.history.specs.Demand3.{Load, Deletion}
use Rattle.engine.specs.Requests.{command_in, fields_in, record_in, slot_in, card_in, register_in}
use Rattle.engine.specs.Requests.{first_text, second_text}
use Rattle.engine.specs.Questions.{group_in, revision_in, register_numbered}
use Rattle.engine.specs.Words.{Lent, empty_rows}
use Rattle.entry_contracts.specs.Handles.{Run, Handles}
use Rattle.demands.specs.Demands.{response_in, Runs, item_in}

-- two cards have the same SGN: the same bytes, or none
abbrev pub SameName : List ℕ → List ℕ → Type 0
SameName one other = value_of SGN one ≡ value_of SGN other

-- the card in a register
abbrev pub card_at : ℕ → Lent → List ℕ
card_at n rows = (register_numbered n rows.registers).card

-- an accepted SM?KL
abbrev pub Loads : Run → Type 0
Loads run = (command_in run.request ≡ KL) × (run.outcome ≡ 0)

-- the card that it brings and the slot that it names; the register and the card that it is replied
abbrev pub card_brought : Run → List ℕ
card_brought run = card_in (record_in KL (fields_in run.request))

abbrev pub slot_loaded : Run → List ℕ
slot_loaded run = slot_in KL (fields_in run.request)

abbrev pub register_replied : Run → ℕ
register_replied run = register_in (fields_of (response_in run))

abbrev pub card_replied : Run → List ℕ
card_replied run = second_text (fields_of (response_in run))

-- the card that is replied, and the one that stands in the register afterwards, have the SGN of the card brought
pub record KeepsName (run : Run) (left : Lent) : Type 0 where
  pub replied : SameName (card_replied run) (card_brought run)
  pub stored : SameName (card_at (register_replied run) left) (card_brought run)

-- so it is with every accepted SM?KL: a reload without SGN leaves none
abbrev pub LoadsKeepName : Type 0
LoadsKeepName = (rows : Lent) (run : Run) (left : Lent) → Handles rows run left → Loads run → KeepsName run left

-- an accepted SM?GA
abbrev pub Shows : Run → Type 0
Shows run = (command_in run.request ≡ GA) × (run.outcome ≡ 0)

-- the card that it is replied
abbrev pub card_shown : Run → List ℕ
card_shown run = first_text (fields_of (response_in run))

-- it has under each name, SGN too, what the card in the register has
abbrev pub ShowsCards : Type 0
ShowsCards =
    (rows : Lent) (run : Run) (left : Lent)
    → Handles rows run left
    → Shows run
    → (n : ℕ)
    → value_of n (card_shown run) ≡ value_of n (card_at (register_in (fields_in run.request)) rows)

-- over every list of calls from empty tables: the SGN of a key that stands is that of the card which its last accepted
-- load brought
abbrev pub NamesStand : Type 0
NamesStand =
    (slot-count register-count : ℕ) (before : List Run) (run : Run) (after : List Run) (left : Lent)
    → Runs (empty_rows slot-count register-count) (before ++ (run ∷ after)) left
    → Loads run
    → Never (Load (group_in (card_brought run)) (revision_in (card_brought run))) (map item_in after)
    → Never (Deletion (slot_loaded run) (register_replied run)) (map item_in after)
    → SameName (card_at (register_replied run) left) (card_brought run)
