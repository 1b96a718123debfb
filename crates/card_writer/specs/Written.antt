-- What is written of an attribute.
use Rattle.std.specs.Prelude.{ℕ, cond, List, []}
use Rattle.card_attributes.specs.Table.{name}
use Rattle.card_attributes.specs.declared.Attribute.{Attribute}
use Rattle.card_entries.specs.Entries.{entry_bytes}
use Rattle.card_stored.specs.Stored.{EngineValues, stored_value, is_stored_of}

-- its entry, where the stored card has it
unfoldable pub written_of : List ℕ → EngineValues → Attribute → List ℕ
written_of card own a = cond (is_stored_of card a) (entry_bytes (name a) (stored_value card own (name a))) []
