-- What a command takes out of the fields vs of its request, and makes of it with the supplement x (document 01, Slots
-- and registers); and where the parts stand in the payload s that a decision was made of.
use Rattle.std.specs.Prelude.{ℕ, ◌≡◌, List}
use Rattle.byte_bounds.specs.Bounds.{Stands}
use Rattle.field_values.specs.Values.{Value, values_of}
use Rattle.record_identities.specs.Identities.{name_in, fingerprint_in}
use Rattle.card_incoming.specs.Incoming.{AreValues}
use Rattle.row_types.specs.Slots.{filled_slot}
use Rattle.row_types.specs.declared.SlotRow.{SlotRow}
use Rattle.row_types.specs.declared.SlotState.TheVariants.{Pending}
use Rattle.row_types.specs.declared.Supplement.{Supplement}
use Rattle.engine.specs.Requests.{first_text, second_text, kmc_identity_in, card_in}
use Rattle.engine.specs.Answers.{loaded_card}
use Rattle.engine.specs.declared.Decision.{Decision}
use Rattle.engine.specs.declared.Decision.TheVariants.{Refuse, Reset, Start, Open, Load, Close}
use Rattle.engine.specs.declared.Decision.TheVariants.{DeleteSlot, DeleteKey, GetCard, ListSlots, QuerySlot}
use Rattle.decide_parts.specs.declared.Parts.{Parts}
use Rattle.decide_parts.specs.declared.Decided.{Decided}

-- the KMCID, and the fingerprint, that the record of SM?KC or SM?KR names
abbrev pub kmcid_of : List Value → List ℕ
kmcid_of vs = name_in (kmc_identity_in (first_text vs))

abbrev pub fingerprint_of : List Value → List ℕ
fingerprint_of vs = fingerprint_in (kmc_identity_in (first_text vs))

-- the row that SM?KC makes of its record, with the clock as TVP
abbrev pub pending_row : List ℕ → List Value → SlotRow
pending_row clock vs = filled_slot Pending (kmcid_of vs) (fingerprint_of vs) clock

-- the card that SM?KL brings, and the one that it stores
abbrev pub incoming_of : List Value → List ℕ
incoming_of vs = card_in (second_text vs)

abbrev pub card_of : Supplement → List Value → List ℕ
card_of x vs = loaded_card (incoming_of vs) x.check (first_text vs)

-- SM?KC: slot and fingerprint stand within their bounds
abbrev pub StartParts : Parts → List ℕ → Type 0
StartParts p s =
    Stands s p.slot (kmcid_of (values_of s))
    × Stands s p.fingerprint (fingerprint_of (values_of s))

-- SM?KR: the slot
abbrev pub OpenParts : Parts → List ℕ → Type 0
OpenParts p s = Stands s p.slot (kmcid_of (values_of s))

-- SM?KL: slot and card, and the values of the card
abbrev pub LoadParts : Parts → List ℕ → Type 0
LoadParts p s =
    Stands s p.slot (first_text (values_of s))
    × (Stands s p.card (incoming_of (values_of s))
    × AreValues p.values (incoming_of (values_of s)))

-- the parts that the command of a decision goes on to use
abbrev pub HasParts : Decision → Parts → List ℕ → Type 0
HasParts (Refuse r) p s = Unit {0}
HasParts Reset p s = Unit {0}
HasParts (Start k) p s = StartParts p s
HasParts (Open k) p s = OpenParts p s
HasParts (Load k) p s = LoadParts p s
HasParts (Close k) p s = Unit {0}
HasParts (DeleteSlot k) p s = Unit {0}
HasParts (DeleteKey k) p s = Unit {0}
HasParts (GetCard k) p s = Unit {0}
HasParts ListSlots p s = Unit {0}
HasParts (QuerySlot k) p s = Unit {0}

-- what was decided of a payload is the decision e, with its parts
pub record IsDecided (d : Decided) (e : Decision) (s : List ℕ) : Type 0 where
  pub decision_is : d.decision ≡ e
  pub parts_stand : HasParts d.decision d.parts s
