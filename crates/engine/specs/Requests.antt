-- What a request says: its command, the fields of its payload, and what they name (document 01, Slots and registers;
-- 001 clauses 6.2.7 and 6.3).
use Rattle.std.specs.Prelude.{ℕ, Bool, false, cond, ◌||◌, List, [], ◌∷◌, eqb, get_or}
use Rattle.std.proofs.Math.Option.{none}
use Rattle.field_values.specs.Values.{Value, number, string, date, octets, bad, values_of}
use Rattle.record_parser.specs.Records.{field}
use Rattle.record_identities.specs.Identities.{name_in}
use Rattle.record_types.specs.KeyRecords.{bar}
use Rattle.message_commands.specs.Commands.{command_of}
use Rattle.message_commands.specs.declared.Command.{Command}
use Rattle.message_commands.specs.declared.Command.TheVariants.{RS, KC, KR, KL, KF, KX, KD, GA, GL, KQ, Unknown}
use Rattle.message_frames.specs.Frames.{header_of, payload_of}
use Rattle.engine.specs.FieldTypes.{messages, are_of_types}

abbrev command_number : Command → ℕ
command_number RS = 0
command_number KC = 1
command_number KR = 2
command_number KL = 3
command_number KF = 4
command_number KX = 5
command_number KD = 6
command_number GA = 7
command_number GL = 8
command_number KQ = 9
command_number Unknown = 10

-- the command is one of those listed
abbrev pub is_among : Command → List Command → Bool
is_among c [] = false
is_among c (d ∷ ds) = eqb (command_number c) (command_number d) || is_among c ds

abbrev pub command_in : List ℕ → Command
command_in request = command_of (header_of request)

abbrev pub fields_in : List ℕ → List Value
fields_in request = values_of (payload_of request)

-- the header is one of the ten
abbrev pub is_one_of_ten : Command → Bool
is_one_of_ten c = is_among c (RS ∷ KC ∷ KR ∷ KL ∷ KF ∷ KX ∷ KD ∷ GA ∷ GL ∷ KQ ∷ [])

-- the fields of a payload are of the command's types, nothing over
unfoldable pub are_fields_of : Command → List Value → Bool
are_fields_of c vs = are_of_types (messages c).request none vs

abbrev text_of : Value → List ℕ
text_of (number n) = []
text_of (string s) = s
text_of (date d) = []
text_of (octets h) = []
text_of bad = []

abbrev count_of : Value → ℕ
count_of (number n) = n
count_of (string s) = 0
count_of (date d) = 0
count_of (octets h) = 0
count_of bad = 0

-- the first field, and the second, as text
abbrev pub first_text : List Value → List ℕ
first_text vs = text_of (get_or vs 0 bad)

abbrev pub second_text : List Value → List ℕ
second_text vs = text_of (get_or vs 1 bad)

-- the register that KD and GA name
abbrev pub register_in : List Value → ℕ
register_in vs = count_of (get_or vs 0 bad)

-- the record that a command brings: KL in its second field, KC and KR in their only one
unfoldable pub record_in : Command → List Value → List ℕ
record_in c vs = cond (is_among c (KL ∷ [])) (second_text vs) (first_text vs)

-- the KMC identity in a record of KC or KR, and the module identity in one of KR
abbrev pub kmc_identity_in : List ℕ → List ℕ
kmc_identity_in r = field bar 1 r

abbrev pub module_identity_in : List ℕ → List ℕ
module_identity_in r = field bar 2 r

-- the slot that a command names: KC and KR by the KMCID of their KMC identity, the others by their slot field
unfoldable pub slot_in : Command → List Value → List ℕ
slot_in c vs = cond (is_among c (KC ∷ KR ∷ [])) (name_in (kmc_identity_in (first_text vs))) (first_text vs)

-- the expiry of a public key; TVP and tag of a response; the card of a wrapped key
abbrev pub expiry_in : List ℕ → List ℕ
expiry_in r = field bar 3 r

abbrev pub tvp_in : List ℕ → List ℕ
tvp_in r = field bar 3 r

abbrev pub tag_in : List ℕ → List ℕ
tag_in r = field bar 4 r

abbrev pub card_in : List ℕ → List ℕ
card_in r = field bar 2 r
