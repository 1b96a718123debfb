-- The types of the fields of each command's request and of its accepted reply (001 clauses 6.2.7 and 6.3).
use Rattle.std.specs.Prelude.{ℕ, Bool, true, false, ◌&&◌, List, [], ◌∷◌, eqb}
use Prim.Native.Char.{code}
use Rattle.std.proofs.Math.Option.{Option, none, some}
use Rattle.field_values.specs.Values.{Value, number, string, date, octets, bad}
use Rattle.message_commands.specs.declared.Command.{Command}
use Rattle.message_commands.specs.declared.Command.TheVariants.{RS, KC, KR, KL, KF, KX, KD, GA, GL, KQ, Unknown}

-- 001 Table 6: Number, PrintableString, DateTime, HexOctets
pub data FieldType : Type 0 where
  Number : FieldType
  String : FieldType
  Date : FieldType
  Octets : FieldType

-- the fields of a request; those of the reply, and the type of which any number may follow them
pub record Messages : Type 0 where
  pub request : List FieldType
  pub reply : List FieldType
  pub more : Option FieldType

abbrev fields : List FieldType → List FieldType → Option FieldType → Messages
fields request reply more = record { request = request; reply = reply; more = more }

-- each command, with its clause
abbrev pub messages : Command → Messages
messages RS = fields [] [] none  -- 6.2.7
messages GL = fields [] [] (some String)  -- 6.3.1
messages KQ = fields (String ∷ []) (String ∷ String ∷ String ∷ Octets ∷ String ∷ Octets ∷ []) (some Number)  -- 6.3.2
messages KC = fields (String ∷ []) (String ∷ String ∷ []) none  -- 6.3.3
messages KR = fields (String ∷ []) (String ∷ []) none  -- 6.3.4
messages KL = fields (String ∷ String ∷ []) (Number ∷ String ∷ []) none  -- 6.3.5
messages KF = fields (String ∷ []) [] none  -- 6.3.6
messages KX = fields (String ∷ []) [] none  -- 6.3.7
messages GA = fields (Number ∷ []) (String ∷ []) none  -- 6.3.8
messages KD = fields (Number ∷ []) [] none  -- 6.3.9
messages Unknown = fields [] [] none  -- question 7 refuses it before

-- the letter of a type in Table 6, and that of a value's; a value that is none has no letter
abbrev letter : FieldType → ℕ
letter Number = code "N"
letter String = code "P"
letter Date = code "D"
letter Octets = code "H"

abbrev letter_of : Value → ℕ
letter_of (number n) = code "N"
letter_of (string s) = code "P"
letter_of (date d) = code "D"
letter_of (octets h) = code "H"
letter_of bad = 0

-- a value of the type
abbrev pub is_of_type : FieldType → Value → Bool
is_of_type t v = eqb (letter_of v) (letter t)

-- values of the types, in their order; then any number of one more type, or nothing where there is none
abbrev pub are_of_types : List FieldType → Option FieldType → List Value → Bool
are_of_types (t ∷ ts) more [] = false
are_of_types (t ∷ ts) more (v ∷ vs) = is_of_type t v && are_of_types ts more vs
are_of_types [] more [] = true
are_of_types [] none (v ∷ vs) = false
are_of_types [] (some t) (v ∷ vs) = is_of_type t v && are_of_types [] (some t) vs
