-- The attributes of a card (001 Annex F Table F.1; 003 Appendix B; document 01, Cards).
use Rattle.std.specs.Prelude.{Bool, true, false, List, [], ◌∷◌, ℕ, ◌+◌, ◌*◌, get_or}
use Rattle.byte_strings.specs.Texts.{text}
use Rattle.byte_strings.specs.Lists.{rows_that}
use Rattle.text_forms.specs.declared.Form.{Form}
use Rattle.text_forms.specs.declared.Form.TheVariants.{Timestamp, Algorithm, Number, Digits, Hex, Name, Label}
use Rattle.card_attributes.specs.declared.Presence.{Presence}
use Rattle.card_attributes.specs.declared.Presence.TheVariants.{Required, Optional, Engine, Kept}
use Rattle.card_attributes.specs.declared.Attribute.{Attribute}

-- a name as a number: its three letters, the first highest
abbrev pub name_number : List ℕ → ℕ
name_number s = get_or s 0 0 * 65536 + get_or s 1 0 * 256 + get_or s 2 0

abbrev pub ACT : ℕ
ACT = name_number (text "ACT")

abbrev pub BDT : ℕ
BDT = name_number (text "BDT")

abbrev pub CLM : ℕ
CLM = name_number (text "CLM")

abbrev pub CLU : ℕ
CLU = name_number (text "CLU")

abbrev pub DKG : ℕ
DKG = name_number (text "DKG")

abbrev pub IUT : ℕ
IUT = name_number (text "IUT")

abbrev pub KCV : ℕ
KCV = name_number (text "KCV")

abbrev pub KEN : ℕ
KEN = name_number (text "KEN")

abbrev pub KRN : ℕ
KRN = name_number (text "KRN")

abbrev pub KSL : ℕ
KSL = name_number (text "KSL")

abbrev pub KTC : ℕ
KTC = name_number (text "KTC")

abbrev pub SBM : ℕ
SBM = name_number (text "SBM")

abbrev pub SGC : ℕ
SGC = name_number (text "SGC")

abbrev pub SGN : ℕ
SGN = name_number (text "SGN")

abbrev pub ULM : ℕ
ULM = name_number (text "ULM")

abbrev pub VND : ℕ
VND = name_number (text "VND")

-- an attribute: its name; whether an incoming card must have it, may have it with a default where it has not, it
-- belongs to the engine, or it is kept just where the incoming card has it; the form of its value
abbrev pub name : Attribute → ℕ
name a = a.0

abbrev pub presence : Attribute → Presence
presence a = a.1

abbrev pub form : Attribute → Form
form a = a.2

-- all sixteen, ascending by name; behind each what document 01 (Cards) and document 02 (N2) say of its value, and Table
-- F.1's type
unfoldable pub table : List Attribute
table =
    (ACT, Required, Timestamp)  -- timestamp; TIMESTAMP
    ∷ (BDT, Required, Timestamp)  -- timestamp; TIMESTAMP
    ∷ (CLM, Optional, Hex 8)  -- 8 hexadecimal digits; 8H
    ∷ (CLU, Engine, Number 1 0 0)  -- starts at 0, and 0 by question 3; 1-10D
    ∷ (DKG, Required, Algorithm)  -- 02 or 04; 2D
    ∷ (IUT, Optional, Timestamp)  -- timestamp; TIMESTAMP
    ∷ (KCV, Engine, Hex 6)  -- the supplement's check value; 6H
    ∷ (KEN, Required, Number 3 0 255)  -- 0 to 255; 3D
    ∷ (KRN, Required, Number 1 1 9)  -- 1 to 9; 1D
    ∷ (KSL, Engine, Name)  -- the slot's identifier; IDENT
    ∷ (KTC, Required, Number 1 0 3)  -- 0 to 3; 1D
    ∷ (SBM, Optional, Hex 4)  -- 4 hexadecimal digits; 4H
    ∷ (SGC, Required, Digits 10)  -- ten digits; 10D
    ∷ (SGN, Kept, Label 24)  -- 0 to 24 bytes; 1-99P
    ∷ (ULM, Optional, Number 9 0 999999999)  -- 0 to 999999999; 1-9D
    ∷ (VND, Engine, Number 9 0 999999999)  -- starts at 0, and 0 to 999999999 by question 3; 1D
    ∷ []

-- how many they are
abbrev pub rows : ℕ
rows = 16

-- whether every stored card has an attribute of this presence
abbrev pub is_always : Presence → Bool
is_always Required = true
is_always Optional = true
is_always Engine = true
is_always Kept = false

-- those that every stored card has: all but SGN
unfoldable pub always : List Attribute
always = rows_that (λ a. is_always (presence a)) table
