-- Identities (003 clause 7.1; document 01, Records): type, manufacturer or SWID, name, timestamp, fingerprint, split
-- by a colon. What parses (question 9) apart from what is in form (question 10).
use Rattle.std.specs.Prelude.{ℕ, Bool, List, [], ◌∷◌}
use Prim.Native.Char.{code}
use Rattle.byte_strings.specs.Texts.{text, all}
use Rattle.record_parser.specs.Records.{field, is_record}
use Rattle.text_forms.specs.Forms.{in_form}
use Rattle.text_forms.specs.declared.Form.TheVariants.{Timestamp, Hex, Name}

abbrev pub colon : ℕ
colon = code ":"

abbrev pub kmcid1 : List ℕ
kmcid1 = text "KMCID.1"

abbrev pub smid1 : List ℕ
smid1 = text "SMID.1"

-- the identity of a key management centre parses
abbrev pub is_kmc_identity : List ℕ → Bool
is_kmc_identity s = is_record kmcid1 colon 4 s

-- the identity of a module parses
abbrev pub is_module_identity : List ℕ → Bool
is_module_identity s = is_record smid1 colon 4 s

-- the fields of an identity are in form
unfoldable pub identity_in_form : List ℕ → Bool
identity_in_form s =
    all (
    in_form Name (field colon 1 s)  -- SWID, or the manufacturer
    ∷ in_form Name (field colon 2 s)  -- KMCID, or MID
    ∷ in_form Timestamp (field colon 3 s)  -- timestamp
    ∷ in_form (Hex 16) (field colon 4 s)  -- fingerprint
    ∷ [])

-- the name in an identity, KMCID or MID
abbrev pub name_in : List ℕ → List ℕ
name_in s = field colon 2 s

abbrev pub fingerprint_in : List ℕ → List ℕ
fingerprint_in s = field colon 4 s
