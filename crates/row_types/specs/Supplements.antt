-- Question 4: is the supplement, a term of document 01, well formed, all of it? (document 01, What the caller lends)
use Rattle.std.specs.Prelude.{ℕ, Bool, List, [], ◌∷◌, leb, take}
use Rattle.byte_strings.specs.Texts.{all}
use Rattle.text_classes.specs.Classes.{are_all}
use Rattle.text_classes.specs.declared.Class.TheVariants.{Text}
use Rattle.text_timestamps.specs.Timestamps.{is_timestamp}
use Rattle.text_forms.specs.Forms.{in_form}
use Rattle.text_forms.specs.declared.Form.TheVariants.{Hex}
use Rattle.record_identities.specs.Identities.{is_module_identity, identity_in_form}
use Rattle.row_types.specs.declared.Supplement.{Supplement}

-- the module's own SMID.1 record
abbrev pub own_identity : Supplement → List ℕ
own_identity x = take x.identity_length x.identity

-- the finished VKLOADREQ record
abbrev pub load_request : Supplement → List ℕ
load_request x = take x.request_length x.request

-- parsed, and its fields in form
unfoldable pub is_identity_right : Supplement → Bool
is_identity_right x = all (
    leb x.identity_length 128
    ∷ is_module_identity (own_identity x)
    ∷ identity_in_form (own_identity x)
    ∷ [])

-- 1 to 700 bytes, each 20 to 7D hexadecimal; it is not parsed
unfoldable pub is_load_request_right : Supplement → Bool
is_load_request_right x = all (
    leb 1 x.request_length
    ∷ leb x.request_length 700
    ∷ are_all Text (load_request x)
    ∷ [])

unfoldable pub is_well_formed : Supplement → Bool
is_well_formed x = all (
    is_timestamp x.clock  -- the clock
    ∷ is_identity_right x  -- the module's own SMID.1 record
    ∷ is_load_request_right x  -- a finished VKLOADREQ record
    ∷ in_form (Hex 48) x.tag  -- the expected tag: 48 hexadecimal digits
    ∷ in_form (Hex 6) x.check  -- a check value: 6 hexadecimal digits
    ∷ leb x.passed 1  -- one yes or no: cryptographic check passed
    ∷ [])
