-- The records of key management (document 01, Records; 003 clauses 7.2 to 7.5): what parses, with each identity
-- inside it (question 9), and what is in form (question 10).
use Rattle.std.specs.Prelude.{ℕ, Bool, List, [], ◌∷◌}
use Prim.Native.Char.{code}
use Rattle.byte_strings.specs.Texts.{text, all}
use Rattle.byte_bounds.specs.declared.Bounds.{Bounds}
use Rattle.record_parser.specs.Records.{field, is_record, AreFields}
use Rattle.card_incoming.specs.Incoming.{is_incoming}
use Rattle.record_identities.specs.Identities.{colon, is_kmc_identity, is_module_identity, identity_in_form}
use Rattle.text_forms.specs.Forms.{in_form}
use Rattle.text_forms.specs.declared.Form.TheVariants.{Timestamp, Hex, HexSome, Empty}

-- the fields of these records are split by a bar
abbrev pub bar : ℕ
bar = code "|"

abbrev pub pk_ecdh1 : List ℕ
pk_ecdh1 = text "PK.ECDH.1"

abbrev pub vkload_resp1 : List ℕ
vkload_resp1 = text "VKLOAD.RESP.1"

abbrev pub key1 : List ℕ
key1 = text "KEY.1"

-- a public key (003 clause 7.2) parses, and its KMC identity
unfoldable pub parses_public_key : List ℕ → Bool
parses_public_key s =
    all (
    is_record pk_ecdh1 bar 5 s
    ∷ is_kmc_identity (field bar 1 s)
    ∷ [])

-- the bounds of a public key's fields, and those of its KMC identity's fields in that identity
abbrev pub IsPublicKey : List Bounds → List Bounds → List ℕ → Type 0
IsPublicKey fields kmc s = AreFields bar 5 fields s × AreFields colon 4 kmc (field bar 1 s)

unfoldable pub public_key_in_form : List ℕ → Bool
public_key_in_form s =
    all (
    identity_in_form (field bar 1 s)  -- KMC identity
    ∷ in_form HexSome (field bar 2 s)  -- public key
    ∷ in_form Timestamp (field bar 3 s)  -- expiry
    ∷ in_form Empty (field bar 4 s)  -- two empty fields
    ∷ in_form Empty (field bar 5 s)
    ∷ [])

-- a load response (003 clause 7.4) parses, and its identities
unfoldable pub parses_response : List ℕ → Bool
parses_response s =
    all (
    is_record vkload_resp1 bar 4 s
    ∷ is_kmc_identity (field bar 1 s)
    ∷ is_module_identity (field bar 2 s)
    ∷ [])

-- the bounds of a load response's fields, and those of its identities' fields in each of them
abbrev pub IsResponse : List Bounds → List Bounds → List Bounds → List ℕ → Type 0
IsResponse fields kmc sm s =
    AreFields bar 4 fields s × (AreFields colon 4 kmc (field bar 1 s) × AreFields colon 4 sm (field bar 2 s))

unfoldable pub response_in_form : List ℕ → Bool
response_in_form s =
    all (
    identity_in_form (field bar 1 s)  -- KMC identity
    ∷ identity_in_form (field bar 2 s)  -- module identity
    ∷ in_form Timestamp (field bar 3 s)  -- TVP
    ∷ in_form (Hex 48) (field bar 4 s)  -- tag
    ∷ [])

-- a wrapped key (003 clause 7.5) parses
abbrev pub parses_key : List ℕ → Bool
parses_key s = is_record key1 bar 3 s

unfoldable pub key_in_form : List ℕ → Bool
key_in_form s =
    all (
    in_form HexSome (field bar 1 s)  -- nonce
    ∷ is_incoming (field bar 2 s)  -- card
    ∷ in_form HexSome (field bar 3 s)  -- encrypted key
    ∷ [])
