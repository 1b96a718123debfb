-- The identities in a record are parts of it, by the bounds that were noted of its fields.
use mathlib.Core.Path.{◌≡◌}
use mathlib.Core.Bool.{Bool, true, false, not}
use mathlib.Core.List.{List}
use Prim.Native.Nat.{ℕ, ◌≤◌}
use lib.ListN.{get_or}
use borrow.Author.Tests.{not-false}
use Rattle.byte_bounds.specs.Bounds.{bytes_in, nowhere}
use Rattle.byte_bounds.specs.declared.Bounds.{Bounds}
use Rattle.record_parser.specs.Records.{field, is_record, AreFields}
use Rattle.record_parser.proofs.FieldLaws.{part_is}
use Rattle.record_identities.specs.Identities.{colon}
use Rattle.record_types.specs.KeyRecords.{bar, IsPublicKey, IsResponse}
use Rattle.record_types.specs.declared.PublicKey.{PublicKey}
use Rattle.record_types.specs.declared.LoadResponse.{LoadResponse}

-- v is the part with the bounds of the field i, and y whether it is an identity
module _ (n : ℕ) (fields : List Bounds) (s : List ℕ) (x : Bool) (w : x ≡ true → AreFields bar n fields s) (o : not x ≡ false)
    (i : ℕ) (h : i ≤ n) (v : List ℕ) (e : v ≡ bytes_in s (get_or fields i nowhere)) (y : Bool) where
  its_field : v ≡ field bar i s
  its_field = part_is bar n fields s (w (not-false x o)) i h v e

  pub identity_in : (t : List ℕ) → y ≡ is_record t colon 4 v → y ≡ is_record t colon 4 (field bar i s)
  identity_in t p = rw (← its_field) p

  pub fields_in_lem : (kmc : List Bounds) → (y ≡ true → AreFields colon 4 kmc v) → y ≡ true → AreFields colon 4 kmc (field bar i s)
  fields_in_lem kmc p q = rw (← its_field) (p q)

module _ (fields kmc : List Bounds) (s : List ℕ) (x y : Bool) (o : not x ≡ false) where
  pub is_key : (x ≡ true → AreFields bar 5 fields s) → (y ≡ true → AreFields colon 4 kmc (field bar 1 s)) → y ≡ true → IsPublicKey fields kmc s
  is_key w k q = (w (not-false x o), k q)

  pub is_response : (sm : List Bounds) (u : Bool) → (x ≡ true → AreFields bar 4 fields s) → not y ≡ false → (y ≡ true → AreFields colon 4 kmc (field bar 1 s))
      → (u ≡ true → AreFields colon 4 sm (field bar 2 s)) → u ≡ true → IsResponse fields kmc sm s
  is_response sm u w r k m q = (w (not-false x o), (k (not-false y r), m q))

-- what was found to be a public key, or a load response, has its fields
pub found_key : (s : List ℕ) (k : PublicKey) → (k.parsed ≡ true → IsPublicKey k.fields k.kmc s) → not k.parsed ≡ false → IsPublicKey k.fields k.kmc s
found_key s k w o = w (not-false k.parsed o)

pub found_response : (s : List ℕ) (a : LoadResponse) → (a.parsed ≡ true → IsResponse a.fields a.kmc a.module s) → not a.parsed ≡ false → IsResponse a.fields a.kmc a.module s
found_response s a w o = w (not-false a.parsed o)
