-- What was noted of a record with a KMC identity.
use Rattle.std.specs.Prelude.{ℕ, List}
use Rattle.byte_bounds.specs.declared.Bounds.{Bounds}
use Rattle.record_parser.specs.Records.{field, AreFields}
use Rattle.record_identities.specs.Identities.{colon}
use Rattle.record_types.specs.KeyRecords.{bar}

-- the bounds of its first field, and in that the bounds of the identity's fields
abbrev pub HasKmcIdentity : List Bounds → List Bounds → List ℕ → Type 0
HasKmcIdentity fields kmc s = AreFields bar 1 fields s × AreFields colon 4 kmc (field bar 1 s)
