-- What a reader and a search have told, as facts about the request and the rows.
use mathlib.Core.Path.{◌≡◌, sym, ◌∙◌}
use mathlib.Core.List.{List}
use mathlib.Core.Option.{some}
use Prim.Native.Nat.{ℕ, ◌*◌, ◌^◌, ◌≤◌, ◌<◌}
use native.Mathlib.Omega.{arith}
use lib.ListN.{length, get_or, take}
use lib.Seq.{get_or-take}
use Rattle.byte_strings.proofs.Flags.{nope}
use Rattle.row_types.specs.Lists.{first_from}
use Rattle.row_types.specs.Slots.{is_named, free_slot}
use Rattle.row_types.specs.Places.{PlaceWithin}
use Rattle.row_types.specs.declared.Place.{Place}
use Rattle.row_types.specs.declared.Place.TheVariants.{At, Nothing}
use Rattle.row_types.specs.declared.SlotRow.{SlotRow}
use Rattle.row_types.proofs.PlaceCounts.{get_d_any}
use Rattle.engine.specs.Questions.{slot_named}

-- a place that was found lies among the rows
pub place_below : (n : ℕ) (p : Place) (k : ℕ) → PlaceWithin n p → p ≡ At k → k < n
place_below n (At i) k v o = let z : i ≡ k = cc in rw (← z) v
place_below n Nothing k v o = nope (cc)

pub place_in_lem : (n m : ℕ) (p : Place) (k : ℕ) → PlaceWithin n p → p ≡ At k → n ≤ m → k < m
place_in_lem n m p k v o h = let z = place_below n p k v o in omega arith

-- a slot row has 73 bytes
pub place_fits : (n : ℕ) (p : Place) (k : ℕ) → PlaceWithin n p → p ≡ At k → n ≤ 8 → k * 73 < 2 ^ 64
place_fits n p k v o h = let z = place_below n p k v o in omega arith

-- the row of a slot that was found
pub row_named : (l : List SlotRow) (n k : ℕ) (s : List ℕ) (d : SlotRow) → length l ≡ 8 → n ≤ 8 → k < n → first_from (is_named s) 0 (take n l) ≡ some k → get_or l k d ≡ slot_named s (take n l)
unfolding slot_named
row_named l n k s d z h i e = get_d_any l k d free_slot (omega arith) ∙ sym (rw e (get_or-take n l k free_slot i))
