-- What the small tests say in the definitions' words, where the code took a part of the record first.
use mathlib.Core.Path.{◌≡◌, sym, ap, subst, ◌∙◌}
use mathlib.Core.Bool.{Bool, true, false, not, ◌||◌}
use mathlib.Core.List.{List}
use mathlib.Core.Option.{some}
use Prim.Native.Nat.{ℕ, ◌-◌, ◌≤◌, ◌<◌}
use native.Mathlib.Omega.{arith}
use lib.ListN.{length, get_or, take}
use lib.Seq.{take_all}
use Rattle.byte_strings.specs.Strings.{same_bytes}
use Rattle.byte_bounds.specs.Bounds.{bytes_in, FitIn, Stands, inside, nowhere}
use Rattle.byte_bounds.proofs.BoundsLaws.{length_in, inside_fits, inside_bytes}
use Rattle.byte_bounds.specs.declared.Bounds.{Bounds}
use Rattle.record_parser.specs.Records.{field, AreFields}
use Rattle.record_identities.specs.Identities.{colon}
use Rattle.record_types.specs.KeyRecords.{bar, IsPublicKey, IsResponse}
use Rattle.record_types.specs.declared.PublicKey.{PublicKey}
use Rattle.record_types.specs.declared.LoadResponse.{LoadResponse}
use Rattle.record_types.proofs.PartLaws.{found_key, found_response}
use Rattle.record_parser.proofs.FieldLaws.{field_fits, field_is}
use Rattle.text_timestamps.specs.Timestamps.{timestamp_of, is_later}
use Rattle.std.specs.Prelude.{Option}
use Rattle.row_types.specs.Lists.{first_from}
use Rattle.row_types.specs.Slots.{has_state, is_named}
use Rattle.row_types.specs.Places.{place_of}
use Rattle.row_types.specs.declared.Place.{Place}
use Rattle.row_types.specs.declared.Place.TheVariants.{At, Nothing}
use Rattle.row_types.specs.declared.SlotRow.{SlotRow}
use Rattle.row_types.specs.declared.SlotState.TheVariants.{Pending, Loading}
use Rattle.decide_records.specs.Identity.{HasKmcIdentity}
use Rattle.engine.specs.Questions.{slot_place, free_place, session_place}

-- has_fingerprint: the identity u is a field of the record
pub inner_fits : (d n : ℕ) (fields : List Bounds) (s u : List ℕ) → AreFields d n fields s → u ≡ s → (i : ℕ) → i ≤ n → FitIn (length u) (get_or fields i nowhere)
inner_fits d n fields s u w e i h = rw e (field_fits d n fields s w i h)

-- identity_part: a field of the identity v that is the first field of the record s
module _ (fields kmc : List Bounds) (s : List ℕ) (w : AreFields bar 1 fields s) (k : AreFields colon 4 kmc (field bar 1 s)) where
  abbrev outer : Bounds
  outer = get_or fields 1 nowhere

  outer_fits : FitIn (length s) outer
  outer_fits = field_fits bar 1 fields s w 1 (omega arith)

  pub outer_right : outer.start ≤ outer.end
  outer_right = outer_fits.0

  module _ (i : ℕ) (h : i ≤ 4) where
    abbrev inner : Bounds
    inner = get_or kmc i nowhere

    pub inner_right : FitIn (outer.end - outer.start) inner
    inner_right =
        let e : bytes_in s outer ≡ field bar 1 s = field_is bar 1 fields s w 1 (omega arith) in
        subst (λ (n : ℕ). FitIn n inner) (ap length (sym e) ∙ length_in s outer outer_fits) (field_fits colon 4 kmc (field bar 1 s) k i h)

    pub part_stands : (b : Bounds) → b ≡ inside outer inner → Stands s b (field colon i (field bar 1 s))
    part_stands b p =
        let e : bytes_in s outer ≡ field bar 1 s = field_is bar 1 fields s w 1 (omega arith) in
        rw p (
          inside_fits (length s) outer inner outer_fits inner_right,
          inside_bytes s outer inner inner_right ∙ ap (λ (u : List ℕ). bytes_in u inner) e ∙ field_is colon 4 kmc (field bar 1 s) k i h,
        )

-- a record with more fields has fewer
fewer : (d m n : ℕ) (fields : List Bounds) (s : List ℕ) → m ≤ n → AreFields d n fields s → AreFields d m fields s
unfolding AreFields
fewer d m n fields s h w i l = w i (omega arith)

-- the KMC identity of what was found to be a public key, or a load response
pub key_identity : (s : List ℕ) (k : PublicKey) → (k.parsed ≡ true → IsPublicKey k.fields k.kmc s) → not k.parsed ≡ false → HasKmcIdentity k.fields k.kmc s
key_identity s k w o = let f = found_key s k w o in (fewer bar 1 5 k.fields s (omega arith) f.0, f.1)

pub response_identity : (s : List ℕ) (a : LoadResponse) → (a.parsed ≡ true → IsResponse a.fields a.kmc a.module s) → not a.parsed ≡ false → HasKmcIdentity a.fields a.kmc s
response_identity s a w o = let f = found_response s a w o in (fewer bar 1 4 a.fields s (omega arith) f.0, f.1.0)

pub same_of : (u v w : List ℕ) (b : Bool) → u ≡ v → b ≡ same_bytes u w → b ≡ same_bytes v w
same_of u v w b e p = p ∙ ap (λ (z : List ℕ). same_bytes z w) e

-- is_not_expired
pub later_of : (u v w : List ℕ) (a b : Option ℕ) (r : Bool) → u ≡ v → a ≡ timestamp_of u → b ≡ timestamp_of w → r ≡ is_later a b → r ≡ is_later (timestamp_of v) (timestamp_of w)
later_of u v w a b r e p q o = rw (← e, ← p, ← q) o

-- known_place
pub place_named : (s t : List ℕ) (l : List SlotRow) (p : Place) → s ≡ t → place_of p ≡ first_from (is_named s) 0 l → place_of p ≡ slot_place t l
place_named s t l p e q = rw (← e) q

-- session_place
module _ (s : List ℕ) (l : List SlotRow) (p : Place) (e : place_of p ≡ slot_place s l) where
  pub session_known : (k : ℕ) → p ≡ At k → some k ≡ session_place s l
  unfolding session_place
  session_known k o = sym (rw (← e, o))

  pub session_free : p ≡ Nothing → (q : Place) → place_of q ≡ free_place l → place_of q ≡ session_place s l
  unfolding session_place
  session_free o q w = w ∙ sym (rw (← e, o))

-- is_own_module: the length may pass the space
pub own_all : (u v w : List ℕ) (n : ℕ) (b : Bool) → u ≡ v → length w ≡ 128 → 128 < n → b ≡ same_bytes u w → b ≡ same_bytes v (take n w)
own_all u v w n b e z h p = rw (← e, take_all n w (omega arith)) p

-- has_session
module _ (r : SlotRow) (t : Bool) (e : t ≡ has_state Pending r) where
  pub session_pending : t ≡ true → true ≡ (has_state Pending r || has_state Loading r)
  session_pending o = sym (rw (← e, o))

  pub session_loading : t ≡ false → (b : Bool) → b ≡ has_state Loading r → b ≡ (has_state Pending r || has_state Loading r)
  session_loading o b p = p ∙ sym (rw (← e, o))
