-- The wrapped key s, by the bounds of its fields: v is its card, b whether that is in form.
use mathlib.Core.Path.{◌≡◌, refl, ap, subst, ◌∙◌}
use mathlib.Core.Bool.{Bool, true, ◌&&◌}
use mathlib.Core.List.{List}
use Prim.Native.Nat.{ℕ}
use native.Mathlib.Omega.{arith}
use lib.ListN.{get_or}
use Rattle.byte_strings.proofs.Flags.{and_first, and_second}
use Rattle.byte_bounds.specs.Bounds.{bytes_in, nowhere}
use Rattle.byte_bounds.specs.declared.Bounds.{Bounds}
use Rattle.record_parser.specs.Records.{AreFields}
use Rattle.record_parser.proofs.FieldLaws.{field_is, part_is}
use Rattle.text_forms.specs.Forms.{in_form}
use Rattle.text_forms.specs.declared.Form.TheVariants.{HexSome}
use Rattle.card_incoming.specs.Incoming.{is_incoming, AreValues}
use Rattle.record_parser.specs.Records.{field}
use Rattle.record_types.specs.KeyRecords.{bar, key_in_form}

module _ (fields : List Bounds) (s : List ℕ) (w : AreFields bar 3 fields s) (v : List ℕ) (e : v ≡ bytes_in s (get_or fields 2 nowhere)) (a b c : Bool) where
  card : v ≡ field bar 2 s
  card = part_is bar 3 fields s w 2 (omega arith) v e

  pub key_judged : a ≡ in_form HexSome (bytes_in s (get_or fields 1 nowhere)) → b ≡ is_incoming v → c ≡ in_form HexSome (bytes_in s (get_or fields 3 nowhere)) → (a && (b && c)) ≡ key_in_form s
  unfolding key_in_form
  key_judged p q r =
      rw (p ∙ ap (in_form HexSome) (field_is bar 3 fields s w 1 (omega arith)), q ∙ ap is_incoming card, r ∙ ap (in_form HexSome) (field_is bar 3 fields s w 3 (omega arith))) refl

  pub key_values : (values : List Bounds) → (b ≡ true → AreValues values v) → (a && (b && c)) ≡ true → AreValues values (field bar 2 s)
  key_values values k o = subst (AreValues values) card (k (and_first b c (and_second a (b && c) o)))
