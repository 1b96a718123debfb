-- The field that no other follows, by the place after the one that was read.
use mathlib.Core.Path.{◌≡◌, refl, sym, ap, ◌∙◌}
use mathlib.Core.List.{List, [], ◌∷◌}
use mathlib.Core.Logic.{◌⊎◌, inl, inr, ⊎_elim}
use Prim.Native.Nat.{ℕ, ◌≤◌, ◌<◌}
use native.Mathlib.Omega.{arith}
use lib.ListN.{length, drop}
use Rattle.byte_strings.proofs.Flags.{nope}
use Rattle.byte_strings.proofs.Below.{below_or}
use Rattle.field_values.specs.Values.{Value, number, string, date, octets, bad, values_of, first, value_at, next_at}
use Rattle.field_values.specs.Bounds.{field_value}
use Rattle.field_values.specs.declared.Field.{Field}
use Rattle.field_reader.specs.Reading.{alone, last_at}
use Rattle.field_reader.proofs.ValueLaws.{values_next, next_within, values_ended, values_left}

bad_or : (v : Value) → (v ≡ bad) ⊎ (v ≡ bad → ⊥)
bad_or (number n) = inr (λ e. nope (cc))
bad_or (string v) = inr (λ e. nope (cc))
bad_or (date v) = inr (λ e. nope (cc))
bad_or (octets v) = inr (λ e. nope (cc))
bad_or bad = inl refl

bad_alone : (vs : List Value) → first vs ≡ bad → alone vs ≡ bad
bad_alone [] e = refl
bad_alone (v ∷ []) e = e
bad_alone (v ∷ w ∷ vs) e = refl

followed : (v : Value) (vs : List Value) → (vs ≡ [] → ⊥) → alone (v ∷ vs) ≡ bad
followed v [] o = absurd (o refl)
followed v (w ∷ vs) o = refl

module _ (s : List ℕ) (at : ℕ) where
  bad_last : value_at s at ≡ bad → last_at s at ≡ bad
  unfolding value_at last_at
  bad_last e = bad_alone (values_of (drop at s)) e

  -- n is the place after it
  module _ (n : ℕ) (p : n ≡ next_at s at) (o : value_at s at ≡ bad → ⊥) where
    values_there : values_of (drop at s) ≡ value_at s at ∷ values_of (drop n s)
    values_there = rw p (values_next s at o)

    last_there : n ≡ length s → last_at s at ≡ value_at s at
    unfolding last_at
    last_there d = ap alone (values_there ∙ ap (λ (vs : List Value). value_at s at ∷ vs) (values_ended s n (omega arith)))

    not_last : (n ≡ length s → ⊥) → last_at s at ≡ bad
    unfolding last_at
    not_last d =
        ap alone values_there
        ∙ followed (value_at s at) (values_of (drop n s)) (values_left s n (⊎_elim (λ (l : n < length s). l) (λ (l : length s ≤ n). absurd (d (omega (arith, next_within s at o)))) (below_or n (length s))))

-- last_field
module _ (s : List ℕ) (at n : ℕ) (p : n ≡ next_at s at) where
  pub more_after : (n ≡ length s → ⊥) → bad ≡ last_at s at
  more_after d = sym (⊎_elim (bad_last s at) (λ o. not_last s at n p o d) (bad_or (value_at s at)))

  pub none_after : (f : Field) → field_value s f ≡ value_at s at → n ≡ length s → field_value s f ≡ last_at s at
  none_after f e d = ⊎_elim (λ b. e ∙ b ∙ sym (bad_last s at b)) (λ o. e ∙ sym (last_there s at n p o d)) (bad_or (value_at s at))

-- only_field
pub only_last : (s : List ℕ) → last_at s 0 ≡ alone (values_of s)
unfolding last_at
only_last s = refl
