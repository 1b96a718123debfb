-- The fields of a payload from a place on: the one that stands there, where there is one, and those from the place after it.
use mathlib.Core.Path.{◌≡◌, refl, sym, ap, ◌∙◌}
use mathlib.Core.List.{List, [], ◌∷◌}
use mathlib.Core.Logic.{⊎_elim}
use Prim.Native.Nat.{ℕ, ◌+◌, ◌≤◌, ◌<◌}
use native.Mathlib.Omega.{arith}
use lib.ListN.{length, drop, drop_of_length-le}
use Rattle.byte_strings.specs.Strings.{is_not, run}
use Rattle.byte_strings.proofs.Flags.{nope}
use Rattle.byte_strings.proofs.Below.{below_or}
use Rattle.byte_pieces.proofs.PieceLaws.{no_piece, not_ended}
use Rattle.field_values.specs.Values.{Value, number, string, date, octets, bad, values_of, first, value_at, after, next_at}
use Rattle.field_values.proofs.ReadLaws.{none_left, not_closed, values_here}

-- the place after a value that is not bad
after_value : (v : Value) (at e : ℕ) → (v ≡ bad → ⊥) → after v at e ≡ e + 1
after_value (number n) at e o = refl
after_value (string v) at e o = refl
after_value (date v) at e o = refl
after_value (octets v) at e o = refl
after_value bad at e o = absurd (o refl)

module _ (s : List ℕ) (at : ℕ) where
  abbrev end : ℕ
  end = at + run (is_not 126) (drop at s)

  -- a field that is not bad is ended
  module _ (o : value_at s at ≡ bad → ⊥) where
    closed : end < length s
    closed =
        ⊎_elim (λ (h : end < length s). h)
        (λ (h : length s ≤ end). absurd (⊎_elim (λ (l : at < length s). o (sym (not_closed s at end refl l h))) (λ (l : length s ≤ at). o (sym (none_left s at l))) (below_or at (length s))))
        (below_or end (length s))

    next_end : next_at s at ≡ end + 1
    unfolding next_at
    next_end = after_value (value_at s at) at end o

    pub values_next : values_of (drop at s) ≡ value_at s at ∷ values_of (drop (next_at s at) s)
    unfolding value_at
    values_next =
        let h = values_here s at end refl closed in
        h ∙ ap (λ (v : Value). v ∷ values_of (drop (end + 1) s)) (sym (ap first h)) ∙ ap (λ (n : ℕ). value_at s at ∷ values_of (drop n s)) (sym next_end)

    pub next_within : next_at s at ≤ length s
    next_within = omega (arith, next_end, closed)

  -- there is no field exactly at the end
  pub values_ended : length s ≤ at → values_of (drop at s) ≡ []
  unfolding values_of
  values_ended h = rw (drop_of_length-le s {i = at} h)

  open_field : at < length s → length s ≤ end → values_of (drop at s) ≡ bad ∷ []
  unfolding values_of
  open_field l h = rw (no_piece 126 s at end refl (omega arith) h, not_ended 126 s at end refl l h)

  pub values_left : at < length s → values_of (drop at s) ≡ [] → ⊥
  values_left l e =
      ⊎_elim (λ (h : end < length s). let q = sym e ∙ values_here s at end refl h in nope (cc))
      (λ (h : length s ≤ end). let q = sym e ∙ open_field l h in nope (cc))
      (below_or end (length s))
