-- An identity inside a record: v is the part with the bounds of a field.
use mathlib.Core.Path.{◌≡◌, ap, ◌∙◌}
use mathlib.Core.Bool.{Bool, true, false, not, ◌&&◌}
use mathlib.Core.List.{List}
use Prim.Native.Nat.{ℕ, ◌≤◌}
use lib.ListN.{get_or}
use Rattle.byte_bounds.specs.Bounds.{bytes_in, nowhere}
use Rattle.byte_bounds.specs.declared.Bounds.{Bounds}
use Rattle.record_parser.specs.Records.{field, AreFields}
use Rattle.record_parser.proofs.FieldLaws.{part_is}
use Rattle.record_identities.specs.Identities.{identity_in_form}
use Rattle.record_identities.proofs.Chain.{no_here, yes_here, field_chain}

module _ (d n : ℕ) (fields : List Bounds) (s : List ℕ) (w : AreFields d n fields s) (i : ℕ) (h : i ≤ n)
    (v : List ℕ) (e : v ≡ bytes_in s (get_or fields i nowhere)) (t : Bool) (p : t ≡ identity_in_form v) (b : Bool) where
  formed : t ≡ identity_in_form (field d i s)
  formed = p ∙ ap identity_in_form (part_is d n fields s w i h v e)

  pub no_identity : not t ≡ true → false ≡ (identity_in_form (field d i s) && b)
  no_identity o = no_here (identity_in_form (field d i s)) b t formed o

  pub yes_identity : not t ≡ false → (r : Bool) → r ≡ b → r ≡ (identity_in_form (field d i s) && b)
  yes_identity o r q = yes_here (identity_in_form (field d i s)) b t r formed o q

pub ruleset record_chain = (no_identity, yes_identity, field_chain)
