-- A chain of tests that ends at the first no: two laws for every length of it. And a test of a part that a call handed out.
use mathlib.Core.Path.{◌≡◌, ap, ◌∙◌}
use mathlib.Core.Bool.{Bool, true, false, not, ◌&&◌}
use mathlib.Core.List.{List}
use Prim.Native.Nat.{ℕ, ◌≤◌}
use lib.ListN.{get_or}
use borrow.Author.Tests.{not-true, not-false}
use Rattle.byte_bounds.specs.Bounds.{bytes_in, nowhere}
use Rattle.byte_bounds.specs.declared.Bounds.{Bounds}
use Rattle.record_parser.specs.Records.{field, AreFields}
use Rattle.record_parser.proofs.FieldLaws.{field_is}
use Rattle.text_forms.specs.Forms.{in_form}
use Rattle.text_forms.specs.declared.Form.{Form}

pub no_here : (a b t : Bool) → t ≡ a → not t ≡ true → false ≡ (a && b)
no_here a b t p o = rw (← p, not-true t o)

pub yes_here : (a b t r : Bool) → t ≡ a → not t ≡ false → r ≡ b → r ≡ (a && b)
yes_here a b t r p o q = rw (← p, not-false t o, q)

pub ruleset chain = (no_here, yes_here)

-- v is the part that is w in the definition
pub form_of : (v w : List ℕ) → v ≡ w → (r : Bool) (f : Form) → r ≡ in_form f v → r ≡ in_form f w
form_of v w e r f p = rw (← e) p

-- the same chain, of fields by the bounds that were noted of them
module _ (d n : ℕ) (fields : List Bounds) (s : List ℕ) (w : AreFields d n fields s) (i : ℕ) (h : i ≤ n) (f : Form) (t : Bool) (p : t ≡ in_form f (bytes_in s (get_or fields i nowhere))) where
  pub form_in : t ≡ in_form f (field d i s)
  form_in = p ∙ ap (in_form f) (field_is d n fields s w i h)

  pub no_field : (b : Bool) → not t ≡ true → false ≡ (in_form f (field d i s) && b)
  no_field b o = no_here (in_form f (field d i s)) b t form_in o

  pub yes_field : (b r : Bool) → not t ≡ false → r ≡ b → r ≡ (in_form f (field d i s) && b)
  yes_field b r o q = yes_here (in_form f (field d i s)) b t r form_in o q

pub ruleset field_chain = (form_in, no_field, yes_field)
