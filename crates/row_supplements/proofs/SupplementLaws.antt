-- The cases of a supplement: each test of the chain is a fact that the code has, or the number that it compared.
use mathlib.Core.Path.{◌≡◌, sym}
use mathlib.Core.Bool.{Bool, true, false, not}
use mathlib.Core.List.{List}
use Prim.Native.Nat.{ℕ, ◌≤◌, ◌<◌}
use lib.Dec.{leb}
use lib.ListN.{length, take}
use lib.Seq.{length-take-le}
use borrow.Author.Tests.{le-leb, lt-leb, not-true, not-false}
use Rattle.text_classes.specs.Classes.{are_all}
use Rattle.text_classes.specs.declared.Class.TheVariants.{Text}
use Rattle.record_identities.specs.Identities.{is_module_identity, identity_in_form}
use Rattle.row_types.specs.Supplements.{own_identity, load_request, is_identity_right, is_load_request_right}
use Rattle.row_types.specs.declared.Supplement.{Supplement}

-- the part of a list of known length
module _ (l : List ℕ) (n m : ℕ) (z : length l ≡ m) (h : n ≤ m) where
  pub room : n ≤ length l
  room = rw z h

  pub front : n ≡ length (take n l)
  front = sym (length-take-le n l room)

-- is_identity_right
module _ (x : Supplement) where
  pub long_identity : 128 < x.identity_length → false ≡ is_identity_right x
  unfolding is_identity_right
  long_identity h = rw (lt-leb x.identity_length 128 h)

  module _ (h : x.identity_length ≤ 128) (t : Bool) (p : t ≡ is_module_identity (own_identity x)) where
    pub other_record : not t ≡ true → false ≡ is_identity_right x
    unfolding is_identity_right
    other_record o = rw (le-leb x.identity_length 128 h, ← p, not-true t o)

    pub own_record : not t ≡ false → (r : Bool) → r ≡ identity_in_form (own_identity x) → r ≡ is_identity_right x
    unfolding is_identity_right
    own_record o r q = rw (le-leb x.identity_length 128 h, ← p, not-false t o) q

-- is_load_request_right
module _ (x : Supplement) where
  pub no_request : x.request_length < 1 → false ≡ is_load_request_right x
  unfolding is_load_request_right
  no_request h = rw (lt-leb 1 x.request_length h)

  module _ (l : 1 ≤ x.request_length) where
    pub long_request : 700 < x.request_length → false ≡ is_load_request_right x
    unfolding is_load_request_right
    long_request h = rw (le-leb 1 x.request_length l, lt-leb x.request_length 700 h)

    pub request_text : x.request_length ≤ 700 → (r : Bool) → r ≡ are_all Text (load_request x) → r ≡ is_load_request_right x
    unfolding is_load_request_right
    request_text h r p = rw (le-leb 1 x.request_length l, le-leb x.request_length 700 h) p

-- is_well_formed: the last test, a yes or no
pub neither : (n : ℕ) → 1 < n → false ≡ leb n 1
neither n h = rw (lt-leb n 1 h)

pub yes_or_no : (n : ℕ) → n ≤ 1 → true ≡ leb n 1
yes_or_no n h = rw (le-leb n 1 h)
