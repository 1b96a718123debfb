-- The cases of an identifier, and what it cannot hold.
use mathlib.Core.Path.{◌≡◌}
use mathlib.Core.Bool.{true, false, ◌&&◌}
use mathlib.Core.List.{List}
use Prim.Native.Nat.{ℕ, ◌≤◌}
use lib.Dec.{leb}
use lib.ListN.{length, get_or}
use borrow.Author.Tests.{leb-true}
use Rattle.byte_strings.specs.Strings.{all_of, is_not}
use Rattle.byte_strings.proofs.Flags.{and_first, and_second}
use Rattle.text_classes.specs.Classes.{is_alphanumeric, is_of, are_all}
use Rattle.text_classes.specs.Identifiers.{is_identifier}
use Rattle.text_classes.specs.declared.Class.TheVariants.{Identifier}
use Rattle.text_classes.proofs.ClassLaws.{class_plain}

-- an identifier has 1 to 40 bytes, of the class
module _ (v : List ℕ) (e : is_identifier v ≡ true) where
  tail : (leb (length v) 40 && (is_alphanumeric (get_or v 0 0) && are_all Identifier v)) ≡ true
  unfolding is_identifier
  tail = and_second (leb 1 (length v)) _ e

  pub name_some : 1 ≤ length v
  unfolding is_identifier
  name_some = leb-true 1 (length v) (and_first (leb 1 (length v)) (leb (length v) 40 && (is_alphanumeric (get_or v 0 0) && are_all Identifier v)) e)

  pub name_short : length v ≤ 40
  name_short = leb-true (length v) 40 (and_first (leb (length v) 40) (is_alphanumeric (get_or v 0 0) && are_all Identifier v) tail)

  pub name_bytes_lem : are_all Identifier v ≡ true
  name_bytes_lem = and_second (is_alphanumeric (get_or v 0 0)) _ (and_second (leb (length v) 40) (is_alphanumeric (get_or v 0 0) && are_all Identifier v) tail)

  -- so it holds no delimiter that is no byte of the class
  pub name_plain : (d : ℕ) → is_of Identifier d ≡ false → all_of (is_not d) v ≡ true
  name_plain d p = class_plain Identifier d v p name_bytes_lem
