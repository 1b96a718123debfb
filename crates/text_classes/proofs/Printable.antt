-- Classes within classes: digits, hexadecimal digits and text are printable, and what is printable is bytes.
use mathlib.Core.Path.{◌≡◌}
use mathlib.Core.Bool.{true}
use mathlib.Core.List.{List}
use mathlib.Core.Logic.{⊎_elim}
use Prim.Native.Nat.{ℕ, ◌≤◌}
use native.Mathlib.Omega.{arith}
use lib.Dec.{leb}
use borrow.Author.Tests.{le-leb, leb-true, lt-ltb}
use Rattle.byte_strings.specs.Strings.{all_of}
use Rattle.byte_strings.proofs.Flags.{and_first, and_second, or_cases}
use Rattle.byte_strings.proofs.StringLaws.{all_wider, is_byte}
use Rattle.text_classes.specs.Classes.{within, is_of, are_all}
use Rattle.text_classes.specs.declared.Class.{Class}
use Rattle.text_classes.specs.declared.Class.TheVariants.{Digit, Hexadecimal, Text, Printable}

pub wider : (b low high low' high' : ℕ) → low' ≤ low → high ≤ high' → within b low high ≡ true → within b low' high' ≡ true
wider b low high low' high' p q e =
    let l : low ≤ b = leb-true low b (and_first (leb low b) (leb b high) e) in
    let h : b ≤ high = leb-true b high (and_second (leb low b) (leb b high) e) in
    rw (le-leb low' b (omega arith), le-leb b high' (omega arith))

-- bytes of the class k are of the class m
abbrev pub Within : Class → Class → Type 0
Within k m = (b : ℕ) → is_of k b ≡ true → is_of m b ≡ true

pub within_class : (k m : Class) → Within k m → (v : List ℕ) → are_all k v ≡ true → are_all m v ≡ true
unfolding are_all
within_class k m h v e = all_wider (is_of k) (is_of m) h v e

pub digit_text : Within Digit Text
digit_text b = wider b 48 57 32 125 (omega arith) (omega arith)

pub hex_text : Within Hexadecimal Text
hex_text b e =
    ⊎_elim (λ (p : within b 48 57 ≡ true). wider b 48 57 32 125 (omega arith) (omega arith) p) (λ (p : within b 65 70 ≡ true). wider b 65 70 32 125 (omega arith) (omega arith) p) (or_cases (within b 48 57) (within b 65 70) e)

pub text_printable : Within Text Printable
text_printable b = wider b 32 125 32 126 (omega arith) (omega arith)

printable_byte : (b : ℕ) → is_of Printable b ≡ true → is_byte b ≡ true
printable_byte b e = let h : b ≤ 126 = leb-true b 126 (and_second (leb 32 b) (leb b 126) e) in lt-ltb b 256 (omega arith)

pub printable_bytes : (s : List ℕ) → are_all Printable s ≡ true → all_of is_byte s ≡ true
unfolding are_all
printable_bytes s e = all_wider (is_of Printable) is_byte printable_byte s e
