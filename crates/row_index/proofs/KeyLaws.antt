-- A filled register is known by its key as one number: ten digits and one digit say the same where they are the same.
use mathlib.Core.Path.{◌≡◌, refl, sym, ◌∙◌}
use mathlib.Core.Bool.{Bool, true, false, not, ◌&&◌}
use mathlib.Core.List.{List, [], ◌∷◌, map}
use Prim.Native.Nat.{ℕ, ◌+◌, ◌-◌, ◌*◌, ◌≤◌}
use native.Mathlib.Omega.{arith}
use lib.Dec.{eqb, leb}
use lib.ListN.{length}
use lib.Seq.{take_all}
use borrow.Author.Tests.{leb-true, eqb-true, eq-eqb, ne_eqb}
use Rattle.byte_strings.specs.Strings.{same_bytes}
use Rattle.byte_strings.proofs.Flags.{nope, and_first, and_second}
use Rattle.byte_strings.proofs.StringLaws.{same_self, same_equal}
use Rattle.text_classes.specs.Classes.{within, are_all}
use Rattle.text_classes.specs.declared.Class.TheVariants.{Digit}
use Rattle.text_decimals.specs.Decimals.{dec_from, decimal, is_unpadded, is_number}
use Rattle.text_decimals.proofs.NumberLaws.{number_short, number_digits, number_most}
use Rattle.text_forms.specs.Forms.{in_form}
use Rattle.text_forms.specs.declared.Form.TheVariants.{Number, Digits}
use Rattle.card_attributes.specs.Table.{SGC, KRN, table, always}
use Rattle.card_attributes.specs.declared.Presence.TheVariants.{Required}
use Rattle.card_stored.specs.Stored.{is_stored}
use Rattle.row_types.specs.Lists.{every_row, distinct_rows}
use Rattle.row_types.specs.Registers.{is_vacant, attribute_of, is_key_of, is_register_sound, is_same_key}
use Rattle.row_types.specs.Index.{key_number, is_same_number}
use Rattle.row_types.specs.declared.RegisterRow.{RegisterRow}
use Rattle.row_index.proofs.Readings.{distinct_read}
use Rattle.row_index.proofs.StoredValues.{stored_in_form}

-- digits of one length that say one number are the same, and so are the numbers before them
digits_say : (p q : List ℕ) (a b : ℕ) → length p ≡ length q → are_all Digit p ≡ true → are_all Digit q ≡ true → dec_from a p ≡ dec_from b q → (p ≡ q) × (a ≡ b)
unfolding are_all
digits_say [] [] a b l d f e = (refl, e)
digits_say [] (y ∷ ys) a b l d f e = absurd (omega arith)
digits_say (x ∷ xs) [] a b l d f e = absurd (omega arith)
digits_say (x ∷ xs) (y ∷ ys) a b l d f e =
    let i : (xs ≡ ys) × (a * 10 + (x - 48) ≡ b * 10 + (y - 48)) = digits_say xs ys (a * 10 + (x - 48)) (b * 10 + (y - 48)) (omega arith) (and_second (within x 48 57) (are_all Digit xs) d) (and_second (within y 48 57) (are_all Digit ys) f) e in
    let u : within x 48 57 ≡ true = and_first (within x 48 57) (are_all Digit xs) d in
    let v : within y 48 57 ≡ true = and_first (within y 48 57) (are_all Digit ys) f in
    let u1 = leb-true 48 x (and_first (leb 48 x) (leb x 57) u) in
    let u2 = leb-true x 57 (and_second (leb 48 x) (leb x 57) u) in
    let v1 = leb-true 48 y (and_first (leb 48 y) (leb y 57) v) in
    let v2 = leb-true y 57 (and_second (leb 48 y) (leb y 57) v) in
    let n : x ≡ y = omega (arith, i.1) in
    let m = i.0 in
    (cc, omega (arith, i.1))

-- what is known of the SGC and the KRN of a filled row
pub record Keyed (g k : List ℕ) : Type 0 where
  pub group_long : length g ≡ 10
  pub group_digits : are_all Digit g ≡ true
  pub revision_long : length k ≡ 1
  pub revision_digits : are_all Digit k ≡ true
  pub revision_least : 1 ≤ decimal k
  pub revision_most : decimal k ≤ 9

pub is_keyed : (g k : List ℕ) → in_form (Digits 10) g ≡ true → in_form (Number 1 1 9) k ≡ true → Keyed g k
unfolding is_number
is_keyed g k p q =
    let n = and_second (leb 1 10) (is_number 1 1 9 k) q in
    let range = leb 1 (decimal k) && leb (decimal k) 9 in
    let some = leb-true 1 (length k) (and_first (leb 1 (length k)) (leb (length k) 1 && (are_all Digit k && (is_unpadded k && range))) n) in
    let short = number_short 1 1 9 k n in
    let tail = and_second (leb 1 (length k)) (leb (length k) 1 && (are_all Digit k && (is_unpadded k && range))) n in
    let right = and_second (is_unpadded k) range (and_second (are_all Digit k) (is_unpadded k && range) (and_second (leb (length k) 1) (are_all Digit k && (is_unpadded k && range)) tail)) in
    record {
      group_long = eqb-true (length g) 10 (and_first (eqb (length g) 10) (are_all Digit g) p);
      group_digits = and_second (eqb (length g) 10) (are_all Digit g) p;
      revision_long = omega arith;
      revision_digits = number_digits 1 1 9 k n;
      revision_least = leb-true 1 (decimal k) (and_first (leb 1 (decimal k)) (leb (decimal k) 9) right);
      revision_most = number_most 1 1 9 k n;
    }

pub filled_keyed : (r : RegisterRow) → is_register_sound r ≡ true → is_vacant r ≡ false → Keyed (attribute_of SGC r) (attribute_of KRN r)
unfolding is_register_sound attribute_of table always
filled_keyed r e o =
    let s : is_stored r.card ≡ true = rw o at e in
    is_keyed _ _ (stored_in_form r.card s 12 (SGC, Required, Digits 10) _ refl) (stored_in_form r.card s 8 (KRN, Required, Number 1 1 9) _ refl)

-- the number of a row's key
pub free_number : (r : RegisterRow) → is_vacant r ≡ true → key_number r ≡ 0
unfolding key_number
free_number r o = rw o refl

pub filled_number : (r : RegisterRow) → is_vacant r ≡ false → Keyed (attribute_of SGC r) (attribute_of KRN r) → key_number r ≡ decimal (attribute_of SGC r) * 10 + decimal (attribute_of KRN r)
unfolding key_number
filled_number r o w = rw (o, take_all 10 (attribute_of SGC r) (omega (arith, w.group_long)), take_all 1 (attribute_of KRN r) (omega (arith, w.revision_long))) refl

pub filled_some : (r : RegisterRow) → is_vacant r ≡ false → Keyed (attribute_of SGC r) (attribute_of KRN r) → eqb (key_number r) 0 ≡ false
filled_some r o w = ne_eqb (key_number r) 0 (λ e. omega (arith, e, filled_number r o w, w.revision_least))

-- keys compared byte by byte and by number
module _ (g k g' k' : List ℕ) (w : Keyed g k) (w' : Keyed g' k') where
  pub same_bytes_number : (same_bytes g' g && same_bytes k' k) ≡ eqb (decimal g * 10 + decimal k) (decimal g' * 10 + decimal k')
  same_bytes_number = go (same_bytes g' g && same_bytes k' k) refl
    where
      go : (t : Bool) → (same_bytes g' g && same_bytes k' k) ≡ t → t ≡ eqb (decimal g * 10 + decimal k) (decimal g' * 10 + decimal k')
      go true o =
          let p : g' ≡ g = same_equal g' g (and_first (same_bytes g' g) (same_bytes k' k) o) in
          let q : k' ≡ k = same_equal k' k (and_second (same_bytes g' g) (same_bytes k' k) o) in
          sym (eq-eqb (decimal g * 10 + decimal k) (decimal g' * 10 + decimal k') (rw (p, q) refl))
      go false o = sym (ne_eqb (decimal g * 10 + decimal k) (decimal g' * 10 + decimal k') other)
        where
          other : decimal g * 10 + decimal k ≡ decimal g' * 10 + decimal k' → ⊥
          other e =
              let a : decimal k ≡ decimal k' = omega (arith, e, w.revision_most, w'.revision_most) in
              let b : decimal g ≡ decimal g' = omega (arith, e, a) in
              let p = digits_say g g' 0 0 (w.group_long ∙ sym w'.group_long) w.group_digits w'.group_digits b in
              let q = digits_say k k' 0 0 (w.revision_long ∙ sym w'.revision_long) w.revision_digits w'.revision_digits a in
              let y : (same_bytes g' g && same_bytes k' k) ≡ true = rw (p.0, q.0, same_self g') (same_self k') in
              nope (cc)

-- THE LAWS. Two sound rows hold one key where their numbers are one,
pub same_key_number : (a b : RegisterRow) → is_register_sound a ≡ true → is_register_sound b ≡ true → is_same_key a b ≡ is_same_number (key_number a) (key_number b)
unfolding is_same_key is_key_of is_same_number
same_key_number a b h i = go (is_vacant a) (is_vacant b) refl refl
  where
    go : (s t : Bool) → is_vacant a ≡ s → is_vacant b ≡ t
        → (not s && (not t && (same_bytes (attribute_of SGC b) (attribute_of SGC a) && same_bytes (attribute_of KRN b) (attribute_of KRN a)))) ≡ (not (eqb (key_number a) 0) && eqb (key_number a) (key_number b))
    go true t o q = rw (free_number a o) refl
    go false true o q =
        let w = filled_keyed a h o in
        rw (free_number b q, filled_some a o w) refl
    go false false o q =
        let w = filled_keyed a h o in
        let v = filled_keyed b i q in
        rw (filled_some a o w, filled_number a o w, filled_number b q v) (same_bytes_number (attribute_of SGC a) (attribute_of KRN a) (attribute_of SGC b) (attribute_of KRN b) w v)

-- and no two do where no two of the numbers are one
pub distinct_keys : (l : List RegisterRow) → every_row is_register_sound l ≡ true → distinct_rows is_same_key l ≡ distinct_rows is_same_number (map key_number l)
distinct_keys l e = distinct_read is_register_sound key_number is_same_key is_same_number same_key_number l e
