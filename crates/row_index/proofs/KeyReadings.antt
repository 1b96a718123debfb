-- Sound registers searched by the numbers of their keys: a key stands where its number does, and 0 where a row is free.
use mathlib.Core.Path.{◌≡◌, refl, sym, ap, ◌∙◌}
use mathlib.Core.Bool.{Bool, true, false, not, ◌&&◌}
use mathlib.Core.List.{List}
use Prim.Native.Nat.{ℕ, ◌+◌, ◌*◌, ◌<◌}
use native.Mathlib.Omega.{arith}
use lib.ListN.{length, get_or, length-map}
use borrow.Author.Tests.{eq-eqb, eqb-true, ne_eqb}
use Rattle.byte_strings.specs.Strings.{same_bytes}
use Rattle.byte_strings.proofs.Flags.{nope}
use Rattle.text_decimals.specs.Decimals.{decimal}
use Rattle.card_attributes.specs.Table.{SGC, KRN}
use Rattle.row_types.specs.Lists.{first_from}
use Rattle.row_types.specs.Registers.{is_vacant, attribute_of, is_key_of, is_register_sound}
use Rattle.row_types.specs.Index.{key_number}
use Rattle.row_types.specs.declared.RegisterRow.{RegisterRow}
use Rattle.row_index.specs.Found.{is_the, AreKeys}
use Rattle.row_index.proofs.Readings.{first_read, at_read}
use Rattle.row_index.proofs.KeyLaws.{Keyed, filled_keyed, free_number, filled_number, filled_some, same_bytes_number}

the_turned : (a b : ℕ) → is_the a b ≡ is_the b a
the_turned a b = go (is_the b a) refl
  where
    go : (t : Bool) → is_the b a ≡ t → is_the a b ≡ t
    go true e = eq-eqb b a (sym (eqb-true a b e))
    go false e = ne_eqb b a (λ z. nope (let y = eq-eqb a b (sym z) in cc))

-- one sound row
module _ (r : RegisterRow) (h : is_register_sound r ≡ true) where
  pub vacant_number : is_vacant r ≡ is_the 0 (key_number r)
  vacant_number = go (is_vacant r) refl
    where
      go : (t : Bool) → is_vacant r ≡ t → t ≡ is_the 0 (key_number r)
      go true o = rw (free_number r o) refl
      go false o = sym (filled_some r o (filled_keyed r h o))

  pub key_number_lem : (g k : List ℕ) → Keyed g k → is_key_of g k r ≡ is_the (decimal g * 10 + decimal k) (key_number r)
  unfolding is_key_of
  key_number_lem g k w = go (is_vacant r) refl
    where
      go : (t : Bool) → is_vacant r ≡ t → (not t && (same_bytes (attribute_of SGC r) g && same_bytes (attribute_of KRN r) k)) ≡ is_the (decimal g * 10 + decimal k) (key_number r)
      go true o = rw (free_number r o) (sym (ne_eqb 0 (decimal g * 10 + decimal k) (λ z. omega (arith, z, w.revision_least))))
      go false o =
          let v = filled_keyed r h o in
          rw (filled_number r o v) (same_bytes_number g k (attribute_of SGC r) (attribute_of KRN r) w v ∙ the_turned (decimal (attribute_of SGC r) * 10 + decimal (attribute_of KRN r)) (decimal g * 10 + decimal k))

-- THE LAWS. By the keys, a register that holds a key and the lowest free one are found,
module _ (keys : List ℕ) (R : List RegisterRow) (w : AreKeys keys R) where
  pub key_found : (g k : List ℕ) → Keyed g k → first_from (is_key_of g k) 0 R ≡ first_from (is_the (decimal g * 10 + decimal k)) 0 keys
  key_found g k v =
      rw w.1 (first_read is_register_sound key_number (is_key_of g k) (is_the (decimal g * 10 + decimal k)) (λ r h. key_number_lem r h g k v) 0 R w.0)

  pub vacant_found : first_from is_vacant 0 R ≡ first_from (is_the 0) 0 keys
  vacant_found = rw w.1 (first_read is_register_sound key_number is_vacant (is_the 0) vacant_number 0 R w.0)

  -- there are as many keys as registers, and each tells whether its register is free
  pub keys_counted : length R ≡ length keys
  keys_counted = sym (ap length w.1 ∙ length-map R key_number)

  pub vacant_at : (i : ℕ) → i < length R → (d : RegisterRow) → is_vacant (get_or R i d) ≡ is_the 0 (get_or keys i 0)
  vacant_at i k d = rw w.1 (at_read is_register_sound key_number is_vacant (is_the 0) vacant_number R w.0 i k d 0)
