-- Questions 17 and 18 answered by the keys that question 3 found of the registers; R is any registers that have them.
use mathlib.Core.Path.{◌≡◌, refl, sym, ◌∙◌}
use mathlib.Core.Bool.{true, false, not}
use mathlib.Core.List.{List}
use mathlib.Core.Option.{some}
use Prim.Native.Nat.{ℕ, ◌+◌, ◌-◌, ◌*◌, ◌≤◌, ◌<◌}
use native.Mathlib.Omega.{arith}
use lib.ListN.{length, get_or, take}
use lib.Seq.{length-take-le, get_or-take}
use borrow.Author.Tests.{le-leb, lt-leb}
use Rattle.text_decimals.specs.Decimals.{decimal}
use Rattle.text_forms.specs.declared.Form.TheVariants.{Number, Digits}
use Rattle.card_attributes.specs.Table.{SGC, KRN, table, rows}
use Rattle.card_attributes.specs.declared.Presence.TheVariants.{Required}
use Rattle.card_incoming.specs.Incoming.{is_incoming}
use Rattle.card_laws.proofs.Incoming.{required_in_form}
use Rattle.row_types.specs.Lists.{first_from}
use Rattle.row_types.specs.Registers.{free_register}
use Rattle.row_types.specs.Places.{place_of}
use Rattle.row_types.specs.declared.Place.{Place}
use Rattle.row_types.specs.declared.Place.TheVariants.{At, Nothing}
use Rattle.row_types.specs.declared.RegisterRow.{RegisterRow}
use Rattle.row_index.specs.Found.{is_the, AreKeys}
use Rattle.row_index.proofs.KeyLaws.{Keyed, is_keyed}
use Rattle.row_index.proofs.KeyReadings.{key_found, vacant_found, keys_counted, vacant_at}
use Rattle.engine.specs.Questions.{store_place, group_in, revision_in, is_filled}

-- card_key: there are sixteen attributes
pub rows_long : (k : ℕ) → k < 16 → k < rows
rows_long k h = h

-- an incoming card in form has an SGC and a KRN in form
module _ (card : List ℕ) (s : is_incoming card ≡ true) where
  card_keyed : Keyed (group_in card) (revision_in card)
  unfolding table
  card_keyed = is_keyed _ _ (required_in_form card s 12 (SGC, Required, Digits 10) _ refl refl) (required_in_form card s 8 (KRN, Required, Number 1 1 9) _ refl refl)

  -- card_key
  pub group_short : (v : List ℕ) → v ≡ group_in card → length v ≤ 10
  group_short v e = rw e (omega (arith, card_keyed.group_long))

  pub revision_short : (v : List ℕ) → v ≡ revision_in card → length v ≤ 10
  revision_short v e = rw e (omega (arith, card_keyed.revision_long))

  -- store_place
  module _ (key : ℕ) (n : key ≡ decimal (group_in card) * 10 + decimal (revision_in card)) (keys : List ℕ) (p : Place) (e : place_of p ≡ first_from (is_the key) 0 keys)
      (R : List RegisterRow) (w : AreKeys keys R) where
    pub store_held : (i : ℕ) → p ≡ At i → some i ≡ store_place (group_in card) (revision_in card) R
    unfolding store_place
    store_held i o = sym (rw (key_found keys R w (group_in card) (revision_in card) card_keyed, ← n, ← e, o))

    pub store_vacant : p ≡ Nothing → (q : Place) → place_of q ≡ first_from (is_the 0) 0 keys → place_of q ≡ store_place (group_in card) (revision_in card) R
    unfolding store_place
    store_vacant o q z = z ∙ sym (rw (key_found keys R w (group_in card) (revision_in card) card_keyed, ← n, ← e, o, vacant_found keys R w))

pub key_of : (g k g' k' : List ℕ) → g ≡ g' → k ≡ k' → (a b : ℕ) → a ≡ decimal g → b ≡ decimal k → a * 10 + b ≡ decimal g' * 10 + decimal k'
key_of g k g' k' p q a b u v = rw (← p, ← q, ← u, ← v) refl

-- is_filled
pub filled_zero : (n : ℕ) → n < 1 → (R : List RegisterRow) → false ≡ is_filled n R
unfolding is_filled
filled_zero n h R = sym (rw (lt-leb 1 n h))

module _ (n m : ℕ) (keys : List ℕ) (z : length keys ≡ 32) (r : m ≤ 32) (h : 1 ≤ n) (R : List RegisterRow) (w : AreKeys (take m keys) R) where
  counted : length R ≡ m
  counted = keys_counted (take m keys) R w ∙ length-take-le m keys (omega arith)

  pub filled_beyond : m < n → false ≡ is_filled n R
  unfolding is_filled
  filled_beyond k = sym (rw (le-leb 1 n h, counted, lt-leb n m k))

  pub filled_row : n ≤ m → not (is_the 0 (get_or keys (n - 1) 0)) ≡ is_filled n R
  unfolding is_filled
  filled_row k =
      let y : get_or (take m keys) (n - 1) 0 ≡ get_or keys (n - 1) 0 = get_or-take m keys (n - 1) 0 (omega arith) in
      sym (rw (le-leb 1 n h, counted, le-leb n m k, vacant_at (take m keys) R w (n - 1) (omega (arith, counted)) free_register, y))
