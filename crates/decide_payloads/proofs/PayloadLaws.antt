-- What an answer of the readers says of the fields: there is one exactly where they are those of the command.
use mathlib.Core.Path.{◌≡◌, refl}
use mathlib.Core.Bool.{Bool, true, false, cond}
use mathlib.Core.List.{List, [], ◌∷◌}
use mathlib.Core.Option.{none, some, some-injective}
use Prim.Native.Nat.{ℕ, ◌-◌}
use lib.ListN.{take, drop}
use Rattle.byte_strings.proofs.Flags.{nope}
use Rattle.byte_bounds.specs.Bounds.{bytes_in}
use Rattle.field_values.specs.Values.{Value}
use Rattle.card_entries.specs.Entries.{between}
use Rattle.card_entries.specs.declared.Found.{Found}
use Rattle.card_entries.specs.declared.Found.TheVariants as found
use Rattle.message_commands.specs.declared.Command.{Command}
use Rattle.message_commands.specs.declared.Command.TheVariants.{RS, KC, KR, KL, KF, KX, KD, GA, GL, KQ, Unknown}
use Rattle.engine.specs.Requests.{is_among, are_fields_of, first_text, second_text, register_in}
use Rattle.decide_payloads.specs.Payloads.{text_in, number_in, first_text_in, second_text_in, count_in, first_between, second_between}
use Rattle.decide_payloads.specs.declared.Count.{Count}
use Rattle.decide_payloads.specs.declared.Count.TheVariants as count
use Rattle.decide_payloads.specs.declared.Texts.{Texts}
use Rattle.decide_payloads.specs.declared.TwoTexts.{TwoTexts}
use Rattle.decide_payloads.specs.declared.TwoTexts.TheVariants as texts

-- a value that a test provides: there is one exactly where the test says so
module _ {A : Type 0} (b : Bool) where
  pub some_of : (v w : A) → some v ≡ cond b (some w) none → (b ≡ true) × (v ≡ w)
  some_of v w = go b
    where
      go : (t : Bool) → some v ≡ cond t (some w) none → (t ≡ true) × (v ≡ w)
      go true e = (refl, some-injective v w e)
      go false e = nope (cc)

  pub none_of : (w : A) → none ≡ cond b (some w) none → b ≡ false
  none_of w = go b
    where
      go : (t : Bool) → none ≡ cond t (some w) none → t ≡ false
      go true e = nope (cc)
      go false e = refl

-- commands whose fields are of the same types
pub text_fields : (c : Command) (vs : List Value) → is_among c (KC ∷ KR ∷ KF ∷ KX ∷ KQ ∷ []) ≡ true → are_fields_of c vs ≡ are_fields_of KF vs
unfolding are_fields_of
text_fields RS vs e = nope (cc)
text_fields KC vs e = refl
text_fields KR vs e = refl
text_fields KL vs e = nope (cc)
text_fields KF vs e = refl
text_fields KX vs e = refl
text_fields KD vs e = nope (cc)
text_fields GA vs e = nope (cc)
text_fields GL vs e = nope (cc)
text_fields KQ vs e = refl
text_fields Unknown vs e = nope (cc)

pub number_fields_lem : (vs : List Value) → are_fields_of GA vs ≡ are_fields_of KD vs
unfolding are_fields_of
number_fields_lem vs = refl

pub no_fields : (vs : List Value) → are_fields_of GL vs ≡ are_fields_of RS vs
unfolding are_fields_of
no_fields vs = refl

-- what an answer says of the fields
module _ (p : List ℕ) (vs : List Value) (f : Found) (e : between p f ≡ text_in vs) where
  pub text_absent : f ≡ found.Nothing → are_fields_of KF vs ≡ false
  text_absent q = none_of (are_fields_of KF vs) (first_text vs) (rw q at e)

  module _ (a b : ℕ) (q : f ≡ found.At a b) where
    text_both : (are_fields_of KF vs ≡ true) × (take (b - a) (drop a p) ≡ first_text vs)
    text_both = some_of (are_fields_of KF vs) (take (b - a) (drop a p)) (first_text vs) (rw q at e)

    pub text_present : are_fields_of KF vs ≡ true
    text_present = text_both.0

    pub text_between : take (b - a) (drop a p) ≡ first_text vs
    text_between = text_both.1

module _ (vs : List Value) (f : Count) (e : count_in f ≡ number_in vs) where
  pub number_absent : f ≡ count.Nothing → are_fields_of KD vs ≡ false
  number_absent q = none_of (are_fields_of KD vs) (register_in vs) (rw q at e)

  module _ (n : ℕ) (q : f ≡ count.Is n) where
    number_both : (are_fields_of KD vs ≡ true) × (n ≡ register_in vs)
    number_both = some_of (are_fields_of KD vs) n (register_in vs) (rw q at e)

    pub number_present : are_fields_of KD vs ≡ true
    number_present = number_both.0

    pub number_is : n ≡ register_in vs
    number_is = number_both.1

module _ (p : List ℕ) (vs : List Value) (f : TwoTexts) where
  pub texts_absent : first_between p f ≡ first_text_in vs → f ≡ texts.Nothing → are_fields_of KL vs ≡ false
  texts_absent e q = none_of (are_fields_of KL vs) (first_text vs) (rw q at e)

  module _ (t : Texts) (q : f ≡ texts.At t) where
    first_both : first_between p f ≡ first_text_in vs → (are_fields_of KL vs ≡ true) × (bytes_in p t.first ≡ first_text vs)
    first_both e = some_of (are_fields_of KL vs) (bytes_in p t.first) (first_text vs) (rw q at e)

    pub texts_present : first_between p f ≡ first_text_in vs → are_fields_of KL vs ≡ true
    texts_present e = (first_both e).0

    pub first_between_lem : first_between p f ≡ first_text_in vs → bytes_in p t.first ≡ first_text vs
    first_between_lem e = (first_both e).1

    pub second_between_lem : second_between p f ≡ second_text_in vs → bytes_in p t.second ≡ second_text vs
    second_between_lem e = (some_of (are_fields_of KL vs) (bytes_in p t.second) (second_text vs) (rw q at e)).1
