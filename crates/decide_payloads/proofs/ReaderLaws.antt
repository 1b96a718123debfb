-- The cases of the readers, each with what the code knows where it answers as premises.
use mathlib.Core.Path.{◌≡◌, refl, sym, ap, ◌∙◌}
use mathlib.Core.Bool.{true, false}
use mathlib.Core.List.{List, [], ◌∷◌}
use mathlib.Core.Logic.{◌⊎◌, ⊎_elim}
use mathlib.Core.Option.{none, some}
use Prim.Native.Nat.{ℕ, ◌-◌, ◌≤◌, ◌<◌}
use native.Mathlib.Omega.{arith}
use lib.Dec.{eqb}
use lib.ListN.{length, take, drop}
use denote.Enum.Declared.{tag_of}
use borrow.Author.Tests.{eq-eqb, ne_eqb}
use Rattle.byte_strings.proofs.Flags.{nope}
use Rattle.byte_strings.proofs.Below.{below_or}
use Rattle.field_values.specs.Values.{Value, number, string, date, octets, bad, values_of, first, value_at, next_at}
use Rattle.field_values.specs.Bounds.{field_value}
use Rattle.field_values.specs.declared.Field.{Field}
use Rattle.field_values.specs.declared.Field.TheVariants as code
use Rattle.field_values.specs.contracts.Field.{the_type}
use Rattle.field_reader.specs.Reading.{alone, last_at}
use Rattle.field_reader.proofs.ValueLaws.{values_next, values_ended, values_left}
use Rattle.message_commands.specs.declared.Command.TheVariants.{RS, KL, KF, KD}
use Rattle.engine.specs.Requests.{are_fields_of}
use Rattle.decide_payloads.specs.Payloads.{text_in, number_in, first_text_in, second_text_in}

-- has_no_field: no field is left exactly where the payload ends
is_empty : (vs : List Value) → vs ≡ [] → are_fields_of RS vs ≡ true
unfolding are_fields_of
is_empty vs e = rw e

not_empty : (vs : List Value) → (vs ≡ [] → ⊥) → are_fields_of RS vs ≡ false
unfolding are_fields_of
not_empty [] o = absurd (o refl)
not_empty (v ∷ vs) o = refl

pub by_length : (s : List ℕ) → eqb (length s) 0 ≡ are_fields_of RS (values_of s)
by_length s =
    ⊎_elim (λ (h : 0 < length s). ne_eqb (length s) 0 (λ e. omega arith) ∙ sym (not_empty (values_of s) (values_left s 0 h)))
    (λ (h : length s ≤ 0). eq-eqb (length s) 0 (omega arith) ∙ sym (is_empty (values_of s) (values_ended s 0 h)))
    (below_or 0 (length s))

-- a list whose only field is v
sole : (v : Value) (vs : List Value) → v ≡ alone vs → (v ≡ bad → ⊥) → vs ≡ v ∷ []
sole v [] e o = absurd (o e)
sole v (w ∷ []) e o = ap (λ (x : Value). x ∷ []) (sym e)
sole v (w ∷ x ∷ vs) e o = absurd (o e)

-- more than one field
followed : (v w : Value) (vs : List Value) → (are_fields_of KF (v ∷ w ∷ vs) ≡ false) × (are_fields_of KD (v ∷ w ∷ vs) ≡ false)
unfolding are_fields_of
followed (number n) w vs = (refl, refl)
followed (string v) w vs = (refl, refl)
followed (date v) w vs = (refl, refl)
followed (octets v) w vs = (refl, refl)
followed bad w vs = (refl, refl)

-- the tags of a field that is not a string, and of one that is not a number
abbrev NotText : Field → Type 0
NotText f = (tag_of the_type f ≡ 0) ⊎ ((tag_of the_type f ≡ 2) ⊎ ((tag_of the_type f ≡ 3) ⊎ (tag_of the_type f ≡ 4)))

abbrev NotNumber : Field → Type 0
NotNumber f = (tag_of the_type f ≡ 1) ⊎ ((tag_of the_type f ≡ 2) ⊎ ((tag_of the_type f ≡ 3) ⊎ (tag_of the_type f ≡ 4)))

is_text_lem : (a b : ℕ) → NotText (code.Text a b) → ⊥
is_text_lem a b k = ⊎_elim (λ (p : 1 ≡ 0). omega arith) (λ l. ⊎_elim (λ (p : 1 ≡ 2). omega arith) (λ m. ⊎_elim (λ (p : 1 ≡ 3). omega arith) (λ (p : 1 ≡ 4). omega arith) m) l) k

is_number : (n : ℕ) → NotNumber (code.Number n) → ⊥
is_number n k = ⊎_elim (λ (p : 0 ≡ 1). omega arith) (λ l. ⊎_elim (λ (p : 0 ≡ 2). omega arith) (λ m. ⊎_elim (λ (p : 0 ≡ 3). omega arith) (λ (p : 0 ≡ 4). omega arith) m) l) k

-- an only field, and a first field, of another type
module _ (s : List ℕ) where
  not_text : (f : Field) (vs : List Value) → field_value s f ≡ alone vs → NotText f → are_fields_of KF vs ≡ false
  unfolding are_fields_of
  not_text f [] e k = refl
  not_text f (v ∷ w ∷ vs) e k = (followed v w vs).0
  not_text (code.Number n) (v ∷ []) e k = rw (← e)
  not_text (code.Text a b) (v ∷ []) e k = absurd (is_text_lem a b k)
  not_text (code.Date a b) (v ∷ []) e k = rw (← e)
  not_text (code.Octets a b) (v ∷ []) e k = rw (← e)
  not_text code.Bad (v ∷ []) e k = rw (← e)

  not_number : (f : Field) (vs : List Value) → field_value s f ≡ alone vs → NotNumber f → are_fields_of KD vs ≡ false
  unfolding are_fields_of
  not_number f [] e k = refl
  not_number f (v ∷ w ∷ vs) e k = (followed v w vs).1
  not_number (code.Number n) (v ∷ []) e k = absurd (is_number n k)
  not_number (code.Text a b) (v ∷ []) e k = rw (← e)
  not_number (code.Date a b) (v ∷ []) e k = rw (← e)
  not_number (code.Octets a b) (v ∷ []) e k = rw (← e)
  not_number code.Bad (v ∷ []) e k = rw (← e)

  not_first : (f : Field) (vs : List Value) → field_value s f ≡ first vs → NotText f → are_fields_of KL vs ≡ false
  unfolding are_fields_of
  not_first f [] e k = refl
  not_first (code.Number n) (v ∷ vs) e k = rw (← e)
  not_first (code.Text a b) (v ∷ vs) e k = absurd (is_text_lem a b k)
  not_first (code.Date a b) (v ∷ vs) e k = rw (← e)
  not_first (code.Octets a b) (v ∷ vs) e k = rw (← e)
  not_first code.Bad (v ∷ vs) e k = rw (← e)

-- one_text
module _ (s : List ℕ) (f : Field) (e : field_value s f ≡ alone (values_of s)) where
  pub no_text : NotText f → none ≡ text_in (values_of s)
  no_text k = rw (not_text s f (values_of s) e k)

  pub text_alone : (a b : ℕ) → f ≡ code.Text a b → some (take (b - a) (drop a s)) ≡ text_in (values_of s)
  unfolding are_fields_of
  text_alone a b q = rw (sole (string (take (b - a) (drop a s))) (values_of s) (ap (field_value s) (sym q) ∙ e) (λ h. nope (cc)))

-- one_number
module _ (s : List ℕ) (f : Field) (e : field_value s f ≡ alone (values_of s)) where
  pub no_number : NotNumber f → none ≡ number_in (values_of s)
  no_number k = rw (not_number s f (values_of s) e k)

  pub number_alone : (n : ℕ) → f ≡ code.Number n → some n ≡ number_in (values_of s)
  unfolding are_fields_of
  number_alone n q = rw (sole (number n) (values_of s) (ap (field_value s) (sym q) ∙ e) (λ h. nope (cc)))

-- two_texts
module _ (s : List ℕ) (f : Field) (e : field_value s f ≡ value_at s 0) where
  module _ (k : NotText f) where
    pub no_first : none ≡ first_text_in (values_of s)
    unfolding value_at
    no_first = rw (not_first s f (values_of s) e k)

    pub no_first_second : none ≡ second_text_in (values_of s)
    unfolding value_at
    no_first_second = rw (not_first s f (values_of s) e k)

  module _ (a b : ℕ) (q : f ≡ code.Text a b) (g : Field) (r : field_value s g ≡ last_at s (next_at s 0)) where
    abbrev left : List Value
    left = values_of (drop (next_at s 0) s)

    -- the first, and those after it
    parted : values_of s ≡ string (take (b - a) (drop a s)) ∷ left
    parted = let p : string (take (b - a) (drop a s)) ≡ value_at s 0 = ap (field_value s) (sym q) ∙ e in values_next s 0 (λ h. nope (cc)) ∙ rw (← p)

    of_rest : are_fields_of KL (values_of s) ≡ are_fields_of KF left
    unfolding are_fields_of
    of_rest = rw parted

    module _ (k : NotText g) where
      no_second : are_fields_of KL (values_of s) ≡ false
      unfolding last_at
      no_second = of_rest ∙ not_text s g left r k

      pub first_alone : none ≡ first_text_in (values_of s)
      first_alone = rw no_second

      pub first_alone_second : none ≡ second_text_in (values_of s)
      first_alone_second = rw no_second

    module _ (c d : ℕ) (h : g ≡ code.Text c d) where
      both : values_of s ≡ string (take (b - a) (drop a s)) ∷ string (take (d - c) (drop c s)) ∷ []
      unfolding last_at
      both = parted ∙ rw (sole (string (take (d - c) (drop c s))) left (ap (field_value s) (sym h) ∙ r) (λ o. nope (cc)))

      pub first_of_two : some (take (b - a) (drop a s)) ≡ first_text_in (values_of s)
      unfolding are_fields_of
      first_of_two = rw both

      pub second_of_two : some (take (d - c) (drop c s)) ≡ second_text_in (values_of s)
      unfolding are_fields_of
      second_of_two = rw both
