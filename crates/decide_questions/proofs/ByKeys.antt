-- What the code has found by the keys of the registers it knows of any registers that have them: so of those at hand.
use mathlib.Core.Path.{◌≡◌}
use mathlib.Core.Bool.{Bool}
use mathlib.Core.List.{List}
use Prim.Native.Nat.{ℕ}
use Rattle.field_values.specs.Values.{Value}
use Rattle.row_types.specs.Places.{place_of}
use Rattle.row_types.specs.declared.Place.{Place}
use Rattle.row_types.specs.declared.RegisterRow.{RegisterRow}
use Rattle.row_types.specs.declared.Supplement.{Supplement}
use Rattle.row_index.specs.Found.{AreKeys}
use Rattle.engine.specs.Requests.{card_in}
use Rattle.engine.specs.Questions.{store_place, is_filled, first_no}
use Rattle.engine.specs.Answers.{card_place}
use Rattle.engine.specs.Decisions.{decided}
use Rattle.engine.specs.declared.Decision.{Decision}
use Rattle.engine.specs.declared.Decision.TheVariants.{Load}
use Rattle.decide_questions.specs.CommandQuestions.{store_questions, register_asked}
use Rattle.decide_questions.specs.declared.Asked.{Asked}

module _ (keys : List ℕ) (R : List RegisterRow) (w : AreKeys keys R) where
  pub filled_by : (n : ℕ) (t : Bool) → ((Q : List RegisterRow) → AreKeys keys Q → t ≡ is_filled n Q) → t ≡ is_filled n R
  filled_by n t all = all R w

  pub asked_by : (vs : List Value) (a : Asked) → ((Q : List RegisterRow) → AreKeys keys Q → a ≡ register_asked Q vs) → a ≡ register_asked R vs
  asked_by vs a all = all R w

  pub placed_by : (g k : List ℕ) (p : Place) → ((Q : List RegisterRow) → AreKeys keys Q → place_of p ≡ store_place g k Q) → place_of p ≡ store_place g k R
  placed_by g k p all = all R w

  pub stored_by : (x : Supplement) (card r : List ℕ) (d : Decision) → ((Q : List RegisterRow) → AreKeys keys Q → d ≡ decided (first_no (store_questions Q x card)) (Load (card_place card Q)))
      → card ≡ card_in r → d ≡ decided (first_no (store_questions R x (card_in r))) (Load (card_place (card_in r) R))
  stored_by x card r d all e = rw e at (all R w)

pub ruleset by_keys = (filled_by, asked_by, placed_by, stored_by)
