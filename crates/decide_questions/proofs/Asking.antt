-- Questions are asked in turn: each law is one question, answered as the code answers it.
use mathlib.Core.Path.{◌≡◌, refl, sym, ap, ◌∙◌}
use mathlib.Core.Bool.{Bool, true, false, not}
use mathlib.Core.List.{List, [], ◌∷◌, ◌++◌}
use mathlib.Core.Option.{Option}
use Prim.Native.Nat.{ℕ}
use borrow.Author.Tests.{not-true, not-false}
use Rattle.row_types.specs.Places.{place_of}
use Rattle.row_types.specs.declared.Place.{Place}
use Rattle.row_types.specs.declared.Place.TheVariants.{At, Nothing}
use Rattle.row_types.specs.declared.RegisterRow.{RegisterRow}
use Rattle.engine.specs.Questions.{Question, ◌otherwise◌, place_in, is_place, store_place, group_in, revision_in, first_no}
use Rattle.engine.specs.Answers.{card_place}
use Rattle.engine.specs.Decisions.{decided}
use Rattle.engine.specs.declared.Refusal.{Refusal}
use Rattle.engine.specs.declared.Decision.{Decision}
use Rattle.engine.specs.declared.Decision.TheVariants.{Refuse, Start, Load}
use Rattle.decide_questions.specs.CommandQuestions.{asked_of, done_at}
use Rattle.decide_questions.specs.declared.Asked.{Asked}
use Rattle.decide_questions.specs.declared.Asked.TheVariants as asked

module _ (r : Refusal) (qs : List Question) (d : Decision) where
  -- a test of the code
  module _ (b t : Bool) (e : t ≡ b) where
    pub ask_no : not t ≡ true → Refuse r ≡ decided (first_no ((b otherwise r) ∷ qs)) d
    ask_no o = sym (rw (← e, not-true t o))

    pub ask_yes : not t ≡ false → (a : Decision) → a ≡ decided (first_no qs) d → a ≡ decided (first_no ((b otherwise r) ∷ qs)) d
    ask_yes o a p = p ∙ sym (rw (← e, not-false t o))

    pub ask_held : t ≡ true → (a : Decision) → a ≡ decided (first_no qs) d → a ≡ decided (first_no ((b otherwise r) ∷ qs)) d
    ask_held o a p = p ∙ sym (rw (← e, o))

  -- a search
  module _ (o : Option ℕ) (p : Place) (e : place_of p ≡ o) where
    pub ask_unplaced : p ≡ Nothing → Refuse r ≡ decided (first_no ((is_place o otherwise r) ∷ qs)) d
    ask_unplaced z = sym (rw (← e, z))

    pub ask_placed : (k : ℕ) → p ≡ At k → (a : Decision) → a ≡ decided (first_no qs) d → a ≡ decided (first_no ((is_place o otherwise r) ∷ qs)) d
    ask_placed k z a w = w ∙ sym (rw (← e, z))

-- the place that was found
module _ {A : Type 0} (rows : List A) (o : Option ℕ) (p : Place) (e : place_of p ≡ o) (k : ℕ) (z : p ≡ At k) where
  found_at : k ≡ place_in rows o
  found_at = sym (rw (← e, z))

  pub start_at : Start k ≡ Start (place_in rows o)
  start_at = ap Start found_at

-- where a key is stored
pub load_at : (card : List ℕ) (rows : List RegisterRow) (p : Place) → place_of p ≡ store_place (group_in card) (revision_in card) rows → (k : ℕ) → p ≡ At k → Load k ≡ Load (card_place card rows)
unfolding card_place
load_at card rows p e k z = ap Load (sym (rw (← e, z)))

pub ruleset asking = (ask_no, ask_yes, ask_unplaced, ask_placed, start_at, load_at)

-- the questions about a row, asked apart from those after them
pub asked_apart : (ps qs : List Question) (f : ℕ → Decision) (k : ℕ) → done_at (λ (i : ℕ). decided (first_no qs) (f i)) (asked_of (first_no ps) k) ≡ decided (first_no (ps ++ qs)) (f k)
asked_apart [] qs f k = refl
asked_apart ((true otherwise r) ∷ ps) qs f k = asked_apart ps qs f k
asked_apart ((false otherwise r) ∷ ps) qs f k = refl

-- what was asked, as the code has it: a no, or the place
module _ (f : ℕ → Decision) (a b : Asked) (e : a ≡ b) where
  pub done_not : (r : Refusal) → a ≡ asked.No r → Refuse r ≡ done_at f b
  done_not r z = sym (rw (← e, z))

  pub done_at_lem : (k : ℕ) → a ≡ asked.At k → (d : Decision) → d ≡ f k → d ≡ done_at f b
  done_at_lem k z d p = p ∙ sym (rw (← e, z))

pub ruleset done = (done_not, done_at_lem)
