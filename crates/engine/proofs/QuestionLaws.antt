-- The first no decides: what is known where every question is a yes, and where one is a no.
use mathlib.Core.Path.{◌≡◌, refl}
use mathlib.Core.Logic.{◌⊎◌, inl, inr}
use mathlib.Core.Bool.{Bool, true, false, ◌&&◌}
use Prim.Native.Nat.{ℕ}
use mathlib.Core.List.{List, [], ◌∷◌, ◌++◌, map}
use mathlib.Core.Option.{none, some}
use Rattle.byte_strings.proofs.Flags.{nope, and_first, and_second}
use Rattle.engine.specs.Refusals.{refusal}
use Rattle.engine.specs.Questions.{Call, Question, ◌otherwise◌, questions, first_no}
use Rattle.engine.specs.declared.Refusal.{Refusal}

-- the number of the refusal where the answer is no
abbrev pub number_of : Question → ℕ
number_of (b otherwise r) = (refusal r).number

-- whatever the call, the questions are asked in the sequence of their refusals' numbers, each once
pub in_order : (x : Call) → map number_of (questions x) ≡ (1 ∷ 2 ∷ 3 ∷ 4 ∷ 5 ∷ 6 ∷ 7 ∷ 8 ∷ 9 ∷ 10 ∷ 11 ∷ 12 ∷ 13 ∷ 14 ∷ 15 ∷ 16 ∷ 17 ∷ 18 ∷ 19 ∷ 20 ∷ 21 ∷ [])
unfolding questions
in_order x = refl

-- every question is a yes
abbrev pub AllYes : List Question → Type 0
AllYes [] = Unit {0}
AllYes ((b otherwise r) ∷ qs) = (b ≡ true) × AllYes qs

pub all_yes : (qs : List Question) → first_no qs ≡ none → AllYes qs
all_yes [] e = tt
all_yes ((true otherwise r) ∷ qs) e = (refl, all_yes qs e)
all_yes ((false otherwise r) ∷ qs) e = nope (cc)

-- a no in the first part, or in the second after a first part of yeses
pub no_append : (ps qs : List Question) (r : Refusal) → first_no (ps ++ qs) ≡ some r → (first_no ps ≡ some r) ⊎ ((first_no ps ≡ none) × (first_no qs ≡ some r))
no_append [] qs r e = inr (refl, e)
no_append ((true otherwise q) ∷ ps) qs r e = no_append ps qs r e
no_append ((false otherwise q) ∷ ps) qs r e = inl e

-- the refusal is one of those listed
abbrev pub all_refusals : (Refusal → Bool) → List Question → Bool
all_refusals f [] = true
all_refusals f ((b otherwise r) ∷ qs) = f r && all_refusals f qs

pub no_listed : (f : Refusal → Bool) (qs : List Question) (r : Refusal) → all_refusals f qs ≡ true → first_no qs ≡ some r → f r ≡ true
no_listed f [] r h e = nope (cc)
no_listed f ((true otherwise q) ∷ qs) r h e = no_listed f qs r (and_second (f q) (all_refusals f qs) h) e
no_listed f ((false otherwise q) ∷ qs) r h e = let z : q ≡ r = cc in rw (← z) (and_first (f q) (all_refusals f qs) h)
