-- A card read entry by entry, each after the name of the one before: the shape of the loop, and that it says the same.
use mathlib.Core.Path.{◌≡◌, refl, sym, ap, ◌∙◌}
use mathlib.Core.Bool.{Bool, true, false, ◌&&◌, and-false}
use mathlib.Core.List.{List, [], ◌∷◌, map}
use Prim.Native.Nat.{ℕ}
use native.Mathlib.Omega.{arith}
use lib.Dec.{ltb}
use borrow.Author.Tests.{lt-ltb, ltb-true}
use Rattle.byte_pieces.specs.Pieces.{is_ended}
use Rattle.card_entries.specs.Entries.{semicolon, entries, is_named, name_of}
use Rattle.card_entries.proofs.EntryLaws.{named_some, some_named}
use Rattle.card_incoming.specs.Incoming.{is_fitting, every, ascend, is_card}

-- the entries after the name `last`: names ascend, none twice, and values fit
abbrev pub fit_from : ℕ → List (List ℕ) → Bool
fit_from last [] = true
fit_from last (p ∷ ps) = ltb last (name_of p) && (is_fitting p && fit_from (name_of p) ps)

-- from here on: entries after the name `last`, and nothing else
unfoldable pub is_card_from : ℕ → List ℕ → Bool
is_card_from last card = is_ended semicolon card && fit_from last (entries card)

-- a name that is above another is one
above_named : (last : ℕ) (p : List ℕ) → ltb last (name_of p) ≡ true → is_named p ≡ true
above_named last p e = some_named p (omega (arith, ltb-true last (name_of p) e))

-- the tests of the first entry among those of the others
sorted : (l m f e a g : Bool) → (l ≡ true → m ≡ true) → (l && (f && (e && (a && g)))) ≡ ((m && e) && ((l && a) && (f && g)))
sorted false m f e a g h = sym (and-false (m && e))
sorted true m f e a g h = rw (h refl) (four f e a g)
  where
    four : (f e a g : Bool) → (f && (e && (a && g))) ≡ (e && (a && (f && g)))
    four true e a g = refl
    four false true true g = refl
    four false true false g = refl
    four false false a g = refl

fit_from_lem : (last : ℕ) (ps : List (List ℕ)) → fit_from last ps ≡ (every is_named ps && (ascend (last ∷ map name_of ps) && every is_fitting ps))
fit_from_lem last [] = refl
fit_from_lem last (p ∷ ps) =
    ap (λ (b : Bool). ltb last (name_of p) && (is_fitting p && b)) (fit_from_lem (name_of p) ps)
    ∙ sorted (ltb last (name_of p)) (is_named p) (is_fitting p) (every is_named ps) (ascend (name_of p ∷ map name_of ps)) (every is_fitting ps) (above_named last p)

-- every name is above 0
above_none : (ps : List (List ℕ)) (g : Bool) → (every is_named ps && (ascend (0 ∷ map name_of ps) && g)) ≡ (every is_named ps && (ascend (map name_of ps) && g))
above_none [] g = refl
above_none (p ∷ ps) g = go (is_named p) (every is_named ps) (ltb 0 (name_of p)) (ascend (name_of p ∷ map name_of ps)) (λ e. lt-ltb 0 (name_of p) (named_some p e))
  where
    go : (m e l a : Bool) → (m ≡ true → l ≡ true) → ((m && e) && ((l && a) && g)) ≡ ((m && e) && (a && g))
    go true e l a h = rw (h refl)
    go false e l a h = refl

-- THE LAW
pub card_from : (card : List ℕ) → is_card_from 0 card ≡ is_card card
unfolding is_card_from is_card
card_from card =
    ap (λ (b : Bool). is_ended semicolon card && b)
    (fit_from_lem 0 (entries card) ∙ above_none (entries card) (every is_fitting (entries card)))
