-- Questions 1 and 2, return by return; and what counts that are in range tell.
use mathlib.Core.Path.{◌≡◌, refl, sym, ◌∙◌}
use mathlib.Core.Bool.{Bool, true, false, not}
use Prim.Native.Nat.{ℕ, ◌≤◌, ◌<◌}
use native.Mathlib.Omega.{arith}
use lib.Dec.{leb}
use borrow.Author.Tests.{le-leb, lt-leb, leb-true, not-true, not-false}
use Rattle.byte_strings.proofs.Flags.{and_first, and_second}
use Rattle.engine.specs.Questions.{are_counts}
use Rattle.decide_counts.specs.First.{first_refusal}

-- the returns of are_counts
module _ (n m : ℕ) where
  pub no_slots : n < 1 → false ≡ are_counts n m
  unfolding are_counts
  no_slots h = sym (rw (lt-leb 1 n h))

  module _ (h : 1 ≤ n) where
    pub many_slots : 8 < n → false ≡ are_counts n m
    unfolding are_counts
    many_slots k = sym (rw (le-leb 1 n h, lt-leb n 8 k))

    module _ (k : n ≤ 8) where
      pub no_registers : m < 1 → false ≡ are_counts n m
      unfolding are_counts
      no_registers i = sym (rw (le-leb 1 n h, le-leb n 8 k, lt-leb 1 m i))

      pub registers_counted : 1 ≤ m → leb m 32 ≡ are_counts n m
      unfolding are_counts
      registers_counted i = sym (rw (le-leb 1 n h, le-leb n 8 k, le-leb 1 m i))

-- counts that are in range
module _ (n m : ℕ) (e : are_counts n m ≡ true) where
  pub slots_few : n ≤ 8
  unfolding are_counts
  slots_few = leb-true n 8 (and_first (leb n 8) _ (and_second (leb 1 n) _ e))

  pub registers_few : m ≤ 32
  unfolding are_counts
  registers_few = leb-true m 32 (and_second (leb 1 m) (leb m 32) (and_second (leb n 8) _ (and_second (leb 1 n) _ e)))

-- and where the code has found them so
module _ (n m : ℕ) (a : Bool) (p : a ≡ are_counts n m) (o : not a ≡ false) where
  in_range : are_counts n m ≡ true
  in_range = sym p ∙ not-false a o

  pub few_slots : n ≤ 8
  few_slots = slots_few n m in_range

  pub few_registers : m ≤ 32
  few_registers = registers_few n m in_range

-- the returns of first_refusal
module _ (n m room : ℕ) (a : Bool) (p : a ≡ are_counts n m) where
  pub first_counts : not a ≡ true → 1 ≡ first_refusal n m room
  first_counts o = sym (rw (← p, not-true a o))

  module _ (o : not a ≡ false) where
    pub first_room : room < 1024 → 2 ≡ first_refusal n m room
    first_room h = sym (rw (← p, not-false a o, lt-leb 1024 room h))

    pub first_yes : 1024 ≤ room → 0 ≡ first_refusal n m room
    first_yes h = sym (rw (← p, not-false a o, le-leb 1024 room h))

-- what the number f tells, as the code takes it apart
module _ (n m room f : ℕ) (p : f ≡ first_refusal n m room) where
  pub counts_no : f ≡ 1 → are_counts n m ≡ false
  counts_no h = go (are_counts n m) (leb 1024 room) refl refl
    where
      go : (a b : Bool) → are_counts n m ≡ a → leb 1024 room ≡ b → a ≡ false
      go true true w v = absurd (let z : f ≡ 0 = p ∙ rw (w, v) refl in omega (arith, h, z))
      go true false w v = absurd (let z : f ≡ 2 = p ∙ rw (w, v) refl in omega (arith, h, z))
      go false b w v = refl

  module _ (h : f ≡ 1 → ⊥) where
    pub counts_yes : are_counts n m ≡ true
    counts_yes = go (are_counts n m) refl
      where
        go : (a : Bool) → are_counts n m ≡ a → a ≡ true
        go true w = refl
        go false w = absurd (h (p ∙ rw w refl))

    pub slots_within : n ≤ 8
    slots_within = slots_few n m counts_yes

    pub registers_within : m ≤ 32
    registers_within = registers_few n m counts_yes

    pub room_no : f ≡ 2 → leb 1024 room ≡ false
    room_no k = go (leb 1024 room) refl
      where
        go : (b : Bool) → leb 1024 room ≡ b → b ≡ false
        go true w = absurd (let z : f ≡ 0 = p ∙ rw (counts_yes, w) refl in omega (arith, k, z))
        go false w = refl

    pub room_yes : (f ≡ 2 → ⊥) → leb 1024 room ≡ true
    room_yes k = go (leb 1024 room) refl
      where
        go : (b : Bool) → leb 1024 room ≡ b → b ≡ true
        go true w = refl
        go false w = absurd (k (p ∙ rw (counts_yes, w) refl))
