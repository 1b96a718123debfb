-- SM?KX and SM?KF by the numbers of the registers' owners (document 01, Slots and registers: "just the registers whose
-- KSL is it"; document 02, N3).
use Rattle.std.specs.Prelude.{ℕ, cond, List, [], ◌∷◌, eqb, replicate}
use Rattle.row_types.specs.Registers.{closed_mark}

-- x at each place whose owner is the slot with the number k
abbrev pub cleared : {A : Type 0} → A → ℕ → List ℕ → List A → List A
cleared x k [] l = l
cleared x k (o ∷ os) [] = []
cleared x k (o ∷ os) (y ∷ ys) = cond (eqb o k) x y ∷ cleared x k os ys

-- SM?KX: the cards of its registers are cleared
abbrev pub freed : ℕ → List ℕ → List (List ℕ) → List (List ℕ)
freed k os cards = cleared (replicate 256 0) k os cards

-- SM?KX and SM?KF: its registers are closed
abbrev pub closed : ℕ → List ℕ → List ℕ → List ℕ
closed k os marks = cleared closed_mark k os marks

-- GL?RS: a register is closed
unfoldable pub closing : ℕ → ℕ
closing mark = closed_mark
