-- A rule of every attribute of the table, proved by one test that antt computes; and the table's end.
use mathlib.Core.Path.{◌≡◌, refl, ap, subst}
use mathlib.Core.Bool.{Bool, true, false, ◌&&◌}
use mathlib.Core.List.{List, [], ◌∷◌, ◌++◌, map}
use Prim.Native.Nat.{ℕ, zero, suc, ◌≤◌, ◌<◌}
use native.Mathlib.Omega.{arith}
use lib.Dec.{T, ltb, ltb→lt}
use lib.ListN.{length, take, drop, length-drop, drop_of_length-le}
use Rattle.byte_strings.proofs.Flags.{and_left, and_right}
use Rattle.card_attributes.specs.Table.{SGN, table, rows, always, name}
use Rattle.card_attributes.specs.declared.Attribute.{Attribute}

-- the test passes at each attribute
abbrev pub all_rows : (Attribute → Bool) → List Attribute → Bool
all_rows f [] = true
all_rows f (a ∷ rs) = f a && all_rows f rs

pub at_row : (f : Attribute → Bool) (rs : List Attribute) → T (all_rows f rs) → (k : ℕ) (a : Attribute) (r : List Attribute) → drop k rs ≡ a ∷ r → T (f a)
at_row f [] t k a r e = absurd (omega (arith, ap length e, length-drop k (as_rows [])))
  where
    as_rows : List Attribute → List Attribute
    as_rows l = l
at_row f (x ∷ rs) t zero a r e = let h : x ≡ a = cc in subst (λ (y : Attribute). T (f y)) h (and_left (f x) (all_rows f rs) t)
at_row f (x ∷ rs) t (suc k) a r e = at_row f rs (and_right (f x) (all_rows f rs) t) k a r e

pub both : (a b : Bool) → T a → T b → T (a && b)
both true b p q = q
both false b p q = p

pub all_rows_lem : (f : Attribute → Bool) (rs : List Attribute) → ((k : ℕ) (a : Attribute) (r : List Attribute) → drop k rs ≡ a ∷ r → T (f a)) → T (all_rows f rs)
all_rows_lem f [] h = tt
all_rows_lem f (a ∷ rs) h = both (f a) (all_rows f rs) (h 0 a rs refl) (all_rows_lem f rs (λ k b r e. h (suc k) b r e))

-- an attribute's name is no zero and has three bytes
module _ (k : ℕ) (a : Attribute) (r : List Attribute) (e : drop k table ≡ a ∷ r) where
  pub name_some : 0 < name a
  unfolding table
  name_some = ltb→lt 0 (name a) (at_row (λ (x : Attribute). ltb 0 (name x)) table tt k a r e)

  pub name_three : name a < 16777216
  unfolding table
  name_three = ltb→lt (name a) 16777216 (at_row (λ (x : Attribute). ltb (name x) 16777216) table tt k a r e)

-- every stored card has all but the fourteenth, SGN
pub all_but_sgn : (always ≡ take 13 table ++ drop 14 table) × (map name (take 1 (drop 13 table)) ≡ SGN ∷ [])
unfolding table always
all_but_sgn = (refl, refl)

pub table_end : (k : ℕ) → rows ≤ k → drop k table ≡ []
unfolding table
table_end k h = drop_of_length-le table h
