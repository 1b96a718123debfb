-- A part of a part, by its bounds.
use Prim.Native.Nat.{ℕ, ◌+◌, ◌-◌, ◌≤◌}
use mathlib.Core.Path.{◌≡◌, sym, ap, subst, ◌∙◌}
use mathlib.Core.List.{List}
use native.Mathlib.Omega.{arith}
use lib.ListN.{length, take, drop, length-drop}
use lib.Seq.{drop-drop, take-take, length-take-le}
use Rattle.byte_strings.proofs.StringLaws.{drop_take}
use Rattle.byte_bounds.specs.Bounds.{bytes_in, FitIn, Stands, inside}
use Rattle.byte_bounds.specs.declared.Bounds.{Bounds}

-- what was taken of a string is what stands there
pub taken : (s : List ℕ) (b : Bounds) (v w : List ℕ) → w ≡ bytes_in s b → bytes_in s b ≡ v → w ≡ v
taken s b v w p q = p ∙ q

-- bounds that were handed on
pub handed : (a b c : Bounds) → a ≡ b → b ≡ c → a ≡ c
handed a b c p q = p ∙ q

-- how long a part is
pub length_in : (s : List ℕ) (a : Bounds) → FitIn (length s) a → length (bytes_in s a) ≡ a.end - a.start
length_in s a f = length-take-le (a.end - a.start) (drop a.start s) (rw length-drop (let p = f.0 in let q = f.1 in omega arith))

-- the bounds of a part of a part fit where those of the part do
pub inside_fits : (n : ℕ) (a b : Bounds) → FitIn n a → FitIn (a.end - a.start) b → FitIn n (inside a b)
inside_fits n a b f g = let p = f.0 in let q = f.1 in let u = g.0 in let v = g.1 in (omega arith, omega arith)

-- and bound the part of the part
pub inside_bytes : (s : List ℕ) (a b : Bounds) → FitIn (a.end - a.start) b → bytes_in s (inside a b) ≡ bytes_in (bytes_in s a) b
inside_bytes s a b g =
    let u = g.0 in
    let v = g.1 in
    let j = b.end - b.start in
    let m = a.end - a.start in
    let k : a.start + b.end - (a.start + b.start) ≡ j = omega arith in
    let le : j ≤ m - b.start = omega arith in
    ap (λ (i : ℕ). take i (drop (a.start + b.start) s)) k
    ∙ (sym (ap (take j) (drop-drop b.start a.start s))
    ∙ (sym (take-take j (m - b.start) (drop b.start (drop a.start s)) le)
    ∙ sym (ap (take j) (drop_take b.start m (drop a.start s)))))

-- what stands in a part stands in the whole
module _ (s : List ℕ) (a : Bounds) (f : FitIn (length s) a) (b : Bounds) where
  pub part_fits : FitIn (length (bytes_in s a)) b → FitIn (a.end - a.start) b
  part_fits g = subst (λ (n : ℕ). FitIn n b) (length_in s a f) g

  pub stands_inside : (v : List ℕ) → Stands (bytes_in s a) b v → Stands s (inside a b) v
  stands_inside v w = let g = part_fits w.0 in (inside_fits (length s) a b f g, inside_bytes s a b g ∙ w.1)
