-- How writes are composed.
use mathlib.Core.Path.{◌≡◌, refl, sym, ap, ◌∙◌}
use mathlib.Core.List.{List, [], ◌∷◌, ◌++◌, append_assoc}
use Prim.Native.Nat.{ℕ, suc, ◌+◌, ◌-◌, ◌≤◌}
use native.Mathlib.Nat.{add-zero, add-suc, suc-add, zero-add}
use native.Mathlib.Omega.{arith}
use lib.ListN.{length, take, drop, set, length-append}
use lib.Seq.{sets, sets-eq, length-take-le, drop_at, take_at}
use Rattle.byte_strings.specs.Wrote.{Wrote}

-- two runs of stores, one after the other, are one
pub sets_append : (d : List ℕ) (a : ℕ) (p q : List ℕ) → sets (sets d a p) (a + length p) q ≡ sets d a (p ++ q)
sets_append d a [] q = ap (λ (k : ℕ). sets d k q) (add-zero a)
sets_append d a (x ∷ p) q =
    ap (λ (k : ℕ). sets (sets (set d a x) (suc a) p) k q) (add-suc a (length p) ∙ sym (suc-add a (length p)))
    ∙ sets_append (set d a x) (suc a) p q

-- a write, and a write where it ended
pub then : {d e f p q : List ℕ} {a b c : ℕ} → Wrote d a p e b → Wrote e b q f c → Wrote d a (p ++ q) f c
then {d} {e} {f} {p} {q} {a} {b} {c} v w =
    record {
      next = w.next ∙ ap (λ (k : ℕ). k + length q) v.next ∙ rw length-append (omega arith);
      bytes = w.bytes ∙ ap (λ (k : ℕ). sets e k q) v.next ∙ ap (λ (l : List ℕ). sets l (a + length p) q) v.bytes ∙ sets_append d a p q;
    }

-- what was written from the start on: the bytes, and then the buffer as it was
pub from_start : {d e p : List ℕ} {b : ℕ} → Wrote d 0 p e b → length p ≤ length d → e ≡ p ++ drop (length p) d
from_start {d} {e} {p} {b} w h =
    let k : 0 + length p ≤ length d = omega arith in
    w.bytes ∙ sets-eq p d 0 k ∙ ap (λ (n : ℕ). p ++ drop n d) (zero-add (length p))

-- nothing stored
pub none : (d : List ℕ) (a : ℕ) → Wrote d a [] d a
none d a = record { next = sym (add-zero a); bytes = refl }

-- what stands from the place of a write on
pub drop_sets : (d : List ℕ) (a : ℕ) (p : List ℕ) → a + length p ≤ length d → drop a (sets d a p) ≡ p ++ drop (a + length p) d
drop_sets d a p h =
    ap (drop a) (sets-eq p d a h ∙ append_assoc (take a d) p (drop (a + length p) d))
    ∙ drop_at (take a d) (p ++ drop (a + length p) d) a (length-take-le a d (omega arith))

-- the bytes that were written from the start on
pub take_start : {d e p : List ℕ} {b : ℕ} → Wrote d 0 p e b → length p ≤ length d → take b e ≡ p
take_start {d} {e} {p} {b} w h =
    let n : length p ≡ b = omega (arith, w.next) in
    ap (take b) (from_start w h) ∙ take_at p (drop (length p) d) b n

-- the bytes that a write stored, as the part of the buffer where it stored them
pub written_part : {d e p : List ℕ} {a b : ℕ} → Wrote d a p e b → b ≤ length d → take (b - a) (drop a e) ≡ p
written_part {d} {e} {p} {a} {b} w h =
    let n : length p ≡ b - a = omega (arith, w.next) in
    ap (λ (x : List ℕ). take (b - a) (drop a x)) w.bytes
    ∙ ap (take (b - a)) (drop_sets d a p (omega (arith, w.next)))
    ∙ take_at p (drop (a + length p) d) (b - a) n
