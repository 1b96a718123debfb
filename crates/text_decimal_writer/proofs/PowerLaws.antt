-- The table of powers: what stands at each of its places.
use mathlib.Core.Path.{◌≡◌, ap, ◌∙◌}
use mathlib.Core.Bool.{true}
use mathlib.Core.List.{List, [], ◌∷◌}
use Prim.Native.Nat.{ℕ, zero, suc, ◌-◌, ◌*◌, ◌^◌, ◌<◌}
use native.Mathlib.Nat.{pow-succ'}
use native.Mathlib.Omega.{arith}
use lib.Dec.{eqb}
use lib.ListN.{length, get_or}
use borrow.Author.Tests.{eqb-true}
use Rattle.byte_strings.proofs.Flags.{nope, and_first, and_second}
use Rattle.text_decimal_writer.specs.Powers.{are_tens}

pub power_at : (ps : List ℕ) → are_tens ps ≡ true → (i : ℕ) → i < length ps → get_or ps i 0 ≡ 10 ^ (length ps - suc i)
unfolding are_tens
power_at [] e i h = nope (cc)
power_at (p ∷ []) e zero h = eqb-true p 1 e
power_at (p ∷ []) e (suc i) h = absurd (omega arith)
power_at (p ∷ q ∷ ps) e zero h =
    let t : p ≡ 10 * q = eqb-true p (10 * q) (and_first (eqb p (10 * q)) (are_tens (q ∷ ps)) e) in
    let n : q ≡ 10 ^ (length (q ∷ ps) - 1) = power_at (q ∷ ps) (and_second (eqb p (10 * q)) (are_tens (q ∷ ps)) e) zero (omega arith) in
    let l : length (p ∷ q ∷ ps) - 1 ≡ suc (length (q ∷ ps) - 1) = omega arith in
    t ∙ ap (λ (x : ℕ). 10 * x) n ∙ rw l (omega (arith, pow-succ' 10 (length (q ∷ ps) - 1)))
power_at (p ∷ q ∷ ps) e (suc i) h =
    let l : length (q ∷ ps) - suc i ≡ length (p ∷ q ∷ ps) - suc (suc i) = omega arith in
    power_at (q ∷ ps) (and_second (eqb p (10 * q)) (are_tens (q ∷ ps)) e) i (omega arith) ∙ ap (λ (x : ℕ). 10 ^ x) l
