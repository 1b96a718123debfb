-- The bytes of a line that comes in parts.
use mathlib.Core.Path.{◌≡◌, sym, ap, ◌∙◌}
use mathlib.Core.List.{List, ◌++◌}
use Prim.Native.Nat.{ℕ, ◌+◌, ◌-◌, ◌≤◌, ◌<◌}
use native.Mathlib.Omega.{arith}
use lib.ListN.{length, take, drop, length-append}
use lib.Seq.{sets-eq, take_all, take_at, take-append-add, length-take-le}
use Rattle.byte_strings.specs.Wrote.{Wrote}

-- added: n bytes so far
module _ (bytes s : List ℕ) (n : ℕ) (z : length bytes ≡ 4097) where
  pub no_more : 4097 < n → take n bytes ≡ take 4097 (take n bytes ++ s)
  no_more h = rw (take_all n bytes (omega (arith, z))) (sym (take_at bytes s 4097 z))

  pub there_is_room : (v : List ℕ) → n ≤ 4097 → length v ≤ 4097 - n → n + length v ≤ length bytes
  there_is_room v h q = omega (arith, z, h, q)

  module _ (h : n ≤ 4097) (v e : List ℕ) (m : ℕ) (p : v ≡ take (4097 - n) s) (q : length v ≤ 4097 - n) where
    so_far : length (take n bytes) ≡ n
    so_far = length-take-le n bytes (omega (arith, z))

    -- the front of what is added is added to the bytes so far
    front_added : take n bytes ++ v ≡ take 4097 (take n bytes ++ s)
    front_added =
        let k : length (take n bytes) + (4097 - n) ≡ 4097 = omega (arith, so_far) in
        ap (λ (l : List ℕ). take n bytes ++ l) p
        ∙ sym (take-append-add (take n bytes) s (4097 - n))
        ∙ ap (λ (j : ℕ). take j (take n bytes ++ s)) k

    pub more : Wrote bytes n v e m → take m e ≡ take 4097 (take n bytes ++ s)
    more w =
        let k : length (take n bytes ++ v) ≡ m = omega (arith, length-append (take n bytes) v, so_far, w.next) in
        ap (take m) (w.bytes ∙ sets-eq v bytes n (there_is_room v h q))
        ∙ take_at (take n bytes ++ v) (drop (n + length v) bytes) m k
        ∙ front_added
