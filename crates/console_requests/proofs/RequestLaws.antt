-- What is handed in, as it stands in 2,048 bytes.
use mathlib.Core.Path.{◌≡◌, sym}
use mathlib.Core.List.{List}
use Prim.Native.Nat.{ℕ, ◌+◌, ◌≤◌}
use native.Mathlib.Omega.{arith}
use lib.ListN.{length, take, replicate, length-append, length-replicate}
use Rattle.byte_strings.specs.Wrote.{Wrote}
use Rattle.byte_strings.proofs.Writes.{then, take_start}
use Rattle.message_frames.specs.Frames.{ending, framed}
use Rattle.console_octets.specs.Octets.{octets_of}
use Rattle.console_state.specs.declared.Console.{Console}
use Rattle.console_requests.specs.Requests.{answered_by, SaysAnswer}

-- a text, closed, in a buffer r
pub sent : (r d e text : List ℕ) (n m : ℕ) → 2048 ≡ length r → length text ≤ 2043 → Wrote r 0 text d n → Wrote d n (ending (take n d)) e m → m ≡ n + 5 → take m e ≡ framed text
unfolding framed
sent r d e text n m z h w v g =
    let t : take n d ≡ text = take_start w (omega (arith, z, h)) in
    let u : Wrote d n (ending text) e m = rw (← t) v in
    take_start (then w u) (rw length-append (omega (arith, u.next, w.next, g, z, h)))

-- octets
pub sent_octets : (r e digits : List ℕ) (m : ℕ) → m ≤ length r → Wrote r 0 (octets_of digits) e m → take m e ≡ octets_of digits
sent_octets r e digits m h w = take_start w (omega (arith, w.next, h))

-- the buffer of the console
abbrev dots : List ℕ
dots = replicate 2048 46

pub dots_sent : (d e text : List ℕ) (n m : ℕ) → length text ≤ 2043 → Wrote dots 0 text d n → Wrote d n (ending (take n d)) e m → m ≡ n + 5 → take m e ≡ framed text
dots_sent d e text n m = sent dots d e text n m (sym (length-replicate {A = ℕ} 2048 46))

-- the request that is handed in is q, of which it is known what it is
module _ (c : Console) (q p : List ℕ) (s : q ≡ p) where
  pub same_state : (d : Console) → d ≡ answered_by c q → d ≡ answered_by c p
  same_state d k = rw (← s) k

  pub same_said : (number : ℕ) (a b : List ℕ) (i : ℕ) → SaysAnswer c number q a b i → SaysAnswer c number p a b i
  same_said number a b i k = rw (← s) k
