-- What the steps of the writers come to.
use mathlib.Core.List.{List, [], ◌∷◌}
use Prim.Native.Nat.{ℕ, ◌-◌}
use native.Mathlib.Nat.{sub-zero}
use lib.ListN.{length, take, drop}
use Rattle.byte_strings.specs.Wrote.{Wrote}
use Rattle.byte_strings.proofs.StringLaws.{rest}
use Rattle.byte_strings.proofs.Writes.{then}
use Rattle.check_sums.specs.Checksum.{sum_digits}
use Rattle.check_sums.specs.declared.Kind.TheVariants.{Arc}
use Rattle.message_frames.specs.Frames.{ending, answered, head_bytes}

-- put_head
pub head_written : {d e f g k : List ℕ} {a b c r : ℕ} (h s : List ℕ) → Wrote d 0 (take 2 h) e a → Wrote e a (33 ∷ []) f b → Wrote f b (take (length h - 3) (drop 3 h)) g c → Wrote g c s k r → Wrote d 0 (head_bytes h s) k r
unfolding head_bytes answered
head_written h s u v w x = then (then u (then v (rw rest at w))) x

-- close_message
pub message_closed : {d e f : List ℕ} {n a r : ℕ} → Wrote d n (sum_digits Arc (take (n - 0) (drop 0 d))) e a → Wrote e a (13 ∷ []) f r → Wrote d n (ending (take n d)) f r
unfolding ending
message_closed u w = then (rw sub-zero at u) w
