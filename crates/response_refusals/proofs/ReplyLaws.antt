-- A response is its head, its fields and the ending of what stands before it.
use mathlib.Core.Path.{◌≡◌}
use mathlib.Core.List.{List}
use Prim.Native.Nat.{ℕ, ◌-◌, ◌≤◌}
use native.Mathlib.Omega.{arith}
use lib.ListN.{length, take}
use lib.Seq.{length-take-le}
use Rattle.byte_strings.specs.Wrote.{Wrote}
use Rattle.byte_strings.proofs.Writes.{then, take_start}
use Rattle.field_values.specs.Values.{Value, payload_bytes}
use Rattle.message_frames.specs.Frames.{text_of, header_of, ending, framed, head_bytes}
use Rattle.message_replies.specs.Responses.{reply_bytes, response_bytes}

-- what was written from the start on, and its ending
closed : {d e f p : List ℕ} {n r : ℕ} → n ≤ length d → Wrote d 0 p e n → Wrote e n (ending (take n e)) f r → Wrote d 0 (framed p) f r
unfolding framed
closed l u w = then u (rw (take_start u (omega (arith, u.next))) at w)

-- header h and status s, the fields vs, and the ending
pub replied : {d e f g : List ℕ} {a b r : ℕ} (h s : List ℕ) (vs : List Value) → Wrote d 0 (head_bytes h s) e a → Wrote e a (payload_bytes vs) f b → Wrote f b (ending (take b f)) g r → b ≤ length d
    → Wrote d 0 (response_bytes h s vs) g r
unfolding reply_bytes head_bytes
replied h s vs u v w l = closed l (then u v) w

-- the header of a request that is long enough has five bytes
pub header_five : (s : List ℕ) → 10 ≤ length s → length (header_of s) ≡ 5
unfolding header_of text_of
header_five s h = length-take-le 5 (take (length s - 5) s) (omega (arith, length-take-le (length s - 5) s (omega arith)))
