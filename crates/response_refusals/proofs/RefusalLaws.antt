-- A refusal is written in three pieces; and the room that it takes.
use Rattle.std.proofs.Common.{◌≡◌, ℕ, ◌+◌, ◌≤◌, ◌<◌, List, length, take, ap, arith}
use Rattle.std.proofs.Math.Option.{Option, none, some}
use borrow.Author.Tests.{lt-leb}
use Rattle.byte_strings.specs.Wrote.{Wrote}
use Rattle.field_values.specs.Values.{Value, payload_bytes}
use Rattle.message_frames.specs.Frames.{header_of, ending, head_bytes}
use Rattle.message_replies.specs.Responses.{response_bytes}
use Rattle.engine.specs.Refusals.{Header, general, own, refusal}
use Rattle.engine.specs.declared.Refusal.{Refusal}
use Rattle.engine.proofs.Numbers.{number_range}
use Rattle.response_numbers.specs.RefusalForms.{refusal_in}
use Rattle.response_numbers.specs.declared.Entry.{Entry}
use Rattle.response_refusals.specs.RefusalForms.{CanRefuse}
use Rattle.response_refusals.proofs.ReplyLaws.{replied, header_five}

-- write_refusal: header h and status s, the fields vs, and the ending
pub refusal_written : {d e f g : List ℕ} {a b z : ℕ} (h s : List ℕ) (vs : List Value) → Wrote d 0 (head_bytes h s) e a → a ≤ length h + 2
    → Wrote e a (payload_bytes vs) f b → b ≤ a + 9 → Wrote f b (ending (take b f)) g z → length h + 16 ≤ length d → Wrote d 0 (response_bytes h s vs) g z
refusal_written h s vs u i v j w l = replied h s vs u v w (omega arith)

-- a request that is long enough can be told any refusal
pub can_tell : (h : Option Header) (n m : ℕ) → 10 ≤ n → 1024 ≤ m → CanRefuse h n m
can_tell none n m i j = tt
can_tell (some general) n m i j = omega arith
can_tell (some own) n m i j = (omega arith, omega arith)

-- a refusal that is told under the request's own header: e is its entry, h the header
pub own_room : (e : Entry) (r : Refusal) → refusal_in e ≡ refusal r → 7 < e.0 → (q h : List ℕ) → h ≡ header_of q → (m : ℕ) → CanRefuse (refusal r).header (length q) m
    → (e.0 < 100) × (3 ≤ length h) × (length h + 16 ≤ m)
own_room e r p i q h o m can =
    let w : (refusal r).header ≡ some own = rw (← p, lt-leb e.0 4 (omega arith), lt-leb e.0 7 i) in
    let k : (10 ≤ length q) × (1024 ≤ m) = rw w at can in
    let five : length h ≡ 5 = rw o (header_five q k.0) in
    (omega (arith, (number_range r).1, ap (λ t. t.number) p), omega arith, omega arith)
