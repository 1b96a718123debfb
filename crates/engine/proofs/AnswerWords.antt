-- What answers say in the words of demand 3: an accepted one has status 00, a refused one has not.
use mathlib.Core.Path.{◌≡◌, refl}
use mathlib.Core.Logic.{◌⊎◌, inl, inr}
use mathlib.Core.Bool.{Bool, true, false, not, ◌&&◌}
use mathlib.Core.List.{List}
use mathlib.Core.Option.{none, some}
use Prim.Native.Nat.{ℕ, ◌-◌}
use native.Mathlib.Omega.{arith}
use lib.Dec.{eqb, leb}
use lib.ListN.{length, take, length-take}
use borrow.Author.Tests.{leb-true, eqb-true}
use Rattle.byte_strings.specs.Strings.{same_bytes}
use Rattle.byte_strings.proofs.Flags.{and_first, and_second, no, holds}
use Rattle.field_values.specs.Values.{Value}
use Rattle.message_frames.specs.Frames.{is_whole, text_of, header_of}
use Rattle.message_replies.specs.Responses.{Reply, reply_bytes, reply_to, response_bytes, status_of}
use Rattle.message_replies.proofs.ResponseLaws.{reply_status, answered_five}
use Rattle.engine.specs.Refusals.{refusal}
use Rattle.engine.specs.Questions.{Call, questions, first_no}
use Rattle.engine.specs.Answers.{accepted, response_of}
use Rattle.engine.specs.Words.{is_accepted}
use Rattle.engine.specs.declared.Refusal.{Refusal}
use Rattle.engine.proofs.RefusalLaws.{Under, under_error, under_own, Replied, reply, refusal_replied}

-- a whole message has a header of five bytes
pub header_five : (q : List ℕ) → is_whole q ≡ true → length (header_of q) ≡ 5
unfolding is_whole header_of text_of
header_five q e =
    let n = leb-true 10 (length q) (and_first (leb 10 (length q)) _ e) in
    omega (arith, length-take 5 (take (length q - 5) q), length-take (length q - 5) q)

-- status 00 reads as accepted
pub accepted_said : (h : List ℕ) (vs : List Value) → length h ≡ 5 → is_accepted (response_bytes h accepted vs) ≡ true
unfolding is_accepted
accepted_said h vs n = rw (reply_status (reply_to h accepted vs) (answered_five h n) refl) refl

-- a status of two characters, other than 00
abbrev is_other : List ℕ → Bool
is_other s = eqb (length s) 2 && not (same_bytes s accepted)

other_said : (r : Reply) → length r.header ≡ 5 → is_other r.status ≡ true → is_accepted (reply_bytes r) ≡ false
unfolding is_accepted
other_said r n o =
    let s = r.status in
    let two : length s ≡ 2 = eqb-true (length s) 2 (and_first (eqb (length s) 2) (not (same_bytes s accepted)) o) in
    rw (reply_status r n two) (no (same_bytes s accepted) (holds (not (same_bytes s accepted)) (and_second (eqb (length s) 2) (not (same_bytes s accepted)) o)))

-- a refusal is replied under a header of five bytes
under_five : (q h : List ℕ) → Under q h → length h ≡ 5
under_five q h under_error = refl
under_five q h (under_own y) = answered_five (header_of q) (header_five q y.0)

-- the first no decides, and no response to it is read as accepted
module _ (x : Call) (r : Refusal) where
  pub refusal_said : first_no (questions x) ≡ some r → is_accepted (response_of (reply x r)) ≡ false
  unfolding is_accepted status_of text_of
  refusal_said e = go (refusal_replied x r (λ (z : Refusal). is_other (refusal z).status) refl refl e)
    where
      go : (reply x r ≡ none) ⊎ (Replied x.request (refusal r) (reply x r) × (is_other (refusal r).status ≡ true)) → is_accepted (response_of (reply x r)) ≡ false
      go (inl n) = rw n refl
      go (inr w) =
          rw w.0.is
          (other_said (record { header = w.0.header; status = (refusal r).status; fields = (refusal r).fields }) (under_five x.request w.0.header w.0.under) w.1)
