-- Every message that is written reads back: a request as its header and payload, a response as its header, status and fields.
use mathlib.Core.Path.{◌≡◌, refl, sym, ap, ◌∙◌}
use mathlib.Core.Bool.{true}
use mathlib.Core.List.{List, [], ◌∷◌, ◌++◌, append_assoc}
use Prim.Native.Nat.{ℕ, ◌+◌, ◌-◌, ◌≤◌}
use native.Mathlib.Omega.{arith}
use lib.ListN.{length, take, drop, length-append}
use lib.Seq.{take_at, drop_at}
use borrow.Author.Tests.{eq-eqb, le-leb}
use Rattle.byte_strings.specs.Strings.{is_not, run, all_of}
use Rattle.byte_strings.proofs.StringLaws.{all_run, all_append, all_take, all_drop}
use Rattle.check_sums.specs.Checksum.{sum_digits}
use Rattle.check_sums.specs.declared.Kind.TheVariants.{Arc}
use Rattle.check_sums.proofs.RoundTrip.{digits_pass, sum_ends}
use Rattle.check_digits.specs.Hex.{hex_digit}
use Rattle.text_classes.specs.Classes.{is_of, are_all}
use Rattle.text_classes.specs.declared.Class.TheVariants.{Printable}
use Rattle.text_classes.proofs.ClassLaws.{class_plain}
use Rattle.text_classes.proofs.Printable.{printable_bytes}
use Rattle.field_values.specs.Values.{Value, payload_bytes, are_values}
use Rattle.field_writer.proofs.RoundTrip.{payload_read}
use Rattle.field_writer.proofs.Printable.{payload_printable}
use Rattle.message_frames.specs.Frames.{ends_in_return, is_whole, is_checked, text_of, header_of, payload_of, ending, framed, request_bytes, answered}
use Rattle.message_frames.proofs.FrameLaws.{answered_length}
use Rattle.message_replies.specs.Responses.{Reply, reply_bytes, status_of, fields_of, Says}

-- a text, framed
module _ (s : List ℕ) where
  five : length (ending s) ≡ 5
  unfolding ending sum_digits
  five = refl

  size : length (framed s) ≡ length s + 5
  unfolding framed
  size = length-append s (ending s) ∙ ap (λ (k : ℕ). length s + k) five

  pub framed_text : text_of (framed s) ≡ s
  unfolding text_of framed
  framed_text =
      let m : length s + 5 - 5 ≡ length s = omega arith in
      ap (λ (k : ℕ). take (k - 5) (s ++ ending s)) size ∙ rw m (take_at s (ending s) (length s) refl)

-- a text of printable bytes, framed
module _ (s : List ℕ) (p : are_all Printable s ≡ true) where
  -- its only carriage return is its last byte
  pub framed_returns : ends_in_return (framed s) ≡ true
  unfolding ends_in_return framed ending hex_digit
  framed_returns =
      let d = sum_digits Arc s in
      let q : all_of (is_not 13) d ≡ true = digits_pass (is_not 13) tt Arc s (printable_bytes s p) in
      let r : run (is_not 13) (s ++ (d ++ (13 ∷ []))) ≡ length s + (length d + 0) = all_run (is_not 13) s (d ++ (13 ∷ [])) (class_plain Printable 13 s refl p) ∙ ap (λ (k : ℕ). length s + k) (all_run (is_not 13) d (13 ∷ []) q) in
      let n : length (s ++ (d ++ (13 ∷ []))) ≡ length s + (length d + 1) = length-append s (d ++ (13 ∷ [])) ∙ ap (λ (k : ℕ). length s + k) (length-append d (13 ∷ [])) in
      eq-eqb _ _ (r ∙ omega arith)

  -- its checksum is right
  pub framed_checked : is_checked (framed s) ≡ true
  unfolding is_checked framed ending
  framed_checked =
      let d = sum_digits Arc s in
      let a : s ++ (d ++ (13 ∷ [])) ≡ (s ++ d) ++ (13 ∷ []) = sym (append_assoc s d (13 ∷ [])) in
      let n : length ((s ++ d) ++ (13 ∷ [])) ≡ length (s ++ d) + 1 = length-append (s ++ d) (13 ∷ []) in
      let m : length (s ++ d) + 1 - 1 ≡ length (s ++ d) = omega arith in
      rw (a, n, m, take_at (s ++ d) (13 ∷ []) (length (s ++ d)) refl, le-leb 1 (length (s ++ d) + 1) (omega arith)) (sum_ends Arc s)

-- a request reads back as its header and payload
module _ (h p : List ℕ) (n : length h ≡ 5) where
  pub request_header : header_of (request_bytes h p) ≡ h
  unfolding header_of request_bytes
  request_header = rw (framed_text (h ++ p)) (take_at h p 5 n)

  pub request_payload : payload_of (request_bytes h p) ≡ p
  unfolding payload_of request_bytes
  request_payload = rw (framed_text (h ++ p)) (drop_at h p 5 n)

-- a response reads back as its header and status, and as its fields, where PTVD can carry them
module _ (reply : Reply) (five : length reply.header ≡ 5) (two : length reply.status ≡ 2) where
  abbrev head : List ℕ
  head = reply.header ++ reply.status

  abbrev text : List ℕ
  text = head ++ payload_bytes reply.fields

  head_seven : length head ≡ 7
  head_seven = length-append reply.header reply.status ∙ omega (arith, five)

  parted : text ≡ reply.header ++ (reply.status ++ payload_bytes reply.fields)
  parted = append_assoc reply.header reply.status (payload_bytes reply.fields)

  pub reply_header : header_of (reply_bytes reply) ≡ reply.header
  unfolding reply_bytes header_of
  reply_header = rw (framed_text text, parted) (take_at reply.header (reply.status ++ payload_bytes reply.fields) 5 five)

  pub reply_status : status_of (reply_bytes reply) ≡ reply.status
  unfolding reply_bytes status_of
  reply_status =
      rw (framed_text text, parted, drop_at reply.header (reply.status ++ payload_bytes reply.fields) 5 five)
      (take_at reply.status (payload_bytes reply.fields) 2 two)

  pub reply_fields_lem : are_values reply.fields ≡ true → fields_of (reply_bytes reply) ≡ reply.fields
  unfolding reply_bytes fields_of
  reply_fields_lem v = rw (framed_text text, drop_at head (payload_bytes reply.fields) 7 head_seven) (payload_read reply.fields v)

  reply_size : length (reply_bytes reply) ≡ 12 + length (payload_bytes reply.fields)
  unfolding reply_bytes
  reply_size = size text ∙ omega (arith, length-append head (payload_bytes reply.fields), head_seven)

-- THE LAW of demand 2: every response written is framed as a request is, and reads back as its own header, status and fields: for each header of five printable
-- characters, each status of two, and all fields that PTVD can carry in 1,012 bytes
module _ (reply : Reply) (five : length reply.header ≡ 5) (two : length reply.status ≡ 2) (h : are_all Printable reply.header ≡ true) (p : are_all Printable reply.status ≡ true)
    (v : are_values reply.fields ≡ true) (short : length (payload_bytes reply.fields) ≤ 1012) where
  text_printable : are_all Printable (text reply five two) ≡ true
  unfolding are_all
  text_printable =
      all_append (is_of Printable) (reply.header ++ reply.status) (payload_bytes reply.fields) (all_append (is_of Printable) reply.header reply.status h p) (payload_printable reply.fields v)

  reply_whole : is_whole (reply_bytes reply) ≡ true
  unfolding is_whole reply_bytes
  reply_whole =
      let n = reply_size reply five two in
      rw (le-leb 10 (length (framed (text reply five two))) (omega (arith, n)), le-leb (length (framed (text reply five two))) 1024 (omega (arith, n, short)))
      (framed_returns (text reply five two) text_printable)

  reply_checked : is_checked (reply_bytes reply) ≡ true
  unfolding reply_bytes
  reply_checked = framed_checked (text reply five two) text_printable

  pub reply_reads : Says (reply_bytes reply) reply
  reply_reads = record {
    whole = reply_whole;
    checked = reply_checked;
    header_is = reply_header reply five two;
    status_is = reply_status reply five two;
    fields_are = reply_fields_lem reply five two v;
  }

-- the header of a response is as long as the request's, and as printable
pub answered_five : (h : List ℕ) → length h ≡ 5 → length (answered h) ≡ 5
answered_five h n = answered_length h (omega arith) ∙ n

pub answered_printable : (h : List ℕ) → are_all Printable h ≡ true → are_all Printable (answered h) ≡ true
unfolding are_all answered
answered_printable h e =
    all_append (is_of Printable) (take 2 h) (33 ∷ drop 3 h) (all_take (is_of Printable) 2 h e) (rw (all_drop (is_of Printable) 3 h e))

-- no response has no bytes
pub reply_some : (reply : Reply) → 5 ≤ length (reply_bytes reply)
unfolding reply_bytes
reply_some reply = omega (arith, size ((reply.header ++ reply.status) ++ payload_bytes reply.fields))
