-- A response: header, two status characters, fields, checksum, carriage return (001 clause 5.3); and how it is read.
use Rattle.std.specs.Prelude.{ℕ, ◌≡◌, true, List, ◌++◌, take, drop}
use Rattle.field_values.specs.Values.{Value, values_of, payload_bytes}
use Rattle.message_frames.specs.Frames.{is_whole, is_checked, framed, text_of, header_of, answered}

-- what a response says: its header, which has ! where the request's has ?, its status and its fields
pub record Reply : Type 0 where
  pub header : List ℕ
  pub status : List ℕ
  pub fields : List Value

-- its bytes
unfoldable pub reply_bytes : Reply → List ℕ
reply_bytes r = framed ((r.header ++ r.status) ++ payload_bytes r.fields)

-- the reply to a request with that header
abbrev pub reply_to : List ℕ → List ℕ → List Value → Reply
reply_to header status fields = record { header = answered header; status = status; fields = fields }

-- and its bytes
abbrev pub response_bytes : List ℕ → List ℕ → List Value → List ℕ
response_bytes header status fields = reply_bytes (reply_to header status fields)

-- the two status characters after the header
unfoldable pub status_of : List ℕ → List ℕ
status_of s = take 2 (drop 5 (text_of s))

-- the fields after the status
unfoldable pub fields_of : List ℕ → List Value
fields_of s = values_of (drop 7 (text_of s))

-- bytes that say just this reply, framed as a request is
pub record Says (s : List ℕ) (reply : Reply) : Type 0 where
  pub whole : is_whole s ≡ true
  pub checked : is_checked s ≡ true
  pub header_is : header_of s ≡ reply.header
  pub status_is : status_of s ≡ reply.status
  pub fields_are : fields_of s ≡ reply.fields
