-- The refusals: number, and header, status and fields of the reply (document 01, Questions in order).
use Rattle.std.specs.Prelude.{ℕ, ◌+◌, ◌/◌, ◌%◌, List, [], ◌∷◌, ◌++◌}
use Rattle.std.proofs.Math.Option.{Option, none, some}
use Rattle.byte_strings.specs.Texts.{text}
use Rattle.field_values.specs.Values.{Value, string}
use Rattle.engine.specs.declared.Refusal.{Refusal}
use Rattle.engine.specs.declared.Refusal.TheVariants.{
  RowCounts,
  ShortBuffer,
  UnsoundRows,
  BadSupplement,
  BadFrame,
  BadChecksum,
  UnknownHeader,
  BadFields,
  BadRecord,
  BadForm,
  Expired,
  UnknownSlot,
  NoFreeSlot,
  WrongState,
  OtherModule,
  OtherFingerprint,
  OtherTvp,
  OtherTag,
  CheckFailed,
  NoFreeRegister,
  EmptyRegister,
}

-- the header that a refusal is replied under: GL!ER, or the request's own
pub data Header : Type 0 where
  general : Header
  own : Header

-- number and reply of a refusal; 1 to 4 have none, and nothing is written
pub record RefusalEntry : Type 0 where
  pub number : ℕ
  pub header : Option Header
  pub status : List ℕ
  pub fields : List Value

-- "EE", the status of an extended error (001 clause 5.3.4)
abbrev pub extended : List ℕ
extended = text "EE"

-- KM. and the number in two digits
abbrev pub km : ℕ → List Value
km n = string (text "KM." ++ ((48 + n / 10) ∷ (48 + n % 10) ∷ [])) ∷ []

-- SM.3B. and a digit (003 clause 13)
abbrev pub sm3b : ℕ → List Value
sm3b n = string (text "SM.3B." ++ ((48 + n) ∷ [])) ∷ []

abbrev unwritten : ℕ → RefusalEntry
unwritten n = record { number = n; header = none; status = []; fields = [] }

-- a status alone
abbrev status : ℕ → Header → List ℕ → RefusalEntry
status n h s = record { number = n; header = some h; status = s; fields = [] }

-- EE and one string
abbrev error : ℕ → Header → List Value → RefusalEntry
error n h fields = record { number = n; header = some h; status = extended; fields = fields }

abbrev pub refusal : Refusal → RefusalEntry
refusal RowCounts = unwritten 1
refusal ShortBuffer = unwritten 2
refusal UnsoundRows = unwritten 3
refusal BadSupplement = unwritten 4
refusal BadFrame = error 5 general (km 5)
refusal BadChecksum = status 6 general (text "20")
refusal UnknownHeader = status 7 general (text "21")
refusal BadFields = error 8 own (km 8)
refusal BadRecord = error 9 own (km 9)
refusal BadForm = error 10 own (km 10)
refusal Expired = error 11 own (km 11)
refusal UnknownSlot = status 12 own (text "27")
refusal NoFreeSlot = error 13 own (km 13)
refusal WrongState = error 14 own (km 14)
refusal OtherModule = error 15 own (sm3b 6)
refusal OtherFingerprint = error 16 own (sm3b 7)
refusal OtherTvp = error 17 own (sm3b 8)
refusal OtherTag = error 18 own (sm3b 9)
refusal CheckFailed = error 19 own (km 19)
refusal NoFreeRegister = status 20 own (text "28")
refusal EmptyRegister = status 21 own (text "22")
