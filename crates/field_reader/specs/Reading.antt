-- One reader goes over the payload and remembers how far it has read (document 01, "Checksum and fields").
use Rattle.std.specs.Prelude.{ℕ, List, [], ◌∷◌, drop}
use Rattle.std.specs.Borrow.{Bor}
use Rattle.field_values.specs.Values.{Value, bad, values_of, value_at, next_at}
use Rattle.field_reader.specs.declared.Reader.{Reader}

-- the reader of a payload, before its first field
abbrev pub reader_of : Bor (List ℕ) → Reader
reader_of p = record { payload = p; at = 0 }

-- the field that comes next, and the reader past it
abbrev pub next_in : Reader → Value
next_in r = value_at r.payload.now r.at

abbrev pub past : Reader → Reader
past r = record { payload = r.payload; at = next_at r.payload.now r.at }

-- the field that no other follows
abbrev pub alone : List Value → Value
alone [] = bad
alone (v ∷ []) = v
alone (v ∷ w ∷ vs) = bad

-- the field at a place, and the one that comes next, if no other follows
unfoldable pub last_at : List ℕ → ℕ → Value
last_at s at = alone (values_of (drop at s))

abbrev pub last_in : Reader → Value
last_in r = last_at r.payload.now r.at
