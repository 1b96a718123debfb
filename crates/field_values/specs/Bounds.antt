-- The code's field, which has bounds in the payload, read as a value.
use Rattle.std.specs.Prelude.{ℕ, ◌+◌, ◌-◌, ◌≤◌, cond, List, take, drop}
use Rattle.text_decimals.specs.Decimals.{decimal, is_number}
use Rattle.field_values.specs.Values.{Value, number, string, date, octets, bad}
use Rattle.field_values.specs.declared.Field.{Field}
use Rattle.field_values.specs.declared.Field.TheVariants.{Number, Text, Date, Octets, Bad}

abbrev pub field_value : List ℕ → Field → Value
field_value s (Number n) = number n
field_value s (Text a e) = string (take (e - a) (drop a s))
field_value s (Date a e) = date (take (e - a) (drop a s))
field_value s (Octets a e) = octets (take (e - a) (drop a s))
field_value s Bad = bad

-- the bounds lie within n bytes
abbrev pub Within : ℕ → Field → Type 0
Within n (Number v) = Unit
Within n (Text a e) = (a ≤ e) × (e ≤ n)
Within n (Date a e) = (a ≤ e) × (e ≤ n)
Within n (Octets a e) = (a ≤ e) × (e ≤ n)
Within n Bad = Unit

-- the content of a number field
unfoldable pub number_of : List ℕ → Field
number_of v = cond (is_number 10 0 2147483647 v) (Number (decimal v)) Bad

-- the place after a field that ends at e; where there is none, the place is where it was
abbrev pub place_after : Field → ℕ → ℕ → ℕ
place_after (Number v) at e = e + 1
place_after (Text a b) at e = e + 1
place_after (Date a b) at e = e + 1
place_after (Octets a b) at e = e + 1
place_after Bad at e = at
