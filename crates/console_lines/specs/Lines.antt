-- What a line asks for (docs/CONSOLE.md). r is what stands after its first space. A row is a place among the rows,
-- counted from 0.
use Rattle.std.specs.Prelude.{ℕ, ◌-◌, cond, List, [], ◌∷◌, eqb, ltb, leb, length, get_or, Option, Some, None}
use Prim.Native.Char.{code}
use Rattle.byte_strings.specs.Texts.{text, all}
use Rattle.byte_strings.specs.Strings.{same_bytes}
use Rattle.text_decimals.specs.Decimals.{decimal, is_number}
use Rattle.field_values.specs.Values.{is_octets}
use Rattle.console_words.specs.Words.{word, rest, has_rest}
use Rattle.console_forms.specs.LineForms.{are_tables, is_slot, is_register}
use Rattle.console_verbs.specs.Verbs.{verb_of}
use Rattle.console_verbs.specs.declared.Part.{Part}
use Rattle.console_verbs.specs.declared.Verb.{Verb}
use Rattle.console_verbs.specs.declared.Verb.TheVariants as verb
use Rattle.console_lines.specs.declared.Line.{Line}
use Rattle.console_lines.specs.declared.Line.TheVariants.{Nothing, Tables, Buffer, Set, Passed, Send, Raw}
use Rattle.console_lines.specs.declared.Line.TheVariants.{Slot, Register, Rows, Usable, Show}

-- tables S R
abbrev pub tables_line : List ℕ → Option Line
tables_line r = cond (are_tables r) (Some (Tables (decimal (word r)) (decimal (rest r)))) None

-- buffer N: from 0 to 2048
abbrev pub buffer_line : List ℕ → Option Line
buffer_line r = cond (is_number 4 0 2048 r) (Some (Buffer (decimal r))) None

-- a part of the supplement: at most 1,024 bytes
abbrev pub part_line : Part → List ℕ → Option Line
part_line p r = cond (leb (length r) 1024) (Some (Set p)) None

-- passed yes, passed no
abbrev pub passed_line : List ℕ → Option Line
passed_line r =
    cond (same_bytes r (text "yes")) (Some (Passed 1)) (cond (same_bytes r (text "no")) (Some (Passed 0)) None)

-- send X: with checksum and carriage return at most 2,048 bytes
abbrev pub send_line : List ℕ → Option Line
send_line r = cond (leb (length r) 2043) (Some Send) None

-- raw H: at most 2,046 bytes, two digits each
abbrev pub raw_line : List ℕ → Option Line
raw_line r = cond (all (leb (length r) 4092 ∷ is_octets r ∷ [])) (Some Raw) None

-- slot K S NAME FINGERPRINT TVP
abbrev pub slot_line : List ℕ → Option Line
slot_line r = cond (is_slot r) (Some (Slot (decimal (word r) - 1) (decimal (word (rest r))))) None

-- register K M CARD (document 02, N3)
abbrev pub register_line : List ℕ → Option Line
register_line r = cond (is_register r) (Some (Register (decimal (word r) - 1) (decimal (word (rest r))))) None

-- usable K: from 0 to 2147483647
abbrev pub usable_line : List ℕ → Option Line
usable_line r = cond (is_number 10 0 2147483647 r) (Some (Usable (decimal r))) None

-- a line of one word
abbrev pub alone_line : Verb → Option Line
alone_line verb.Raw = Some Raw
alone_line verb.Rows = Some Rows
alone_line verb.Show = Some Show
alone_line verb.Tables = None
alone_line verb.Buffer = None
alone_line (verb.Set p) = None
alone_line verb.Passed = None
alone_line verb.Send = None
alone_line verb.Slot = None
alone_line verb.Register = None
alone_line verb.Usable = None

-- a line whose first word is followed by a space
abbrev pub rest_line : Verb → List ℕ → Option Line
rest_line verb.Tables r = tables_line r
rest_line verb.Buffer r = buffer_line r
rest_line (verb.Set p) r = part_line p r
rest_line verb.Passed r = passed_line r
rest_line verb.Send r = send_line r
rest_line verb.Raw r = raw_line r
rest_line verb.Slot r = slot_line r
rest_line verb.Register r = register_line r
rest_line verb.Usable r = usable_line r
rest_line verb.Rows r = None
rest_line verb.Show r = None

-- what a line asks whose first word names the verb, if it names one
abbrev pub verb_line : Option Verb → List ℕ → Option Line
verb_line None l = None
verb_line (Some v) l = cond (has_rest l) (rest_line v (rest l)) (alone_line v)

-- nothing is asked by an empty line or a comment; a line of more than 4,096 bytes has no form
unfoldable pub line_of : List ℕ → Option Line
line_of l =
    cond (eqb (length l) 0) (Some Nothing)
    (cond (ltb 4096 (length l)) None
    (cond (eqb (get_or l 0 0) (code "#")) (Some Nothing)
    (verb_line (verb_of (word l)) l)))
