-- How a refusal is replied (document 01, Questions in order): what an entry of the code's table stands for.
use Rattle.std.specs.Prelude.{ℕ, cond, List, [], ◌∷◌, ◌++◌, leb}
use Rattle.std.proofs.Math.Option.{Option, none, some}
use Rattle.byte_strings.specs.Texts.{text}
use Rattle.field_values.specs.Values.{Value, string}
use Rattle.engine.specs.Refusals.{Header, general, own, RefusalEntry, extended, km}
use Rattle.response_numbers.specs.declared.Entry.{Entry}
use Rattle.response_numbers.specs.declared.ReplyForm.{ReplyForm}
use Rattle.response_numbers.specs.declared.ReplyForm.TheVariants.{Nothing, Status, Numbered, Module}

-- 1 to 4 write nothing, 5 to 7 are replied under GL!ER
abbrev pub header_for : ℕ → Option Header
header_for n = cond (leb n 4) none (cond (leb n 7) (some general) (some own))

abbrev pub status_in : ReplyForm → List ℕ
status_in Nothing = []
status_in (Status s) = s
status_in Numbered = extended
status_in (Module d) = extended

-- SM.3B. and a digit's character
abbrev pub sm : ℕ → List Value
sm d = string (text "SM.3B." ++ (d ∷ [])) ∷ []

-- the fields of the refusal with number n
abbrev pub fields_in : ReplyForm → ℕ → List Value
fields_in Nothing n = []
fields_in (Status s) n = []
fields_in Numbered n = km n
fields_in (Module d) n = sm d

-- what an entry says
abbrev pub refusal_in : Entry → RefusalEntry
refusal_in e = record {
  number = e.0;
  header = header_for e.0;
  status = status_in e.1;
  fields = fields_in e.1 e.0;
}
