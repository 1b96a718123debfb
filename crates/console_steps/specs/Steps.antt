-- One line of the console (docs/CONSOLE.md): the state after it, and what it prints.
use Rattle.std.specs.Prelude.{ℕ, List, [], take, Option, None, Some}
use Rattle.byte_strings.specs.Wrote.{Wrote}
use Rattle.message_frames.specs.Frames.{framed}
use Rattle.engine.specs.Usable.{is_usable}
use Rattle.console_octets.specs.Octets.{octets_of}
use Rattle.console_lines.specs.Lines.{line_of}
use Rattle.console_lines.specs.declared.Line.{Line}
use Rattle.console_lines.specs.declared.Line.TheVariants as line
use Rattle.console_state.specs.State.{checked, set_by}
use Rattle.console_state.specs.declared.Console.{Console}
use Rattle.console_answers.specs.Answers.{usable_line, other_line}
use Rattle.console_requests.specs.Requests.{answered_by, SaysAnswer}
use Rattle.console_rows.specs.Rows.{row_lines}
use Rattle.console_show.specs.Shown.{shown_rows}

-- what a line asks of a console; none where it is in no form
abbrev pub asked : Console → List ℕ → Option Line
asked c l = checked c.tables (line_of l)

-- what a line that hands nothing in prints
abbrev pub said : Console → ℕ → Line → List ℕ
said c number line.Rows = row_lines c.tables
said c number (line.Usable k) = usable_line number (is_usable c.tables k)
said c number line.Show = shown_rows c.tables
said c number line.Nothing = []
said c number (line.Tables m n) = []
said c number (line.Buffer n) = []
said c number (line.Set p) = []
said c number (line.Passed n) = []
said c number line.Send = []
said c number line.Raw = []
said c number (line.Slot k s) = []
said c number (line.Register k m) = []

-- the request that a line hands in, if any; r is what stands after its first space. No line has more of it (`line_of`)
abbrev pub handed : Line → List ℕ → Option (List ℕ)
handed line.Send r = Some (framed (take 2043 r))
handed line.Raw r = Some (octets_of (take 4092 r))
handed line.Rows r = None
handed (line.Usable k) r = None
handed line.Show r = None
handed line.Nothing r = None
handed (line.Tables m n) r = None
handed (line.Buffer n) r = None
handed (line.Set p) r = None
handed (line.Passed n) r = None
handed (line.Slot k s) r = None
handed (line.Register k m) r = None

-- the state after a line
abbrev pub after_handing : Option (List ℕ) → Console → Line → List ℕ → Console
after_handing None c l r = set_by c l r
after_handing (Some request) c l r = answered_by c request

abbrev pub after : Console → Option Line → List ℕ → Console
after c None r = c
after c (Some l) r = after_handing (handed l r) c l r

-- what a line prints: n bytes at the start of what was `before`
abbrev pub SaysHanding : Option (List ℕ) → Console → ℕ → Line → List ℕ → List ℕ → ℕ → Type 0
SaysHanding None c number l before now n = Wrote before 0 (said c number l) now n
SaysHanding (Some request) c number l before now n = SaysAnswer c number request before now n

abbrev pub Says : Console → ℕ → Option Line → List ℕ → List ℕ → List ℕ → ℕ → Type 0
Says c number None r before now n = Wrote before 0 (other_line number) now n
Says c number (Some l) r before now n = SaysHanding (handed l r) c number l before now n
