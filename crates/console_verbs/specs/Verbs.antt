-- The first words of lines.
use Rattle.std.specs.Prelude.{ℕ, List, [], ◌∷◌, Option, bytes_eq}
use Rattle.std.specs.List.{find}
use Rattle.byte_strings.specs.Texts.{text}
use Rattle.console_verbs.specs.declared.Part.TheVariants.{Clock, Identity, LoadRequest, Tag, Check}
use Rattle.console_verbs.specs.declared.Verb.{Verb}
use Rattle.console_verbs.specs.declared.Verb.TheVariants.{Tables, Buffer, Set, Passed, Send, Raw, Slot, Register}
use Rattle.console_verbs.specs.declared.Verb.TheVariants.{Rows, Usable, Show}

abbrev pub word_of : Verb → List ℕ
word_of Tables = text "tables"
word_of Buffer = text "buffer"
word_of (Set Clock) = text "clock"
word_of (Set Identity) = text "identity"
word_of (Set LoadRequest) = text "loadreq"
word_of (Set Tag) = text "tag"
word_of (Set Check) = text "check"
word_of Passed = text "passed"
word_of Send = text "send"
word_of Raw = text "raw"
word_of Slot = text "slot"
word_of Register = text "register"
word_of Rows = text "rows"
word_of Usable = text "usable"
word_of Show = text "show"

unfoldable pub verbs : List Verb
verbs =
    Tables ∷ Buffer ∷ Set Clock ∷ Set Identity ∷ Set LoadRequest ∷ Set Tag ∷ Set Check ∷ Passed ∷ Send ∷ Raw ∷ Slot
    ∷ Register ∷ Rows ∷ Usable ∷ Show ∷ []

-- the verb that a word names
unfoldable pub verb_of : List ℕ → Option Verb
verb_of w = find (λ v. bytes_eq w (word_of v)) verbs
