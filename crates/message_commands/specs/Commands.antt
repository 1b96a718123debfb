-- The ten commands of document 01 and the headers of their requests (001 clauses 6.2.7 and 6.3).
use Rattle.std.specs.Prelude.{ℕ, cond, List, [], ◌∷◌}
use Rattle.byte_strings.specs.Texts.{text}
use Rattle.byte_strings.specs.Strings.{same_bytes}
use Rattle.message_commands.specs.declared.Command.{Command}
use Rattle.message_commands.specs.declared.Command.TheVariants.{RS, KC, KR, KL, KF, KX, KD, GA, GL, KQ, Unknown}
use Rattle.message_commands.specs.declared.Header.{Header}

unfoldable pub headers : List Header
headers =
    (RS, text "GL?RS")
    ∷ (KC, text "SM?KC")
    ∷ (KR, text "SM?KR")
    ∷ (KL, text "SM?KL")
    ∷ (KF, text "SM?KF")
    ∷ (KX, text "SM?KX")
    ∷ (KD, text "SM?KD")
    ∷ (GA, text "SM?GA")
    ∷ (GL, text "SM?GL")
    ∷ (KQ, text "SM?KQ")
    ∷ []

-- the command of a header, of those listed
abbrev pub named : List Header → List ℕ → Command
named [] h = Unknown
named (e ∷ es) h = cond (same_bytes h e.1) e.0 (named es h)

-- question 7: the command of a header, one of the ten
unfoldable pub command_of : List ℕ → Command
command_of h = named headers h
