-- The sample values that document 01 marks with +, and those of the supply group name (document 02, N2), as two lists
-- under one statement about the definitions that the contracts cite.
use Rattle.std.specs.Prelude.{ℕ, ◌≡◌, Bool, true, false, List, [], ◌∷◌, ◌++◌}
use Rattle.byte_strings.specs.Texts.{text}
use Rattle.check_sums.specs.Checksum.{sum_digits}
use Rattle.check_sums.specs.declared.Kind.TheVariants.{Arc}
use Rattle.field_values.specs.Values.{Value, number, string, bad, values_of}
use Rattle.text_timestamps.specs.Timestamps.{is_timestamp}
use Rattle.card_incoming.specs.Incoming.{is_incoming}
use Rattle.card_stored.specs.Stored.{in_row, is_stored}

-- a sample: the checksum of a text; the one field that a payload is read as; whether a text is a timestamp; whether a
-- card passes question 10; whether a card in its row is one as stored
pub data Sample : Type 0 where
  sum : List ℕ → List ℕ → Sample
  reads : List ℕ → Value → Sample
  timestamp : List ℕ → Bool → Sample
  card : List ℕ → Bool → Sample
  row : List ℕ → Bool → Sample

abbrev pub Holds : Sample → Type 0
Holds (sum s digits) = sum_digits Arc s ≡ digits
Holds (reads s v) = values_of s ≡ v ∷ []
Holds (timestamp s b) = is_timestamp s ≡ b
Holds (card s b) = is_incoming s ≡ b
Holds (row s b) = is_stored (in_row s) ≡ b

abbrev pub AllHold : List Sample → Type 0
AllHold [] = Unit
AllHold (x ∷ xs) = Holds x × AllHold xs

-- document 01
unfoldable pub samples : List Sample
samples =
    sum [] (text "0000")
    ∷ sum (text "123456789") (text "BB3D")
    ∷ sum (text "SM?DI") (text "9A51")
    ∷ reads (text "N0~") (number 0)
    ∷ reads (text "N2147483647~") (number 2147483647)
    ∷ reads (text "N2147483648~") bad
    ∷ reads (text "N01~") bad
    ∷ reads (text "N~") bad
    ∷ reads (text "P~") (string [])
    ∷ timestamp (text "20000229T000000Z") true
    ∷ timestamp (text "19000229T000000Z") false
    ∷ timestamp (text "20130303T240000Z") false
    ∷ card (text "ACT20130716T151031Z;BDT20130716T151031Z;DKG04;KEN255;KRN6;KTC2;SGC0000758825;") true
    ∷ card (text "ACT20130716T151031Z;BDT20130716T151031Z;DKG04;KRN6;KEN255;KTC2;SGC0000758825;") false
    ∷ card (text "ACT20130716T151031Z;BDT20130716T151031Z;DKG04;KEN255;KRN0;KTC2;SGC0000758825;") false
    ∷ []

-- an incoming card, and a stored one, with so much after KTC and after SBM
abbrev pub incoming : List ℕ → List ℕ
incoming s = text "ACT20130716T151031Z;BDT20130716T151031Z;DKG04;KEN255;KRN6;KTC2;" ++ s

abbrev pub stored : List ℕ → List ℕ
stored s =
    text "ACT20130716T151031Z;BDT20130716T151031Z;CLMFFFFFFFF;CLU0;DKG04;IUT20380119T031407Z;KCV92E101;KEN255;KRN6;"
    ++ (text "KSLKMC1;KTC2;SBMFFFF;" ++ s)

-- a name of 24 bytes (003 Appendix A)
abbrev pub longest : List ℕ
longest = text "SURELOAD KMC TEST VUDK 1"

-- SGN empty, of one byte, of 24 and of 25; a byte outside; twice, before SGC, after ULM
unfoldable pub name_samples : List Sample
name_samples =
    card (incoming (text "SGC0000758825;SGN;")) true
    ∷ card (incoming (text "SGC0000758825;SGNA;ULM5;")) true
    ∷ card (incoming (text "SGC0000758825;SGN" ++ (longest ++ text ";"))) true
    ∷ card (incoming (text "SGC0000758825;SGN" ++ (longest ++ text "2;"))) false
    ∷ card (incoming (text "SGC0000758825;SGNA~;")) false
    ∷ card (incoming (text "SGC0000758825;SGNA|;")) false
    ∷ card (incoming (text "SGC0000758825;SGNA;SGNB;")) false
    ∷ card (incoming (text "SGNA;SGC0000758825;")) false
    ∷ card (incoming (text "SGC0000758825;ULM5;SGNA;")) false
    ∷ row (stored (text "SGC0000758825;ULM5;VND0;")) true
    ∷ row (stored (text "SGC0000758825;SGN;ULM5;VND0;")) true
    ∷ row (stored (text "SGC0000758825;SGN" ++ (longest ++ text ";ULM5;VND0;"))) true
    ∷ row (stored (text "SGC0000758825;SGN" ++ (longest ++ text "2;ULM5;VND0;"))) false
    ∷ row (stored (text "SGC0000758825;SGNA~;ULM5;VND0;")) false
    ∷ row (stored (text "SGC0000758825;SGNA;SGNB;ULM5;VND0;")) false
    ∷ row (stored (text "SGNA;SGC0000758825;ULM5;VND0;")) false
    ∷ row (stored (text "SGC0000758825;ULM5;SGNA;VND0;")) false
    ∷ []
