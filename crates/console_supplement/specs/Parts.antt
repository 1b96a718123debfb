-- The supplement that the console hands in (docs/CONSOLE.md; document 01, What the caller lends).
use Rattle.std.specs.Prelude.{ℕ, cond, List, eqb, length, replicate}
use Prim.Native.Char.{code}
use Rattle.byte_strings.specs.Texts.{text}
use Rattle.row_types.specs.Lists.{padded}
use Rattle.row_types.specs.declared.Supplement.{Supplement}
use Rattle.console_verbs.specs.declared.Part.{Part}
use Rattle.console_verbs.specs.declared.Part.TheVariants.{Clock, Identity, LoadRequest, Tag, Check}

-- bytes that fill their place; where they do not, zeros, which are in no form
unfoldable pub fitted : ℕ → List ℕ → List ℕ
fitted n v = cond (eqb (length v) n) v (replicate n 0)

abbrev pub with_passed : ℕ → Supplement → Supplement
with_passed n x = record x { passed = n }

-- one part set; of a record that is too long the length is kept, so that it is out of form
abbrev pub with_part : Part → List ℕ → Supplement → Supplement
with_part Clock v x = record x { clock = fitted 16 v }
with_part Identity v x = record x { identity = padded 128 v; identity_length = length v }
with_part LoadRequest v x = record x { request = padded 700 v; request_length = length v }
with_part Tag v x = record x { tag = fitted 48 v }
with_part Check v x = record x { check = fitted 6 v }

-- tag 48 zeros, check value 000000, check passed; clock and records still to be set
unfoldable pub blank : Supplement
blank =
    record {
      clock = replicate 16 0;
      identity = replicate 128 0;
      identity_length = 0;
      request = replicate 700 0;
      request_length = 0;
      tag = replicate 48 (code "0");
      check = text "000000";
      passed = 1;
    }

abbrev pub start_clock : List ℕ
start_clock = text "20260101T000000Z"

-- 001 example 6.3.4.4
abbrev pub start_identity : List ℕ
start_identity = text "SMID.1:Prism:12345678:20130303T153830Z:E7C42215AF1FE951:9C7D"

abbrev pub start_request : List ℕ
start_request = text "VKLOAD.REQ.1"

unfoldable pub start_supplement : Supplement
start_supplement =
    with_part LoadRequest start_request (with_part Identity start_identity (with_part Clock start_clock blank))
