-- A run of all seven commands over two centres, A and B: the key that A loaded with a supply group name is reloaded by
-- B without one, stays open where A's session is closed, stays where A is deleted, and goes with its register.
use Rattle.std.specs.Prelude.{ℕ, List, [], ◌∷◌, ◌++◌, replicate}
use Prim.Native.Char.{code}
use Rattle.byte_strings.specs.Texts.{text}
use Rattle.card_stored.specs.Stored.{in_row}
use Rattle.row_types.specs.Slots.{free_slot, filled_slot}
use Rattle.row_types.specs.Registers.{free_register, filled_register, closed_row}
use Rattle.row_types.specs.declared.SlotRow.{SlotRow}
use Rattle.row_types.specs.declared.RegisterRow.{RegisterRow}
use Rattle.row_types.specs.declared.SlotState.{SlotState}
use Rattle.row_types.specs.declared.SlotState.TheVariants.{Pending, Loading, Idle}
use Rattle.row_types.specs.declared.Supplement.{Supplement}
use Rattle.history.specs.Model.{Item, kc, kr, kl, kf, kx, kd, rs, done, refused, loaded, ◌⇒◌}
use Rattle.engine.specs.Words.{Input, Lent}

abbrev pub clock : List ℕ
clock = text "20260101T000000Z"

-- the module's own record, a load request of one byte, a tag of zeros, the check value 92E101, and a check that passed
abbrev pub supplement : Supplement
supplement =
    record {
      clock = clock;
      identity = text "SMID.1:Maker:M1:20200101T000000Z:0123456789ABCDEF:8637";
      identity_length = 54;
      request = text "R";
      request_length = 1;
      tag = text "000000000000000000000000000000000000000000000000";
      check = text "92E101";
      passed = 1;
    }

-- a request with that supplement; its buffer is full of the character 0, so that what lies beyond an answer says 00
abbrev pub hand : List ℕ → Input
hand request = record { request = request; supplement = supplement; buffer = replicate 1024 (code "0") }

abbrev pub start_a : Input
start_a =
    hand (
    text "SM?KCPPK.ECDH.1|KMCID.1:SW1:A:20200101T000000Z:AAAAAAAAAAAAAAAA:9BE0|"
    ++ text "04|20300101T000000Z|||BE23~9E67\r")

abbrev pub response_a : Input
response_a =
    hand (
    text "SM?KRPVKLOAD.RESP.1|KMCID.1:SW1:A:20200101T000000Z:AAAAAAAAAAAAAAAA:9BE0|"
    ++ text "SMID.1:Maker:M1:20200101T000000Z:0123456789ABCDEF:8637|20260101T000000Z|"
    ++ text "000000000000000000000000000000000000000000000000|C956~172D\r")

abbrev pub load_a : Input
load_a =
    hand (
    text "SM?KLPA~PKEY.1|01|"
    ++ text "ACT20130716T151031Z;BDT20130716T151031Z;DKG04;KEN255;KRN6;KTC2;SGC0000758825;SGNSURELOAD KMC TEST VUDK 1;"
    ++ text "|02|67A1~76E8\r")

abbrev pub finish_a : Input
finish_a = hand (text "SM?KFPA~05DC\r")

abbrev pub start_b : Input
start_b =
    hand (
    text "SM?KCPPK.ECDH.1|KMCID.1:SW1:B:20200101T000000Z:BBBBBBBBBBBBBBBB:507D|"
    ++ text "04|20300101T000000Z|||34EE~1B91\r")

abbrev pub response_b : Input
response_b =
    hand (
    text "SM?KRPVKLOAD.RESP.1|KMCID.1:SW1:B:20200101T000000Z:BBBBBBBBBBBBBBBB:507D|"
    ++ text "SMID.1:Maker:M1:20200101T000000Z:0123456789ABCDEF:8637|20260101T000000Z|"
    ++ text "000000000000000000000000000000000000000000000000|11B8~B171\r")

abbrev pub load_b : Input
load_b =
    hand (
    text "SM?KLPB~PKEY.1|01|"
    ++ text "ACT20130716T151031Z;BDT20130716T151031Z;DKG04;KEN255;KRN6;KTC2;SGC0000758825;"
    ++ text "|02|0E6B~E766\r")

abbrev pub delete_a : Input
delete_a = hand (text "SM?KXPA~2DDA\r")

abbrev pub reset_all : Input
reset_all = hand (text "GL?RSCEEF\r")

abbrev pub clear : Input
clear = hand (text "SM?KDN1~7B98\r")

-- the KMCIDs
abbrev pub a : List ℕ
a = text "A"

abbrev pub b : List ℕ
b = text "B"

-- their fingerprints
abbrev pub print_a : List ℕ
print_a = text "AAAAAAAAAAAAAAAA"

abbrev pub print_b : List ℕ
print_b = text "BBBBBBBBBBBBBBBB"

abbrev pub group : List ℕ
group = text "0000758825"

abbrev pub revision : List ℕ
revision = text "6"

-- the card that A's load stores, with the supply group name that it brought, and that of B's, which brought none
abbrev pub card_a : List ℕ
card_a =
    text "ACT20130716T151031Z;BDT20130716T151031Z;CLMFFFFFFFF;CLU0;DKG04;IUT20380119T031407Z;KCV92E101;KEN255;"
    ++ text "KRN6;KSLA;KTC2;SBMFFFF;SGC0000758825;SGNSURELOAD KMC TEST VUDK 1;ULM999999999;VND0;"

abbrev pub card_b : List ℕ
card_b =
    text "ACT20130716T151031Z;BDT20130716T151031Z;CLMFFFFFFFF;CLU0;DKG04;IUT20380119T031407Z;KCV92E101;KEN255;"
    ++ text "KRN6;KSLB;KTC2;SBMFFFF;SGC0000758825;ULM999999999;VND0;"

-- two slot rows and two register rows
abbrev pub lent : SlotRow → SlotRow → RegisterRow → Lent
lent s t r = record { slots = s ∷ t ∷ []; registers = r ∷ free_register ∷ [] }

-- a call, what it is read as, and the rows after it
pub record Stage : Type 0 where
  pub call : Input
  pub item : Item
  pub after : Lent

abbrev pub stage : Input → Item → Lent → Stage
stage call item after = record { call = call; item = item; after = after }

-- the slots of the run
abbrev pub slot_a : SlotState → List ℕ → SlotRow
slot_a state tvp = filled_slot state a print_a tvp

abbrev pub slot_b : SlotState → List ℕ → SlotRow
slot_b state tvp = filled_slot state b print_b tvp

-- open keys, and A's once it is closed
abbrev pub key_a : RegisterRow
key_a = filled_register card_a

abbrev pub key_b : RegisterRow
key_b = filled_register card_b

abbrev pub closed_a : RegisterRow
closed_a = closed_row key_a

abbrev pub closed_b : RegisterRow
closed_b = closed_row key_b

-- centre A loads a key, and SM?KF closes it; the load after SM?KF is refused; SM?KC leaves it closed
abbrev pub centre_a : List Stage
centre_a =
    stage start_a (kc a ⇒ done) (lent (slot_a Pending clock) free_slot free_register)
    ∷ stage response_a (kr a ⇒ done) (lent (slot_a Loading []) free_slot free_register)
    ∷ stage load_a (kl a group revision ⇒ loaded 1 (in_row card_a)) (lent (slot_a Loading []) free_slot key_a)
    ∷ stage finish_a (kf a ⇒ done) (lent (slot_a Idle []) free_slot closed_a)
    ∷ stage load_a (kl a group revision ⇒ refused) (lent (slot_a Idle []) free_slot closed_a)
    ∷ stage start_a (kc a ⇒ done) (lent (slot_a Pending clock) free_slot closed_a)
    ∷ []

-- centre B reloads it, and no supply group name is left; SM?KF of A leaves open what B reloaded
abbrev pub centre_b : List Stage
centre_b =
    stage start_b (kc b ⇒ done) (lent (slot_a Pending clock) (slot_b Pending clock) closed_a)
    ∷ stage response_b (kr b ⇒ done) (lent (slot_a Pending clock) (slot_b Loading []) closed_a)
    ∷ stage load_b (kl b group revision ⇒ loaded 1 (in_row card_b))
    (lent (slot_a Pending clock) (slot_b Loading []) key_b)
    ∷ stage finish_a (kf a ⇒ done) (lent (slot_a Idle []) (slot_b Loading []) key_b)
    ∷ []

-- A is deleted and the key stays, open; GL?RS closes it, and the load after it is refused; the register is deleted
abbrev pub deletions : List Stage
deletions =
    stage delete_a (kx a ⇒ done) (lent free_slot (slot_b Loading []) key_b)
    ∷ stage reset_all (rs ⇒ done) (lent free_slot (slot_b Idle []) closed_b)
    ∷ stage load_b (kl b group revision ⇒ refused) (lent free_slot (slot_b Idle []) closed_b)
    ∷ stage clear (kd 1 ⇒ done) (lent free_slot (slot_b Idle []) free_register)
    ∷ []

-- the run
abbrev pub stages : List Stage
stages = centre_a ++ (centre_b ++ deletions)
