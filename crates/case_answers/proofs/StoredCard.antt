-- The register row after an accepted SM?KL reads back, name by name, from the request's card, the default card, the slot and the supplement.
use mathlib.Core.Path.{◌≡◌, refl, sym, ap, subst, ◌∙◌}
use mathlib.Core.Bool.{true}
use mathlib.Core.List.{List, [], ◌∷◌}
use mathlib.Core.Option.{some}
use Prim.Native.Nat.{ℕ, ◌+◌, ◌<◌}
use lib.ListN.{length, get_or, drop}
use lib.Seq.{get_or-set_same}
use Rattle.byte_strings.specs.Texts.{text}
use Rattle.text_classes.specs.Classes.{are_all}
use Rattle.text_decimals.specs.Decimals.{is_number, is_unpadded}
use Rattle.field_values.specs.Values.{Value}
use Rattle.message_replies.specs.Responses.{fields_of}
use Rattle.text_forms.specs.declared.Form.TheVariants.{Timestamp, Algorithm, Number, Digits, Hex, Name}
use Rattle.card_entries.specs.Entries.{name_of, value_of, or_else, value_or}
use Rattle.card_attributes.specs.Table.{ACT, BDT, CLM, CLU, DKG, IUT, KCV, KEN, KRN, KSL, KTC, SBM, SGC, SGN, ULM, VND, table, always, name, presence}
use Rattle.card_attributes.specs.declared.Presence.TheVariants.{Required, Optional, Engine}
use Rattle.card_attributes.specs.declared.Attribute.{Attribute}
use Rattle.card_stored.specs.Stored.{default_card, load_values, stored_value, in_row}
use Rattle.card_laws.proofs.Incoming.{stored_back, required_back, sgn_back, sgn_card_back, stored_measured}
use Rattle.message_commands.specs.declared.Command.{Command}
use Rattle.message_commands.specs.declared.Command.TheVariants.{KL}
use Rattle.row_types.specs.Lists.{trimmed}
use Rattle.row_types.specs.Registers.{attribute_of, free_register, filled_register}
use Rattle.row_types.specs.RowReplies.{stored_in}
use Rattle.row_types.specs.declared.RegisterRow.{RegisterRow}
use Rattle.engine.specs.Requests.{command_in, fields_in, record_in, slot_in, card_in, register_in, second_text}
use Rattle.engine.specs.Questions.{Call}
use Rattle.engine.specs.Answers.{response, loaded_card, card_place, answered, effect, answer_of}
use Rattle.engine.proofs.AnswerLaws.{is_yes}
use Rattle.engine.proofs.Steps.{Yes, yes_of, register_at_lem, is_name, is_card_lem, is_check, load_fields, load_reads, kl_reply}
use Rattle.case_answers.proofs.Accepted.{none_first}

-- "0"
abbrev pub zero : List ℕ
zero = 48 ∷ []

-- the values of optional attributes that the request's card leaves out; "FFFFFFFF"
abbrev pub clm_default : List ℕ
clm_default = text "FFFFFFFF"

abbrev pub iut_default : List ℕ
iut_default = text "20380119T031407Z"

abbrev pub sbm_default : List ℕ
sbm_default = text "FFFF"

abbrev pub ulm_default : List ℕ
ulm_default = text "999999999"

-- what the row of a stored card has under each of the sixteen names, from the request's card, the check value and the slot; SGN as the request's card has it
pub record Stored (card check slot : List ℕ) (row : RegisterRow) : Type 0 where
  pub act : value_of ACT card ≡ some (attribute_of ACT row)
  pub bdt : value_of BDT card ≡ some (attribute_of BDT row)
  pub clm : attribute_of CLM row ≡ or_else (value_of CLM card) clm_default
  pub clu : attribute_of CLU row ≡ zero
  pub dkg : value_of DKG card ≡ some (attribute_of DKG row)
  pub iut : attribute_of IUT row ≡ or_else (value_of IUT card) iut_default
  pub kcv : attribute_of KCV row ≡ check
  pub ken : value_of KEN card ≡ some (attribute_of KEN row)
  pub krn : value_of KRN card ≡ some (attribute_of KRN row)
  pub ksl : attribute_of KSL row ≡ slot
  pub ktc : value_of KTC card ≡ some (attribute_of KTC row)
  pub sbm : attribute_of SBM row ≡ or_else (value_of SBM card) sbm_default
  pub sgc : value_of SGC card ≡ some (attribute_of SGC row)
  pub sgn : value_of SGN row.card ≡ value_of SGN card
  pub ulm : attribute_of ULM row ≡ or_else (value_of ULM card) ulm_default
  pub vnd : attribute_of VND row ≡ zero

-- the default card has them
clm_default_lem : or_else (value_of CLM default_card) [] ≡ clm_default
unfolding default_card value_of name_of
clm_default_lem = refl

iut_default_lem : or_else (value_of IUT default_card) [] ≡ iut_default
unfolding default_card value_of name_of
iut_default_lem = refl

sbm_default_lem : or_else (value_of SBM default_card) [] ≡ sbm_default
unfolding default_card value_of name_of
sbm_default_lem = refl

ulm_default_lem : or_else (value_of ULM default_card) [] ≡ ulm_default
unfolding default_card value_of name_of
ulm_default_lem = refl

-- an accepted SM?KL
module _ (x : Call) (c : command_in x.request ≡ KL) (y : is_yes (answer_of x).outcome ≡ true) where
  abbrev vs : List Value
  vs = fields_in x.request

  -- the card in its record, and its slot
  abbrev pub card : List ℕ
  card = card_in (record_in KL vs)

  abbrev pub slot : List ℕ
  slot = slot_in KL vs

  -- the place where the key goes, and the row there after the answer
  abbrev pub place : ℕ
  place = card_place card x.registers

  abbrev pub row : RegisterRow
  row = get_or (answer_of x).registers place free_register

  yes : Yes x KL vs
  yes = subst (λ (d : Command). Yes x d vs) c (yes_of x (none_first x y))

  does : answer_of x ≡ effect x KL vs (record_in KL vs) slot
  unfolding answer_of
  does = rw (none_first x y, c) refl

  pub place_within : place < length x.registers
  unfolding card_place
  place_within = rw (register_at_lem x vs yes).is (register_at_lem x vs yes).within

  -- its bytes are those of the stored card, then zeros
  pub row_is : row ≡ filled_register (loaded_card card x.supplement.check slot)
  unfolding answered
  row_is = rw does (get_or-set_same x.registers place (filled_register (loaded_card card x.supplement.check slot)) free_register place_within)

  -- an attribute that every stored card has
  module _ (j : ℕ) (a : Attribute) (r : List Attribute) (e : drop j always ≡ a ∷ r) where
    abbrev value : List ℕ
    value = stored_value card (load_values x.supplement.check slot) (name a)

    row_has : value_of (name a) row.card ≡ some value
    unfolding filled_register loaded_card are_all is_number is_unpadded
    row_has = rw row_is (stored_back card (is_card_lem x vs yes) (load_values x.supplement.check slot) refl (is_check x vs yes) (is_name x vs yes) refl j a r e)

    -- reads back what is stored under its name,
    pub stored_reads : attribute_of (name a) row ≡ value
    unfolding attribute_of
    stored_reads = rw row_has refl

    -- and where it is required what the request's card has
    pub required_reads : presence a ≡ Required → value_of (name a) card ≡ some (attribute_of (name a) row)
    unfolding filled_register loaded_card are_all is_number is_unpadded
    required_reads q =
        let b = required_back card (is_card_lem x vs yes) (load_values x.supplement.check slot) refl (is_check x vs yes) (is_name x vs yes) refl j a r e q in
        let w : value_of (name a) row.card ≡ value_of (name a) card = rw row_is b in
        sym w ∙ row_has ∙ ap some (sym stored_reads)

  -- SGN
  sgn_reads : value_of SGN row.card ≡ value_of SGN card
  unfolding filled_register loaded_card are_all is_number is_unpadded
  sgn_reads = rw row_is (sgn_back card (is_card_lem x vs yes) (load_values x.supplement.check slot) refl (is_check x vs yes) (is_name x vs yes) refl)

  -- THE STORED CARD, name by name
  pub stored_card_lem : Stored card x.supplement.check slot row
  unfolding table always stored_value value_or
  stored_card_lem = record {
    act = required_reads 0 (ACT, Required, Timestamp) _ refl refl;
    bdt = required_reads 1 (BDT, Required, Timestamp) _ refl refl;
    clm = stored_reads 2 (CLM, Optional, Hex 8) _ refl ∙ ap (or_else (value_of CLM card)) clm_default_lem;
    clu = stored_reads 3 (CLU, Engine, Number 1 0 0) _ refl;
    dkg = required_reads 4 (DKG, Required, Algorithm) _ refl refl;
    iut = stored_reads 5 (IUT, Optional, Timestamp) _ refl ∙ ap (or_else (value_of IUT card)) iut_default_lem;
    kcv = stored_reads 6 (KCV, Engine, Hex 6) _ refl;
    ken = required_reads 7 (KEN, Required, Number 3 0 255) _ refl refl;
    krn = required_reads 8 (KRN, Required, Number 1 1 9) _ refl refl;
    ksl = stored_reads 9 (KSL, Engine, Name) _ refl;
    ktc = required_reads 10 (KTC, Required, Number 1 0 3) _ refl refl;
    sbm = stored_reads 11 (SBM, Optional, Hex 4) _ refl ∙ ap (or_else (value_of SBM card)) sbm_default_lem;
    sgc = required_reads 12 (SGC, Required, Digits 10) _ refl refl;
    sgn = sgn_reads;
    ulm = stored_reads 13 (ULM, Optional, Number 9 0 999999999) _ refl ∙ ap (or_else (value_of ULM card)) ulm_default_lem;
    vnd = stored_reads 14 (VND, Engine, Number 9 0 999999999) _ refl;
  }

  -- SM?GA shows it without the zeros: the stored card itself
  pub shown_card : stored_in row ≡ loaded_card card x.supplement.check slot
  unfolding filled_register loaded_card trimmed are_all is_number is_unpadded
  shown_card = rw row_is (stored_measured card (is_card_lem x vs yes) (load_values x.supplement.check slot) refl (is_check x vs yes) (is_name x vs yes) refl)

  -- the reply's register is that place, counted from 1, and its card the row's, where the count of registers is the rows'
  module _ (n : x.register_count ≡ length x.registers) where
    says : fields_of (response (answer_of x)) ≡ load_fields x vs yes
    says = rw (does, kl_reply x vs yes) (load_reads x vs yes n)

    pub answered_register : register_in (fields_of (response (answer_of x))) ≡ place + 1
    unfolding card_place
    answered_register = rw (says, (register_at_lem x vs yes).is) refl

    pub answered_card : row.card ≡ in_row (second_text (fields_of (response (answer_of x))))
    unfolding filled_register
    answered_card = rw (says, row_is) refl

    -- SGN of the reply's card is that of the request's
    pub answered_sgn : value_of SGN (second_text (fields_of (response (answer_of x)))) ≡ value_of SGN card
    unfolding loaded_card are_all is_number is_unpadded
    answered_sgn = rw says (sgn_card_back card (is_card_lem x vs yes) (load_values x.supplement.check slot) refl (is_check x vs yes) (is_name x vs yes) refl)
