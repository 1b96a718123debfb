-- `decide_loads::decide_key` meets its contract: each return is the questions so far, in turn. `first` is what is known once the record is in form, `start` what is known at the call.
use mathlib.Core.Path.{refl}
use native.Mathlib.Omega.{arith}
use borrow.Author.Tests.{not-false}
use Rattle.byte_bounds.proofs.BoundsLaws.{part_fits}
use Rattle.record_parser.proofs.FieldLaws.{found_fields, field_fits, field_is, part_is}
use Rattle.record_types.specs.KeyRecords.{bar}
use Rattle.engine.specs.declared.Refusal.TheVariants.{BadRecord, BadForm, UnknownSlot, WrongState}
use Rattle.decide_parts.proofs.PartLaws.{refused, grants, loaded}
use Rattle.decide_questions.proofs.Asking.{ask_no, ask_yes, ask_unplaced}
use Rattle.decide_questions.proofs.Known.{place_in_lem, place_fits}
use Rattle.decide_questions.proofs.RecordLaws.{row_at, load_by, load_then, load_state_no, load_state_yes, card_in_form, card_values}
use borrow.Author.Rules.{rules}
use Rattle.decide_loads.proofs.decide_key.Statement.{statement}
use Rattle.decide_loads.proofs.decide_key.Tie as tie

pub decide_key_spec : {M : Type 1} → statement M
decide_key_spec =
    tie.close
    (tie.spec
    (λ c. search rules)
    (λ c. search rules)
    (λ c. search rules)
    (λ c κs. search rules)
    (λ c κs. search rules)
    (λ c k h i x. refused _ BadRecord _ _ (search rules) (search (load_by, ask_no)))
    (λ c κs. search found_fields)
    (λ c κs. search rules)
    (λ c k h i x. refused _ BadForm _ _ (search rules) (search (load_by, ask_no, ask_yes)))
    (λ c. search rules)
    (λ c. search rules)
    (λ c. search rules)
    (λ c κs. search rules)
    (λ c. search rules)
    (λ c. search rules)
    (λ c κs. search rules)
    (λ c k h i x.
    refused _ UnknownSlot _ _ (search rules) (load_then _ _ _ c.requires.1.1 _ h _ _ x _ _ c.if-not-key.false c.if-not-read.false c.read_key-key.ensures.0 c.read_key_card-read.ensures.0 _ (search ask_unplaced) refl))
    (λ c. record { fits = place_fits _ c.slot_place-place.result _ c.slot_place-place.ensures.1 c.in-At.is c.requires.0 })
    (λ c. place_in_lem _ _ c.slot_place-place.result _ c.slot_place-place.ensures.1 c.in-At.is c.requires.0)
    (λ c κs. search rules)
    (λ c κs. search rules)
    (λ c k h i x.
    refused _ WrongState _ _ (search rules) (load_state_no _ _ _ c.requires.1.1 _ h _ _ x _ _ c.if-not-key.false c.if-not-read.false c.read_key-key.ensures.0 c.read_key_card-read.ensures.0 _ c.slot_place-place.ensures.0 _ c.in-At.is _ _ c.has_state.ensures c.if-not-has_state.true refl (row_at _ _ (search (c.well_formed, rules)) c.requires.0 _ c.slot_place-place.result c.slot_place-place.ensures.0 c.slot_place-place.ensures.1 _ c.in-At.is _)))
    (λ c. search rules)
    (λ c κs.
    let fields = found_fields _ _ _ _ _ c.read_key-key.ensures.1 c.if-not-key.false in
    search (field_fits, fields, rules))
    (λ c κs.
    let fields = found_fields _ _ _ _ _ c.read_key-key.ensures.1 c.if-not-key.false in
    let card = part_is bar 3 _ _ fields 2 (omega arith) _ c.part-card.ensures in
    (c.requires.1.0, (card_in_form _ _ card _ c.if-not-read.false c.read_key_card-read.ensures.0, card_values _ _ card _ c.if-not-read.false _ c.read_key_card-read.ensures.1)))
    (λ c. search rules)
    (λ c κs.
    let fields = found_fields _ _ _ _ _ c.read_key-key.ensures.1 c.if-not-key.false in
    let both = c.requires.1.1 in
    (both.second_stands.0.0, part_fits _ _ both.second_stands.0 _ (field_fits bar 3 _ _ fields 2 (omega arith))))
    (λ c κs. search rules)
    (λ c k h i x.
    let fields = found_fields _ _ _ _ _ c.read_key-key.ensures.1 c.if-not-key.false in
    let card = part_is bar 3 _ _ fields 2 (omega arith) _ c.part-card.ensures in
    loaded _ _ c.requires.1.1 _ _ (field_fits bar 3 _ _ fields 2 (omega arith), field_is bar 3 _ _ fields 2 (omega arith)) (c.read_key_card-read.ensures.1 (not-false _ c.if-not-read.false)) _ _ (search (grants, c.decide_store-decision.ensures k.registers i))
    c.load_parts-parts.ensures.0 _ c.inside.ensures c.load_parts-parts.ensures.1.0 c.load_parts-parts.ensures.1.1 _
    (load_state_yes _ _ _ c.requires.1.1 _ h _ _ x _ _ c.if-not-key.false c.if-not-read.false c.read_key-key.ensures.0 c.read_key_card-read.ensures.0 _ c.slot_place-place.ensures.0 _ c.in-At.is _ _ c.has_state.ensures c.if-not-has_state.false _ i _ card c.decide_store-decision.ensures (row_at _ _ (search (c.well_formed, rules)) c.requires.0 _ c.slot_place-place.result c.slot_place-place.ensures.0 c.slot_place-place.ensures.1 _ c.in-At.is _))))
