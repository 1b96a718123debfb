-- `decide_opens::decide_load_response` meets its contract: each return is the questions so far, in turn.
use mathlib.Core.Path.{refl}
use Rattle.byte_bounds.proofs.BoundsLaws.{part_fits}
use Rattle.record_types.proofs.PartLaws.{found_response}
use Rattle.engine.specs.declared.Refusal.TheVariants.{BadRecord, BadForm, UnknownSlot, WrongState}
use Rattle.decide_parts.proofs.PartLaws.{refused, grants, opened}
use Rattle.decide_records.proofs.WordLaws.{response_identity}
use Rattle.decide_questions.proofs.Asking.{ask_no, ask_yes, ask_unplaced}
use Rattle.decide_questions.proofs.Known.{place_in_lem, place_fits}
use Rattle.decide_questions.proofs.RecordLaws.{row_at, open_by, open_then, open_state_no, open_state_yes}
use borrow.Author.Rules.{rules}
use Rattle.decide_opens.proofs.decide_load_response.Statement.{statement}
use Rattle.decide_opens.proofs.decide_load_response.Tie as tie

pub decide_load_response_spec : {M : Type 1} → statement M
decide_load_response_spec =
    tie.close
    (tie.spec
    (λ c. search rules)
    (λ c. search rules)
    (λ c. search rules)
    (λ c κs. search rules)
    (λ c κs. search rules)
    (λ c k h x. refused _ BadRecord _ _ (search rules) (search (open_by, ask_no)))
    (λ c κs. search found_response)
    (λ c κs. search rules)
    (λ c k h x. refused _ BadForm _ _ (search rules) (search (open_by, ask_no, ask_yes)))
    (λ c κs. search response_identity)
    (λ c κs. search rules)
    (λ c. search rules)
    (λ c. search rules)
    (λ c κs. search rules)
    (λ c k h x.
    refused _ UnknownSlot _ _ (search rules) (open_then _ _ _ c.requires.1 _ h _ _ x _ _ c.if-not-answer.false c.if-not-is_response_in_form.false c.read_response-answer.ensures.0 c.is_response_in_form.ensures _ (search ask_unplaced) refl))
    (λ c. search (place_fits, rules))
    (λ c. search (place_in_lem, rules))
    (λ c κs. search rules)
    (λ c κs. search rules)
    (λ c k h x.
    refused _ WrongState _ _ (search rules) (open_state_no _ _ _ c.requires.1 _ h _ _ x _ _ c.if-not-answer.false c.if-not-is_response_in_form.false c.read_response-answer.ensures.0 c.is_response_in_form.ensures _ c.known_place-place.ensures.0 _ c.in-At.is _ _ c.has_state.ensures c.if-not-has_state.true refl (row_at _ _ (search (c.well_formed, rules)) c.requires.0 _ c.known_place-place.result c.known_place-place.ensures.0 c.known_place-place.ensures.1 _ c.in-At.is _)))
    (λ c κs. search found_response)
    (λ c κs. (c.requires.1.stands.0.0, search part_fits))
    (λ c κs. search rules)
    (λ c k h x.
    opened _ _ c.requires.1 _ c.kmcid_bounds-kmcid.ensures _ _ (search (grants, c.decide_response-decision.ensures)) _ c.inside.ensures c.open_parts-parts.ensures _
    (open_state_yes _ _ _ c.requires.1 _ h _ _ x _ _ c.if-not-answer.false c.if-not-is_response_in_form.false c.read_response-answer.ensures.0 c.is_response_in_form.ensures _ c.known_place-place.ensures.0 _ c.in-At.is _ _ c.has_state.ensures c.if-not-has_state.false c.decide_response-decision.ensures (row_at _ _ (search (c.well_formed, rules)) c.requires.0 _ c.known_place-place.result c.known_place-place.ensures.0 c.known_place-place.ensures.1 _ c.in-At.is _))))
