-- `decide_starts::decide_public_key` meets its contract: each return is the questions so far, in turn.
use Rattle.byte_bounds.proofs.BoundsLaws.{part_fits}
use Rattle.record_types.proofs.PartLaws.{found_key}
use Rattle.engine.specs.declared.Refusal.TheVariants.{BadRecord, BadForm, Expired, NoFreeSlot, CheckFailed}
use Rattle.decide_parts.proofs.PartLaws.{refused, started}
use Rattle.decide_records.proofs.WordLaws.{key_identity}
use Rattle.decide_questions.proofs.Asking.{ask_no, ask_yes, ask_held, ask_unplaced, ask_placed, start_at}
use Rattle.decide_questions.proofs.RecordLaws.{start_by, start_then}
use borrow.Author.Rules.{rules}
use Rattle.decide_starts.proofs.decide_public_key.Statement.{statement}
use Rattle.decide_starts.proofs.decide_public_key.Tie as tie

pub decide_public_key_spec : {M : Type 1} → statement M
decide_public_key_spec =
    tie.close
    (tie.spec
    (λ c. search rules)
    (λ c. search rules)
    (λ c. search rules)
    (λ c κs. search rules)
    (λ c κs. search rules)
    (λ c k h x. refused _ BadRecord _ _ (search rules) (search (start_by, ask_no)))
    (λ c κs. search found_key)
    (λ c κs. search rules)
    (λ c k h x. refused _ BadForm _ _ (search rules) (search (start_by, ask_no, ask_yes)))
    (λ c κs. search found_key)
    (λ c κs. search rules)
    (λ c k h x. refused _ Expired _ _ (search rules) (start_then _ _ _ c.requires.1 _ h _ _ x _ _ c.if-not-key.false c.if-not-is_public_key_in_form.false c.read_public_key-key.ensures.0 c.is_public_key_in_form.ensures (search ask_no)))
    (λ c κs. search key_identity)
    (λ c κs. search rules)
    (λ c. search rules)
    (λ c. search rules)
    (λ c κs. search rules)
    (λ c k h x. refused _ NoFreeSlot _ _ (search rules) (start_then _ _ _ c.requires.1 _ h _ _ x _ _ c.if-not-key.false c.if-not-is_public_key_in_form.false c.read_public_key-key.ensures.0 c.is_public_key_in_form.ensures (search (ask_yes, ask_unplaced))))
    (λ c κs. search rules)
    (λ c κs. search rules)
    (λ c k h x. refused _ CheckFailed _ _ (search rules) (start_then _ _ _ c.requires.1 _ h _ _ x _ _ c.if-not-key.false c.if-not-is_public_key_in_form.false c.read_public_key-key.ensures.0 c.is_public_key_in_form.ensures (search (ask_yes, ask_placed, ask_no, c.is_not_expired.ensures, c.session_place-place.ensures))))
    (λ c κs. search key_identity)
    (λ c κs. let only = c.requires.1 in (only.stands.0.0, (part_fits _ _ only.stands.0 _ c.kmcid_bounds-kmcid.ensures.0, part_fits _ _ only.stands.0 _ c.fingerprint_bounds-fingerprint.ensures.0)))
    (λ c k h x.
    started _ _ c.requires.1 _ c.kmcid_bounds-kmcid.ensures _ c.fingerprint_bounds-fingerprint.ensures _ _ c.grant_start.ensures.0 c.grant_start.ensures.1.0 c.grant_start.ensures.1.1 _
    (start_then _ _ _ c.requires.1 _ h _ _ x _ _ c.if-not-key.false c.if-not-is_public_key_in_form.false c.read_public_key-key.ensures.0 c.is_public_key_in_form.ensures (search (ask_held, ask_placed, start_at, c.is_not_expired.ensures, c.if-not-is_not_expired.false, c.session_place-place.ensures, c.in-At.is, c.has_passed.ensures, c.if-not-has_passed.false)))))
