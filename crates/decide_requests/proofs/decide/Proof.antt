-- `decide_requests::decide` meets its contract, a law a return. `third` is what question 3 answered of the rows.
use Rattle.decide_counts.proofs.CountLaws.{counts_yes, slots_within, registers_within}
use Rattle.decide_requests.proofs.CallLaws.{counts_refused, room_refused, rows_refused, supplement_refused, frame_refused, checksum_refused, header_refused, command_decided, is_one_of_ten_lem}
use Rattle.engine.specs.declared.Refusal.TheVariants.{RowCounts, ShortBuffer, UnsoundRows, BadSupplement, BadFrame, BadChecksum, UnknownHeader}
use Rattle.decide_parts.proofs.PartLaws.{refused}
use borrow.Author.Tests.{not-false}
use borrow.Author.Rules.{rules}
use Rattle.decide_requests.proofs.decide.Statement.{statement}
use Rattle.decide_requests.proofs.decide.Tie as tie

pub decide_spec : {M : Type 1} → statement M
decide_spec =
    tie.close
    (tie.spec
    (λ c κs. search rules)
    (λ c κs. search rules)
    (λ c R found. refused _ RowCounts _ _ (search rules) (search counts_refused))
    (λ c κs. search rules)
    (λ c R found. refused _ ShortBuffer _ _ (search rules) (search room_refused))
    (λ c κs. search rules)
    (λ c R found. let third = found (search counts_yes) in refused _ UnsoundRows _ _ (search rules) (search rows_refused))
    (λ c κs. search rules)
    (λ c κs. search rules)
    (λ c R found. let third = found (search counts_yes) in refused _ BadSupplement _ _ (search rules) (search supplement_refused))
    (λ c κs. search rules)
    (λ c κs. search rules)
    (λ c R found. let third = found (search counts_yes) in refused _ BadFrame _ _ (search rules) (search frame_refused))
    (λ c κs. search rules)
    (λ c κs. search rules)
    (λ c R found. let third = found (search counts_yes) in refused _ BadChecksum _ _ (search rules) (search checksum_refused))
    (λ c κs. search rules)
    (λ c κs. search rules)
    (λ c κs. search rules)
    (λ c κs. search rules)
    (λ c R found. let third = found (search counts_yes) in refused _ UnknownHeader _ _ (search rules) (search header_refused))
    (λ c κs. search rules)
    (λ c κs. (search slots_within, search registers_within, search is_one_of_ten_lem))
    (λ c R found.
    let first = c.before.before.before.before.before.before.before.before.before.before.before.before.before.before.before.before.before.first_refusal-first.ensures in
    let third = found (search (counts_yes, first)) in
    let keyed = third.1 (search not-false) in
    search (command_decided, first)))
