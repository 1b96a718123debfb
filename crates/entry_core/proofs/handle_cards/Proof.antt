-- `entry_core::handle_cards` meets its contract: demands 1 and 2. What was decided is said for any rows of which what was found is true, so it is applied to these by hand.
use Rattle.entry_core.proofs.HandleLaws.{responds, slots_can, registers_can, outcome_right, rows_right, responded}
use borrow.Author.Rules.{rules}
use Rattle.entry_core.proofs.handle_cards.Statement.{statement}
use Rattle.entry_core.proofs.handle_cards.Tie as tie

returns : tie.Need-returns
returns c =
    let e = (c.decide-d.ensures _ c.find-f.ensures.0) in
    (search (outcome_right, e), (search (responded, e), (search (rows_right, e), search rules)))

pub handle_cards_spec : {M : Type 1} → statement M
handle_cards_spec =
    tie.close
    (tie.spec
    (λ c κs. search rules)
    (λ c κs. search rules)
    (λ c κs. search rules)
    (λ c κs. search rules)
    (λ c κs. slots_can _ _ _ _ _ _ _ _ (c.decide-d.ensures _ c.find-f.ensures.0) _ c.find-f.ensures.1 _ c.payload-p.ensures)
    (λ c κs. (search rules, registers_can _ _ _ _ _ _ _ _ (c.decide-d.ensures _ c.find-f.ensures.0) _ c.find-f.ensures.1 _ c.payload-p.ensures))
    (λ c κs. (search rules, responds _ _ _ _ _ _ _ _ (c.decide-d.ensures _ c.find-f.ensures.0) _ c.find-f.ensures.1 _ c.payload-p.ensures _ _ c.change_registers-marks_after.ensures))
    (λ c. search rules)
    (λ c. search rules)
    returns)
