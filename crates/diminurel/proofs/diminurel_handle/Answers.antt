-- What is promised over the tables that the rows are loaded into is promised over the rows: where the first two questions refuse, where a later refusal stores none, and where the tables are stored.
use mathlib.Core.Bool.{not}
use lib.Dec.{T, eqb, eqb→eq, not_T}
use Rattle.std.proofs.Common.{rules, ◌≡◌, ◌∙◌, sym, ℕ, length}
use Rattle.row_lending.proofs.OverlayLaws.{both_put}
use Rattle.entry_contracts.proofs.LentLaws.{refused_first, kept, stored}
use Rattle.diminurel.proofs.diminurel_handle.Goals as goal

refused : (n : ℕ) → (n ≡ 0 → ⊥) → T (not (eqb n 0))
refused n h = not_T (eqb n 0) (λ t. h (eqb→eq n 0 t))

asked : (n : ℕ) → n ≡ 0 → T (not (not (eqb n 0)))
asked n h = rw h tt

pub returns-then-first-ne0 : goal.returns-then-first-ne0
returns-then-first-ne0 c =
    rw c.first_refusal-first.ensures
    (refused_first c.args.slots.now c.args.registers.now c.args.supplement c.args.request.now c.args.response.now
    (refused _ (λ e. c.if-first-ne0.true (c.first_refusal-first.ensures ∙ e))))

pub returns-then-a-ne0 : goal.returns-then-a-ne0
returns-then-a-ne0 c =
    kept c.args.slots.now c.args.registers.now c.args.supplement c.args.request.now c.args.response.now
    (asked _ (sym c.first_refusal-first.ensures ∙ c.if-first-ne0.false))
    c.answer-a.result.reply c.answer-a.new.response _
    (rw (c.load_slots.ensures, c.load_cards-cards.ensures, c.load_marks-marks.ensures) at c.answer-a.ensures)
    (refused _ c.if-a-ne0.true)

pub returns : goal.returns
returns c =
    let cards : length c.answer-a.new.cards ≡ 32 = search rules in
    let marks : length c.answer-a.result.marks ≡ 32 = search rules in
    let long : length c.answer-a.new.cards ≡ length c.answer-a.result.marks = cards ∙ sym marks in
    rw (c.store_slots.ensures, c.store_marks.ensures, c.store_cards.ensures, both_put c.args.registers.now c.answer-a.new.cards c.answer-a.result.marks long)
    (stored c.args.slots.now c.args.registers.now c.args.supplement c.args.request.now c.args.response.now
    (asked _ (sym c.first_refusal-first.ensures ∙ c.if-first-ne0.false))
    c.answer-a.result.reply c.answer-a.new.response _
    (rw (c.load_slots.ensures, c.load_cards-cards.ensures, c.load_marks-marks.ensures) at c.answer-a.ensures))
