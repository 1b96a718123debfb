-- A turn takes one more card, and after the last one the cards are laid over free ones.
use Rattle.std.proofs.Common.{arith, length-take, ◌∙◌, ℕ, List, []}
use Rattle.row_types.specs.declared.RegisterRow.{RegisterRow}
use Rattle.row_lending.specs.Tables.{free_cards}
use Rattle.row_index.specs.Lent.{card_in}
use Rattle.row_lending.proofs.Over.{turned, all_turned, laid_as}
use Rattle.row_lending.proofs.OverlayLaws.{cards_loaded}
use Rattle.row_lending.proofs.load_cards.Goals as goal

pub loop-i-preserved : goal.loop-i-preserved
loop-i-preserved c = turned (λ (_ : List ℕ). card_in) [] (record { card = []; mark = 0 }) _ _ _ _ c.loop-i.invariant (omega (arith, length-take {A = RegisterRow})) (omega arith)

pub returns : goal.returns
returns c =
    all_turned (λ (_ : List ℕ). card_in) [] (record { card = []; mark = 0 }) _ free_cards _ _ _ c.loop-i.invariant (omega arith) (omega arith)
    ∙ laid_as card_in free_cards c.args.registers.now
    ∙ cards_loaded c.args.registers.now
