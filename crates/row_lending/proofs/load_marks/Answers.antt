-- A turn takes one more mark, and after the last one the marks are laid over free ones.
use Rattle.std.proofs.Common.{arith, length-take, ◌∙◌, ℕ, []}
use Rattle.row_types.specs.declared.RegisterRow.{RegisterRow}
use Rattle.row_lending.specs.Tables.{free_marks}
use Rattle.row_index.specs.Lent.{mark_in}
use Rattle.row_lending.proofs.Over.{turned, all_turned, laid_as}
use Rattle.row_lending.proofs.OverlayLaws.{marks_loaded}
use Rattle.row_lending.proofs.load_marks.Goals as goal

pub loop-i-preserved : goal.loop-i-preserved
loop-i-preserved c = turned (λ (_ : ℕ). mark_in) 0 (record { card = []; mark = 0 }) _ _ _ _ c.loop-i.invariant (omega (arith, length-take {A = RegisterRow})) (omega arith)

pub returns : goal.returns
returns c =
    all_turned (λ (_ : ℕ). mark_in) 0 (record { card = []; mark = 0 }) _ free_marks _ _ _ c.loop-i.invariant (omega arith) (omega arith)
    ∙ laid_as mark_in free_marks c.args.registers.now
    ∙ marks_loaded c.args.registers.now
