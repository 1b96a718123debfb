-- A turn puts one more mark in, and after the last one all are in, as many as there are rows and marks.
use Rattle.std.proofs.Common.{arith, []}
use Rattle.row_lending.specs.Tables.{with_mark}
use Rattle.row_lending.proofs.Over.{turned, all_turned}
use Rattle.row_lending.proofs.store_marks.Goals as goal

pub loop-i-preserved : goal.loop-i-preserved
loop-i-preserved c = turned with_mark (record { card = []; mark = 0 }) 0 _ _ _ _ c.loop-i.invariant (omega arith) (omega arith)

pub returns : goal.returns
returns c = all_turned with_mark (record { card = []; mark = 0 }) 0 _ _ c.args.marks c.loop-i.i c.min-count.result c.loop-i.invariant (omega arith) (omega arith)
