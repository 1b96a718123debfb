-- A row takes its room at most, and what is told of it is written.
use Rattle.std.proofs.Common.{◌<◌, ◌+◌, ◌*◌, ◌≡◌, ◌∙◌, ◌∷◌, sym, ap, drop, length, add-one, arith}
use Rattle.std.proofs.Math.Nat.{mul-suc}
use Rattle.row_types.proofs.LoopLaws.{list_cons}
use Rattle.row_types.proofs.WriteLoops.{turn_written}
use Rattle.console_prints.proofs.put_each.Goals as goal

pub loop-i-preserved : goal.loop-i-preserved
loop-i-preserved g c =
    let w = c.requires.1.1.1.1 _ _ _ _ _ _ c.put-end.ensures in
    let m : c.args.room * (c.loop-i.i + 1) ≡ c.args.room * c.loop-i.i + c.args.room = rw (add-one, mul-suc) in
    let l : c.loop-i.i < length c.args.rows.now = omega arith in
    let r = list_cons c.index-rows-i.result c.args.rows.now c.loop-i.i l ∙ ap (λ (x : g.row.T.Denot). x ∷ drop (c.loop-i.i + 1) c.args.rows.now) (sym c.index-rows-i.is) in
    (omega (arith, w.1), turn_written g.tell _ _ _ _ _ _ _ c.loop-i.invariant.1 _ _ _ w.0 r)
