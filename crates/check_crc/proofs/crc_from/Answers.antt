-- A turn takes seven bytes off what is left, or the last eight.
use Rattle.std.proofs.Common.{rules, refl}
use mathlib.Core.Logic.{inl, inr}
use Rattle.check_crc.proofs.Words.{Bytes}
use Rattle.check_crc.proofs.Steps.{from_start, from_turn, from_eight, from_done}
use Rattle.check_crc.proofs.crc_from.Goals as goal

pub loop-eight-init : goal.loop-eight-init
loop-eight-init c =
    let bytes : Bytes c.args.s.now = λ k. (c.type_inv.s k).fits in
    (search rules, inr (search rules, refl), search (from_start, rules, bytes))

pub loop-eight-preserved-then-s-i-ge15 : goal.loop-eight-preserved-then-s-i-ge15
loop-eight-preserved-then-s-i-ge15 c =
    (search rules, inl (search rules), from_turn _ _ _ _ c.args.s.now _ c.loop-eight.i c.loop-eight.invariant.2 c.word.ensures c.in-Some.ensures.cases.same (search rules))

pub loop-eight-preserved : goal.loop-eight-preserved
loop-eight-preserved c =
    (search rules, inr (search rules, refl), from_eight _ _ _ _ c.args.s.now _ c.loop-eight.i c.loop-eight.invariant.2 c.word-else-s-i-ge15.ensures c.in-Some.ensures.cases.same _ (search rules) (search rules) (search rules))

pub returns : goal.returns
returns c = search (from_done, rules)
