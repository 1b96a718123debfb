use Rattle.std.proofs.Common.{rules}
use Rattle.text_decimal_writer.proofs.TurnLaws.{told_start, few_times, has_room, told_passed, told_next, told_end}
use Rattle.text_decimal_writer.proofs.put_digits.Goals as goal
use Rattle.text_decimal_writer.proofs.put_digits.Goals.{then-has_digit, else-has_digit}

pub loop-p-init : goal.loop-p-init
loop-p-init c = search told_start

pub take_away-taken-requires : goal.take_away-taken-requires
take_away-taken-requires c = search few_times

pub put_byte-end-requires : goal.put_byte-end-requires
put_byte-end-requires c = search (rules, has_room)

pub loop-p-preserved : goal.loop-p-preserved
loop-p-preserved c =
    let table = c.powers_of_ten-powers.ensures in
    let told = c.loop-p.invariant in
    elim c.if-has_digit.branch [
      | then-has_digit w ↦
          rw (w.dst-is, w.end-is, w.rest-is)
          (told_next _ _ _ _ _ _ _ _ told c.requires.0 _ table (search rules) (search rules) _ c.has_digit.ensures _ _ w.take_away-taken.ensures.rest_value w.take_away-taken.ensures.less w.if-has_digit.true w.put_byte-end.ensures)
      | else-has_digit w ↦
          rw (w.dst-is, w.end-is, w.rest-is)
          (told_passed _ _ _ _ _ _ _ _ told c.requires.0 _ table (search rules) (search rules) _ c.has_digit.ensures w.if-has_digit.false)
    ]

pub returns : goal.returns
returns c = search (rules, told_end)
