-- after i bytes the number is below 23 * 10 ^ i, so ten bytes fit 64 bits with no test in the loop
use Rattle.std.proofs.Common.{◌≡◌, ◌+◌, ◌*◌, ◌^◌, ◌≤◌, drop}
use Rattle.text_decimals.specs.Decimals.{dec_from}
use Rattle.text_decimals.proofs.decimal.Given as goal

abbrev pub invariant-loop-digit : goal.invariant-loop-digit
invariant-loop-digit l =
    (dec_from l.v (drop l.digit-index l.digits) ≡ dec_from 0 l.digits) × (l.v + 23 ≤ 23 * 10 ^ l.digit-index)
