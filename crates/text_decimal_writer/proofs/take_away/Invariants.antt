-- what was taken, and the rest, is the number; and after i turns the rest is below 10 - i times the power
use Rattle.std.proofs.Common.{◌≡◌, ◌+◌, ◌-◌, ◌*◌, ◌<◌, ◌≤◌}
use Rattle.text_decimal_writer.proofs.take_away.Given as goal

abbrev pub invariant-loop : goal.invariant-loop
invariant-loop l = (l.times ≤ l.counter) × (l.times * l.p + l.rest ≡ l.v) × (l.rest < (10 - l.counter) * l.p)
