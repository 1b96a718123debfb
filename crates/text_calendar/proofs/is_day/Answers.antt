use Rattle.std.proofs.Common.{arith}
use Rattle.text_calendar.proofs.DateLaws.{early_day}
use Rattle.text_calendar.proofs.is_day.Goals as goal

pub returns-then-day-le28 : goal.returns-then-day-le28
returns-then-day-le28 c = grind (arith, early_day)
