use Rattle.std.proofs.Common.{rules}
use Rattle.field_values.proofs.ReadLaws.{date_judged}
use Rattle.field_values.proofs.is_date_time.Goals as goal

pub returns : goal.returns
returns c = search (rules, date_judged)
