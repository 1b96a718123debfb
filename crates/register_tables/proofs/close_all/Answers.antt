-- The marks are filled with that of a closed register.
use Rattle.std.proofs.Common.{arith}
use Rattle.std.proofs.lemmas.Grind.{common_steps}
use Rattle.register_tables.proofs.FreedLaws.{all_closed}
use Rattle.register_tables.proofs.close_all.Goals as goal

pub returns : goal.returns
returns c = grind (arith, common_steps, all_closed, c.fill.ensures.after)
