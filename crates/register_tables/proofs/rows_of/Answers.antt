-- One more row stands in its place, and in the end all do.
use Rattle.std.proofs.Common.{rules, arith}
use Rattle.std.proofs.lemmas.Grind.{common_steps}
use Rattle.row_index.proofs.LentLaws.{marked_long}
use Rattle.register_tables.proofs.CardRows.{row_more}
use Rattle.register_tables.proofs.rows_of.Goals as goal

pub loop-i-preserved : goal.loop-i-preserved
loop-i-preserved c = record { rows = search (row_more, rules); places = search rules }

pub returns : goal.returns
returns c = grind (arith, common_steps, marked_long)
