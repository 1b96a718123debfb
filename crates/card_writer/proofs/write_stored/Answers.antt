-- What was written from the start of 256 zeros on.
use Rattle.std.proofs.Common.{rules}
use Rattle.card_writer.proofs.WriteLaws.{in_row_lem}
use Rattle.card_writer.proofs.write_stored.Goals as goal

pub returns : goal.returns
returns c = search (rules, in_row_lem)
