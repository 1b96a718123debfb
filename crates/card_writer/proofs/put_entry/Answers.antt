-- Three writes, one after the other.
use Rattle.std.proofs.Common.{rules}
use Rattle.card_writer.proofs.WriteLaws.{entry_written}
use Rattle.card_writer.proofs.put_entry.Goals as goal

pub returns : goal.returns
returns c = search (rules, entry_written)
