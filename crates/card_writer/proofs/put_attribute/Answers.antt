-- Nothing is written, or the entry.
use Rattle.std.proofs.Common.{rules}
use Rattle.card_writer.proofs.WriteLaws.{left_out, entry_fits, is_written_lem}
use Rattle.card_writer.proofs.put_attribute.Goals as goal

pub returns-then-not-has_entry : goal.returns-then-not-has_entry
returns-then-not-has_entry c = search (rules, left_out)

pub put_entry-requires : goal.put_entry-requires
put_entry-requires c = (search rules, search (rules, entry_fits))

pub returns : goal.returns
returns c = search (rules, is_written_lem)
