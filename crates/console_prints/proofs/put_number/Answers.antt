-- The digits, of which there are few, and a space.
use Rattle.std.proofs.Common.{rules}
use Rattle.byte_strings.proofs.Writes.{then}
use Rattle.text_decimal_writer.proofs.RoundTrip.{written_room}
use Rattle.console_prints.proofs.put_number.Goals as goal

pub put_decimal-end-requires : goal.put_decimal-end-requires
put_decimal-end-requires c = search (written_room, rules)

pub returns-clause-writes : goal.returns-clause-writes
returns-clause-writes c = search then
