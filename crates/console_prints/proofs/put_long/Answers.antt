-- The digits, of which there are few, and a space.
use Rattle.std.proofs.Common.{rules}
use Rattle.byte_strings.proofs.Writes.{then}
use Rattle.text_decimal_writer.proofs.RoundTrip.{long_room}
use Rattle.console_prints.proofs.put_long.Goals as goal

pub put_long-after-requires : goal.put_long-after-requires
put_long-after-requires c = search (long_room, rules)

pub returns-clause-writes : goal.returns-clause-writes
returns-clause-writes c = search then
