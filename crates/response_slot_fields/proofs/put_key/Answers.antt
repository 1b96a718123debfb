-- Two fields, one after the other.
use Rattle.byte_strings.proofs.Writes.{then, none}
use Rattle.response_slot_fields.proofs.put_key.Goals as goal

pub returns-clause-writes : goal.returns-clause-writes
returns-clause-writes c = search (then, none)
