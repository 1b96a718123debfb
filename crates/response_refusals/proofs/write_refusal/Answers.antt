-- Head, fields and ending.
use Rattle.response_refusals.proofs.RefusalLaws.{refusal_written}
use Rattle.response_refusals.proofs.write_refusal.Goals as goal

pub returns-clause-writes : goal.returns-clause-writes
returns-clause-writes c = search refusal_written
