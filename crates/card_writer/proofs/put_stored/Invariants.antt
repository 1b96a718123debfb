-- What is left of the table is what is left to write.
use Rattle.card_stored.specs.Stored.{load_values}
use Rattle.card_writer.proofs.WriteLaws.{Left}
use Rattle.card_writer.proofs.put_stored.Given as goal

abbrev pub invariant-loop-k : goal.invariant-loop-k
invariant-loop-k l = Left l.load.card.now (load_values l.load.check.now l.load.slot.now) l.initial.dst l.dst l.at l.k
