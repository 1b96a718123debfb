-- A line, from its words.
use Rattle.console_prints.proofs.PrintLaws.{words}
use Rattle.console_answers.specs.Answers.{other_line}
use Rattle.console_answers.proofs.put_other.Goals as goal

pub returns-clause-writes : goal.returns-clause-writes
unfolding other_line
returns-clause-writes c = search words
