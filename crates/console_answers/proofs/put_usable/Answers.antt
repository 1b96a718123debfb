-- A line, from its words.
use Rattle.console_prints.proofs.PrintLaws.{words}
use Rattle.console_answers.specs.Answers.{usable_line}
use Rattle.console_answers.proofs.put_usable.Goals as goal

pub returns-clause-writes : goal.returns-clause-writes
unfolding usable_line
returns-clause-writes c = search words
