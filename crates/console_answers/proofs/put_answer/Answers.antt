-- A line, from its words.
use Rattle.console_prints.proofs.PrintLaws.{words}
use Rattle.console_answers.specs.Answers.{answer_line}
use Rattle.console_answers.proofs.put_answer.Goals as goal

pub returns-clause-writes : goal.returns-clause-writes
unfolding answer_line
returns-clause-writes c = search words
