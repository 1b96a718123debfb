-- The name of a mark, or the number of no mark.
use Rattle.console_shown_rows.proofs.MarkLaws.{closed_shown, open_shown, number_shown}
use Rattle.console_shown_rows.proofs.put_mark.Goals as goal

pub returns-in-0-clause-writes : goal.returns-in-0-clause-writes
returns-in-0-clause-writes c = search closed_shown

pub returns-in-1-clause-writes : goal.returns-in-1-clause-writes
returns-in-1-clause-writes c = search open_shown

pub returns-in_default-clause-writes : goal.returns-in_default-clause-writes
returns-in_default-clause-writes c = search number_shown
