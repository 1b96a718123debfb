-- A string stands before another where std's order says so.
use Rattle.std.proofs.Common.{rules}
use Rattle.byte_orders.proofs.BeforeLaws.{less_before}
use Rattle.byte_orders.proofs.is_before.Goals as goal

pub returns : goal.returns
returns c = search (rules, less_before)
