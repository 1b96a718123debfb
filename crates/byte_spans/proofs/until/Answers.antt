-- The bytes of a short string, and those behind the place that was skipped to, are counted one by one.
use Rattle.std.proofs.Common.{rules}
use Rattle.byte_spans.proofs.SpanLaws.{counted, found_behind}
use Rattle.byte_spans.proofs.until.Goals as goal

pub returns-then-bytes-le32-clause-value : goal.returns-then-bytes-le32-clause-value
returns-then-bytes-le32-clause-value c = search (rules, counted)

pub returns-clause-value : goal.returns-clause-value
returns-clause-value c = search (rules, found_behind)
