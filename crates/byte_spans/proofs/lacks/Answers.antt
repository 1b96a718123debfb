use Rattle.std.proofs.Common.{arith}
use Rattle.std.proofs.lemmas.Grind.{common_steps}
use Rattle.byte_strings.specs.Strings.{is_not}
use Rattle.byte_strings.proofs.StringLaws.{all_folded}
use Rattle.byte_spans.proofs.lacks.Goals as goal

pub returns : goal.returns
returns c = rw (← all_folded (is_not c.args.delimiter) c.args.s.now) (grind (arith, common_steps))
