use Rattle.std.proofs.Common.{◌∙◌}
use Rattle.text_timestamps.proofs.Pairs.{no_first, no_second, a_pair}
use Rattle.text_timestamps.proofs.pair.Goals as goal

pub returns-in_err-tens-clause-value : goal.returns-in_err-tens-clause-value
returns-in_err-tens-clause-value c = c.from_residual.ensures ∙ no_first _ _ c.requires c.in_err-tens.ensures

pub returns-in_err-ones-clause-value : goal.returns-in_err-ones-clause-value
returns-in_err-ones-clause-value c =
    c.from_residual-in_err-ones.ensures ∙ no_second _ _ c.requires _ c.in_ok-tens.ensures c.in_err-ones.ensures

pub returns-clause-value : goal.returns-clause-value
returns-clause-value c = a_pair _ _ c.requires _ c.in_ok-tens.ensures _ c.in_ok-ones.ensures
