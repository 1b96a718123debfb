-- What stands from the place on is compared with the pattern byte by byte.
use Rattle.std.proofs.Common.{rules}
use Rattle.text_patterns.proofs.PatternLaws.{all_fit}
use Rattle.text_patterns.proofs.fits.Goals as goal

pub returns : goal.returns
returns c = search (rules, all_fit)
