use Rattle.std.proofs.Common.{arith, rules, ◌∙◌, ◌&&◌, true}
use Rattle.std.proofs.lemmas.Iterator.{YieldsList-from_slice}
use Rattle.std.proofs.lemmas.Iterator.Consumers.{fold_from_yields_List}
use Rattle.text_classes.specs.Classes.{is_of, are_all}
use Rattle.text_classes.proofs.ClassLaws.{all_fold}
use Rattle.text_classes.proofs.are_all_long.Goals as goal

pub returns : goal.returns
unfolding are_all
returns c =
    fold_from_yields_List _ (λ so b. so && is_of c.args.class b) true _ c.fold.ensures.ran (YieldsList-from_slice c.args.bytes.now cc)
    (λ a x b q k. (search rules, grind arith)) ∙ all_fold (is_of c.args.class) true c.args.bytes.now
