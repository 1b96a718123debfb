use Rattle.std.proofs.Common.{rules, ◌≡◌, get_or, true}
use Rattle.std.specs.Prelude.{◌↔◌, EachIndex}
use Rattle.text_classes.specs.Classes.{is_of, are_all}
use Rattle.text_classes.proofs.ClassLaws.{all_each}
use Rattle.text_classes.proofs.are_all.Goals as goal

pub returns : goal.returns
unfolding are_all
returns c =
    let each : c.all.result ≡ true ↔ EachIndex c.args.bytes.now (λ i. is_of c.args.class (get_or c.args.bytes.now i 0) ≡ true) = search rules in
    all_each (is_of c.args.class) _ _ each
