-- The first verb whose word it is, of those that the code lists, which are those of the definition.
use Rattle.std.proofs.Common.{rules, ◌≡◌, ◌∙◌, option_map, bytes_eq, tests, Bor}
use Rattle.std.proofs.lemmas.Iterator.{YieldsList-from_slice}
use Rattle.std.proofs.lemmas.Iterator.Search.{find_from_yields_List}
use Rattle.console_verbs.specs.declared.TheConstants.{VERBS}
use Rattle.console_verbs.specs.declared.Verb.{Verb}
use Rattle.console_verbs.specs.Verbs.{word_of, verbs, verb_of}
use Rattle.console_verbs.proofs.verb_of.Goals as goal

pub returns : goal.returns
unfolding verb_of verbs
returns c =
    let copied : c.copied.result ≡ option_map (λ (v : Bor Verb). v.now) c.find.result = search rules in
    copied
    ∙ find_from_yields_List
    (λ v. bytes_eq c.args.word.now (word_of v))
    _
    _
    c.find.result
    c.find.ensures.ran
    (YieldsList-from_slice VERBS cc)
    (λ v b q k. search (rules, tests))
