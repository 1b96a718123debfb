-- Each first word is read as its own verb.
use mathlib.Core.Path.{◌≡◌, refl}
use mathlib.Core.List.{List, [], ◌∷◌}
use Rattle.std.specs.Prelude.{Some}
use Rattle.console_verbs.specs.Verbs.{word_of, verbs, verb_of}
use Rattle.console_verbs.specs.declared.Verb.{Verb}

-- each of the fifteen words is read as its own verb: none is like another
abbrev pub Reads : List Verb → Type 0
Reads [] = Unit
Reads (v ∷ vs) = (verb_of (word_of v) ≡ Some v) × Reads vs

pub each_reads : Reads verbs
unfolding verb_of verbs
each_reads = (refl, (refl, (refl, (refl, (refl, (refl, (refl, (refl, (refl, (refl, (refl, (refl, (refl, (refl, (refl, tt)))))))))))))))
