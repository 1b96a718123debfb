-- An answer has as many rows as its call: no command adds or drops one.
use mathlib.Core.Path.{◌≡◌, refl}
use mathlib.Core.Option.{Option, none, some}
use mathlib.Core.List.{List}
use Prim.Native.Nat.{ℕ}
use lib.ListN.{length, length-set, length-map}
use Rattle.field_values.specs.Values.{Value}
use Rattle.message_commands.specs.declared.Command.{Command}
use Rattle.message_commands.specs.declared.Command.TheVariants.{RS, KC, KR, KL, KF, KX, KD, GA, GL, KQ, Unknown}
use Rattle.engine.specs.Requests.{command_in, fields_in}
use Rattle.engine.specs.Questions.{Call, questions, first_no}
use Rattle.engine.specs.Answers.{Answer, slots_pending, slots_without, refused, answered, effect, answer_to, answer_of}
use Rattle.engine.specs.declared.Refusal.{Refusal}

abbrev pub Counted : Call → Answer → Type 0
Counted x a = (length a.slots ≡ length x.slots) × (length a.registers ≡ length x.registers)

effect_counted : (x : Call) (c : Command) (vs : List Value) (r s : List ℕ) → Counted x (effect x c vs r s)
unfolding answered slots_pending slots_without
effect_counted x RS vs r s = (length-map x.slots _, length-map x.registers _)
effect_counted x KC vs r s = (length-set x.slots _ _, refl)
effect_counted x KR vs r s = (length-set x.slots _ _, refl)
effect_counted x KL vs r s = (refl, length-set x.registers _ _)
effect_counted x KF vs r s = (length-set x.slots _ _, length-map x.registers _)
effect_counted x KX vs r s = (length-set x.slots _ _, length-map x.registers _)
effect_counted x KD vs r s = (refl, length-set x.registers _ _)
effect_counted x GA vs r s = (refl, refl)
effect_counted x GL vs r s = (refl, refl)
effect_counted x KQ vs r s = (refl, refl)
effect_counted x Unknown vs r s = (refl, refl)

pub counted : (x : Call) → Counted x (answer_of x)
unfolding answer_of refused
counted x = go (first_no (questions x))
  where
    go : (o : Option Refusal) → Counted x (answer_to x o (command_in x.request) (fields_in x.request))
    go (some r) = (refl, refl)
    go none = effect_counted x (command_in x.request) (fields_in x.request) _ _
