-- ask_register: registers are counted from 1, so that 0 is none.
use mathlib.Core.Path.{◌≡◌, refl}
use mathlib.Core.Bool.{false}
use mathlib.Core.List.{List}
use Prim.Native.Nat.{ℕ, ◌<◌}
use Rattle.field_values.specs.Values.{Value}
use Rattle.decide_payloads.specs.Payloads.{number_in, count_in}
use Rattle.decide_payloads.specs.declared.Count.{Count}
use Rattle.decide_payloads.specs.declared.Count.TheVariants.{Is}
use Rattle.row_types.specs.declared.RegisterRow.{RegisterRow}
use Rattle.engine.specs.declared.Refusal.TheVariants.{EmptyRegister}
use Rattle.decide_records.proofs.RegisterLaws.{filled_zero}
use Rattle.decide_questions.specs.CommandQuestions.{register_asked}
use Rattle.decide_questions.specs.declared.Asked.TheVariants.{No}
use Rattle.decide_questions.proofs.RowLaws.{register_empty}

pub register_none : (vs : List Value) (f : Count) → count_in f ≡ number_in vs → (R : List RegisterRow) (n : ℕ) → f ≡ Is n → n < 1 → No EmptyRegister ≡ register_asked R vs
register_none vs f w R n o h = register_empty vs f w R n o false (filled_zero n h R) refl
