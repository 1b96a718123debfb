-- Each arm of the match on a command: the decision for its command, with the fact of which command it is.
use mathlib.Core.Path.{◌≡◌, ◌∙◌}
use mathlib.Core.Bool.{true, false}
use mathlib.Core.List.{List, [], ◌∷◌}
use Prim.Native.Nat.{ℕ}
use Rattle.byte_strings.proofs.Flags.{nope}
use Rattle.field_values.specs.Values.{Value, values_of}
use Rattle.message_commands.specs.declared.Command.{Command}
use Rattle.message_commands.specs.declared.Command.TheVariants.{RS, KC, KR, KL, KF, KX, KD, GA, GL, KQ, Unknown}
use Rattle.row_types.specs.declared.SlotRow.{SlotRow}
use Rattle.row_types.specs.declared.Supplement.{Supplement}
use Rattle.row_index.specs.Found.{AreKeys}
use Rattle.engine.specs.Requests.{is_among, is_one_of_ten, record_in, slot_in}
use Rattle.engine.specs.Questions.{Call, first_no}
use Rattle.engine.specs.Decisions.{granted, later_questions, decision_for}
use Rattle.engine.specs.declared.Decision.{Decision}
use Rattle.decide_parts.specs.Parts.{HasParts, IsDecided}
use Rattle.decide_parts.specs.declared.Parts.{Parts}
use Rattle.decide_parts.specs.declared.Decided.{Decided}
use Rattle.decide_parts.proofs.PartLaws.{parts_of}

-- the commands that go on to use no part
abbrev partless : List Command
partless = RS ∷ KF ∷ KX ∷ KD ∷ GA ∷ GL ∷ KQ ∷ []

granted_none : (k : Call) (c : Command) (vs : List Value) (r t : List ℕ) (p : Parts) (s : List ℕ) → is_among c partless ≡ true → HasParts (granted k c vs r t) p s
granted_none k RS vs r t p s e = tt
granted_none k KC vs r t p s e = nope (cc)
granted_none k KR vs r t p s e = nope (cc)
granted_none k KL vs r t p s e = nope (cc)
granted_none k KF vs r t p s e = tt
granted_none k KX vs r t p s e = tt
granted_none k KD vs r t p s e = tt
granted_none k GA vs r t p s e = tt
granted_none k GL vs r t p s e = tt
granted_none k KQ vs r t p s e = tt
granted_none k Unknown vs r t p s e = tt

no_parts : (k : Call) (c : Command) (vs : List Value) (p : Parts) (s : List ℕ) → is_among c partless ≡ true → HasParts (decision_for k c vs) p s
unfolding decision_for
no_parts k c vs p s e = parts_of (first_no (later_questions k c vs)) (granted k c vs (record_in c vs) (slot_in c vs)) p s (granted_none k c vs (record_in c vs) (slot_in c vs) p s e)

-- by what the command is asked about; s is the payload, and d has the decision g
module _ (c o : Command) (e : c ≡ o) (s : List ℕ) (d : Decided) where
  module _ (g : Decision) (is : d.decision ≡ g) (m : is_among o partless ≡ true) where
    arm : (k : Call) → g ≡ decision_for k o (values_of s) → IsDecided d (decision_for k c (values_of s)) s
    arm k q = rw e record { decision_is = is ∙ q; parts_stand = rw (is ∙ q) (no_parts k o (values_of s) d.parts s m) }

    pub arm_fields : ((k : Call) → g ≡ decision_for k o (values_of s)) → (k : Call) → IsDecided d (decision_for k c (values_of s)) s
    arm_fields all k = arm k (all k)

    pub arm_slots : (l : List SlotRow) → ((k : Call) → k.slots ≡ l → g ≡ decision_for k o (values_of s)) → (k : Call) → k.slots ≡ l → IsDecided d (decision_for k c (values_of s)) s
    arm_slots l all k h = arm k (all k h)

    pub arm_registers : (keys : List ℕ) → ((k : Call) → AreKeys keys k.registers → g ≡ decision_for k o (values_of s)) → (k : Call) → AreKeys keys k.registers → IsDecided d (decision_for k c (values_of s)) s
    arm_registers keys all k h = arm k (all k h)

  pub arm_session : (l : List SlotRow) (x : Supplement) → ((k : Call) → k.slots ≡ l → k.supplement ≡ x → IsDecided d (decision_for k o (values_of s)) s)
      → (k : Call) → k.slots ≡ l → k.supplement ≡ x → IsDecided d (decision_for k c (values_of s)) s
  arm_session l x all k h g = rw e (all k h g)

  pub arm_load : (l : List SlotRow) (keys : List ℕ) (x : Supplement) → ((k : Call) → k.slots ≡ l → AreKeys keys k.registers → k.supplement ≡ x → IsDecided d (decision_for k o (values_of s)) s)
      → (k : Call) → k.slots ≡ l → AreKeys keys k.registers → k.supplement ≡ x → IsDecided d (decision_for k c (values_of s)) s
  arm_load l keys x all k h i g = rw e (all k h i g)

-- a header that is none of the ten does not come so far
pub no_arm : (c o : Command) → c ≡ o → is_one_of_ten c ≡ true → is_one_of_ten o ≡ false → (k : Call) (s : List ℕ) (d : Decided) → IsDecided d (decision_for k c (values_of s)) s
no_arm c o e p q k s d = nope (cc)
