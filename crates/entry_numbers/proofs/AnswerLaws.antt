-- From what the core answers to numbers, and from lent cards and marks to register rows by value.
use mathlib.Core.Path.{◌≡◌, sym, ap, subst, ◌∙◌}
use mathlib.Core.Bool.{Bool, true, false}
use mathlib.Core.List.{List, map}
use Prim.Native.Nat.{ℕ}
use Rattle.row_types.specs.declared.SlotRow.{SlotRow}
use Rattle.row_types.specs.declared.RegisterRow.{RegisterRow}
use Rattle.row_types.specs.declared.Supplement.{Supplement}
use Rattle.row_types.specs.declared.Tables.{Tables}
use Rattle.row_index.specs.Lent.{card_in, mark_in, marked_rows, tables_with, tables_with_marks}
use Rattle.row_index.proofs.LentLaws.{tables_again}
use Rattle.engine.specs.Answers.{answer_of}
use Rattle.engine.specs.Calls.{call_in}
use Rattle.engine.specs.Outcomes.{outcome_number}
use Rattle.engine.specs.Usable.{is_usable}
use Rattle.engine.specs.declared.Outcome.{Outcome}
use Rattle.entry_contracts.specs.Numbers.{state_byte, yes_byte}
use Rattle.entry_contracts.specs.Replies.{Replies}
use Rattle.entry_contracts.specs.declared.Reply.{Reply}

-- answer: t are the tables, o the outcome of the call over them
module _ (o : Outcome) (t : Tables) (x : Supplement) (q : List ℕ) (room : ℕ) (p : o ≡ (answer_of (call_in t x q room)).outcome) (k : ℕ) where
  pub number_of : k ≡ outcome_number o → k ≡ outcome_number (answer_of (call_in t x q room)).outcome
  number_of h = h ∙ ap outcome_number p

  pub byte_of : k ≡ state_byte o → k ≡ state_byte (answer_of (call_in t x q room)).outcome
  byte_of h = h ∙ ap state_byte p

-- answer_rows: the tables with the cards and marks of the register rows are the tables with the rows, before the call and after it
pub replies_of : (slots : List SlotRow) (n : ℕ) (rows : List RegisterRow) (m : ℕ) (cards : List (List ℕ)) (marks : List ℕ) → cards ≡ map card_in rows → marks ≡ map mark_in rows
    → (x : Supplement) (q : List ℕ) (room : ℕ) (a b : List ℕ) (r : Reply) (s : List SlotRow) (c : List (List ℕ)) (k : List ℕ)
    → Replies (tables_with_marks slots n cards marks m) (answer_of (call_in (tables_with_marks slots n cards marks m) x q room)) a b r (tables_with_marks s n c k m) → (l : List RegisterRow) → l ≡ marked_rows c k
    → Replies (tables_with slots n rows m) (answer_of (call_in (tables_with slots n rows m) x q room)) a b r (tables_with s n l m)
replies_of slots n rows m cards marks w v x q room a b r s c k p l y =
    rw y (subst (λ (t : Tables). Replies t (answer_of (call_in t x q room)) a b r (tables_with_marks s n c k m)) (tables_again slots n rows m cards marks w v) p)

-- usable: b is what was answered of the key
module _ (t : Tables) (n : ℕ) (b : Bool) (p : b ≡ is_usable t n) where
  pub yes_of : b ≡ true → 1 ≡ yes_byte (is_usable t n)
  yes_of y = sym (rw (← p, y))

  pub no_of : b ≡ false → 0 ≡ yes_byte (is_usable t n)
  no_of y = sym (rw (← p, y))
