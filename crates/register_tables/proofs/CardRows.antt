-- The rows with cards and marks, one after the other.
use Rattle.std.proofs.Common.{◌≡◌, List, [], sym, ℕ, ◌+◌, ◌<◌, length, get_or, take, set, arith}
use Rattle.std.proofs.lemmas.List.{take_more_set, take_more}
use Rattle.row_types.specs.declared.RegisterRow.{RegisterRow}
use Rattle.row_index.specs.Lent.{marked_row, marked_rows}
use Rattle.row_index.proofs.LentLaws.{marked_long, marked_at}

-- k are the rows so far
pub row_more : (cards : List (List ℕ)) (marks : List ℕ) (k : List RegisterRow) (i : ℕ) → take i k ≡ take i (marked_rows cards marks) → i < length k → i < length cards → length marks ≡ length cards
    → take (i + 1) (set k i (marked_row (get_or cards i []) (get_or marks i 0))) ≡ take (i + 1) (marked_rows cards marks)
row_more cards marks k i e z h y =
    rw (take_more_set k i (marked_row (get_or cards i []) (get_or marks i 0)) z, e, ← marked_at cards marks i (marked_row [] 0) y h)
    (sym (take_more (marked_rows cards marks) i (marked_row [] 0) (omega (arith, marked_long cards marks, h))))
