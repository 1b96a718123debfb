-- A response looks at the cards of the register rows alone: over closed rows it is the same. l are the rows, m how many are the caller's.
use mathlib.Core.Path.{◌≡◌, refl, sym, ap, ◌∙◌}
use mathlib.Core.Bool.{Bool, cond}
use mathlib.Core.List.{List, [], ◌∷◌, map}
use Prim.Native.Nat.{ℕ, zero, suc, ◌+◌}
use lib.ListN.{get_or, take, get_or-map}
use Rattle.row_types.specs.Lists.{numbers_from}
use Rattle.row_types.specs.Registers.{is_vacant, attribute_of, is_under, free_register, closed_row}
use Rattle.row_types.specs.RowReplies.{stored_in, query_fields}
use Rattle.row_types.specs.declared.SlotRow.{SlotRow}
use Rattle.row_types.specs.declared.RegisterRow.{RegisterRow}
use Rattle.row_types.specs.declared.Supplement.{Supplement}
use Rattle.row_index.specs.Lent.{tables_with}
use Rattle.decide_parts.specs.declared.Parts.{Parts}
use Rattle.engine.specs.declared.Decision.{Decision}
use Rattle.engine.specs.declared.Decision.TheVariants.{Refuse, Reset, Start, Open, Load, Close, DeleteSlot, DeleteKey, GetCard, ListSlots, QuerySlot}
use Rattle.response_requests.specs.Responding.{response_for, CanRespond}

closed_under_lem : (s : List ℕ) (r : RegisterRow) → is_under s (closed_row r) ≡ is_under s r
unfolding closed_row is_under is_vacant attribute_of
closed_under_lem s r = refl

card_told : (l : List RegisterRow) (k : ℕ) → stored_in (get_or (map closed_row l) k free_register) ≡ stored_in (get_or l k free_register)
unfolding closed_row free_register
card_told l k = ap stored_in (get_or-map closed_row l k free_register)

under_told : (s : List ℕ) (m : ℕ) (l : List RegisterRow) → map (is_under s) (take m (map closed_row l)) ≡ map (is_under s) (take m l)
under_told s zero l = refl
under_told s (suc m) [] = refl
under_told s (suc m) (r ∷ rs) = rw (closed_under_lem s r) (ap (λ (z : List Bool). is_under s r ∷ z) (under_told s m rs))

numbers_told : (s : List ℕ) (i m : ℕ) (l : List RegisterRow) → numbers_from (is_under s) i (take m (map closed_row l)) ≡ numbers_from (is_under s) i (take m l)
numbers_told s i zero l = refl
numbers_told s i (suc m) [] = refl
numbers_told s i (suc m) (r ∷ rs) = rw (closed_under_lem s r) (ap (λ (z : List ℕ). cond (is_under s r) (i ∷ z) z) (numbers_told s (i + 1) m rs))

module _ (slots : List SlotRow) (n : ℕ) (l : List RegisterRow) (m : ℕ) (x : Supplement) (q : List ℕ) where
  pub can_told : (d : Decision) (p : Parts) (owners : List ℕ) (room : ℕ) → CanRespond d p (tables_with slots n l m) owners x q room → CanRespond d p (tables_with slots n (map closed_row l) m) owners x q room
  can_told (Refuse r) p owners room h = h
  can_told Reset p owners room h = h
  can_told (Start k) p owners room h = h
  can_told (Open k) p owners room h = h
  can_told (Load k) p owners room h = (h.0, (card_told l k ∙ h.1.0, h.1.1))
  can_told (Close k) p owners room h = h
  can_told (DeleteSlot k) p owners room h = h
  can_told (DeleteKey k) p owners room h = h
  can_told (GetCard k) p owners room h = h
  can_told ListSlots p owners room h = h
  can_told (QuerySlot k) p owners room h = (h.0, (h.1.0, (h.1.1.0, h.1.1.1 ∙ sym (under_told _ m l))))

  pub response_told : (d : Decision) → response_for d (tables_with slots n (map closed_row l) m) x q ≡ response_for d (tables_with slots n l m) x q
  unfolding query_fields
  response_told (Refuse r) = refl
  response_told Reset = refl
  response_told (Start k) = refl
  response_told (Open k) = refl
  response_told (Load k) = refl
  response_told (Close k) = refl
  response_told (DeleteSlot k) = refl
  response_told (DeleteKey k) = refl
  response_told (GetCard k) = rw (card_told l k)
  response_told ListSlots = refl
  response_told (QuerySlot k) = rw (numbers_told _ 1 m l)
