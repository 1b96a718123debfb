-- What is shown of a mark.
use mathlib.Core.Path.{◌≡◌}
use mathlib.Core.List.{List, [], ◌∷◌, ◌++◌, append_assoc}
use Prim.Native.Nat.{ℕ}
use borrow.Author.Tests.{ne_eqb}
use Rattle.byte_strings.specs.Texts.{text}
use Rattle.byte_strings.specs.Wrote.{Wrote}
use Rattle.byte_strings.proofs.Writes.{then}
use Rattle.text_decimal_writer.specs.Digits.{decimal_bytes}
use Rattle.console_shown_rows.specs.OneRow.{mark_shown}

module _ {d e : List ℕ} {a r : ℕ} (n : ℕ) where
  pub closed_shown : n ≡ 0 → Wrote d a (text "closed ") e r → Wrote d a (mark_shown n ++ (32 ∷ [])) e r
  unfolding mark_shown
  closed_shown z w = rw z w

  pub open_shown : n ≡ 1 → Wrote d a (text "open ") e r → Wrote d a (mark_shown n ++ (32 ∷ [])) e r
  unfolding mark_shown
  open_shown o w = rw o w

  pub number_shown : (n ≡ 0 → ⊥) → (n ≡ 1 → ⊥) → {f : List ℕ} {b : ℕ} → Wrote d a (text "mark ") f b → Wrote f b (decimal_bytes n ++ (32 ∷ [])) e r → Wrote d a (mark_shown n ++ (32 ∷ [])) e r
  unfolding mark_shown
  number_shown z o v w = rw (ne_eqb n 0 z, ne_eqb n 1 o, append_assoc (text "mark ") (decimal_bytes n) (32 ∷ [])) (then v w)
