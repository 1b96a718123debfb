-- A state's number by its name, a case a number.
use mathlib.Core.Path.{◌≡◌}
use mathlib.Core.List.{List, [], ◌∷◌, ◌++◌}
use Prim.Native.Nat.{ℕ}
use native.Mathlib.Omega.{arith}
use lib.ListN.{get_or-eq_default}
use Rattle.byte_strings.specs.Texts.{text}
use Rattle.byte_strings.specs.Wrote.{Wrote}
use Rattle.console_states.specs.States.{names, state_name}

module _ {d e : List ℕ} {a r : ℕ} (x : List ℕ) (n : ℕ) where
  pub free : n ≡ 0 → Wrote d a (text "FREE ") e r → Wrote d a (state_name x n ++ (32 ∷ [])) e r
  unfolding state_name
  free p w = rw p w

  pub pending : n ≡ 1 → Wrote d a (text "PENDING ") e r → Wrote d a (state_name x n ++ (32 ∷ [])) e r
  unfolding state_name
  pending p w = rw p w

  pub loading : n ≡ 2 → Wrote d a (text "LOADING ") e r → Wrote d a (state_name x n ++ (32 ∷ [])) e r
  unfolding state_name
  loading p w = rw p w

  pub idle : n ≡ 3 → Wrote d a (text "IDLE ") e r → Wrote d a (state_name x n ++ (32 ∷ [])) e r
  unfolding state_name
  idle p w = rw p w

  pub no_state : (n ≡ 0 → ⊥) → (n ≡ 1 → ⊥) → (n ≡ 2 → ⊥) → (n ≡ 3 → ⊥) → Wrote d a (x ++ (32 ∷ [])) e r → Wrote d a (state_name x n ++ (32 ∷ [])) e r
  unfolding state_name
  no_state f p l i w = rw (get_or-eq_default names x {n = n} (omega arith)) w

pub ruleset states = (free, pending, loading, idle, no_state)
