-- How many places the tables have: what owning them tells of their lists.
use mathlib.Core.Path.{◌≡◌, refl}
use mathlib.Core.List.{List, [], ◌∷◌}
use Prim.Native.Nat.{ℕ, zero, suc, ◌<◌}
use native.Mathlib.Omega.{arith}
use lib.ListN.{length, get_or}
use mir.Val.{Val}
use denote.Laws.{Is}
use Rattle.row_types.specs.declared.Tables.{Tables}
use Rattle.row_types.specs.contracts.Tables as T

pub eight : (t : Tables) (vs : List Val) → Is T.the_row t vs → length t.slots ≡ 8
eight t vs g = g.1.1.0.1.0.1

pub thirty_two : (t : Tables) (vs : List Val) → Is T.the_row t vs → length t.registers ≡ 32
thirty_two t vs g = g.1.1.1.0.1.0.1

-- a row within the places, whatever stands beyond them
pub get_d_any : {A : Type 0} (l : List A) (k : ℕ) (d e : A) → k < length l → get_or l k d ≡ get_or l k e
get_d_any [] k d e h = absurd (omega arith)
get_d_any (x ∷ xs) zero d e h = refl
get_d_any (x ∷ xs) (suc k) d e h = get_d_any xs k d e (omega arith)
