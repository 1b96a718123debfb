-- Pieces that are joined and cut again, and a string that is cut and joined again.
use mathlib.Core.Path.{◌≡◌, refl, ap, ◌∙◌}
use mathlib.Core.Bool.{Bool, true, false}
use mathlib.Core.List.{List, [], ◌∷◌, ◌++◌, append-nil}
use Prim.Native.Nat.{ℕ, ◌<◌}
use native.Mathlib.Omega.{arith}
use lib.Dec.{eqb}
use lib.ListN.{length}
use borrow.Author.Tests.{eqb-true}
use Rattle.byte_strings.specs.Strings.{all_of, is_not}
use Rattle.byte_pieces.specs.Pieces.{onto, pieces, is_ended, joined}
use Rattle.byte_strings.proofs.Flags.{nope}
use Rattle.byte_strings.proofs.StringLaws.{all_run}
use Rattle.byte_pieces.proofs.PieceLaws.{pieces_none, ended_cons}

-- what follows the last delimiter adds no piece
pub pieces_behind : (d : ℕ) (u r : List ℕ) → all_of (is_not d) r ≡ true → pieces d (u ++ r) ≡ pieces d u
pieces_behind d [] r e = pieces_none d r (omega (arith, rw append-nil at (all_run (is_not d) r [] e)))
pieces_behind d (b ∷ bs) r e = rw (pieces_behind d bs r e)

-- pieces, each with its delimiter, are ended
pub joined_ended : (d : ℕ) (ps : List (List ℕ)) → is_ended d (joined d ps) ≡ true
joined_ended d [] = refl
joined_ended d (p ∷ ps) = ended_cons d p (joined d ps) ∙ joined_ended d ps

-- a string that is ended is its pieces, each with its delimiter; t is whether the string starts with the delimiter
onto_joined : (d b c : ℕ) (cs : List ℕ) (ps : List (List ℕ)) → joined d ps ≡ c ∷ cs → joined d (onto b ps) ≡ b ∷ c ∷ cs
onto_joined d b c cs [] e = nope (cc)
onto_joined d b c cs (p ∷ ps) e = ap (λ (l : List ℕ). b ∷ l) e

one_more : (d b c : ℕ) (cs : List ℕ) (t : Bool) → eqb b d ≡ t → joined d (pieces d (c ∷ cs)) ≡ c ∷ cs → joined d (pieces d (b ∷ c ∷ cs)) ≡ b ∷ c ∷ cs
one_more d b c cs true e h = rw e (rw (h, eqb-true b d e))
one_more d b c cs false e h = rw e (onto_joined d b c cs (pieces d (c ∷ cs)) h)

pub pieces_joined : (d : ℕ) (s : List ℕ) → is_ended d s ≡ true → joined d (pieces d s) ≡ s
pieces_joined d [] e = refl
pieces_joined d (b ∷ []) e = rw (e, eqb-true b d e)
pieces_joined d (b ∷ c ∷ cs) e = one_more d b c cs (eqb b d) refl (pieces_joined d (c ∷ cs) e)

-- a string that is ended, and not empty, has a piece
pub some_piece : (d : ℕ) (s : List ℕ) → is_ended d s ≡ true → 0 < length s → 0 < length (pieces d s)
some_piece d s e h = go (pieces d s) (pieces_joined d s e)
  where
    go : (ps : List (List ℕ)) → joined d ps ≡ s → 0 < length ps
    go [] q = absurd (let k = ap length q in omega arith)
    go (p ∷ ps) q = omega arith

-- what follows a string that is ended adds its pieces; t is whether the string starts with the delimiter
onto_append : (b : ℕ) (ps qs : List (List ℕ)) → 0 < length ps → onto b (ps ++ qs) ≡ onto b ps ++ qs
onto_append b [] qs h = absurd (omega arith)
onto_append b (p ∷ ps) qs h = refl

one_before : (d b : ℕ) (s r : List ℕ) (t : Bool) → eqb b d ≡ t → 0 < length (pieces d s) → pieces d (s ++ r) ≡ pieces d s ++ pieces d r
    → pieces d (b ∷ (s ++ r)) ≡ pieces d (b ∷ s) ++ pieces d r
one_before d b s r true e l h = rw (e, h)
one_before d b s r false e l h = rw (e, h) (onto_append b (pieces d s) (pieces d r) l)

pub pieces_append : (d : ℕ) (s r : List ℕ) → is_ended d s ≡ true → pieces d (s ++ r) ≡ pieces d s ++ pieces d r
pieces_append d [] r e = refl
pieces_append d (b ∷ []) r e = rw e
pieces_append d (b ∷ c ∷ cs) r e =
    one_before d b (c ∷ cs) r (eqb b d) refl (some_piece d (c ∷ cs) e (omega arith)) (pieces_append d (c ∷ cs) r e)
