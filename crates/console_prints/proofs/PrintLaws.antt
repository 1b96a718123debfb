-- A line is its words, each written with the space after it, and the last with the line feed.
use mathlib.Core.Path.{◌≡◌}
use mathlib.Core.Bool.{Bool, true, false, cond}
use mathlib.Core.List.{List, [], ◌∷◌, ◌++◌, append_assoc}
use Prim.Native.Nat.{ℕ}
use Rattle.byte_strings.specs.Wrote.{Wrote}
use Rattle.byte_strings.proofs.Writes.{none, then}
use Rattle.console_prints.specs.Prints.{line_bytes}

-- the words ws, each written with the space after it, and the last with the line feed; or the rest of the line at once
pub data Words : List ℕ → ℕ → List (List ℕ) → List ℕ → ℕ → Type 0 where
  last : {d e w : List ℕ} {a b : ℕ} → Wrote d a (w ++ (10 ∷ [])) e b → Words d a (w ∷ []) e b
  rest : {d e : List ℕ} {a b : ℕ} {ws : List (List ℕ)} → Wrote d a (line_bytes ws) e b → Words d a ws e b
  word : {d e f v w : List ℕ} {a b c : ℕ} {ws : List (List ℕ)} → Wrote d a (w ++ (32 ∷ [])) e b → Words e b (v ∷ ws) f c → Words d a (w ∷ v ∷ ws) f c

pub line_written : {d e : List ℕ} {a b : ℕ} {ws : List (List ℕ)} → Words d a ws e b → Wrote d a (line_bytes ws) e b
unfolding line_bytes
line_written (last w) = w
line_written (rest w) = w
line_written (word {v = v} {w = w} {ws = ws} p q) = rw (append_assoc w (32 ∷ []) (line_bytes (v ∷ ws))) at (then p (line_written q))

-- a last word that a call handed out
pub last_is : {d e : List ℕ} {a b : ℕ} (v w : List ℕ) → v ≡ w → Wrote d a (v ++ (10 ∷ [])) e b → Words d a (w ∷ []) e b
last_is v w p q = last (rw (← p) q)

-- a word that a call handed out
pub word_is : {d e f v : List ℕ} {a b c : ℕ} {ws : List (List ℕ)} (u w : List ℕ) → u ≡ w → Wrote d a (u ++ (32 ∷ [])) e b → Words e b (v ∷ ws) f c → Words d a (w ∷ v ∷ ws) f c
word_is u w p q r = word (rw (← p) q) r

-- a line, from its words
pub ruleset words = (line_written, word, last, rest, word_is, last_is)

-- what is written of a row: nothing where the test says so
pub unwritten : {d : List ℕ} {a : ℕ} (l : List ℕ) (z t : Bool) → t ≡ z → t ≡ true → Wrote d a (cond z [] l) d a
unwritten {d} {a} l z t p o = rw (← p, o) (none d a)

pub written_unless : {d e : List ℕ} {a b : ℕ} (l : List ℕ) (z t : Bool) → t ≡ z → t ≡ false → Wrote d a l e b → Wrote d a (cond z [] l) e b
written_unless l z t p o w = rw (← p, o) w
