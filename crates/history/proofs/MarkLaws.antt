-- What one step does to the mark of a key that stands (document 02, N3).
use mathlib.Core.Path.{◌≡◌, ap, ◌∙◌}
use mathlib.Core.Logic.{◌⊎◌, inl, inr}
use mathlib.Core.List.{List}
use Prim.Native.Nat.{ℕ}
use Rattle.history.proofs.Rows.{clash}
use Rattle.history.proofs.Sound.{Sound}
use Rattle.history.proofs.Laws.{stands, load_stands, Clears, key_to, closed_by, From, new_load, as_before, now_closed, row_from, row_keeps}
use Rattle.history.specs.Step.{Step}
use Rattle.history.specs.Demand3.{LoadInto, StandsIn}
use Rattle.history.specs.Marks.{Closes, StandsOpen, StandsClosed}
use Rattle.history.specs.Model.{Carried, Tables, Item}

-- no key is open and closed
pub not_both : {t : Tables} {g r : List ℕ} {n : ℕ} {s c : List ℕ} → StandsOpen t g r n s c → ¬ StandsClosed t g r n s c
not_both p q =
    let x = p.is in
    let y = q.is in
    let z : p.carries ≡ q.carries = cc in
    clash p.mark (ap (λ (k : Carried). k.is_open) z ∙ q.mark)

-- an accepted load opens its key
pub mark_sets : (t : Tables) (ι : Item) (t' : Tables) → Step t ι t' → (g r : List ℕ) (n : ℕ) (s c : List ℕ) → LoadInto g r n s c ι → StandsOpen t' g r n s c
mark_sets t ι t' m g r n s c l = load_stands t t' s g r c n (rw l at m)

-- what takes an open key away, or closes it
abbrev pub ClearsOrCloses : List ℕ → List ℕ → ℕ → List ℕ → Item → Type 0
ClearsOrCloses g r n s x = Clears g r n s x ⊎ Closes s x

-- a key that is open after a step: the step loaded it, or it was open before and the step neither clears nor closes it
pub mark_to : (t : Tables) (ι : Item) (t' : Tables) → Step t ι t' → Sound t → (g r : List ℕ) (n : ℕ) (s c : List ℕ) → StandsOpen t' g r n s c
    → LoadInto g r n s c ι ⊎ (StandsOpen t g r n s c × (¬ ClearsOrCloses g r n s ι))
mark_to t ι t' m σ g r n s c h = go (row_from t ι t' m g r n s c h.carries h.is) (key_to t ι t' m σ g r n s c (stands h))
  where
    neither : StandsIn t g r n s c → (¬ Clears g r n s ι) → ¬ ClearsOrCloses g r n s ι
    neither p k (inl a) = k a
    neither p k (inr a) = not_both h (closed_by t ι t' m g r n s c a p)

    go : From t ι g r n s c h.carries → LoadInto g r n s c ι ⊎ (StandsIn t g r n s c × (¬ Clears g r n s ι)) → LoadInto g r n s c ι ⊎ (StandsOpen t g r n s c × (¬ ClearsOrCloses g r n s ι))
    go (new_load l) k = inl l
    go (as_before o e) (inl l) = inl l
    go (as_before o e) (inr k) = inr (record { carries = h.carries; is = e; mark = h.mark }, neither k.0 k.1)
    go (now_closed o p q) k = absurd (clash h.mark q)

-- an open key that a step neither clears nor closes stays open
pub mark_keeps : (t : Tables) (ι : Item) (t' : Tables) → Step t ι t' → (g r : List ℕ) (n : ℕ) (s c : List ℕ) → StandsOpen t g r n s c → ¬ ClearsOrCloses g r n s ι → StandsOpen t' g r n s c
mark_keeps t ι t' m g r n s c h k = record {
  carries = h.carries;
  is = row_keeps t ι t' m g r n s c h.carries h.is (λ a. k (inl a)) (λ a. k (inr a));
  mark = h.mark;
}
