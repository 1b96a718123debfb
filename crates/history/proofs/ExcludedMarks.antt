-- What the sentence on marks refuses by itself, whatever engine made it (document 02, N3): lists and rows of which it is false.
use mathlib.Core.Path.{refl}
use mathlib.Core.Logic.{inl, inr, ◌≢◌}
use mathlib.Core.List.{List, [], ◌∷◌, ◌++◌}
use Prim.Native.Nat.{ℕ}
use Rattle.byte_strings.proofs.Flags.{nope}
use Rattle.history.proofs.Laws.{no_close}
use Rattle.history.proofs.MarkLaws.{not_both}
use Rattle.history.proofs.Excluded.{load, last_load}
use Rattle.history.specs.Demand3.{Load, Deletion}
use Rattle.history.specs.Marks.{Closes, by_finish, by_reset, StandsOpen, StandsClosed, Marks}
use Rattle.history.specs.Model.{Tables, kc, kr, kf, kx, kd, rs, refused, done, Request, Item, ◌⇒◌}

-- a supply group g and a revision r, loaded into register n under slot s; c is what its row is to be; and the rows t
module _ (s g r c : List ℕ) (n : ℕ) (t : Tables) where
  abbrev this_load : Item
  this_load = load s g r c n

  no_deletion : (x : Item) → x ≢ (kx s ⇒ done) → x ≢ (kd n ⇒ done) → ¬ Deletion s n x
  no_deletion x k d (inl e) = k e
  no_deletion x k d (inr e) = d e

  -- an accepted SM?KF of its slot, or an accepted reset, that leaves the key open
  pub left_open : (h : List Item) (x : Item) → Closes s x → StandsOpen t g r n s c → Marks (h ++ (this_load ∷ x ∷ [])) t → ⊥
  unfolding last_load
  left_open h x k p d = ((d.open_exactly g r n s c (last_load s g r c n h x (no_load k) (undeleted k))).0 p).0 k
    where
      no_load : Closes s x → ¬ Load g r x
      no_load (by_finish e) l = let w = l.is in nope (cc)
      no_load (by_reset e) l = let w = l.is in nope (cc)

      undeleted : Closes s x → ¬ Deletion s n x
      undeleted (by_finish e) = no_deletion x (λ w. nope (cc)) (λ w. nope (cc))
      undeleted (by_reset e) = no_deletion x (λ w. nope (cc)) (λ w. nope (cc))

  -- an item that neither loads, deletes nor closes the key leaves it open
  pub still_open : (h : List Item) (x : Item) → ¬ Load g r x → ¬ Deletion s n x → ¬ Closes s x → Marks (h ++ (this_load ∷ x ∷ [])) t → StandsOpen t g r n s c
  unfolding last_load
  still_open h x l k o d = (d.open_exactly g r n s c (last_load s g r c n h x l k)).1 (o, tt)

  -- so no accepted request closes it but SM?KF of its slot and a reset
  closed_after : (h : List Item) (e : Request) → e ≢ kx s → e ≢ kd n → e ≢ kf s → e ≢ rs → StandsClosed t g r n s c → Marks (h ++ (this_load ∷ (e ⇒ done) ∷ [])) t → ⊥
  closed_after h e x k f q p d =
      not_both (still_open h (e ⇒ done) (λ l. let w = l.is in nope (cc)) (no_deletion (e ⇒ done) (λ w. x (cc)) (λ w. k (cc))) (no_close s (e ⇒ done) (λ w. f (cc)) (λ w. q (cc))) d) p

  pub closed_by_kc : (h : List Item) (u : List ℕ) → StandsClosed t g r n s c → Marks (h ++ (this_load ∷ (kc u ⇒ done) ∷ [])) t → ⊥
  closed_by_kc h u p d = closed_after h (kc u) (λ w. nope (cc)) (λ w. nope (cc)) (λ w. nope (cc)) (λ w. nope (cc)) p d

  pub closed_by_kr : (h : List Item) (u : List ℕ) → StandsClosed t g r n s c → Marks (h ++ (this_load ∷ (kr u ⇒ done) ∷ [])) t → ⊥
  closed_by_kr h u p d = closed_after h (kr u) (λ w. nope (cc)) (λ w. nope (cc)) (λ w. nope (cc)) (λ w. nope (cc)) p d

  -- two centres that cross: SM?KF of the first leaves open a key that the second reloaded
  pub closed_by_other_kf : (h : List Item) (u : List ℕ) → u ≢ s → StandsClosed t g r n s c → Marks (h ++ (this_load ∷ (kf u ⇒ done) ∷ [])) t → ⊥
  closed_by_other_kf h u o p d = closed_after h (kf u) (λ w. nope (cc)) (λ w. nope (cc)) (λ w. o (cc)) (λ w. nope (cc)) p d

  -- nor does a request that is refused
  pub closed_by_refused : (h : List Item) (e : Request) → StandsClosed t g r n s c → Marks (h ++ (this_load ∷ (e ⇒ refused) ∷ [])) t → ⊥
  closed_by_refused h e p d =
      not_both (still_open h (e ⇒ refused) (λ l. let w = l.is in nope (cc)) (no_deletion (e ⇒ refused) (λ w. nope (cc)) (λ w. nope (cc))) (no_close s (e ⇒ refused) (λ w. nope (cc)) (λ w. nope (cc))) d) p

  -- a reload that does not open again a key that was closed, whatever closed it
  pub reload_stays_closed : (h : List Item) → StandsClosed t g r n s c → Marks (h ++ (this_load ∷ [])) t → ⊥
  reload_stays_closed h p d = not_both ((d.open_exactly g r n s c (record { before = h; load = this_load; after = []; split = refl; is = refl; last = tt; kept = tt })).1 tt) p
