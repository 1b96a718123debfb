-- What the statement of demand 3 refuses by itself, whatever engine made it: lists and rows of which it is false; and what no step does.
use mathlib.Core.Path.{◌≡◌, refl, sym, subst}
use mathlib.Core.Logic.{◌⊎◌, inl, inr, ◌≢◌}
use mathlib.Core.List.{List, [], ◌∷◌, ◌++◌, append_assoc}
use Prim.Native.Nat.{ℕ, zero, suc}
use native.Mathlib.Omega.{arith}
use Rattle.byte_strings.proofs.Flags.{nope}
use Rattle.history.proofs.Latch.{since_last, since_none}
use Rattle.history.proofs.Laws.{Clears}
use Rattle.history.proofs.Theorem.{live_since}
use Rattle.history.specs.History.{Since}
use Rattle.history.specs.Model.{Tables, kc, kr, kl, kf, kx, kd, rs, done, loaded, Item, ◌⇒◌, Carried, key, vacant, Register, used, loading, idle, empty, slot_row, register_row}
use Rattle.history.specs.Step.{Step, closes}
use Rattle.history.proofs.Sound.{Sound}
use Rattle.history.specs.Demand3.{LoadInto, Load, Deletion, Opens, Ends, closed, restarted, deleted, was_reset, InSession, StandsIn, Demand3, Live, HasLive}

-- a supply group g and a revision r, loaded into register n under slot s; c is what its row is to be
module _ (s g r c : List ℕ) (n : ℕ) where
  abbrev pub load : Item
  load = kl s g r ⇒ loaded n c

  -- the load, then an item that is no load of that key and no deletion of s or n
  unfoldable pub last_load : (h : List Item) (x : Item) → ¬ Load g r x → ¬ Deletion s n x → Live (h ++ (load ∷ x ∷ [])) g r n s c
  last_load h x l k = record { before = h; load = load; after = x ∷ []; split = refl; is = refl; last = (l, tt); kept = (k, tt) }

  -- the key stands after it: so SM?KC does not wipe keys, and the deletion of another slot does not take a key that was reloaded under s
  pub still_stands : (h : List Item) (x : Item) (t : Tables) → ¬ Load g r x → ¬ Deletion s n x → Demand3 (h ++ (load ∷ x ∷ [])) t → StandsIn t g r n s c
  still_stands h x t l k d = d.there g r n s c (last_load h x l k)

  pub kc_wipes_keys : (h : List Item) (u : List ℕ) (t : Tables) → register_row t n ≡ vacant → Demand3 (h ++ (load ∷ (kc u ⇒ done) ∷ [])) t → ⊥
  kc_wipes_keys h u t e d = let p = (still_stands h (kc u ⇒ done) t (λ l. let w = l.is in nope (cc)) no_deletion d).is in nope (cc)
    where
      no_deletion : ¬ Deletion s n (kc u ⇒ done)
      no_deletion (inl w) = nope (cc)
      no_deletion (inr w) = nope (cc)

  pub other_slot_deleted : (h : List Item) (u : List ℕ) (t : Tables) → u ≢ s → register_row t n ≡ vacant → Demand3 (h ++ (load ∷ (kx u ⇒ done) ∷ [])) t → ⊥
  other_slot_deleted h u t o e d = let p = (still_stands h (kx u ⇒ done) t (λ l. let w = l.is in nope (cc)) no_deletion d).is in nope (cc)
    where
      no_deletion : ¬ Deletion s n (kx u ⇒ done)
      no_deletion (inl w) = o (cc)
      no_deletion (inr w) = nope (cc)

  -- a load with no session: none was opened, or it ended
  pub no_session : (after : List Item) (t : Tables) → Demand3 (load ∷ after) t → ⊥
  no_session after t d = since_none (d.sessions [] after load g r n s c refl refl)

  pub session_ended : (h : List Item) (x : Item) (after : List Item) (t : Tables) → Ends s x → Demand3 (h ++ (x ∷ load ∷ after)) t → ⊥
  session_ended h x after t e d = go (since_last h x (d.sessions (h ++ (x ∷ [])) after load g r n s c (sym (append_assoc h (x ∷ []) (load ∷ after))) refl)) e
    where
      go : Opens s x ⊎ (InSession s h × (¬ Ends s x)) → Ends s x → ⊥
      go (inl o) (closed w) = nope (cc)
      go (inl o) (restarted w) = nope (cc)
      go (inl o) (deleted w) = nope (cc)
      go (inl o) (was_reset w) = nope (cc)
      go (inr k) w = k.1 w

  -- after SM?KF, SM?KC, SM?KX and GL?RS with no response between
  pub load_after_kf : (h after : List Item) (t : Tables) → Demand3 (h ++ ((kf s ⇒ done) ∷ load ∷ after)) t → ⊥
  load_after_kf h after t d = session_ended h (kf s ⇒ done) after t (closed refl) d

  pub load_after_kc : (h after : List Item) (t : Tables) → Demand3 (h ++ ((kc s ⇒ done) ∷ load ∷ after)) t → ⊥
  load_after_kc h after t d = session_ended h (kc s ⇒ done) after t (restarted refl) d

  pub load_after_kx : (h after : List Item) (t : Tables) → Demand3 (h ++ ((kx s ⇒ done) ∷ load ∷ after)) t → ⊥
  load_after_kx h after t d = session_ended h (kx s ⇒ done) after t (deleted refl) d

  pub load_after_rs : (h after : List Item) (t : Tables) → Demand3 (h ++ ((rs ⇒ done) ∷ load ∷ after)) t → ⊥
  load_after_rs h after t d = session_ended h (rs ⇒ done) after t (was_reset refl) d

-- one centre's slot s and one key in register 1, whatever it carries
module _ (s g r c : List ℕ) (q : Carried) where
  abbrev opened : Item
  opened = kr s ⇒ done

  abbrev first_load : Item
  first_load = load s g r c 1

  abbrev standing : Tables
  standing = record { slots = used s idle ∷ []; registers = key g r s c q ∷ [] }

  loaded_once : Live (opened ∷ first_load ∷ []) g r 1 s c
  loaded_once = record { before = opened ∷ []; load = first_load; after = []; split = refl; is = refl; last = tt; kept = tt }

  -- an engine that answers 00 and stores nothing
  pub stores_nothing : Demand3 (opened ∷ first_load ∷ []) (empty 1 1) → ⊥
  unfolding empty
  stores_nothing d = let p = (d.there g r 1 s c loaded_once).is in nope (cc)

  -- a row that holds another card than the one answered
  pub other_card_lem : (b : List ℕ) → b ≢ c → Demand3 (opened ∷ first_load ∷ []) (record { slots = used s idle ∷ []; registers = key g r s b q ∷ [] }) → ⊥
  other_card_lem b n d = let p = (d.there g r 1 s c loaded_once).is in n (cc)

  -- a reload that takes a second register: the key then stands in both
  pub two_registers : (b : List ℕ) (p : Carried) → Demand3 (opened ∷ first_load ∷ load s g r b 2 ∷ []) (record { slots = used s loading ∷ []; registers = key g r s c q ∷ key g r s b p ∷ [] }) → ⊥
  two_registers b p d = let k = (d.only g r 2 1 s b s c reloaded (record { carries = q; is = refl })).0 in omega arith
    where
      reloaded : Live (opened ∷ first_load ∷ load s g r b 2 ∷ []) g r 2 s b
      reloaded = record { before = opened ∷ first_load ∷ []; load = load s g r b 2; after = []; split = refl; is = refl; last = tt; kept = tt }

  -- a slot in two rows, with a key under it or without
  pub two_rows : (h : List Item) (k : List Register) → Demand3 h (record { slots = used s idle ∷ used s idle ∷ []; registers = k }) → ⊥
  two_rows h k d = let p = d.no_two_rows s 0 1 (record { state = idle; is = refl }) (record { state = idle; is = refl }) in omega arith

  -- what stands there stands in register 1 under s
  place : (n : ℕ) (u b : List ℕ) → StandsIn standing g r n u b → (n ≡ 1) × (u ≡ s)
  place zero u b p = let w = p.is in nope (cc)
  place (suc zero) u b p = let w = p.is in (refl, cc)
  place (suc (suc n)) u b p = let w = p.is in nope (cc)

  -- the key stands, and the list ends in an item that neither loads it nor leaves it: it was loaded by no request, or it stands after its deletion
  pub stands_after : (h : List Item) (x : Item) → ¬ Load g r x → Deletion s 1 x ⊎ (h ≡ []) → Demand3 (h ++ (x ∷ [])) standing → ⊥
  stands_after h x o k d = go ((d.exactly g r).0 (record { number = 1; slot = s; card = c; is = record { carries = q; is = refl } }))
    where
      go : HasLive (h ++ (x ∷ [])) g r → ⊥
      go l = last (since_last h x (live_since (h ++ (x ∷ [])) g r l.number l.slot l.card l.is)) k
        where
          at : (l.number ≡ 1) × (l.slot ≡ s)
          at = place l.number l.slot l.card (d.there g r l.number l.slot l.card l.is)

          last : LoadInto g r l.number l.slot l.card x ⊎ (Since (LoadInto g r l.number l.slot l.card) (Clears g r l.number l.slot) h × (¬ Clears g r l.number l.slot x)) → Deletion s 1 x ⊎ (h ≡ []) → ⊥
          last (inl e) z = o (record { number = l.number; slot = l.slot; card = l.card; is = e })
          last (inr e) (inl z) = e.1 (inr (rw (at.0, at.1) z))
          last (inr e) (inr z) = since_none (subst (Since (LoadInto g r l.number l.slot l.card) (Clears g r l.number l.slot)) z e.0)

  pub stands_after_kx : (h : List Item) → Demand3 (h ++ ((kx s ⇒ done) ∷ [])) standing → ⊥
  stands_after_kx h d = stands_after h (kx s ⇒ done) (λ l. let w = l.is in nope (cc)) (inl (inl refl)) d

  pub stands_after_kd : (h : List Item) → Demand3 (h ++ ((kd 1 ⇒ done) ∷ [])) standing → ⊥
  stands_after_kd h d = stands_after h (kd 1 ⇒ done) (λ l. let w = l.is in nope (cc)) (inl (inr refl)) d

  -- an engine that loads keys on SM?KR
  pub loaded_by_kr : Demand3 (opened ∷ []) standing → ⊥
  loaded_by_kr d = stands_after [] opened (λ l. let w = l.is in nope (cc)) (inr refl) d

-- no step is an accepted SM?KF of a slot that is IDLE
pub closed_twice : (s : List ℕ) (i : ℕ) (t t' : Tables) → Sound t → slot_row t i ≡ used s idle → Step t (kf s ⇒ done) t' → ⊥
closed_twice s i t t' σ e (closes u j a o q) = let z : j ≡ i = σ.names j i s a idle q e in o (cc)
