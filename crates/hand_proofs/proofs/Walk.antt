-- Steps that walks by hand share, of any function.
--     calls-plain      a call of a function that is passed plain data, and whose `ensures` says r ≡ r₀: what it is passed is had for nothing, and once it has returned, r₀'s machine value is there to be stored
--     calls-own        a call of any function: the head of the context gives what it asks. Once it has returned, what its result owns is there, the tokens are back, and what is said of the last values and the `ensures` stand beside them
--     calls-on         the same, where what the result owns is not needed
--     fact-and, says_all    what is had for nothing: a fact and more; and a goal P ∗ Q where Q is, of which P is left
--     unset, holds     a local that holds nothing, and one that holds a value, as a walk's context has them: two entries each
--     value            a local's value as an operand
--     leave, leave_room    a local dies at the function's end: one that holds a value, and one that holds nothing
--     down, down-wf    the order of a loop that counts i up to n
-- Assumes `Logic`.
use mathlib.Core.Path.{◌≡◌, sym, ◌∙◌, ap, subst}
use Prim.Native.Nat.{ℕ, zero, ◌<◌, ◌-◌}
use mathlib.Core.List.{List, [], ◌∷◌}
use mathlib.Core.WellFounded.InvImage
use mathlib.Core.WellFounded.{WellFounded}
use lib.WfN.{lt-wf_rel}
use seplogic.Ra.Ura.{Ura}
use base.Fraction.{full_share}
use mir.Syntax.{Ty, Callee, Place, place, copy, Opd as Operand, Body, seq, call}
use mir.Val.{Val}
use base.Logic
use base.Logic.{SProp, ent, sep, emp, via, ex_e, snd∗, comm∗, emp∗, id⊢, mono_l, mono_r}
use base.Fml.{Share, fat, froom, fdies}
use prog.Wp.{Env, Calls, Loops, spot_of}
use types.Logic.{Logic, sem}
use sound.WpLaws.{FmC}
use contract.Monad.{fact, fact_i}
use types.Kit.{Item, ‵, raw, ◌⊛◌, some, later, mean, ⋆, nth, del, pull, Post, Goal, prop, runs, lands, frees, Seq, Step, step, ◌$◌, ◌∵◌, !, qed, use0, use1, move, split, join, drop, pick, await, done}
use types.Run.{Opd, Opds, load, from, stop, look}
use denote.RattleType.{owns}
use denote.Laws.{Is, Ises, Are, Tells, Makess, shows, owns_make}
use denote.Signature.{type_at, types_at}
use denote.Steps.{only, heard, peeks}
use denote.Triple.Bound.{Bound, passed}
use denote.Triple.Call.{calls_at}
use denote.Triple.Clauses.{Ended, Clauses, AtExit, at_exit, Lasts, lasts, ensured, closing}
use denote.Triple.Entry.{Res, alive}
use denote.Triple.Spec.{triple_of}
use denote.Triple.Statement.{Triple}

module _ {M : Type 1} {𝓤 : Ura M} {𝓛 : Logic 𝓤} {K : Type 0} {Γ : List (Item 𝓤)} {E : Env 𝓤 𝓛.H} {C : Calls 𝓤 𝓛.H} {Λ : Loops 𝓤 𝓛.H} {q : Post 𝓤 𝓛.H} {f : Callee} {xs : List Operand} {d : Place} {rest : Body} where
  open 𝓛 use {H}

  pub calls_plain : K → FmC 𝓤 H 𝓛.laws C → (T : Ended) (c : Clauses 𝓤 T) → Triple 𝓤 (C f) (triple_of 𝓛 T.signature (closing 𝓛 T c)) → (x : Bound 𝓛 T.signature) (g : (c x.0 x.3).ghost)
      → ent 𝓤 (emp 𝓤) (alive 𝓛 T.signature x.0 x.1) → Makess 𝓛 (types_at T.signature.params x.0) (Ises (types_at T.signature.params x.0)) → Are (types_at T.signature.params x.0) (Ises (types_at T.signature.params x.0)) x.3 x.4 → ent 𝓤 (emp 𝓤) ((c x.0 x.3).requires g)
      → (vals : Res T.signature x.0 → List Val) → Tells (type_at T.signature.result x.0) (Is (type_at T.signature.result x.0)) vals → (r₀ : Res T.signature x.0) (v₀ : Val) → vals r₀ ≡ v₀ ∷ []
      → ((r : Res T.signature x.0) (e : AtExit T x.0) → ent 𝓤 ((c x.0 x.3).ensures g r e) (fact 𝓤 (r ≡ r₀)))
      → Opds K 𝓛 (raw ((triple_of 𝓛 T.signature (closing 𝓛 T c)).pre (x, g)) ∷ Γ) E xs (passed 𝓛 T.signature x)
      → (Is (type_at T.signature.result x.0) r₀ (v₀ ∷ []) → Seq K 𝓛 Γ (lands C Λ E d v₀ rest q))
      → Seq K 𝓛 Γ (runs C Λ E (seq (call f xs d) rest) q)
  calls_plain t fm T c known x g live mk are req vals tells r₀ v₀ one ens os k =
      use0 𝓛 (raw ((triple_of 𝓛 T.signature (closing 𝓛 T c)).pre (x, g)))
      (qed 𝓛 [] ∵ use0 𝓛 (raw ((c x.0 x.3).requires g)) req $ use0 𝓛 (‵ (owns (types_at T.signature.params x.0) x.3 x.4)) (owns_make 𝓛 (types_at T.signature.params x.0) (Ises (types_at T.signature.params x.0)) mk x.3 x.4 are) $ use0 𝓛 (raw (alive 𝓛 T.signature x.0 x.1)) live $ join ! $ done !) $
      calls_at t fm (triple_of 𝓛 T.signature (closing 𝓛 T c)) known (x, g) os (λ v.
      use1 𝓛 (later (some (λ (r : Res T.signature x.0). (raw (alive 𝓛 T.signature x.0 x.1) ⊛ ‵ ((type_at T.signature.result x.0).own_val r (v ∷ []))) ⊛ raw (ensured 𝓛 T c x.0 x.3 g r)))) (id⊢ 𝓤 _) $ await t tt $ pick t (λ r.
      split t $ move t (1 ∷ []) $ use1 𝓛 (raw (fact 𝓤 (r ≡ r₀)))
      (ex_e 𝓤 _ (λ (ws : Lasts T x.0 x.3). via 𝓤 ((c x.0 x.3).ensures g r (at_exit T x.0 x.3 ws)) (snd∗ 𝓤 (sem 𝓛 (lasts T x.0 x.3 ws)) _) (ens r (at_exit T x.0 x.3 ws)))) $
      heard t (r ≡ r₀) (λ e. split t $ drop t $ peeks t (type_at T.signature.result x.0) (Is (type_at T.signature.result x.0)) (shows 𝓛 (type_at T.signature.result x.0)) r (v ∷ []) (λ is. drop t $
      let p : v ∷ [] ≡ v₀ ∷ [] = tells r (v ∷ []) is ∙ ap vals e ∙ one in
      subst (λ (u : Val). Seq K 𝓛 Γ (lands C Λ E d u rest q)) (sym (ap only p))
      (k (subst (λ (us : List Val). Is (type_at T.signature.result x.0) r₀ us) p (subst (λ (z : Res T.signature x.0). Is (type_at T.signature.result x.0) z (v ∷ [])) e is)))))))

module _ {M : Type 1} {𝓤 : Ura M} {𝓛 : Logic 𝓤} {K : Type 0} {Γ : List (Item 𝓤)} {E : Env 𝓤 𝓛.H} {C : Calls 𝓤 𝓛.H} {Λ : Loops 𝓤 𝓛.H} {q : Post 𝓤 𝓛.H} {f : Callee} {xs : List Operand} {d : Place} {rest : Body} where
  open 𝓛 use {H}

  pub calls_own : K → FmC 𝓤 H 𝓛.laws C → (T : Ended) (c : Clauses 𝓤 T) → Triple 𝓤 (C f) (triple_of 𝓛 T.signature (closing 𝓛 T c)) → (x : Bound 𝓛 T.signature) (g : (c x.0 x.3).ghost)
      → {i : Item 𝓤} → ent 𝓤 (mean 𝓛 i) ((triple_of 𝓛 T.signature (closing 𝓛 T c)).pre (x, g))
      → (val : Res T.signature x.0 → Val) → Tells (type_at T.signature.result x.0) (Is (type_at T.signature.result x.0)) (λ r. val r ∷ [])
      → Opds K 𝓛 (raw ((triple_of 𝓛 T.signature (closing 𝓛 T c)).pre (x, g)) ∷ Γ) E xs (passed 𝓛 T.signature x)
      → ((r : Res T.signature x.0) (ws : Lasts T x.0 x.3) → Is (type_at T.signature.result x.0) r (val r ∷ [])
      → Seq K 𝓛 (‵ ((type_at T.signature.result x.0).own_val r (val r ∷ [])) ∷ raw (alive 𝓛 T.signature x.0 x.1) ∷ ‵ (lasts T x.0 x.3 ws) ∷ raw ((c x.0 x.3).ensures g r (at_exit T x.0 x.3 ws)) ∷ Γ) (lands C Λ E d (val r) rest q))
      → Seq K 𝓛 (i ∷ Γ) (runs C Λ E (seq (call f xs d) rest) q)
  calls_own t fm T c known x g pre val tells os k =
      use1 𝓛 (raw ((triple_of 𝓛 T.signature (closing 𝓛 T c)).pre (x, g))) pre $
      calls_at t fm (triple_of 𝓛 T.signature (closing 𝓛 T c)) known (x, g) os (λ v.
      use1 𝓛 (later (some (λ (r : Res T.signature x.0). (raw (alive 𝓛 T.signature x.0 x.1) ⊛ ‵ ((type_at T.signature.result x.0).own_val r (v ∷ [])))
      ⊛ some (λ (ws : Lasts T x.0 x.3). ‵ (lasts T x.0 x.3 ws) ⊛ raw ((c x.0 x.3).ensures g r (at_exit T x.0 x.3 ws)))))) (id⊢ 𝓤 _) $ await t tt $ pick t (λ r.
      split t $ move t (1 ∷ []) $ pick t (λ ws. split t $ move t (2 ∷ []) $ split t $ move t (1 ∷ []) $
      peeks t (type_at T.signature.result x.0) (Is (type_at T.signature.result x.0)) (shows 𝓛 (type_at T.signature.result x.0)) r (v ∷ []) (λ is.
      subst (λ (u : Val). Seq K 𝓛 (‵ ((type_at T.signature.result x.0).own_val r (u ∷ [])) ∷ raw (alive 𝓛 T.signature x.0 x.1) ∷ ‵ (lasts T x.0 x.3 ws) ∷ raw ((c x.0 x.3).ensures g r (at_exit T x.0 x.3 ws)) ∷ Γ) (lands C Λ E d u rest q)) (sym (ap only (tells r (v ∷ []) is)))
      (k r ws (subst (λ (us : List Val). Is (type_at T.signature.result x.0) r us) (tells r (v ∷ []) is) is))))))

  pub calls_on : K → FmC 𝓤 H 𝓛.laws C → (T : Ended) (c : Clauses 𝓤 T) → Triple 𝓤 (C f) (triple_of 𝓛 T.signature (closing 𝓛 T c)) → (x : Bound 𝓛 T.signature) (g : (c x.0 x.3).ghost)
      → {i : Item 𝓤} → ent 𝓤 (mean 𝓛 i) ((triple_of 𝓛 T.signature (closing 𝓛 T c)).pre (x, g))
      → (val : Res T.signature x.0 → Val) → Tells (type_at T.signature.result x.0) (Is (type_at T.signature.result x.0)) (λ r. val r ∷ [])
      → Opds K 𝓛 (raw ((triple_of 𝓛 T.signature (closing 𝓛 T c)).pre (x, g)) ∷ Γ) E xs (passed 𝓛 T.signature x)
      → ((r : Res T.signature x.0) (ws : Lasts T x.0 x.3) → Is (type_at T.signature.result x.0) r (val r ∷ [])
      → Seq K 𝓛 (raw (alive 𝓛 T.signature x.0 x.1) ∷ ‵ (lasts T x.0 x.3 ws) ∷ raw ((c x.0 x.3).ensures g r (at_exit T x.0 x.3 ws)) ∷ Γ) (lands C Λ E d (val r) rest q))
      → Seq K 𝓛 (i ∷ Γ) (runs C Λ E (seq (call f xs d) rest) q)
  calls_on t fm T c known x g pre val tells os k = calls_own t fm T c known x g pre val tells os (λ r ws is. drop t $ k r ws is)

module _ {M : Type 1} {𝓤 : Ura M} {𝓛 : Logic 𝓤} {K : Type 0} {Γ : List (Item 𝓤)} where
  open 𝓛 use {H}

  pub leave_room : K → (n : ℕ) {τ : Ty} {b : ℕ} {E : Env 𝓤 H} {g : Goal 𝓤 H} → nth 𝓛 n Γ ≡ ‵ (froom τ b zero) → nth 𝓛 n (del 𝓛 n Γ) ≡ ‵ (fdies τ b)
      → Step K 𝓛 (del 𝓛 n (del 𝓛 n Γ)) (frees E g) Γ (frees ((τ, b) ∷ E) g)
  leave_room t n {τ} {b} e₁ e₂ = step (λ s. record {
    prf =
        via 𝓤 (sep 𝓤 (H.room τ b zero) (⋆ 𝓛 (del 𝓛 n Γ)))
        (subst (λ (j : Item 𝓤). ent 𝓤 (⋆ 𝓛 Γ) (sep 𝓤 (mean 𝓛 j) (⋆ 𝓛 (del 𝓛 n Γ)))) e₁ (pull 𝓛 n Γ))
        (via 𝓤 (sep 𝓤 (H.room τ b zero) (sep 𝓤 (H.dies τ b) (⋆ 𝓛 (del 𝓛 n (del 𝓛 n Γ)))))
        (mono_r 𝓤 (H.room τ b zero) (subst (λ (j : Item 𝓤). ent 𝓤 (⋆ 𝓛 (del 𝓛 n Γ)) (sep 𝓤 (mean 𝓛 j) (⋆ 𝓛 (del 𝓛 n (del 𝓛 n Γ))))) e₂ (pull 𝓛 n (del 𝓛 n Γ))))
        (via 𝓤 (sep 𝓤 (sep 𝓤 (H.room τ b zero) (H.dies τ b)) (⋆ 𝓛 (del 𝓛 n (del 𝓛 n Γ)))) (Logic.assoc' 𝓤 (H.room τ b zero) (H.dies τ b) (⋆ 𝓛 (del 𝓛 n (del 𝓛 n Γ))))
        (mono_r 𝓤 (sep 𝓤 (H.room τ b zero) (H.dies τ b)) s.prf)));
  })

  pub leave : K → (n : ℕ) {τ : Ty} {b : ℕ} {v : Val} {E : Env 𝓤 H} {g : Goal 𝓤 H} → nth 𝓛 n Γ ≡ ‵ (fat full_share τ b zero v) → nth 𝓛 n (del 𝓛 n Γ) ≡ ‵ (fdies τ b)
      → Step K 𝓛 (del 𝓛 n (del 𝓛 n Γ)) (frees E g) Γ (frees ((τ, b) ∷ E) g)
  leave t n {τ} {b} {v} e₁ e₂ = step (λ s. record {
    prf =
        via 𝓤 (sep 𝓤 (H.at full_share τ b zero v) (⋆ 𝓛 (del 𝓛 n Γ)))
        (subst (λ (j : Item 𝓤). ent 𝓤 (⋆ 𝓛 Γ) (sep 𝓤 (mean 𝓛 j) (⋆ 𝓛 (del 𝓛 n Γ)))) e₁ (pull 𝓛 n Γ))
        (via 𝓤 (sep 𝓤 (H.room τ b zero) (sep 𝓤 (H.dies τ b) (⋆ 𝓛 (del 𝓛 n (del 𝓛 n Γ)))))
        (via 𝓤 (sep 𝓤 (H.room τ b zero) (⋆ 𝓛 (del 𝓛 n Γ))) (mono_l 𝓤 (⋆ 𝓛 (del 𝓛 n Γ)) (𝓛.laws.at_room τ b zero v))
        (mono_r 𝓤 (H.room τ b zero) (subst (λ (j : Item 𝓤). ent 𝓤 (⋆ 𝓛 (del 𝓛 n Γ)) (sep 𝓤 (mean 𝓛 j) (⋆ 𝓛 (del 𝓛 n (del 𝓛 n Γ))))) e₂ (pull 𝓛 n (del 𝓛 n Γ)))))
        (via 𝓤 (sep 𝓤 (sep 𝓤 (H.room τ b zero) (H.dies τ b)) (⋆ 𝓛 (del 𝓛 n (del 𝓛 n Γ)))) (Logic.assoc' 𝓤 (H.room τ b zero) (H.dies τ b) (⋆ 𝓛 (del 𝓛 n (del 𝓛 n Γ))))
        (mono_r 𝓤 (sep 𝓤 (H.room τ b zero) (H.dies τ b)) s.prf)));
  })

-- ---- a local of the type τ at l: its place, and that it dies with the call
module _ {M : Type 1} {𝓤 : Ura M} where
  abbrev pub unset : Ty → ℕ → List (Item 𝓤)
  unset τ l = ‵ (froom τ l 0) ∷ ‵ (fdies τ l) ∷ []

  abbrev pub holds : Ty → ℕ → Val → List (Item 𝓤)
  holds τ l v = ‵ (fat full_share τ l 0 v) ∷ ‵ (fdies τ l) ∷ []

-- ---- a local's value as an operand: entry n of the context is the local
module _ {M : Type 1} {𝓤 : Ura M} {𝓛 : Logic 𝓤} {K : Type 0} {Γ : List (Item 𝓤)} {E : Env 𝓤 𝓛.H} where
  open 𝓛 use {H}

  pub value : K → {i : ℕ} (n : ℕ) {q : Share} {v : Val} → nth 𝓛 n Γ ≡ ‵ (fat q (spot_of 𝓤 H E i).0 (spot_of 𝓤 H E i).1 (spot_of 𝓤 H E i).2 v) → Opd K 𝓛 Γ E (copy (place i [])) v
  value t {i} n e = load t (from t (stop t)) (look t n e)

-- ---- an `ensures` of several clauses, each a fact
module _ {M : Type 1} (𝓤 : Ura M) where
  pub fact_and : (φ : Type 0) (Q : SProp 𝓤) → φ → ent 𝓤 (emp 𝓤) Q → ent 𝓤 (emp 𝓤) (sep 𝓤 (fact 𝓤 φ) Q)
  fact_and φ Q x h = via 𝓤 Q h (via 𝓤 (sep 𝓤 (emp 𝓤) Q) (emp∗ 𝓤 Q) (mono_l 𝓤 Q (fact_i 𝓤 φ (emp 𝓤) x)))

module _ {M : Type 1} {𝓤 : Ura M} {𝓛 : Logic 𝓤} {K : Type 0} {Γ : List (Item 𝓤)} where
  pub says_all : K → {P : SProp 𝓤} (Q : SProp 𝓤) → ent 𝓤 (emp 𝓤) Q → Step K 𝓛 Γ (prop P) Γ (prop (sep 𝓤 P Q))
  says_all t {P} Q h = step (λ s. record { prf = via 𝓤 P s.prf (via 𝓤 (sep 𝓤 (emp 𝓤) P) (emp∗ 𝓤 P) (via 𝓤 (sep 𝓤 Q P) (mono_l 𝓤 P h) (comm∗ 𝓤 Q P))) })

-- ---- a loop that counts up to n: the states X, of which `at` reads the count
module _ {X : Type 0} (n : ℕ) (at : X → ℕ) where
  abbrev pub down : X → X → Type 0
  down x y = n - at x < n - at y

  pub down_wf : WellFounded down
  down_wf = record { apply = λ x. InvImage.accessible (λ (y : X). n - at y) (lt-wf_rel.wf.apply (n - at x)) }
