-- Walks of functions of one parameter at one lifetime, `fn f<'a>(x: P<'a>) -> F<'a>`, of any types.
--     calls-one        a call of one: what its parameter owns goes to it, beside the lifetime's token, which comes back
--     ends-one         the end of one, which does not need its parameter any more
--     meets-one        from its walk at every call to its contract
-- Assumes `Logic`.
use Rattle.hand_proofs.proofs.Prelude.{List, [], ◌∷◌, Ura, Callee, Fn, Place, Operand, Body, seq, call, Val, SProp, ent, sep, emp, via, id⊢, Lft, Share, ftrue, flft, Env, Calls, Loops, WpFn, Tables, FmC, WpFn-mono, Item, ‵, raw, ◌⊛◌, ⋆, Post, runs, lands, Seq, ◌$◌, ◌∵◌, !, qed, move, keep, drop, use0, use1, group, split, join, fsplit, fjoin, suffices, frame, done, Opds, owns, yes, Is, Tells, Param, nothing, Bound, Ended, Clauses, AtExit, Lasts, at_exit, closing, on_entry, Meets, triple_of, Triple, Stays, Silent, stay_dropped, Goes-dropped, walk_of, ends_at, walked, walk_Meets}
use Rattle.hand_proofs.proofs.Walk.{calls_own, says_all}
use types.Logic.{Logic}

abbrev pub One : Param 1 → Param 1 → Ended
One P F = record { signature = record { lifetimes = 1; outlives = []; params = P ∷ []; result = F }; kept = (yes, tt) }

abbrev pub dropped : (P F : Param 1) → Stays (One P F).signature.params (One P F).kept
dropped P F = (stay_dropped P yes, tt)

module _ {M : Type 1} {𝓤 : Ura M} {𝓛 : Logic 𝓤} {K : Type 0} {Γ : List (Item 𝓤)} {E : Env 𝓤 𝓛.H} {C : Calls 𝓤 𝓛.H} {Λ : Loops 𝓤 𝓛.H} {p : Post 𝓤 𝓛.H} {f : Callee} {xs : List Operand} {d : Place} {rest : Body} where
  open 𝓛 use {H}

  pub calls_one : K → FmC 𝓤 H 𝓛.laws C → (P F : Param 1) (c : Clauses 𝓤 (One P F)) → Triple 𝓤 (C f) (triple_of 𝓛 (One P F).signature (closing 𝓛 (One P F) c))
      → (κ : Lft) (q : Share) (a : (P.row (κ, tt)).Denot) (v : Val) (g : (c (κ, tt) (a, tt)).ghost) → ent 𝓤 (emp 𝓤) ((c (κ, tt) (a, tt)).requires g)
      → (val : (F.row (κ, tt)).Denot → Val) → Tells (F.row (κ, tt)) (Is (F.row (κ, tt))) (λ r. val r ∷ [])
      → ((J : Item 𝓤) → Opds K 𝓛 (J ∷ Γ) E xs (v ∷ []))
      → ((r : (F.row (κ, tt)).Denot) (e : AtExit (One P F) (κ, tt)) → Is (F.row (κ, tt)) r (val r ∷ []) → Seq K 𝓛 (raw ((c (κ, tt) (a, tt)).ensures g r e) ∷ ‵ (flft κ q) ∷ ‵ ((F.row (κ, tt)).own_val r (val r ∷ [])) ∷ Γ) (lands C Λ E d (val r) rest p))
      → Seq K 𝓛 (‵ (flft κ q) ∷ ‵ ((P.row (κ, tt)).own_val a (v ∷ [])) ∷ Γ) (runs C Λ E (seq (call f xs d) rest) p)
  calls_one t fm P F c known κ q a v g req val tells os k =
      group t 2 $ calls_own t fm (One P F) c known x g asks val tells (os _) (λ r ws is.
      move t (1 ∷ []) $ use1 𝓛 (‵ (flft κ q) ⊛ ‵ ftrue) (id⊢ 𝓤 _) $ split t $ move t (1 ∷ 3 ∷ []) $ drop t $ drop t $ move t (2 ∷ 0 ∷ []) $ k r (at_exit (One P F) (κ, tt) (a, tt) ws) is)
    where
      x : Bound 𝓛 (One P F).signature
      x = ((κ, tt), (q, tt), tt, (a, tt), (v ∷ [], tt))

      asks : ent 𝓤 (⋆ 𝓛 (‵ (flft κ q) ∷ ‵ ((P.row (κ, tt)).own_val a (v ∷ [])) ∷ [])) ((triple_of 𝓛 (One P F).signature (closing 𝓛 (One P F) c)).pre (x, g))
      asks =
          qed 𝓛 (‵ (flft κ q) ∷ ‵ ((P.row (κ, tt)).own_val a (v ∷ [])) ∷ []) ∵ use0 𝓛 (raw ((c (κ, tt) (a, tt)).requires g)) req $
          nothing ! $ move ! (3 ∷ 0 ∷ []) $ fjoin ! $ nothing ! $ move ! (3 ∷ 0 ∷ []) $ join ! $ join ! $ done !

module _ {M : Type 1} {𝓤 : Ura M} (𝓛 : Logic 𝓤) (P F : Param 1) (c : Clauses 𝓤 (One P F)) where
  -- what a walk ends in
  open 𝓛 use {H}

  abbrev pub Ends : (κ : Lft) → Share → (a : (P.row (κ, tt)).Denot) → Val → (c (κ, tt) (a, tt)).ghost → Val → SProp 𝓤
  Ends κ q a v g = (walk_of 𝓛 (One P F) (dropped P F) c).post (((κ, tt), (q, tt), tt, (a, tt), (v ∷ [], tt)), g)

  pub ends_one : (κ : Lft) (q : Share) (a : (P.row (κ, tt)).Denot) (v : Val) (g : (c (κ, tt) (a, tt)).ghost) (ws : Lasts (One P F) (κ, tt) (a, tt)) (r : (F.row (κ, tt)).Denot) (u : Val)
      → ent 𝓤 (emp 𝓤) ((c (κ, tt) (a, tt)).ensures g r (at_exit (One P F) (κ, tt) (a, tt) ws))
      → ent 𝓤 (⋆ 𝓛 (‵ (flft κ q) ∷ ‵ ((F.row (κ, tt)).own_val r (u ∷ [])) ∷ [])) (Ends κ q a v g u)
  ends_one κ q a v g ws r u told =
      qed 𝓛 (‵ (flft κ q) ∷ ‵ ((F.row (κ, tt)).own_val r (u ∷ [])) ∷ []) ∵
      suffices ! _ (ends_at 𝓛 (One P F) (dropped P F) c (((κ, tt), (q, tt), tt, (a, tt), (v ∷ [], tt)), g) u r ws (tt, tt)) $
      says_all ! ((c (κ, tt) (a, tt)).ensures g r (at_exit (One P F) (κ, tt) (a, tt) ws)) told $
      nothing ! $ move ! (1 ∷ 0 ∷ []) $ join ! $ frame ! $ nothing ! $ nothing ! $ fjoin ! $ frame ! $ done !

  module _ (𝓣 : Tables 𝓤 H) (e : Fn) where
    pub meets_one : Silent 𝓛 1 P yes → (val : (κ : Lft) → (P.row (κ, tt)).Denot → Val) → ((κ : Lft) → Tells (P.row (κ, tt)) (Is (P.row (κ, tt))) (λ a. val κ a ∷ []))
        → ((κ : Lft) (q : Share) (a : (P.row (κ, tt)).Denot) (g : (c (κ, tt) (a, tt)).ghost) → Is (P.row (κ, tt)) a (val κ a ∷ [])
        → ent 𝓤 (⋆ 𝓛 (‵ (flft κ q) ∷ ‵ ((P.row (κ, tt)).own_val a (val κ a ∷ [])) ∷ [])) (WpFn 𝓤 H 𝓣.C 𝓣.Λ e (val κ a ∷ []) (Ends κ q a (val κ a) g)))
        → Meets 𝓛 (One P F).signature (WpFn 𝓤 H 𝓣.C 𝓣.Λ e) (closing 𝓛 (One P F) c)
    meets_one silent val tells walk =
        walk_Meets 𝓛 (One P F) (dropped P F) (Goes-dropped 𝓛 1 P yes silent, tt) c (WpFn 𝓤 H 𝓣.C 𝓣.Λ e) (WpFn-mono 𝓤 H 𝓛.laws 𝓣 e)
        (walked 𝓛 (One P F) (dropped P F) c (WpFn 𝓤 H 𝓣.C 𝓣.Λ e) (λ κs. ((λ a. val κs.0 a ∷ []), tt)) (λ κs. (tells κs.0, tt))
        (λ κs qs bounds a g are. via 𝓤 _ (begins κs.0 qs.0 a.0 (val κs.0 a.0) g) (walk κs.0 qs.0 a.0 g are.0)))
      where
        begins : (κ : Lft) (q : Share) (a : (P.row (κ, tt)).Denot) (v : Val) (g : (c (κ, tt) (a, tt)).ghost)
            → ent 𝓤 (sep 𝓤 (on_entry 𝓛 (One P F).signature (κ, tt) (q, tt) (a, tt) (v ∷ [], tt)) ((c (κ, tt) (a, tt)).requires g)) (⋆ 𝓛 (‵ (flft κ q) ∷ ‵ ((P.row (κ, tt)).own_val a (v ∷ [])) ∷ []))
        begins κ q a v g =
            qed 𝓛 (((‵ (flft κ q) ⊛ ‵ ftrue) ⊛ ‵ (owns (P.row (κ, tt) ∷ []) (a, tt) (v ∷ [], tt))) ∷ raw ((c (κ, tt) (a, tt)).requires g) ∷ []) ∵
            split ! $ split ! $ move ! (2 ∷ []) $ fsplit ! $ keep ! (2 ∷ 0 ∷ []) $ done !
