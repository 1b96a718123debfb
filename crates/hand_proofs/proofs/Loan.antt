-- A local is lent by `&mut` for a call, and comes back. The call's lifetime is ν within κ, where κ is the lifetime of what the local's value borrows: so it ends with ν, and the callee knows that κ outlives it.
--     Loan             what the lender keeps: the rest of ν's token, and its part of the borrow
--     lends_local      [κ]_q, and d lies at (l, 0): gives tokens of the call's lifetime and of κ, and the `&mut` to d
--     local_back       with these tokens and the `&mut`'s last value w, [κ]_q again, and w lies at (l, 0)
-- Assumes `Logic`.
use Rattle.hand_proofs.proofs.Prelude.{List, [], ◌∷◌, ℕ, Ura, PosShare·left, PosShare·right, full_share, named, vptr, wand, apply∗, GName, Lft, Share, flft, fdead, flent, fres, Goal, Soaks, Item, ‵, raw, ◌⊛◌, some, later, Seq, Step, step, ◌$◌, move, use1, use2, use3, split, join, pick, await, RattleType, MutRef}
use types.Logic.{Logic}
use contract.BorrowLft.{meet_⊑_left}
use types.SemTy.{Body}
use types.Tokens.{lft_new, lft_end}
use denote.Memory.{mem}
use denote.Lend.{lends_ref, ref_back}

module _ {M : Type 1} {𝓤 : Ura M} (𝓛 : Logic 𝓤) (R : RattleType) (κ : Lft) (q : Share) (l ν : ℕ) (γ : GName) where
  open 𝓛 use {A}

  abbrev pub Loan : Item 𝓤
  Loan = raw (wand 𝓤 (A.lft (ν ∷ []) (PosShare·left q)) (A.lft (ν ∷ []) full_share)) ⊛ ‵ (flent (ν ∷ κ) (Body (mem R) l 0 γ))

module _ {M : Type 1} {𝓤 : Ura M} {𝓛 : Logic 𝓤} {K : Type 0} {Γ : List (Item 𝓤)} {G : Goal 𝓤 𝓛.H} where
  open 𝓛 use {A}

  pub lends_local : K → Soaks G → (R : RattleType) (κ : Lft) (q : Share) (d : R.Denot) (l : ℕ)
      → ((ν : ℕ) (γ : GName) → Seq K 𝓛 (‵ (flft (ν ∷ κ) (PosShare·left q)) ∷ ‵ (flft κ (PosShare·right q)) ∷ ‵ ((MutRef (named 0) (ν ∷ κ) R).own_val (record { ref_ptr = (l, 0); ghost_name = γ; now = d }) (vptr l 0 ∷ [])) ∷ Loan 𝓛 R κ q l ν γ ∷ Γ) G)
      → Seq K 𝓛 (‵ (flft κ q) ∷ ‵ ((mem R).own_at d l 0) ∷ Γ) G
  lends_local t z R κ q d l k =
      use1 𝓛 (‵ (flft κ (PosShare·left q)) ⊛ ‵ (flft κ (PosShare·right q))) (𝓛.lfts.lft_split κ q) $ split t $
      lft_new t z (λ ν.
      use1 𝓛 (‵ (flft (ν ∷ []) (PosShare·left q)) ⊛ raw (wand 𝓤 (A.lft (ν ∷ []) (PosShare·left q)) (A.lft (ν ∷ []) full_share))) (𝓛.lfts.lft_carve ν (PosShare·left q)) $ split t $
      -- [ν; the rest of ν; κ; κ; d]
      move t (0 ∷ 2 ∷ []) $ use2 𝓛 (‵ (flft (ν ∷ κ) (PosShare·left q))) (𝓛.lfts.lft_meet (ν ∷ []) κ (PosShare·left q)) $
      move t (3 ∷ []) $ use1 𝓛 (later (some (λ (γ : GName). ‵ ((MutRef (named 0) (ν ∷ κ) R).own_val (record { ref_ptr = (l, 0); ghost_name = γ; now = d }) (vptr l 0 ∷ [])) ⊛ ‵ (flent (ν ∷ κ) (Body (mem R) l 0 γ))))) (lends_ref 𝓛 R (named 0) (ν ∷ κ) d l 0) $ await t z $ pick t (λ γ. split t $
      -- [the `&mut`; the lender's part; ν and κ; the rest of ν; κ]
      move t (3 ∷ 1 ∷ []) $ join t $ move t (2 ∷ 3 ∷ 1 ∷ 0 ∷ []) $ k ν γ))

  pub local_back : K → Soaks G → (R : RattleType) (κ : Lft) (q : Share) (w : R.Denot) (l ν : ℕ) (γ : GName)
      → Step K 𝓛 (‵ (flft κ q) ∷ ‵ ((mem R).own_at w l 0) ∷ Γ) G (‵ (flft (ν ∷ κ) (PosShare·left q)) ∷ ‵ (flft κ (PosShare·right q)) ∷ ‵ (fres γ (R.coded.code w)) ∷ Loan 𝓛 R κ q l ν γ ∷ Γ) G
  local_back t z R κ q w l ν γ = step (λ s.
      use1 𝓛 (‵ (flft (ν ∷ []) (PosShare·left q)) ⊛ ‵ (flft κ (PosShare·left q))) (𝓛.lfts.lft_unmeet (ν ∷ []) κ (PosShare·left q)) $ split t $ move t (4 ∷ []) $ split t $
      -- [the rest of ν; the lender's part; ν; κ; κ; the last value]
      move t (2 ∷ 0 ∷ []) $ use2 𝓛 (‵ (flft (ν ∷ []) full_share)) (apply∗ 𝓤 (A.lft (ν ∷ []) (PosShare·left q)) (A.lft (ν ∷ []) full_share)) $ lft_end t z $
      use1 𝓛 (‵ (fdead (ν ∷ κ))) (𝓛.lfts.dead-incl (ν ∷ κ) (ν ∷ []) (meet_⊑_left (ν ∷ []) κ)) $
      move t (0 ∷ 1 ∷ 4 ∷ []) $ use3 𝓛 (later (‵ ((mem R).own_at w l 0))) (ref_back 𝓛 R (ν ∷ κ) γ w l 0) $ await t z $
      move t (1 ∷ 2 ∷ []) $ use2 𝓛 (‵ (flft κ q)) (𝓛.lfts.lft_join κ q) $ s)
