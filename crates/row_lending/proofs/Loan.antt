-- A table in a local is lent as a slice for a call, and comes back. The call's lifetime is its own, ν, and ends with it.
--     table_apart, table_whole     the table of cs lies at (l, 0) where its cells lie there, side by side
--     lends_table      the table of cs lies at (l, 0): gives ν's token, the `&mut` to cs, and what the lender keeps
--     table_back       with the token, the `&mut`'s last cells ws and what the lender kept: the table of ws lies at (l, 0)
--     shares_table, shared_back    the same with a `&`: the table comes back as it was
-- Assumes `Logic`.
use mathlib.Core.Path.{◌≡◌, refl, sym, subst}
use Prim.Native.Nat.{ℕ}
use mathlib.Core.List.{List, [], ◌∷◌}
use lib.ListN.{length}
use seplogic.Ra.Ura.{Ura}
use base.Fraction.{full_share}
use mir.Syntax.{named}
use mir.Val.{Val}
use base.Fml.{Lft, Incl-refl, GName, fsep, fat, flft, flent}
use types.Logic.{Logic}
use types.Kit.{Goal, Soaks, Item, ‵, ◌⊛◌, some, later, Seq, Step, step, ◌$◌, move, use1, use2, use3, split, drop, rewrite, pick, await, fsplit, fjoin, fpick, fpack, feq_i, feq_l}
use types.SemTy.{Arr, cells}
use types.Share.{arr_parts}
use types.Tokens.{lft_new, lft_end, lent_back}
use denote.Laws.{Is, shows}
use denote.Memory.{cell_at, part_at, mem, shares, part_of}
use denote.ArrayMemory.{Single, Array-apart, Array-whole}
use denote.Bor.{Bor}
use denote.MutBor.{MutBor}
use denote.Shares.{Shares}
use denote.Slice.{slice_val, MutSlice, ShrSlice, Room, finally}
use denote.Lend.{Held, lends_slice, slice_back, lends_shr_slice}
use denote.Index.{row, whole_in, whole_out}
use denote.Steps.{peeks, owned}
use Rattle.row_lending.proofs.TableTypes.{CellType, Cell, table, table_ty, table_val, Filled, table_makes, table_tells, filled_long}

-- the `&mut` to the cells cs at (l, 0), and the `&`
abbrev Lent : (ε : CellType) → ℕ → GName → List (Cell ε) → MutBor (List (Cell ε))
Lent ε l γ cs = record { ref_ptr = (l, 0); ghost_name = γ; now = cs }

abbrev Shared : (ε : CellType) → ℕ → List (Cell ε) → Bor (List (Cell ε))
Shared ε l cs = record { ref_ptr = (l, 0); now = cs }

module _ {M : Type 1} {𝓤 : Ura M} {𝓛 : Logic 𝓤} {K : Type 0} {Γ : List (Item 𝓤)} {G : Goal 𝓤 𝓛.H} where
  -- a table is its cells, side by side
  pub table_apart : K → (ε : CellType) → Single ε.type.mir → (N : ℕ) (cs : List (Cell ε)) → Filled ε N cs → (l : ℕ) → Step K 𝓛 (‵ (row ε.type full_share cs l 0) ∷ Γ) G (‵ (fat full_share (table_ty ε N) l 0 (table_val ε cs)) ∷ Γ) G
  unfolding part_of
  table_apart t ε one N cs cs-are l = step (λ s.
      owned t (table ε N) (Is (table ε N)) (table_makes ε N 𝓛) cs (table_val ε cs ∷ []) cs-are $ move t (1 ∷ []) $
      use1 𝓛 (‵ (cell_at full_share (table ε N).mir (table_val ε cs ∷ []) l 0)) (𝓛.laws.at_raw full_share (table_ty ε N) l 0 (table_val ε cs)) $ fjoin t $
      fpack t (List Val) (λ vs. fsep (cell_at full_share (table ε N).mir vs l 0) ((table ε N).own_val cs vs)) (table_val ε cs ∷ []) $
      use1 𝓛 (‵ ((arr_parts (shares ε.type) N).part full_share cs l 0)) (Array-apart 𝓛 ε.type full_share one N cs l 0) $ fsplit t $ drop t $ s)

  pub table_whole : K → (ε : CellType) (N : ℕ) (cs : List (Cell ε)) → length cs ≡ N → (l : ℕ) → (Filled ε N cs → Seq K 𝓛 (‵ (fat full_share (table_ty ε N) l 0 (table_val ε cs)) ∷ Γ) G) → Seq K 𝓛 (‵ (row ε.type full_share cs l 0) ∷ Γ) G
  unfolding part_of
  table_whole t ε N cs long l k =
      feq_i t ℕ (length cs) N long $ fjoin t $ use1 𝓛 (‵ (part_at (table ε N) full_share cs l 0)) (Array-whole 𝓛 ε.type full_share N cs l 0) $ fpick t (λ vs. fsplit t $ move t (1 ∷ []) $
      peeks t (table ε N) (Is (table ε N)) (shows 𝓛 (table ε N)) cs vs (λ is. drop t $
      rewrite t 0 (λ (us : List Val). ‵ (cell_at full_share (table ε N).mir us l 0)) (table_tells ε N cs vs is) refl $
      use1 𝓛 (‵ (fat full_share (table_ty ε N) l 0 (table_val ε cs))) (𝓛.laws.raw_at full_share (table_ty ε N) l 0 (table_val ε cs)) $
      k (subst (Is (table ε N) cs) (table_tells ε N cs vs is) is)))

module _ {M : Type 1} {𝓤 : Ura M} {𝓛 : Logic 𝓤} {K : Type 0} {Γ : List (Item 𝓤)} {G : Goal 𝓤 𝓛.H} where
  pub lends_table : K → Soaks G → (ε : CellType) → Single ε.type.mir → (N : ℕ) → Room ε.type N → (cs : List (Cell ε)) → Filled ε N cs → (l : ℕ)
      → ((ν : ℕ) (γ : GName) → Seq K 𝓛 (‵ (flft (ν ∷ []) full_share) ∷ ‵ ((MutSlice (named 0) (ν ∷ []) ε.type).own_val (Lent ε l γ cs) (slice_val (l, 0) (length cs) ∷ [])) ∷ ‵ (flent (ν ∷ []) (Held ε.type N l 0 γ)) ∷ Γ) G)
      → Seq K 𝓛 (‵ (fat full_share (table_ty ε N) l 0 (table_val ε cs)) ∷ Γ) G
  lends_table t z ε one N room cs cs-are l k =
      table_apart t ε one N cs cs-are l $ use1 𝓛 (‵ (cells (mem ε.type) cs l 0)) (whole_in 𝓛 ε.type cs l 0) $ lft_new t z (λ ν. move t (1 ∷ []) $
      use1 𝓛 (later (some (λ (γ : GName). ‵ ((MutSlice (named 0) (ν ∷ []) ε.type).own_val (Lent ε l γ cs) (slice_val (l, 0) (length cs) ∷ [])) ⊛ ‵ (flent (ν ∷ []) (Held ε.type (length cs) l 0 γ)))))
      (lends_slice 𝓛 ε.type (named 0) (ν ∷ []) cs l 0 (subst (Room ε.type) (sym long) room)) $ await t z $ pick t (λ γ. split t $
      rewrite t 1 (λ (m : ℕ). ‵ (flent (ν ∷ []) (Held ε.type m l 0 γ))) long refl $ move t (2 ∷ []) $ k ν γ))
    where
      long : length cs ≡ N
      long = filled_long ε N cs cs-are

  pub table_back : K → Soaks G → (ε : CellType) (N : ℕ) (ws : List (Cell ε)) (l ν : ℕ) (γ : GName)
      → (Filled ε N ws → Seq K 𝓛 (‵ (fat full_share (table_ty ε N) l 0 (table_val ε ws)) ∷ Γ) G)
      → Seq K 𝓛 (‵ (flft (ν ∷ []) full_share) ∷ ‵ (finally ε.type γ ws) ∷ ‵ (flent (ν ∷ []) (Held ε.type N l 0 γ)) ∷ Γ) G
  table_back t z ε N ws l ν γ k =
      lft_end t z $ move t (0 ∷ 2 ∷ []) $ use3 𝓛 (later (‵ ((Arr (mem ε.type) N).own_at ws l 0))) (slice_back 𝓛 ε.type (ν ∷ []) γ ws N l 0) $ await t z $ fsplit t $ feq_l t (λ long.
      use1 𝓛 (‵ (row ε.type full_share ws l 0)) (whole_out 𝓛 ε.type ws l 0) $ table_whole t ε N ws long l k)

  -- a `&` has no ghost name, and its cells are shared out by the law of their type, which each type that is copied has (`denote.Copied`), with ν's token
  pub shares_table : K → Soaks G → (ε : CellType) → Single ε.type.mir → ((κ : Lft) → Shares 𝓛 ε.type κ) → (N : ℕ) → Room ε.type N → (cs : List (Cell ε)) → Filled ε N cs → (l : ℕ)
      → ((ν : ℕ) → Seq K 𝓛 (‵ (flft (ν ∷ []) full_share) ∷ ‵ ((ShrSlice (named 0) (ν ∷ []) ε.type).own_val (Shared ε l cs) (slice_val (l, 0) (length cs) ∷ [])) ∷ ‵ (flent (ν ∷ []) ((arr_parts (shares ε.type) (length cs)).part full_share cs l 0)) ∷ Γ) G)
      → Seq K 𝓛 (‵ (fat full_share (table_ty ε N) l 0 (table_val ε cs)) ∷ Γ) G
  shares_table t z ε one sh N room cs cs-are l k =
      table_apart t ε one N cs cs-are l $ lft_new t z (λ ν. move t (1 ∷ []) $ feq_i t ℕ (length cs) (length cs) refl $ fjoin t $
      use2 𝓛 (later ((‵ ((ShrSlice (named 0) (ν ∷ []) ε.type).own_val (Shared ε l cs) (slice_val (l, 0) (length cs) ∷ [])) ⊛ ‵ (flent (ν ∷ []) ((arr_parts (shares ε.type) (length cs)).part full_share cs l 0))) ⊛ ‵ (flft (ν ∷ []) full_share)))
      (lends_shr_slice 𝓛 ε.type (named 0) (ν ∷ []) full_share cs l 0 (subst (Room ε.type) (sym (filled_long ε N cs cs-are)) room) (ν ∷ []) (sh (ν ∷ [])) ((ν ∷ [], full_share) ∷ []) (Incl-refl (ν ∷ [])) (Incl-refl (ν ∷ []))) $
      await t z $ split t $ split t $ move t (2 ∷ []) $ k ν)

  pub shared_back : K → Soaks G → (ε : CellType) (N : ℕ) (cs : List (Cell ε)) → Filled ε N cs → (l ν : ℕ)
      → Step K 𝓛 (‵ (fat full_share (table_ty ε N) l 0 (table_val ε cs)) ∷ Γ) G (‵ (flft (ν ∷ []) full_share) ∷ ‵ (flent (ν ∷ []) ((arr_parts (shares ε.type) (length cs)).part full_share cs l 0)) ∷ Γ) G
  shared_back t z ε N cs cs-are l ν = step (λ s. lft_end t z $ lent_back t z $ fsplit t $ drop t $ table_whole t ε N cs (filled_long ε N cs cs-are) l (λ _. s))
