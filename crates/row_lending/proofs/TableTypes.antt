-- A type of rows that a caller lends, a type of cells, and tables of N cells by value: what the walks of `Loads.antt` and `Stores.antt` ask of them. A cell is a row, or a field of one (`Within`). It holds of any of them, of any size, and of any N.
-- Assumes nothing, but for `table_makes`, `table_typed`, `row_shares` and what is said of a walk, which assume `Logic`.
use mathlib.Core.Path.{◌≡◌, refl, sym, ◌∙◌, ap, subst}
use Prim.Native.Nat.{ℕ, zero, suc, ◌<◌, ◌≤◌, ◌^◌}
use native.Mathlib.Nat.{not-suc-le-zero, le_of_suc-le-suc, le_refl}
use mathlib.Core.List.{List, [], ◌∷◌, map}
use lib.Dec.{T, ltb}
use lib.ListN.{length, get_or, set, length-set, length-map, get_or-map}
use seplogic.Ra.Ura.{Ura}
use base.Fraction.{full_share}
use mir.Syntax.{Ty, Step as PStep, ty_array}
use mir.Val.{Val, WT, has_ty}
use mir.Raw.{raw as raw_ty}
use base.Fml.{Lft, Share, ftrue, fat}
use prog.Memory.{size}
use prog.Wp.{Env}
use types.Logic.{Logic}
use types.Kit.{Item, ‵, nth, put}
use types.Run.{Reads, Writes, Walks, stop, look_raw, store_raw}
use denote.Exit.{Exit, Last, left, unchanged, each_of, yes}
use denote.RattleType.{RattleType}
use denote.Shadow.{shadow}
use denote.Laws.{Is, Tells, Makes, Lawful, Typed}
use denote.Memory.{lone}
use denote.Shares.{Shares}
use denote.Array.{Array, array_val, each, Array-Tells, Array-Typed, Array-Makes}
use denote.Struct.Struct.{Struct, Plains}
use denote.Struct.Declared.{Declared, fields, shape}
use denote.Struct.Declared as declared
use denote.Struct.Laws as LL
use Rattle.row_types.proofs.ListLaws.{map_set}
use Rattle.row_lending.proofs.Offsets.{Offset, product}

-- A type of cells: a cell's machine value, what is known of it, a cell to stand for none, and how the code makes a cell's offset in a table
pub record CellType : Type 2 where
  pub type : RattleType
  pub val : type.Denot → Val
  pub tells : Tells type (Is type) (λ x. val x ∷ [])
  pub lawful : {M : Type 1} {𝓤 : Ura M} (𝓛 : Logic 𝓤) → Lawful 𝓛 type
  pub makes : {M : Type 1} {𝓤 : Ura M} (𝓛 : Logic 𝓤) → Makes 𝓛 type (Is type)
  pub still : type.exit yes ≡ unchanged
  pub none : type.Denot
  pub offset : Offset (size (lone type.mir))

-- one value of these types is a value of the one type
typed_one : (τs : List Ty) (v : Val) → Typed τs (v ∷ []) → T (has_ty (lone τs) v) × WT v
typed_one [] v t = absurd t
typed_one (τ ∷ []) v t = t.0
typed_one (τ ∷ σ ∷ τs) v t = absurd t.1

module _ (ε : CellType) where
  abbrev pub Cell : Type 0
  Cell = ε.type.Denot

  -- its type in the code, its size, and its machine value
  abbrev pub cell_ty : Ty
  cell_ty = lone ε.type.mir

  abbrev pub cell_size : ℕ
  cell_size = size cell_ty

  abbrev pub cell_val : Cell → Val
  cell_val = ε.val

  -- the machine value is all that is to be known of a cell
  abbrev pub IsCell : Cell → Type 0
  IsCell c = Is ε.type c (cell_val c ∷ [])

  pub cell_typed : {M : Type 1} {𝓤 : Ura M} (𝓛 : Logic 𝓤) (c : Cell) → IsCell c → T (has_ty cell_ty (cell_val c)) × WT (cell_val c)
  cell_typed 𝓛 c is = typed_one ε.type.mir (cell_val c) ((ε.lawful 𝓛).typed c (cell_val c ∷ []) is)

  -- the machine values of cells, and of a table of them
  abbrev pub cell_vals : List Cell → List Val
  cell_vals cs = map cell_val cs

  abbrev pub table_val : List Cell → Val
  table_val cs = array_val (cell_vals cs)

  -- ---- tables of N cells
  module _ (N : ℕ) where
    abbrev pub table : RattleType
    table = Array ε.type N

    abbrev pub table_ty : Ty
    table_ty = ty_array cell_ty N

    -- cs are N cells: what a table owns
    abbrev pub Filled : List Cell → Type 0
    Filled cs = Is table cs (table_val cs ∷ [])

    pub table_tells : Tells table (Is table) (λ cs. table_val cs ∷ [])
    table_tells = Array-Tells ε.type (λ c. cell_val c ∷ []) ε.tells N

    pub table_makes : {M : Type 1} {𝓤 : Ura M} (𝓛 : Logic 𝓤) → Makes 𝓛 table (Is table)
    table_makes 𝓛 = Array-Makes 𝓛 ε.type (ε.makes 𝓛) N

    pub table_typed : {M : Type 1} {𝓤 : Ura M} (𝓛 : Logic 𝓤) (cs : List Cell) (v : Val) → Is table cs (v ∷ []) → T (has_ty table_ty v) × WT v
    table_typed 𝓛 cs v is = (Array-Typed ε.type (ε.lawful 𝓛).typed N cs (v ∷ []) is).0

    -- a table that is passed is seen at exit as it was passed
    table_still : table.exit yes ≡ unchanged
    table_still = ap each_of ε.still

    pub table_last : (cs : List Cell) → Last (table.exit yes) cs
    table_last cs = subst (λ (e : Exit (List Cell)). Last e cs) (sym table_still) tt

    pub table_silent : (cs : List Cell) (f : Last (table.exit yes) cs) → left (table.exit yes) cs f ≡ ftrue
    table_silent = subst (λ (e : Exit (List Cell)). (cs : List Cell) (f : Last e cs) → left e cs f ≡ ftrue) (sym table_still) (λ cs f. refl)

  -- ---- cells of a table, each of its type
  abbrev Each : List Cell → List Val → Type 0
  Each cs us = shadow (each Cell ε.type.own_val cs us)

  -- the machine values are the cells' own
  each_own : (cs : List Cell) (us : List Val) → Each cs us → Each cs (cell_vals cs)
  each_own [] us e = tt
  each_own (c ∷ cs) [] e = absurd e
  each_own (c ∷ cs) (u ∷ us) e = (subst (Is ε.type c) (ε.tells c (u ∷ []) e.0) e.0, each_own cs us e.1)

  each_set : (cs : List Cell) (i : ℕ) (c : Cell) → Each cs (cell_vals cs) → IsCell c → Each (set cs i c) (cell_vals (set cs i c))
  each_set [] i c e is = tt
  each_set (x ∷ cs) zero c e is = (is, e.1)
  each_set (x ∷ cs) (suc i) c e is = (e.0, each_set cs i c e.1 is)

  each_at : (cs : List Cell) (i : ℕ) → Each cs (cell_vals cs) → i < length cs → IsCell (get_or cs i ε.none)
  each_at [] i e l = absurd (not-suc-le-zero l)
  each_at (x ∷ cs) zero e l = e.0
  each_at (x ∷ cs) (suc i) e l = each_at cs i e.1 (le_of_suc-le-suc l)

  module _ (N : ℕ) (cs : List Cell) (f : Filled N cs) where
    -- there are N
    pub filled_long : length cs ≡ N
    filled_long = f.1.0.1

    -- each is a cell
    pub filled_at : (i : ℕ) → i < length cs → IsCell (get_or cs i ε.none)
    filled_at i l = each_at cs i (each_own cs f.0 f.1.1) l

    -- and so with another cell at i
    pub filled_set : (i : ℕ) (c : Cell) → IsCell c → Filled N (set cs i c)
    filled_set i c is = (cell_vals (set cs i c), ((refl, length-set cs i c ∙ filled_long), each_set cs i c (each_own cs f.0 f.1.1) is))

  -- ---- the machine values of cells: as many as there are cells, at i the cell's own, and with another cell at i its own there
  pub vals_long : (cs : List Cell) → length (cell_vals cs) ≡ length cs
  vals_long cs = length-map cs cell_val

  pub vals_at : (cs : List Cell) (i : ℕ) → get_or (cell_vals cs) i (cell_val ε.none) ≡ cell_val (get_or cs i ε.none)
  vals_at cs i = get_or-map cell_val cs i ε.none

  pub vals_set : (cs : List Cell) (i : ℕ) (c : Cell) → cell_vals (set cs i c) ≡ set (cell_vals cs) i (cell_val c)
  vals_set cs i c = map_set cell_val cs i c

-- A type of rows: what is known of its declaration, a row to stand for none, and that a row's size is a number of the machine's
pub record RowType : Type 2 where
  pub type : Declared
  pub laws : LL.Laws type
  pub plain : Plains (fields type)
  pub copy : LL.Copyables type.parts
  pub none : type.D
  pub small : T (ltb (size (lone (declared.row type).mir)) (2 ^ 64))

module _ (ρ : RowType) where
  abbrev pub Row : Type 0
  Row = ρ.type.D

  -- as it lies behind a reference, its type in the code, its size, and its machine value
  abbrev pub lent : RattleType
  lent = declared.row ρ.type

  abbrev pub row_ty : Ty
  row_ty = lone lent.mir

  abbrev pub row_size : ℕ
  row_size = size row_ty

  abbrev pub row_val : Row → Val
  row_val = LL.val ρ.type ρ.laws

  abbrev pub IsRow : Row → Type 0
  IsRow r = Is lent r (row_val r ∷ [])

  -- ---- a cell that is a row
  abbrev pub row_cell : CellType
  row_cell = record {
    type = lent;
    val = row_val;
    tells = LL.tells ρ.type ρ.laws;
    lawful = LL.lawful ρ.type ρ.laws;
    makes = λ 𝓛. LL.makes ρ.type ρ.plain 𝓛;
    still = LL.still ρ.type ρ.copy yes;
    none = ρ.none;
    offset = product ρ.small;
  }

  -- it is shared out under a `&` (`Loan.antt`'s `shares_table` asks it), since it is copied
  pub row_shares : {M : Type 1} {𝓤 : Ura M} (𝓛 : Logic 𝓤) (κ : Lft) → Shares 𝓛 lent κ
  row_shares 𝓛 κ = (LL.copied ρ.type ρ.copy 𝓛).shares full_share κ

  -- a table of them that is a field of a struct
  each_field : (rs : List Row) (us : List Val) → shadow (each (Struct (shape ρ.type)).Denot (Struct (shape ρ.type)).own_val (map ρ.type.to rs) us) → Each row_cell rs us
  each_field [] [] e = e
  each_field [] (u ∷ us) e = e
  each_field (r ∷ rs) [] e = e
  each_field (r ∷ rs) (u ∷ us) e = (e.0, each_field rs us e.1)

  pub field_table : (N : ℕ) (rs : List Row) (vs : List Val) → Is (Array (Struct (shape ρ.type)) N) (map ρ.type.to rs) vs → Is (table row_cell N) rs vs
  field_table N rs vs f = (f.0, ((f.1.0.0, sym (length-map rs ρ.type.to) ∙ f.1.0.1), each_field rs f.0 f.1.1))

-- A cell within a row: the cell of a row, and the row with a cell in its place; the way in the code from the row to its cell, and where it lies `at` from the row's own offset; and that the cell is read and overwritten there
pub record Within (ρ : RowType) (ε : CellType) : Type 2 where
  pub path : List PStep
  pub cell : Row ρ → Cell ε
  pub row : Row ρ → Cell ε → Row ρ
  pub cell_is : (r : Row ρ) → IsRow ρ r → IsCell ε (cell r)
  pub row_is : (r : Row ρ) (c : Cell ε) → IsRow ρ r → IsCell ε c → IsRow ρ (row r c)
  pub size_is : cell_size ε ≤ row_size ρ
  pub at : ℕ → ℕ
  pub finds : {M : Type 1} {𝓤 : Ura M} {𝓛 : Logic 𝓤} {K : Type 0} {Γ : List (Item 𝓤)} {E : Env 𝓤 𝓛.H} → K → {b o : ℕ} → Walks K 𝓛 Γ E (row_ty ρ, b, o) path (cell_ty ε, b, at o)
  pub looks : {M : Type 1} {𝓤 : Ura M} {𝓛 : Logic 𝓤} {K : Type 0} {Γ : List (Item 𝓤)} → K → (n : ℕ) {q : Share} {b o : ℕ} (r : Row ρ)
      → nth 𝓛 n Γ ≡ ‵ (fat q (raw_ty (row_ty ρ)) b o (row_val ρ r)) → Reads K 𝓛 Γ (cell_ty ε) b (at o) (cell_val ε (cell r))
  pub stores : {M : Type 1} {𝓤 : Ura M} {𝓛 : Logic 𝓤} {K : Type 0} {Γ : List (Item 𝓤)} → K → (n : ℕ) {b o : ℕ} (r : Row ρ) (c : Cell ε)
      → nth 𝓛 n Γ ≡ ‵ (fat full_share (raw_ty (row_ty ρ)) b o (row_val ρ r)) → T (has_ty (cell_ty ε) (cell_val ε c)) × WT (cell_val ε c)
      → Writes K 𝓛 Γ (cell_ty ε) b (at o) (cell_val ε c) (put 𝓛 n (‵ (fat full_share (raw_ty (row_ty ρ)) b o (row_val ρ (row r c)))) Γ)

-- a row's cell is the row
abbrev pub itself : (ρ : RowType) → Within ρ (row_cell ρ)
itself ρ = record {
  path = [];
  cell = λ r. r;
  row = λ r c. c;
  cell_is = λ r is. is;
  row_is = λ r c r-is c_is. c_is;
  size_is = le_refl (row_size ρ);
  at = λ o. o;
  finds = λ t. stop t;
  looks = λ t n r e. look_raw t n e;
  stores = λ t n r c e typed. store_raw t n e typed;
}
