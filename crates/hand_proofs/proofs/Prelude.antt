-- What every walk imports, passed on by one module.
pub use Prim.Native.Nat.{◌*◌, ◌+◌, ◌<◌, ◌^◌, ◌≤◌, min, suc, zero-le, ℕ}
pub use base.Fml.{Fml, GName, Lft, Share, fat, fauth, fdead, fdies, flent, flft, fobor, fobs, fres, froom, fsep, ftrue}
pub use base.Logic.{SProp, apply∗, emp, ent, fst∗, id⊢, sep, via, wand}
pub use borrow.Author.Tests.{le-ltb, lt-ltb}
pub use contract.Lifetimes.{AllOutlive}
pub use contract.Monad.{Fun, fact, fact_i}
pub use contract.Running.{tables}
unfoldable pub use contract.Running.{tables_of}
pub use denote.Builtin.{u8, usize}
pub use denote.Exit.{yes}
pub use denote.Index.{closes_slice, elem_back, elem_out, elem_put, looks_slice, opens_slice, place_is, row, shuts_slice}
pub use denote.Laws.{Is, Tells, shows}
pub use denote.Lend.{Held}
pub use denote.Memory.{cell_at, pointee, shares}
pub use denote.Plain.{uint_Makes, uint_Tells, uint_vals}
pub use denote.RattleType.{RattleType, owns}
pub use denote.Ref.{MutRef, NamedLft, Bor, MutBor, mut_Tells, shr_vals, mut_vals}
pub use denote.Shadow.{pure_i}
pub use denote.Signature.{Slot as Param, named_lft, plain, shr_slice_of}
pub use denote.Slice.{MutSlice, Room, ShrSlice, shr_slice_at, mut_slice_at, coded_holeys, finally, heres, mut_slice_Tells, shr_slice_copy, shr_slice_Tells, shr_slice_vals, mut_slice_vals, slice_ty, slice_val}
pub use denote.Steps.{closes, heard, nothing, opens, owned, peeks}
pub use denote.Struct.Steps.{spelt}
pub use denote.Triple.Bound.{Bound}
pub use denote.Triple.Clauses.{AtExit, Clauses, Ended, Lasts, at_exit, closing}
pub use denote.Triple.Entry.{Vals, on_entry}
pub use denote.Triple.Spec.{Meets, triple_of}
pub use denote.Triple.Statement.{Contract, Triple}
pub use denote.Triple.Table.{cited, entered}
pub use denote.Triple.Walked.{Silent, Stays, Walks, ends_at, gave_slice, Goes-dropped, Goes-gave_slice, Goes-ref, Goes-slice, says, stay_dropped, stay_ref, stay_slice, walk_Meets, walk_of, walked}
pub use ghost.Atoms.{Atoms}
pub use types.Logic.{sem}
pub use base.Fraction.{left as PosShare·left}
pub use base.Fraction.{right as PosShare·right}
pub use base.Fraction.{full_share}
pub use seplogic.Ra.Ura.{Ura}
pub use lib.Dec.{T as Holds, lit<}
pub use lib.ListN.{get_or, length}
pub use mathlib.Core.Bool.{Bool}
pub use mathlib.Core.List.{List, [], ◌∷◌}
pub use mathlib.Core.Logic.{⊎_elim}
pub use mathlib.Core.Path.{◌∙◌, ◌≡◌, ap, refl, subst, sym}
pub use mir.Syntax.{Body, Callee, Fn, Lifetime, Opd as Operand, Place, Ty, call, erased, imm, mut, named, seq, ty_bool, ty_int, ty_ptr, ty_ref, ty_unit, w64, w8}
pub use mir.Val.{Val, WT, has_ty, vbool, vint, vptr, vunit}
pub use native.Mathlib.Nat.{eq-or-lt_of_le, min_comm, min-le_left, min-le_right}
pub use native.Mathlib.Numerals.{add-one}
pub use native.Mathlib.Omega.{arith}
pub use prog.Memory.{Memory}
pub use prog.Routine.{Routine}
pub use prog.Wp.{Calls, Env, Heap, Loops, Tables, Wp, WpFn, after_block, after_seq, at_return}
unfoldable pub use prog.Wp.{after_turn}
pub use sound.WpLaws.{FmC, WpFn-mono, fm_of}
pub use types.Kit.{ !, Goal, Item, Post, Seq, Soaks, Sq, Step, ◌$◌, ◌∵◌, ◌⊛◌, any_q, at_ret, await, by, done, drop, feq_i, feq_l, fjoin, fjoin3, fpack, fpick, frame, fsplit, fsplit3, given, group, join, keep, lands, later, learn, move, pick, qed, raw, rewrite, runs, some, split, step, suffices, use0, use1, use2, use3, ‵, ⋆}
pub use types.Part.{agg, look_in, store_in, sub, whole}
pub use types.Run.{Below, Opds, addr, again, alloc0, alloc1, and_then, assigns, assigns_last, bin, blocks, enter, exec, first, fld, forget, free0, from, hop, init, land, leaves_loop, lit, load, look, look_raw, loops, no_more, of_opd, params1, pass0, pass1, returns, stays, stop, store, store_raw, unit_lit}
pub use types.Share.{arr_parts}
