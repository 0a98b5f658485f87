-- Names that the walks cite, and the two cases of a handle.
pub use Rattle.std.proofs.Common.{◌≡◌, ℕ, ◌≤◌, List, [], ◌∷◌, ◌++◌, refl, sym, ap, ◌∙◌, subst, lit<, nltb→le, w8, w64, MutBor, arith}
pub use Rattle.std.proofs.raw_atomic.Walks.{proved, leaves}
pub use Rattle.std.specs.Prelude.{Option, Some, None}
pub use base.Fraction.{full_share}
pub use base.Logic.{id⊢, SProp, emp, ent, via, never, never_e}
pub use base.Fml.{ftrue, ffalse, fat, flft, fres, fsep, Fml}
pub use mir.Syntax.{ty_int, named, impl, tcons, tnil, dcons, dnil}
pub use mir.Val.{Val, vunit, vint, vptr, vstruct, vcons, vnil}
pub use contract.Monad.{fact, fact_i}
pub use contract.Running.{tables}
pub use types.Logic.{Logic, sem}
pub use types.Kit.{Item, Goal, Seq, ‵, raw, ◌⊛◌, some, given, later, prop, at_ret, Sq, ◌$◌, ◌∵◌, !, qed, done, by, move, keep, drop, use0, use1, use2, use3, split, split3, join, fsplit, fsplit3, fjoin, fjoin3, feq_i, feq_l, pick, await, rewrite, regoal, suffices, frame, group, learn}
pub use types.Run.{enter, of_opd, lit, unit_lit, bin, addr, load, look, store, stop, fld, hop, no_more, and_then, assigns, assigns_last, first, blocks, branches, skips, exec, returns, returns_within, well_typed}
pub use types.ByLocal.{alloc_all, pass_all, free_all, look_at, get, get_in, through, sets, sets_last, lands_as, lands_last, env}
pub use types.Part.{agg, whole, sub, look_in, store_in}
pub use types.Match.{live}
pub use denote.Builtin.{u8, bool, unit, RawPtr}
pub use denote.Exit.{yes, no}
pub use denote.Laws.{shows, Is}
pub use denote.Memory.{cell_at, part_at}
pub use denote.Param.{param, layout}
pub use denote.RawPtr.{Ptr, block_ptr, null_ptr, ptr_val, lies_at, in_a_block, Testable, tests_null}
pub use denote.RattleType.{RattleType, owns}
pub use denote.Ref.{MutRef, mut_vals, mut_Tells}
pub use denote.Signature.{plain}
pub use denote.Steps.{nothing, owned, opens, closes, tied, ties, heard, peeks, only}
pub use denote.Triple.Call.{calls_at, calls_at_last}
pub use denote.Triple.Clauses.{lasts, Lasts}
pub use denote.Triple.Entry.{on_entry}
pub use denote.Triple.Spec.{triple_of}
pub use denote.Triple.Walked.{Stays, walk_of, says, stay_dropped, Goes-dropped, stay_ref, Goes-ref, ends_at}
pub use denote.Triple.Table.{framed}
pub use Rattle.core.proofs.option.Made.{Some-of, none_of}
pub use Rattle.core.proofs.alloc.Shapes.{after}
pub use Rattle.std.specs.Box.Ownership.{box_owns}
use Rattle.pbfdl.specs.Owned.{handle_owns}
use Rattle.pb_world.specs.declared.driven.Driven.{Driven as Inner}
use Rattle.pb_world.specs.contracts.driven.DrivenBus.{the_row}
use Rattle.pb_port.specs.Owned.{chunk}
use seplogic.Ra.Ura.{Ura}
use denote.RattleType.{Valss}
use denote.Struct.Struct.{Struct, within}
use denote.Struct.Owning.{shape, to}
use Rattle.pbfdl.specs.contracts.bus_handles.BusHandle.{the_type}
use Rattle.pbfdl.specs.declared.bus_handles.BusHandle.{BusHandle as Handle}
use Rattle.pbfdl.proofs.bus_handles.BusHandle.TheLaws.{lowers}
use types.Kit.{fpack, ⋆, ⊢++}
use contract.Monad.{fact_use}
use base.Logic.{fst∗}

module _ {M : Type 1} {𝓤 : Ura M} {𝓛 : Logic 𝓤} {K : Type 0} {Γ : List (Item 𝓤)} {G : Goal 𝓤 𝓛.H} where
  pub nowhere : K → Seq K 𝓛 (‵ ffalse ∷ Γ) G
  nowhere t = use1 𝓛 (given ⊥ (‵ ftrue)) (never_e 𝓤 _) $ learn t (λ z. absurd z)

  pub either : K → (p : Ptr) (v : Option Inner)
      → (p ≡ null_ptr → v ≡ None → Seq K 𝓛 Γ G)
      → ((b o : ℕ) (x : Inner) → p ≡ block_ptr b o → v ≡ Some x → Seq K 𝓛 (‵ (box_owns chunk the_row (block_ptr b o) x) ∷ Γ) G)
      → Seq K 𝓛 (‵ (handle_owns p v) ∷ Γ) G
  either t null_ptr None none one = drop t $ none refl refl
  either t null_ptr (Some x) none one = nowhere t
  either t (block_ptr b o) None none one = nowhere t
  either t (block_ptr b o) (Some x) none one = one b o x refl refl

-- what the fields of a handle own
abbrev pub fields : Handle → List Val → Fml
fields h vs = (Struct (shape the_type)).own_val (to the_type h) vs

module _ {M : Type 1} {𝓤 : Ura M} (𝓛 : Logic 𝓤) (h : Handle) where
  pub fields_made : ent 𝓤 (emp 𝓤) (sem 𝓛 (fields h (lowers.lowered h ∷ [])))
  fields_made =
      qed 𝓛 [] ∵ nothing ! $ feq_i ! (List Val) (ptr_val h.at ∷ []) (ptr_val h.at ∷ []) refl $ fjoin ! $
      feq_i ! (List Val) (lowers.lowered h ∷ []) (lowers.lowered h ∷ []) refl $ fjoin ! $
      fpack ! (Valss (RawPtr ∷ [])) (within (shape the_type) (to the_type h) (lowers.lowered h ∷ [])) (ptr_val h.at ∷ [], tt) $ done !

module _ {M : Type 1} {𝓤 : Ura M} {𝓛 : Logic 𝓤} {K : Type 0} {Γ : List (Item 𝓤)} {G : Goal 𝓤 𝓛.H} where
  -- a fact is learned from the first entry, which stays
  pub learns : K → (F : Fml) (φ : Type 0) → ent 𝓤 (sem 𝓛 F) (fact 𝓤 φ) → (φ → Seq K 𝓛 (‵ F ∷ Γ) G) → Seq K 𝓛 (‵ F ∷ Γ) G
  learns t F φ shown k = record {
    prf = fact_use 𝓤 φ (via 𝓤 (sem 𝓛 F) (via 𝓤 _ (⊢++ 𝓛 (‵ F ∷ []) Γ) (fst∗ 𝓤 (sem 𝓛 F) (⋆ 𝓛 Γ))) shown) (λ x. (k x).prf);
  }
