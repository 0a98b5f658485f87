-- The two cases of a handle of a monitor, and what its fields own.
use Rattle.pbfdl.proofs.BusSteps.{◌≡◌, ℕ, List, [], ◌∷◌, refl, Option, Some, None, emp, ent, Fml, Val, Logic, sem, Item, Goal, Seq, ‵, ◌$◌, ◌∵◌, !, qed, done, drop, fjoin, feq_i, RawPtr, Ptr, block_ptr, null_ptr, ptr_val, nothing, box_owns, nowhere}
use Rattle.pbfdl.specs.MonitorOwned.{handle_owns}
use Rattle.pbfdl.specs.Monitors.{Listened}
use Rattle.pbfdl.specs.contracts.listeners.Listener.{the_row}
use Rattle.pb_port.specs.Owned.{chunk}
use seplogic.Ra.Ura.{Ura}
use denote.RattleType.{Valss}
use denote.Struct.Struct.{Struct, within}
use denote.Struct.Owning.{shape, to}
use Rattle.pbfdl.specs.contracts.monitor_handles.MonitorHandle.{the_type}
use Rattle.pbfdl.specs.declared.monitor_handles.MonitorHandle.{MonitorHandle}
use Rattle.pbfdl.proofs.monitor_handles.MonitorHandle.TheLaws.{lowers}
use types.Kit.{fpack}

module _ {M : Type 1} {𝓤 : Ura M} {𝓛 : Logic 𝓤} {K : Type 0} {Γ : List (Item 𝓤)} {G : Goal 𝓤 𝓛.H} where
  pub either : K → (p : Ptr) (v : Option Listened)
      → (p ≡ null_ptr → v ≡ None → Seq K 𝓛 Γ G)
      → ((b o : ℕ) (x : Listened) → p ≡ block_ptr b o → v ≡ Some x → Seq K 𝓛 (‵ (box_owns chunk the_row (block_ptr b o) x) ∷ Γ) G)
      → Seq K 𝓛 (‵ (handle_owns p v) ∷ Γ) G
  either t null_ptr None none one = drop t $ none refl refl
  either t null_ptr (Some x) none one = nowhere t
  either t (block_ptr b o) None none one = nowhere t
  either t (block_ptr b o) (Some x) none one = one b o x refl refl

abbrev pub fields : MonitorHandle → List Val → Fml
fields h vs = (Struct (shape the_type)).own_val (to the_type h) vs

module _ {M : Type 1} {𝓤 : Ura M} (𝓛 : Logic 𝓤) (h : MonitorHandle) where
  pub fields_made : ent 𝓤 (emp 𝓤) (sem 𝓛 (fields h (lowers.lowered h ∷ [])))
  fields_made =
      qed 𝓛 [] ∵ nothing ! $ feq_i ! (List Val) (ptr_val h.at ∷ []) (ptr_val h.at ∷ []) refl $ fjoin ! $
      feq_i ! (List Val) (lowers.lowered h ∷ []) (lowers.lowered h ∷ []) refl $ fjoin ! $
      fpack ! (Valss (RawPtr ∷ [])) (within (shape the_type) (to the_type h) (lowers.lowered h ∷ [])) (ptr_val h.at ∷ [], tt) $ done !
