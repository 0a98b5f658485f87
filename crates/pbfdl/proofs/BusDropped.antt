-- The drop of what a handle keeps meets what `Box::into_raw` asks of it. Taken from what a check makes for a call of `drop`.
use mathlib.Core.List.{[], ◌∷◌}
use mathlib.Core.Path.{refl}
use seplogic.Ra.Ura.{Ura}
use types.Logic.{Logic}
use prog.Model.{Model}
use prog.Wired.{Wired}
use contract.Running.{Running}
use mir.Syntax.{Dict, impl, method, tnil, dnil}
use mir.Raw.{raw as bare}
use denote.RattleType.{RattleType}
use denote.Exit.{no}
use denote.Param.{layout, layouts, arg}
use denote.Param.Laws.{Laws, arg_laws}
use denote.Param.Glue.{Met as Drops}
use denote.Triple.Carry
use denote.Triple.Clauses
use denote.Triple.Walked
use borrow.Fn.Glue
use borrow.Fn.Impl
use borrow.Fn.Kinds
use borrow.Fn.Run
use Rattle.pb_world.specs.contracts.driven.DrivenBus as inner
use Rattle.pb_world.proofs.driven.DrivenBus.TheLaws as inner_laws
use Rattle.pbfdl.proofs.pb_world++driven++DrivenBus+Destruct.drop.Kinds as its
use Rattle.pbfdl.proofs.pb_world++driven++DrivenBus+Destruct.drop.Met as its_met
use Rattle.pbfdl.proofs.pb_world++driven++DrivenBus+Destruct.drop.Reads as its_reads
use Rattle.pbfdl.proofs.pb_world++driven++DrivenBus+Destruct.drop.Symbol as its_symbol

abbrev pub Ra : RattleType
Ra = arg (bare (layout inner.the_row)) no inner.the_row

pub Ra-laws : Laws Ra
Ra-laws = arg_laws (bare (layout inner.the_row)) no inner.the_row inner_laws.the_row_laws refl

abbrev pub inner_drops : Dict
inner_drops = impl ("pbfdl::pb_world++driven++DrivenBus+Destruct::drop" ∷ []) tnil dnil

pub dropped : {M : Type 1} (𝓤 : Ura M) (𝓛 : Logic 𝓤) (𝓜 : Model 𝓤 𝓛.H) (𝓡 : Running 𝓤 𝓛.H 𝓜) → Wired 𝓡.env its_symbol.code → Drops 𝓛 𝓜 𝓡 𝓡.env Ra inner_drops
dropped {M} 𝓤 𝓛 𝓜 𝓡 w =
    Glue.glue_by Ra Ra-laws record { M = M; 𝓤 = 𝓤; 𝓛 = 𝓛; 𝓜 = 𝓜; 𝓡 = 𝓡 } inner_drops 𝓡.env
    (λ κs a. Clauses.Lasts (Kinds.ended_of 0 its.ps its.r) tt a)
    (λ κs a. Clauses.lasts (Kinds.ended_of 0 its.ps its.r) tt a)
    (λ κs a x ws. Walked.Fit (Kinds.ended_of 0 its.ps its.r) (Kinds.stays its.ps) tt a ws × its_reads.Learnt tt a x (Clauses.at_exit (Kinds.ended_of 0 its.ps its.r) tt a ws))
    (λ κs a. Carry.AllWithin 1 (κs.0, tt) (Ra.lives, tt) × Unit {0})
    0 tt (λ κs a h. ((h, tt), tt))
    (Impl.via_longer 𝓛 (Run.Over 𝓛 𝓜 𝓡 𝓡.env) 1 (Glue.glue_ps Ra Ra-laws) Kinds.r_unit
    (λ κs a. Clauses.Lasts (Kinds.ended_of 0 its.ps its.r) tt a)
    (λ κs a. Clauses.lasts (Kinds.ended_of 0 its.ps its.r) tt a)
    (λ κs a x ws. Walked.Fit (Kinds.ended_of 0 its.ps its.r) (Kinds.stays its.ps) tt a ws × its_reads.Learnt tt a x (Clauses.at_exit (Kinds.ended_of 0 its.ps its.r) tt a ws))
    (λ κs a. Carry.AllWithin 1 (κs.0, tt) (Ra.lives, tt) × Unit {0})
    (method inner_drops 0 (layouts [] tt)) 0 tt (λ κs. tt) (λ κs a. its_reads.Asked tt a) (λ κs a p. (tt, tt))
    (λ κs bd within a vss qs. Impl.method_Known 0 its.ps its.r its_reads.requires its_reads.ensures its_reads.Asked its_reads.Learnt its_reads.known
    record { M = M; 𝓤 = 𝓤; 𝓛 = 𝓛; 𝓜 = 𝓜; 𝓡 = 𝓡 } its_symbol.name (method inner_drops 0 (layouts [] tt))
    (its_symbol.as_method 𝓡.env w (method inner_drops 0 (layouts [] tt)) refl)
    (its_met.met 𝓤 𝓛 𝓜 𝓡 w) ((tt, qs, tt, a, vss), tt)))
