-- `put` takes a box apart, and stores its pointer.
use Rattle.pbfdl.proofs.BusSteps.{◌≡◌, List, [], ◌∷◌, ◌++◌, refl, ap, ◌∙◌, Some, None, full_share, id⊢, emp, never, ftrue, flft, named, Val, vunit, fact, fact_i, tables, sem, ‵, raw, ◌⊛◌, some, later, prop, ◌$◌, ◌∵◌, !, qed, done, move, keep, drop, use0, use1, split, join, fsplit, fsplit3, fjoin, feq_i, feq_l, pick, await, rewrite, regoal, suffices, frame, group, enter, of_opd, unit_lit, stop, fld, no_more, and_then, assigns, returns, alloc_all, pass_all, free_all, look_at, get, through, sets, lands_as, env, whole, sub, yes, no, shows, cell_at, Ptr, RawPtr, ptr_val, block_ptr, null_ptr, in_a_block, MutRef, mut_vals, plain, nothing, opens, closes, peeks, only, calls_at, lasts, Lasts, triple_of, Stays, walk_of, says, stay_ref, stay_dropped, Goes-ref, ends_at, framed, box_owns, owns, store_in}
use Rattle.pbfdl.proofs.MonitorSteps.{fields, fields_made}
use Rattle.core.proofs.atomic.Steps.{Ptr-Good}
use Rattle.core.proofs.alloc.Calls.{Goes-blank}
use Rattle.core.proofs.cell.Inside.{one}
use Rattle.pb_port.specs.Owned.{chunk}
use Rattle.std.proofs.raw_atomic.Walks.{proved_at}
use base.Logic.{fst∗}
use prog.Wp.{WpFn}
use types.Tokens.{lft_new}
use contract.BorrowLft.{◌⊑◌}
use mir.Syntax.{impl, tcons, tnil, dnil}
use mir.Raw.{raw as bare}
use denote.Param.{layout, arg}
use denote.Param.Laws.{Laws, arg_laws}
use denote.Param.NoDrop.{glues}
use denote.RattleType.{RattleType}
use Rattle.std.specs.contracts.boxed.Box as box
use Rattle.std.proofs.boxed.Box.TheLaws as box_laws
use Rattle.std.specs.contracts.boxed.Box.into_raw as callee
use Rattle.std.proofs.boxed.Box.into_raw.Met.{met}
use Rattle.std.proofs.impls.GlobalAllocator.TheImpl.Met.{passed}
use Rattle.pbfdl.proofs.MonitorDropped.{Ra, Ra-laws, inner_drops, dropped}
use Rattle.pbfdl.specs.contracts.listeners.Listener as inner
use Rattle.pbfdl.proofs.listeners.Listener.TheLaws as inner_laws
use Rattle.std.specs.contracts.alloc.Global as heap
use Rattle.std.proofs.alloc.Global.TheLaws as heap_laws
use Rattle.std.specs.contracts.impls.GlobalAllocator.TheImpl as heap_impl
use Rattle.pbfdl.specs.contracts.monitor_handles.MonitorHandle.put as f
use Rattle.pbfdl.proofs.monitor_handles.MonitorHandle.put.Statement.{statement}
use Rattle.pbfdl.proofs.monitor_handles.MonitorHandle.put.Code as code
use Rattle.pbfdl.specs.contracts.monitor_handles.MonitorHandle.{the_row as R}
use Rattle.pbfdl.proofs.monitor_handles.MonitorHandle.TheLaws.{lowers}

abbrev Za : RattleType
Za = arg (bare (layout heap.the_row)) no heap.the_row

Za-laws : Laws Za
Za-laws = arg_laws (bare (layout heap.the_row)) no heap.the_row heap_laws.the_row_laws refl

abbrev Bx : RattleType
Bx = box.the_row inner.the_row heap.the_row heap_impl.ghosts

abbrev stayed : Stays f.ended.signature.params f.ended.kept
stayed = (stay_ref (0 ∷ []) tt (plain (λ _. R)), (stay_dropped (plain (λ _. Bx)) yes, tt))

pub put_spec : {M : Type 1} → statement M
unfolding Rattle.pbfdl.proofs.Destruct++none.drop.Code.code
put_spec {M} 𝓤 𝓛 𝓜 𝓡 wired =
    let c = f.clauses 𝓛 𝓜.mem 𝓡.returns in let W = walk_of 𝓛 f.ended stayed c in let 𝓣 = tables 𝓤 𝓛.H 𝓜 𝓡 𝓡.env in
    proved_at 𝓛 f.ended stayed c 𝓜 𝓡 (Goes-ref 𝓛 1 0 tt (plain (λ _. R)), (Goes-blank 𝓛 1 (plain (λ _. Bx)) yes (λ κs x w. tt), tt))
    f.Key.name code.function (code.unfolded 𝓤 𝓛.H 𝓜 𝓡 wired) (λ z are.
    let κs = z.0.0 in let qs = z.0.1 in let a = z.0.3 in let vs = z.0.4.0 in let ws = z.0.4.1.0 in
    let b = a.0.ref_ptr.0 in let o = a.0.ref_ptr.1 in let h = a.0.now in let v = a.1.0.value in
    let drops = impl ("pbfdl::Destruct++none::drop" ∷ []) (tcons (layout Za) tnil) dnil in
    let k = triple_of 𝓛 (callee.signature Ra Za heap_impl.ghosts heap_impl.dict drops inner_drops) (callee.spec Ra Za heap_impl.ghosts heap_impl.dict drops inner_drops 𝓛 𝓜.mem 𝓡.returns) in
    let known = met 𝓤 𝓛 𝓜 𝓡 (code.calls-std_alloc::boxed::Box::into_raw 𝓡.env wired) Ra Za Ra-laws Za-laws heap_impl.ghosts heap_impl.dict drops inner_drops
    (passed 𝓡.env (code.calls-std_heap::GlobalAllocator::allocate 𝓡.env wired) (code.calls-std_heap::GlobalAllocator::deallocate 𝓡.env wired) (code.calls-std_heap::GlobalAllocator::grow 𝓡.env wired) (code.calls-std_heap::GlobalAllocator::shrink 𝓡.env wired) M 𝓤 𝓛 𝓜 𝓡)
    (glues "pbfdl::Destruct++none::drop" 𝓡.env (code.calls-pbfdl::Destruct++none::drop 𝓡.env wired) Za Za-laws M 𝓤 𝓛 𝓜 𝓡)
    (dropped 𝓤 𝓛 𝓜 𝓡 (code.calls-pbfdl::pbfdl++listeners++Listener+Destruct::drop 𝓡.env wired)) in
    let Cell = λ (us : List Val). ‵ (cell_at full_share R.mir us b o) in
    qed 𝓛 (((‵ (flft κs.0 qs.0) ⊛ ‵ ftrue) ⊛ ‵ ((MutRef (named 0) κs.0 R).own_val a.0 vs) ⊛ ‵ (owns (Bx ∷ []) a.1 z.0.4.1)) ∷ raw (fact 𝓤 (h.value ≡ None)) ∷ []) ∵
    split ! $ split ! $ move ! (2 ∷ []) $ split ! $ move ! (1 ∷ []) $ fsplit ! $ keep ! (2 ∷ 0 ∷ 3 ∷ []) $
    -- [the reference; the box; the token]
    fsplit3 ! $ feq_l ! (λ e0. move ! (2 ∷ []) $ peeks ! Bx _ (shows 𝓛 Bx) a.1.0 ws (λ isb.
    let g1 = one (layout Bx) ws (((box_laws.the_row_laws inner.the_row heap.the_row heap_impl.ghosts inner_laws.the_row_laws heap_laws.the_row_laws).lawful 𝓛).typed a.1.0 ws isb) in
    rewrite ! 0 (λ (us : List Val). ‵ (Bx.own_val a.1.0 us)) g1.1 refl $
    regoal ! (λ (us : List Val). prop (WpFn 𝓤 𝓛.H 𝓣.C 𝓣.Λ code.function us (W.post z))) (λ i. e0 i ++ (g1.1 i ++ [])) refl $
    enter ! _ _ _ _ _ $ alloc_all ! (λ l. pass_all ! refl ((tt, tt), (g1.2, tt)) $ let Ev = env code.Mir.locals l in
    sets ! (of_opd ! (get ! refl)) refl g1.2 $
    lft_new ! tt (λ α. lft_new ! tt (λ β.
    let y' : k.Ghost = (((α ∷ [], (β ∷ [], tt)), (full_share, (full_share, tt)), tt, (a.1.0, tt), (g1.0 ∷ [], tt)), tt) in
    nothing ! $ move ! (1 ∷ 0 ∷ []) $ join ! $ move ! (1 ∷ 0 ∷ []) $ join ! $ nothing ! $ move ! (2 ∷ 0 ∷ []) $ fjoin ! $ move ! (1 ∷ 0 ∷ []) $ join ! $
    nothing ! $ use0 𝓛 (raw (fact 𝓤 (β ∷ [] ⊑ heap.the_row.lives))) (fact_i 𝓤 _ (emp 𝓤) (heap_laws.the_within (β ∷ []))) $ join ! $
    use0 𝓛 (raw (fact 𝓤 (α ∷ [] ⊑ inner.the_row.lives))) (fact_i 𝓤 _ (emp 𝓤) (inner_laws.the_within (α ∷ []))) $ join ! $ move ! (1 ∷ 0 ∷ []) $ join ! $
    use1 𝓛 (raw (k.pre y')) (id⊢ 𝓤 _) $
    calls_at ! (framed 𝓤 𝓛.H 𝓜 𝓣) k known y' (and_then ! (get ! refl) (no_more !)) (λ u.
    use1 𝓛 (later (some (λ (r : Ptr). ((‵ (flft (α ∷ []) full_share) ⊛ ‵ (flft (β ∷ []) full_share) ⊛ ‵ ftrue) ⊛ ‵ (RawPtr.own_val r (u ∷ []))) ⊛ some (λ (ls : Lasts (callee.ended Ra Za heap_impl.ghosts heap_impl.dict drops inner_drops) y'.0.0 y'.0.3).
    ‵ (lasts (callee.ended Ra Za heap_impl.ghosts heap_impl.dict drops inner_drops) y'.0.0 y'.0.3 ls) ⊛ ‵ (box_owns chunk Ra r v))))) (id⊢ 𝓤 (k.post y' u)) $
    await ! tt $ pick ! (λ r. split ! $ move ! (1 ∷ []) $ pick ! (λ _. split ! $ drop ! $
    in_a_block ! r (λ p. box_owns chunk Ra p v) (fst∗ 𝓤 (never 𝓤) (sem 𝓛 (chunk _ null_ptr))) (λ b2 o2 e2. move ! (1 ∷ []) $ split ! $ drop ! $ feq_l ! (λ eu.
    lands_as ! (ap only eu ∙ ap ptr_val e2) refl (Ptr-Good (block_ptr b2 o2)) $ sets ! (of_opd ! (get ! refl)) refl (Ptr-Good (block_ptr b2 o2)) $
    -- [the box's memory; the reference, in two parts; the token]
    move ! (1 ∷ 2 ∷ 3 ∷ []) $ opens ! tt R b o (λ us. move ! (1 ∷ []) $ peeks ! R _ (shows 𝓛 R) h us (λ is. fsplit ! $ drop ! $ drop ! $
    let h' : R.Denot = record { at = block_ptr b2 o2; value = Some v } in
    rewrite ! 0 Cell (lowers.val_is h us is) refl $
    assigns ! (of_opd ! (get ! refl)) (through ! refl (fld ! refl (stop !))) (store_in ! 0 (sub ! 0 refl (whole !)) (Ptr-Good (block_ptr b2 o2))) $
    sets ! (of_opd ! (unit_lit !)) refl (tt, tt) $
    move ! (4 ∷ []) $ use1 𝓛 (‵ (box_owns chunk inner.the_row (block_ptr b2 o2) v)) (id⊢ 𝓤 _) $
    use0 𝓛 (‵ (fields h' (lowers.lowered h' ∷ []))) (fields_made 𝓛 h') $ fjoin ! $ move ! (1 ∷ []) $ closes ! tt R h' (lowers.lowered h' ∷ []) b o $
    feq_i ! (List Val) vs (mut_vals a.0) e0 $
    returns ! (look_at ! 0 refl) $ free_all ! refl $ keep ! (0 ∷ 1 ∷ 2 ∷ 3 ∷ []) $
    suffices ! _ (ends_at 𝓛 f.ended stayed c z vunit tt (h', (tt, tt)) (tt, (tt, tt))) $ says ! refl $
    group ! 3 $ nothing ! $ nothing ! $ join ! $ move ! (1 ∷ 0 ∷ []) $ join ! $ nothing ! $ move ! (2 ∷ 0 ∷ []) $ join ! $ frame ! $ frame ! $
    feq_i ! _ (vunit ∷ []) _ refl $ done !)))))))))))))
