-- `take` reads the pointer, and makes the box again where there is one.
use Rattle.pbfdl.proofs.BusSteps.{◌≡◌, List, [], ◌∷◌, refl, sym, ap, ◌∙◌, lit<, proved, Some, None, full_share, id⊢, emp, ftrue, flft, named, Val, vptr, vcons, vnil, fact, fact_i, tables, ‵, raw, ◌⊛◌, some, later, at_ret, ◌$◌, ◌∵◌, !, qed, done, move, keep, drop, use0, use1, split, split3, join, fsplit, fsplit3, fjoin, feq_i, pick, await, rewrite, suffices, frame, group, enter, of_opd, lit, bin, load, stop, fld, no_more, and_then, assigns, first, blocks, branches, skips, exec, returns, returns_within, alloc_all, pass_all, free_all, look_at, get, through, sets, lands_last, env, agg, whole, sub, look_in, live, yes, no, shows, cell_at, Ptr, block_ptr, null_ptr, MutRef, mut_vals, mut_Tells, plain, nothing, opens, closes, heard, peeks, calls_at_last, lasts, Lasts, triple_of, Stays, walk_of, stay_ref, stay_dropped, Goes-dropped, Goes-ref, ends_at, framed, Some-of, none_of, after, owns, either, learns, store_in, Testable, tests_null, fields, fields_made}
use Rattle.core.proofs.atomic.Steps.{Ptr-Good}
use Rattle.std.proofs.GlobalToken.{dealloc_token-Testable}
use Rattle.pb_port.specs.Owned.{chunk}
use types.Tokens.{lft_new}
use contract.BorrowLft.{◌⊑◌}
use mir.Syntax.{impl, tcons, tnil, dnil}
use denote.Param.{layout, arg}
use denote.Param.Laws.{Laws, arg_laws}
use denote.RattleType.{RattleType}
use mir.Raw.{raw as bare}
use denote.Param.NoDrop.{glues}
use Rattle.core.proofs.mem.Facts.{says_two}
use Rattle.std_alloc.proofs.ResultValues.{and_tt}
use Rattle.std.specs.contracts.boxed.Box as box
use Rattle.std.proofs.boxed.Box.TheLaws as box_laws
use Rattle.std.specs.contracts.option.Option as option
use Rattle.std.specs.contracts.boxed.Box.from_raw as callee
use Rattle.std.proofs.boxed.Box.from_raw.Met.{met}
use Rattle.std.proofs.impls.GlobalAllocator.TheImpl.Met.{passed}
use Rattle.pb_world.specs.contracts.driven.DrivenBus as inner
use Rattle.pb_world.proofs.driven.DrivenBus.TheLaws as inner_laws
use denote.Struct.Laws as struct_laws
use Rattle.std.specs.contracts.alloc.Global as heap
use Rattle.std.proofs.alloc.Global.TheLaws as heap_laws
use Rattle.std.specs.contracts.impls.GlobalAllocator.TheImpl as heap_impl
use Rattle.pbfdl.specs.contracts.bus_handles.BusHandle.take as f
use Rattle.pbfdl.proofs.bus_handles.BusHandle.take.Statement.{statement}
use Rattle.pbfdl.proofs.bus_handles.BusHandle.take.Code as code
use Rattle.pbfdl.specs.contracts.bus_handles.BusHandle.{the_row as R}
use Rattle.pbfdl.proofs.bus_handles.BusHandle.TheLaws.{lowers}

abbrev Ra : RattleType
Ra = arg (bare (layout inner.the_row)) no inner.the_row

abbrev Za : RattleType
Za = arg (bare (layout heap.the_row)) no heap.the_row

Ra-laws : Laws Ra
Ra-laws = arg_laws (bare (layout inner.the_row)) no inner.the_row inner_laws.the_row_laws refl

Za-laws : Laws Za
Za-laws = arg_laws (bare (layout heap.the_row)) no heap.the_row heap_laws.the_row_laws refl

abbrev stayed : Stays f.ended.signature.params f.ended.kept
stayed = (stay_ref (0 ∷ []) tt (plain (λ _. R)), (stay_dropped _ yes, tt))

pub take_spec : {M : Type 1} → statement M
unfolding Rattle.pbfdl.proofs.Destruct++none.drop.Code.code
take_spec {M} 𝓤 𝓛 𝓜 𝓡 wired =
    let c = f.clauses 𝓛 𝓜.mem 𝓡.returns in let W = walk_of 𝓛 f.ended stayed c in let 𝓣 = tables 𝓤 𝓛.H 𝓜 𝓡 𝓡.env in
    proved 𝓛 f.ended stayed c 𝓜 𝓡 (Goes-ref 𝓛 1 0 tt (plain (λ _. R)), (Goes-dropped 𝓛 1 (plain (λ _. heap.the_row)) yes (λ κs x w. refl), tt))
    f.Key.name code.function (code.unfolded 𝓤 𝓛.H 𝓜 𝓡 wired)
    (λ κs. (mut_vals, ((λ d. heap_laws.lowered d ∷ []), tt))) (λ κs. (mut_Tells (named 0) κs.0 R, (struct_laws.tells heap.the_type heap_laws.the_laws, tt))) (λ κs qs bounds a _ are.
    let b = a.0.ref_ptr.0 in let o = a.0.ref_ptr.1 in let h = a.0.now in let vs = mut_vals a.0 in let hs = heap_laws.lowered a.1.0 ∷ [] in
    let y : W.Ghost = ((κs, qs, bounds, a, (vs, (hs, tt))), tt) in
    let Bx = box.the_row inner.the_row heap.the_row heap_impl.ghosts in let Out = option.the_row Bx in
    let drops = impl ("pbfdl::Destruct++none::drop" ∷ []) (tcons (layout Za) tnil) dnil in
    let k = triple_of 𝓛 (callee.signature Ra Za heap_impl.ghosts heap_impl.dict drops) (callee.spec Ra Za heap_impl.ghosts heap_impl.dict drops 𝓛 𝓜.mem 𝓡.returns) in
    let known = met 𝓤 𝓛 𝓜 𝓡 (code.calls-std_alloc::boxed::Box::from_raw 𝓡.env wired) Ra Za Ra-laws Za-laws heap_impl.ghosts heap_impl.dict drops
    (passed 𝓡.env (code.calls-std_heap::GlobalAllocator::allocate 𝓡.env wired) (code.calls-std_heap::GlobalAllocator::deallocate 𝓡.env wired) (code.calls-std_heap::GlobalAllocator::grow 𝓡.env wired) (code.calls-std_heap::GlobalAllocator::shrink 𝓡.env wired) M 𝓤 𝓛 𝓜 𝓡)
    (glues "pbfdl::Destruct++none::drop" 𝓡.env (code.calls-pbfdl::Destruct++none::drop 𝓡.env wired) Za Za-laws M 𝓤 𝓛 𝓜 𝓡) in
    let Cell = λ (ws : List Val). ‵ (cell_at full_share R.mir ws b o) in
    qed 𝓛 (((‵ (flft κs.0 qs.0) ⊛ ‵ ftrue) ⊛ ‵ ((MutRef (named 0) κs.0 R).own_val a.0 vs) ⊛ ‵ (owns (heap.the_row ∷ []) a.1 (hs, tt))) ∷ ‵ ftrue ∷ []) ∵
    split ! $ split ! $ move ! (2 ∷ []) $ split ! $ move ! (1 ∷ []) $ fsplit ! $ keep ! (2 ∷ 0 ∷ 3 ∷ []) $
    -- [the reference; the allocator's handle; the token]
    enter ! _ _ _ _ _ $ alloc_all ! (λ l. pass_all ! refl ((tt, tt), ((tt, ((tt, tt), tt)), tt)) $ let Ev = env code.Mir.locals l in
    fsplit3 ! $ move ! (1 ∷ 2 ∷ 4 ∷ []) $ opens ! tt R b o (λ us.
    move ! (1 ∷ []) $ peeks ! R _ (shows 𝓛 R) h us (λ is. fsplit ! $ drop ! $
    -- [what the handle owns; its cell; the open borrow, in three entries; the reference; the allocator's handle]
    either ! h.at h.value
    (λ e ev. let word = lowers.val_is h us is ∙ ap (λ (p : Ptr). lowers.lowered (record h { at = p }) ∷ []) e in
    let h' : R.Denot = record { at = null_ptr; value = None } in
    rewrite ! 0 Cell word refl $
    sets ! (of_opd ! (load ! (through ! refl (fld ! refl (stop !))) (look_in ! 0 (sub ! 0 refl (whole !))))) refl (Ptr-Good null_ptr) $
    sets ! (of_opd ! (get ! refl)) refl (Ptr-Good null_ptr) $
    sets ! (bin ! (get ! refl) (lit ! tt) tt) refl (tt, tt) $
    first ! $ branches ! (get ! refl)
    (λ _. sets ! (agg ! (and_then ! (lit ! tt) (no_more !))) refl (tt, (record { fits = lit< tt }, tt)) $
    nothing ! $ use0 𝓛 (‵ (fields h' (lowers.lowered h' ∷ []))) (fields_made 𝓛 h') $ fjoin ! $ move ! (1 ∷ []) $ closes ! tt R h' (lowers.lowered h' ∷ []) b o $
    use0 𝓛 (‵ (Out.own_val None (live 0 vnil ∷ []))) (none_of 𝓛 Bx) $
    returns_within ! (W.post y) refl (look_at ! 0 refl) $ free_all ! refl $ keep ! (4 ∷ 1 ∷ 2 ∷ 3 ∷ 0 ∷ []) $
    suffices ! _ (ends_at 𝓛 f.ended stayed c y (live 0 vnil) None (h', (tt, tt)) (tt, (tt, tt))) $ says_two ! (ev, refl) $
    group ! 3 $ nothing ! $ nothing ! $ join ! $ move ! (1 ∷ 0 ∷ []) $ join ! $ nothing ! $ move ! (2 ∷ 0 ∷ []) $ join ! $ frame ! $ frame ! $ done !)
    (λ wrong. absurd wrong))
    (λ b' o' x e ev. let word = lowers.val_is h us is ∙ ap (λ (p : Ptr). lowers.lowered (record h { at = p }) ∷ []) e in
    rewrite ! 1 Cell word refl $ fsplit ! $ move ! (1 ∷ []) $
    learns ! (chunk _ _) (Testable (block_ptr b' o')) (dealloc_token-Testable 𝓛 a.1.0 _ (block_ptr b' o')) (λ t.
    sets ! (of_opd ! (load ! (through ! refl (fld ! refl (stop !))) (look_in ! 2 (sub ! 0 refl (whole !))))) refl (Ptr-Good (block_ptr b' o')) $
    sets ! (of_opd ! (get ! refl)) refl (Ptr-Good (block_ptr b' o')) $
    sets ! (bin ! (get ! refl) (lit ! tt) (tests_null (block_ptr b' o') t)) refl (tt, tt) $
    first ! $ branches ! (get ! refl) (λ wrong. absurd wrong) (λ _. skips ! $ exec ! 𝓣.C 𝓣.Λ Ev (after 4 (code.function).body) (at_ret Ev (W.post y)) $
    assigns ! (of_opd ! (lit ! tt)) (through ! refl (fld ! refl (stop !))) (store_in ! 2 (sub ! 0 refl (whole !)) (Ptr-Good null_ptr)) $
    first ! $ blocks ! $ sets ! (of_opd ! (get ! refl)) refl (tt, ((tt, tt), tt)) $ sets ! (of_opd ! (get ! refl)) refl (Ptr-Good (block_ptr b' o')) $ sets ! (of_opd ! (get ! refl)) refl (Ptr-Good (block_ptr b' o')) $
    -- [the right to free; the value; the cell; the open borrow, in three entries; the reference; the allocator's handle]
    move ! (1 ∷ 0 ∷ []) $ fjoin ! $ lft_new ! tt (λ α. lft_new ! tt (λ β.
    let y' : k.Ghost = (((α ∷ [], (β ∷ [], tt)), (full_share, (full_share, tt)), tt, (a.1.0, (block_ptr b' o', tt)), (hs, (vptr b' o' ∷ [], tt))), x) in
    use0 𝓛 (raw (fact 𝓤 (β ∷ [] ⊑ heap.the_row.lives))) (fact_i 𝓤 _ (emp 𝓤) (heap_laws.the_within (β ∷ []))) $ move ! (0 ∷ 3 ∷ []) $ join ! $
    use0 𝓛 (raw (fact 𝓤 (α ∷ [] ⊑ inner.the_row.lives))) (fact_i 𝓤 _ (emp 𝓤) (inner_laws.the_within (α ∷ []))) $ join ! $
    nothing ! $ move ! (2 ∷ 0 ∷ []) $ join ! $ move ! (2 ∷ 0 ∷ []) $ join ! $
    nothing ! $ feq_i ! (List Val) (vptr b' o' ∷ []) (vptr b' o' ∷ []) refl $ fjoin ! $ move ! (8 ∷ 0 ∷ []) $ fjoin ! $ move ! (1 ∷ 0 ∷ []) $ join ! $ join ! $
    use1 𝓛 (raw (k.pre y')) (id⊢ 𝓤 _) $
    calls_at_last ! (framed 𝓤 𝓛.H 𝓜 𝓣) k known y' (and_then ! (get ! refl) (and_then ! (get ! refl) (no_more !))) (λ u.
    use1 𝓛 (later (some (λ (r : Bx.Denot). ((‵ (flft (α ∷ []) full_share) ⊛ ‵ (flft (β ∷ []) full_share) ⊛ ‵ ftrue) ⊛ ‵ (Bx.own_val r (u ∷ []))) ⊛ some (λ (ls : Lasts (callee.ended Ra Za heap_impl.ghosts heap_impl.dict drops) y'.0.0 y'.0.3).
    ‵ (lasts (callee.ended Ra Za heap_impl.ghosts heap_impl.dict drops) y'.0.0 y'.0.3 ls) ⊛ (raw (fact 𝓤 (r.value ≡ x)) ⊛ raw (fact 𝓤 (r.alloc ≡ a.1.0))))))) (id⊢ 𝓤 (k.post y' u)) $
    await ! tt $ pick ! (λ r. split ! $ move ! (1 ∷ []) $ pick ! (λ _. split3 ! $ drop ! $ heard ! (r.value ≡ x) (λ er. drop ! $ split ! $ drop ! $
    -- [the box; the cell; the open borrow, in three entries; the reference]
    peeks ! Bx _ (shows 𝓛 Bx) r (u ∷ []) (λ isb. let good = ((box_laws.the_row_laws inner.the_row heap.the_row heap_impl.ghosts inner_laws.the_row_laws heap_laws.the_row_laws).lawful 𝓛).typed r (u ∷ []) isb in
    let h' : R.Denot = record { at = null_ptr; value = None } in let made : Val = live 1 (vcons u vnil) in
    lands_last ! refl good.0 $ exec ! 𝓣.C 𝓣.Λ Ev (after 6 (code.function).body) (at_ret Ev (W.post y)) $ sets ! (of_opd ! (get ! refl)) refl good.0 $
    sets ! (agg ! (and_then ! (lit ! tt) (and_then ! (get ! refl) (no_more !)))) refl (and_tt _ good.0.0, (record { fits = lit< tt }, (good.0.1, tt))) $
    use1 𝓛 (‵ (Out.own_val (Some r) (made ∷ []))) (Some-of 𝓛 Bx r u) $
    nothing ! $ use0 𝓛 (‵ (fields h' (lowers.lowered h' ∷ []))) (fields_made 𝓛 h') $ fjoin ! $ move ! (2 ∷ 0 ∷ 3 ∷ 4 ∷ 5 ∷ []) $ closes ! tt R h' (lowers.lowered h' ∷ []) b o $
    returns ! (look_at ! 0 refl) $ free_all ! refl $ keep ! (4 ∷ 0 ∷ 1 ∷ 2 ∷ 3 ∷ []) $
    suffices ! _ (ends_at 𝓛 f.ended stayed c y made (Some r) (h', (tt, tt)) (tt, (tt, tt))) $ says_two ! (ev ∙ ap Some (sym er), refl) $
    group ! 3 $ nothing ! $ nothing ! $ join ! $ move ! (1 ∷ 0 ∷ []) $ join ! $ nothing ! $ move ! (2 ∷ 0 ∷ []) $ join ! $ frame ! $ frame ! $ done !))))))))))))))
