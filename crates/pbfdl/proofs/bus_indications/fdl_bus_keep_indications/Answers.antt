use Rattle.std.proofs.Common.{◌≡◌, Option, Result, subst, sym}
use Rattle.std.specs.Prelude.{IfSome, MatchResult}
use Rattle.pb_world.specs.Driven.{KeepsFrom, RefusesToKeep, StaysBut}
use Rattle.pb_world.specs.declared.driven.Driven.{Driven}
use Rattle.pbfdl.specs.BusIndications.{KeepsAt}
use Rattle.pbfdl.proofs.Told.{answered}
use Rattle.pbfdl.proofs.bus_indications.fdl_bus_keep_indications.Goals as goal

pub returns-clause-keeps : goal.returns-clause-keeps
returns-clause-keeps c =
    let next = c.keep_indications.new.self in
    let tap = c.args.tap in
    let room = c.args.room in
    let b = c.in-Some.there.value in
    let e = c.keep_indications.ensures in
    let judge : next.judge ≡ b.judge = subst (λ (x : Driven). next.judge ≡ x.judge) c.deref_mut.ensures.value e.judge in
    let stays : StaysBut b.watched next.watched = subst (λ (x : Driven). StaysBut x.watched next.watched) c.deref_mut.ensures.value e.same in
    let kept : MatchResult c.keep_indications.result (λ _. KeepsFrom b.watched tap room next.watched) (RefusesToKeep b.watched tap next.watched) =
    subst (λ (x : Driven). MatchResult c.keep_indications.result (λ _. KeepsFrom x.watched tap room next.watched) (RefusesToKeep x.watched tap next.watched)) c.deref_mut.ensures.value
    (answered c.keep_indications.result _ _ e.kept e.fault) in
    subst (λ (o : Option Driven). IfSome o (λ x. KeepsAt x tap room c.event_code-code.result c.put.new.self.value)) (sym c.in-Some.ensures.taken)
    (next, c.put.ensures, judge, stays, c.keep_indications.result, c.event_code-code.ensures, kept)
