use Rattle.std.proofs.Common.{sym, subst, arith, map, take}
use Rattle.std.proofs.lemmas.List.{length-map, take_all}
use Rattle.law_model.specs.Laws.{AreEvents}
use Rattle.law_model.specs.Step.{RunsTo}
use Rattle.pb_world.specs.Worlds.{lent_event}
use Rattle.pb_taps.proofs.Items.{passed-at}
use Rattle.pb_world.proofs.Running.{runs-on}
use Rattle.law_token.proofs.whole.JoinedRuns.{events_join}
use Rattle.law_live.proofs.Promising.{run_leads_on}
use Rattle.pb_world.proofs.worlds.run_shared.Goals as goal

pub loop-place-preserved : goal.loop-place-preserved
loop-place-preserved c =
    let passed = take c.loop-place.place (map lent_event c.args.events.now) in
    let more = passed-at lent_event c.args.events.now c.loop-place.place c.index-events-place.result c.loop-place-test.true c.index-events-place.is in
    subst (λ es. RunsTo c.args.world.now es c.does.new.self × AreEvents es) (sym more) (
      runs-on c.args.world.now c.loop-place.world c.does.new.self _ _ c.in-Ok.ensures.goes.0 c.loop-place.invariant.0 c.in-Ok.ensures.goes.1,
      events_join passed _ c.loop-place.invariant.1 (c.does.ensures.event, tt),
    )

pub returns-in-Err-clause-promises_before : goal.returns-in-Err-clause-promises_before
returns-in-Err-clause-promises_before c =
    let before = take c.loop-place.place (map lent_event c.args.events.now) in
    run_leads_on c.args.world.now c.does.new.self before c.loop-place.invariant.1 (subst (RunsTo c.args.world.now before) (sym c.in-Err.ensures.goes.0) c.loop-place.invariant.0)

pub returns-clause-promises : goal.returns-clause-promises
returns-clause-promises c =
    let events = map lent_event c.args.events.now in
    let all = take_all c.loop-place.place events (omega (arith, length-map c.args.events.now lent_event, c.loop-place-test.false)) in
    let runs = subst (λ es. RunsTo c.args.world.now es c.loop-place.world × AreEvents es) all c.loop-place.invariant in
    run_leads_on c.args.world.now c.loop-place.world events runs.1 runs.0
