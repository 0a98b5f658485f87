-- The event that is set is the passing of time.
use Rattle.std.proofs.Common.{◌≡◌, ◌∙◌, ◌+◌, ◌≤◌, ◌∷◌, [], ap, subst, sym, arith, false}
use Rattle.std.proofs.lemmas.Bool.{ltb-false}
use Rattle.law_model.specs.World.{World}
use Rattle.law_runs.specs.Premises.{comes_late}
use Rattle.pb_scenario.specs.Plays.{Plays}
use Rattle.pb_scenario.proofs.Soonest.{passes-in-time}
use Rattle.pb_scenario.proofs.plays.let_pass.Goals as goal

pub returns-then-reaches : goal.returns-then-reaches
returns-then-reaches g c =
    subst (λ e. Plays c.args.now (g.S.Stage.view c.args.stage.now) (e ∷ []) c.happens.result (g.S.Stage.view c.happens.new.stage)) c.set_pass.ensures c.happens.ensures

pub returns-else-reaches : goal.returns-else-reaches
returns-else-reaches g c =
    subst (λ e. Plays c.args.now (g.S.Stage.view c.args.stage.now) (e ∷ []) c.happens_in_time.result (g.S.Stage.view c.happens_in_time.new.stage)) c.set_pass.ensures c.happens_in_time.ensures

pub happens_in_time-requires-clause-in_time : goal.happens_in_time-requires-clause-in_time
happens_in_time-requires-clause-in_time g c =
    let w = (g.S.Stage.view c.args.stage.now).world in
    let same : c.bus.result.now.now ≡ w.now = ap (λ (x : World). x.now) c.bus.ensures.world in
    let soon : c.bus.result.now.now + c.args.bits ≤ c.args.due = ltb-false c.args.due (c.bus.result.now.now + c.args.bits) (sym c.reaches.ensures ∙ c.if-reaches.false) in
    subst (λ e. comes_late w e ≡ false) (sym c.set_pass.ensures)
    (passes-in-time w c.args.bits c.args.due c.requires.due (omega (arith, soon, same)))
