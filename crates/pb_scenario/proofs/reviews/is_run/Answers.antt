-- Nothing of the history is left where the run ends.
use Rattle.std.proofs.Common.{◌≡◌, ◌∙◌, ◌+◌, ℕ, List, length, subst, Option, None}
use Rattle.std.proofs.lemmas.Bool.{eqb-true}
use Rattle.law_model.specs.World.{Event}
use Rattle.law_runs.specs.Bus.{bus}
use Rattle.law_runs.specs.Histories.{IsRun}
use Rattle.law_runs.specs.Laws.{Look, Shows}
use Rattle.pb_scenario.specs.Walks.{plan_in}
use Rattle.pb_scenario.specs.Nexts.{IsNext}
use Rattle.pb_scenario.specs.Reading.{Goes}
use Rattle.pb_scenario.proofs.Going.{goes-end}
use Rattle.pb_scenario.proofs.reviews.is_run.Goals as goal

pub returns-in-None : goal.returns-in-None
returns-in-None g c = λ end.
    let all : List Event = g.R.Report.events c.args.report.now in
    let looks : List Look = g.R.Report.looks c.args.report.now in
    let next = c.in-Some.next in
    let walk = c.loop-round.walk in
    let is : IsNext walk looks all c.loop-round.place next = rw c.in-Some.is at c.in_ok-next.ensures in
    let goes : Goes walk looks all walk.clock c.loop-round.place None next.place = subst (λ (m : Option ℕ). Goes walk looks all walk.clock c.loop-round.place m next.place) c.in-None.is is.goes in
    let read : next.place ≡ length all = eqb-true next.place c.len.result end ∙ c.len.ensures in
    goes-end (IsRun (c.args.walk.until + 1) bus (plan_in c.args.walk) (Shows looks) 0 0 all) walk looks all (c.until-round-end.result + 1) c.loop-round.round walk.clock c.loop-round.place next.place
    c.loop-round-test.true c.loop-round.invariant.whole goes read
