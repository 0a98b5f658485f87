-- What was read is an instant of the plan.
use Rattle.std.proofs.Common.{subst, List, Bool, ◌+◌}
use Rattle.law_model.specs.World.{Event}
use Rattle.law_runs.specs.Runs.{wanted, passing}
use Rattle.law_runs.specs.Histories.{Picks}
use Rattle.law_runs.specs.Bus.{bus}
use Rattle.law_runs.specs.Laws.{Look, Shows}
use Rattle.pb_scenario.specs.Walks.{plan_in}
use Rattle.pb_scenario.specs.Reading.{Reads}
use Rattle.pb_scenario.proofs.Going.{goes, shown}
use Rattle.pb_scenario.proofs.instants.read_instant.Goals as goal

pub returns : goal.returns
returns g c =
    let walk = c.args.walk.now in
    let p = plan_in walk in
    let now = walk.clock in
    let all : List Event = g.R.Report.events c.args.report.now in
    let looks : List Look = g.R.Report.looks c.args.report.now in
    let a = c.in-Some.started in
    let b = c.in-Some-read_turns.turned in
    let done = c.in-Some-read_steps.done in
    let d = c.in-Some-read_pass.place in
    let before = c.in-Some-look_at.before in
    let after = c.in-Some-look_at-2.after in
    let moment = c.next-moment.result in
    let one : Reads all c.args.place (p.early now) a = subst (λ (es : List Event). Reads all c.args.place es a) c.today.ensures.early c.in-Some.ensures in
    let shows : Shows looks a before.dues.now before.change = shown looks c.args.position before a c.in-Some-look_at.ensures.0 c.in-Some-look_at.ensures.1 in
    let turned = c.in-Some-read_turns.ensures in
    let picks : Picks (wanted p now 0 before.dues.now) turned.0 = subst (λ (bs : List Bool). Picks bs turned.0) c.in_ok-note_wanted.ensures turned.2 in
    let three : Reads all b (p.late now) done = subst (λ (es : List Event). Reads all b es done) c.today-2.ensures.late c.in-Some-read_steps.ensures in
    let shows_after : Shows looks done after.dues.now after.change = shown looks (c.args.position + 1) after done c.in-Some-look_at-2.ensures.0 c.in-Some-look_at-2.ensures.1 in
    let four : Reads all done (passing bus p now moment) d = subst (λ (es : List Event). Reads all done es d) c.pass_to.ensures c.in-Some-read_pass.ensures in
    record {
      goes = goes p looks all now c.args.place a b done d turned.0 before.dues.now after.dues.now before.change after.change moment one shows picks turned.1 three shows_after c.next-moment.ensures.next four;
      inside = c.in-Some-read_pass.ensures.inside;
      later = c.next-moment.ensures.bounds;
    }
