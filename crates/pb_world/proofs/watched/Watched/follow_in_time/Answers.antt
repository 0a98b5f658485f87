use Rattle.std.specs.Prelude.{Ok}
use Rattle.pb_taps.specs.Events.{event_of}
use Rattle.pb_world.proofs.Behind.{plain-knows, plain-stands}
use Rattle.pb_world.proofs.Coming.{comes-by, leads-on, still-followed}
use Rattle.pb_world.proofs.watched.Watched.follow_in_time.Goals as goal

pub returns-clause-followed : goal.returns-clause-followed
returns-clause-followed c =
    let before = c.args.self.now in
    let steps = c.in_ok-follow_in_time.ensures.steps in
    still-followed before (record { bus = c.follow_in_time.new.bus; watch = c.follow_in_time.new.watch; told = before.told }) (event_of c.args.event.now) steps.0 c.requires.followed c.in_ok-follow_in_time.ensures.kept steps.1
    c.in_ok-follow_in_time.ensures.knows

pub returns-clause-watched : goal.returns-clause-watched
returns-clause-watched c = λ watched. record {
  kept = c.in_ok-follow_in_time.ensures.kept;
  knows = plain-knows {F = Unit {0}} (Ok tt) c.args.self.now.watch c.follow_in_time.new.watch c.args.self.now.bus c.follow_in_time.new.bus watched.knows c.in_ok-follow_in_time.ensures.knows;
}

pub returns-clause-leads : goal.returns-clause-leads
returns-clause-leads c =
    let before = c.args.self.now in
    let steps = c.in_ok-follow_in_time.ensures.steps in
    leads-on before (record { bus = c.follow_in_time.new.bus; watch = c.follow_in_time.new.watch; told = before.told }) (event_of c.args.event.now) steps.0 steps.1
    c.in_ok-follow_in_time.ensures.knows c.in_ok-follow_in_time.ensures.stands

pub returns-clause-came : goal.returns-clause-came
returns-clause-came c = λ start events came.
    let before = c.args.self.now in
    let e = event_of c.args.event.now in
    let steps = c.in_ok-follow_in_time.ensures.steps in
    comes-by before (record { bus = c.follow_in_time.new.bus; watch = c.follow_in_time.new.watch; told = before.told }) e steps.0
    (returns-clause-watched c came.watched) c.follow_in_time.ensures.event steps.1
    (plain-stands {F = Unit {0}} (Ok tt) before.watch c.follow_in_time.new.watch before.bus e came.watched.knows c.in_ok-follow_in_time.ensures.stands) start events came
