-- One more event has led to the world, and one more is counted.
use Rattle.std.proofs.Common.{◌∙◌, ◌+◌, ℕ, [], ◌∷◌, ap, sym, length-append}
use Rattle.law_model.specs.World.{Reply}
use Rattle.pb_taps.specs.Events.{event_of}
use Rattle.pb_world.specs.Buses.{world_of}
use Rattle.pb_scenario.proofs.RunEnds.{runs-on}
use Rattle.pb_scenario.proofs.traces.CountedStage.apply.Goals as goal

pub returns-in-Some : goal.returns-in-Some
returns-in-Some c =
    let before = c.args.self.now in
    let after = c.apply.new.self in
    let event = event_of c.args.event.now in
    let reply : Reply = record { now = after.now; spoke = after.sent } in
    let follows = c.in_ok-apply.ensures.follows in (
      λ start events counted. record {
        kept = c.in_ok-apply.ensures.kept;
        leads = runs-on start (world_of before.bus) (world_of after) reply events event counted.leads follows;
        count = c.in-Some.ensures.1 ∙ ap (λ (n : ℕ). n + 1) counted.count ∙ sym (length-append events (event ∷ []));
      },
      (reply, follows),
    )
