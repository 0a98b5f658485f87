-- What was to come before an instant is still to come behind it.
use Rattle.std.proofs.Common.{◌≡◌, ◌∙◌, [], Some, ap, arith, subst, sym}
use Rattle.std.specs.Prelude.{IfSome}
use Rattle.law_runs.specs.Scenarios.{At}
use Rattle.law_streams.specs.Audits.{no_events}
use Rattle.pb_medium.specs.Traces.{entries_of}
use Rattle.pb_scenario.specs.Faults.{model_fault}
use Rattle.pb_scenario.specs.Walks.{WalkView}
use Rattle.pb_world.specs.Buses.{world_of}
use Rattle.pb_stream.specs.Plays as plays
use Rattle.pb_stream.specs.Stages.{bus_view}
use Rattle.pb_stream.specs.Streams.{rest_of}
use Rattle.pb_stream.proofs.Streaming.{ends-rest, from-bus, played-rest, stops-rest}
use Rattle.pb_stream.proofs.streams.Stream.play.Goals as goal

pub returns-in-Ok-Some-clause-plays : goal.returns-in-Ok-Some-clause-plays
returns-in-Ok-Some-clause-plays c =
    let s = c.args.self.now in
    let walk = s.walk in
    let after = c.go_to.new.self in
    let bus = c.play_instant.new.stage in
    let at = c.in-Ok-Some.at in
    let moved : after ≡ record walk { clock = at } = c.go_to.ensures in
    let course = no_events (world_of s.bus) in
    let goes : plays.GoesOn walk [] course (Some at) (bus_view bus) =
    subst (λ o. plays.GoesOn walk [] course o (bus_view bus)) c.in-Ok-Some.field-0-is (c.in-Ok-Some.ensures.goes [] course (from-bus s.bus c.requires.kept)) in
    let next : plays.IsNext walk at = subst (λ o. IfSome o (plays.IsNext walk)) c.in-Ok-Some.field-0-is c.in-Ok-Some.ensures.next in
    let clock = ap (λ (w : WalkView). w.clock) moved in
    let until = ap (λ (w : WalkView). w.until) moved in
    record {
      rest = played-rest walk after s.bus bus at moved goes next;
      ready = record {
        kept = c.in-Ok-Some.ensures.ready;
        in_time = omega (arith, clock, until, next.in_time);
        taps = c.in-Ok-Some.ensures.taps ∙ c.requires.taps ∙ sym (ap (λ (w : WalkView). w.taps) moved);
      };
      until = until;
      later = omega (arith, clock, next.later);
    }

pub returns-in-Ok-None-clause-plays : goal.returns-in-Ok-None-clause-plays
returns-in-Ok-None-clause-plays c =
    let s = c.args.self.now in
    let bus = c.play_instant.new.stage in
    let course = no_events (world_of s.bus) in
    ends-rest s.walk s.bus bus (subst (λ o. plays.GoesOn s.walk [] course o (bus_view bus)) c.in-Ok-None.field-0-is (c.in-Ok-None.ensures.goes [] course (from-bus s.bus c.requires.kept)))

pub returns-in-Err-clause-plays : goal.returns-in-Err-clause-plays
returns-in-Err-clause-plays c =
    let s = c.args.self.now in
    let bus = c.play_instant.new.stage in
    subst (λ m. IfSome (model_fault c.in-Err.fault) (λ f. rest_of s ≡ Some (record { entries = entries_of bus.trace; fault = Some (At m f) }))) (sym c.now.ensures)
    (stops-rest s.walk s.bus bus c.in-Err.fault (c.in-Err.ensures.goes [] (no_events (world_of s.bus)) (from-bus s.bus c.requires.kept)))
