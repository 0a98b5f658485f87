use Rattle.std.proofs.Common.{◌∙◌, ap, arith, get_or, subst, sym}
use Rattle.std.proofs.lemmas.List.{length-map}
use Rattle.law_model.specs.World.{Reply}
use Rattle.law_runs.proofs.Watching.{many-taps}
use Rattle.pb_taps.specs.Events.{event_of}
use Rattle.pb_taps.specs.Taps.{tap_of}
use Rattle.pb_world.specs.Buses.{world_of, world_with}
use Rattle.pb_world.specs.Premises.{IsQuiet, watched_of}
use Rattle.pb_world.proofs.Behind.{steps-behind}
use Rattle.pb_world.proofs.Premising.{goes-on}
use Rattle.pb_world.proofs.premises.follow_foreseen.Goals as goal

pub listen-watch-requires-clause-oldest : goal.listen-watch-requires-clause-oldest
listen-watch-requires-clause-oldest c =
    let (old, past, knows) = c.requires.knows in
    λ tap there. knows.oldest tap (omega (arith, there, length-map c.args.bus.now.taps.items tap_of))

pub has_namesakes_after-watch-requires-clause-led : goal.has_namesakes_after-watch-requires-clause-led
has_namesakes_after-watch-requires-clause-led c =
    let (old, past, knows) = c.requires.knows in
    let next = world_of c.apply.new.self in
    let reply : Reply = record { now = next.now; spoke = c.apply.new.self.sent } in
    (world_of c.args.bus.now, reply, c.in_ok-apply.ensures.follows, knows.namesakes)

pub note-requires-clause-oldest : goal.note-requires-clause-oldest
note-requires-clause-oldest c =
    let before = c.args.bus.now in
    let after = c.apply.new.self in
    let reply : Reply = record { now = (world_of after).now; spoke = after.sent } in
    let many = many-taps (world_of before) (world_of after) (event_of c.args.event.now) reply c.in_ok-apply.ensures.follows in
    λ tap there. c.listen-watch.ensures.oldest tap (omega (arith, there, many, length-map before.taps.items tap_of, length-map after.taps.items tap_of))

pub returns-clause-steps : goal.returns-clause-steps
returns-clause-steps c =
    let next = world_of c.apply.new.self in
    let reply : Reply = record { now = next.now; spoke = c.apply.new.self.sent } in
    (reply, c.in_ok-apply.ensures.follows)

pub returns-clause-knows : goal.returns-clause-knows
returns-clause-knows c = λ old past knows.
    let before = c.args.bus.now in
    let after = c.apply.new.self in
    let w = world_of before in
    let next = world_of after in
    let e = event_of c.args.event.now in
    let reply : Reply = record { now = next.now; spoke = after.sent } in
    let ok = c.in_ok-apply.ensures.follows in
    let many = many-taps w next e reply ok in
    let silent : IsQuiet (world_with old after) c.note.new.self.quiet =
    subst (IsQuiet (world_with old after)) (sym c.note.ensures.quiet) (c.listen-watch.ensures.listens old past knows.silent (world_with old after) reply (steps-behind old w next e reply past ok)) in
    record {
      silent = silent;
      oldest = λ tap there. omega (
        arith,
        c.note.ensures.oldest,
        ap (λ ns. get_or ns tap 0) c.note.ensures.quiet,
        c.listen-watch.ensures.oldest tap (omega (arith, there, many, length-map before.taps.items tap_of)),
      );
      namesakes = c.note.ensures.namesakes ∙ c.has_namesakes_after-watch.ensures;
    }

pub returns-clause-stands : goal.returns-clause-stands
returns-clause-stands c = λ old past knows.
    let before = c.args.bus.now in
    let after = c.apply.new.self in
    let w = world_of before in
    let next = world_of after in
    let e = event_of c.args.event.now in
    let reply : Reply = record { now = next.now; spoke = after.sent } in
    let ok = c.in_ok-apply.ensures.follows in
    let goes = steps-behind old w next e reply past ok in
    let silent = c.listen-watch.ensures.listens old past knows.silent (world_with old after) reply goes in
    goes-on (watched_of c.args.watch.now) (watched_of c.note.new.self) (world_with old before) (world_with old after) e reply goes
    (c.note.ensures.after old silent (world_with old before) e (record { loses = c.requires.foresees.loses; late = c.requires.foresees.late }))
