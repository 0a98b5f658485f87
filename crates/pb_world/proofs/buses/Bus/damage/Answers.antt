use Rattle.std.proofs.Common.{◌≡◌, ◌∙◌, ap, sym, subst, true, ◌<◌, ◌++◌, length, arith, Ok}
use Rattle.std.specs.Prelude.{slice_get, is_none, take, drop}
use Rattle.std.proofs.lemmas.List.{length-map}
use Rattle.law_model.specs.Step.{with_hit}
use Rattle.law_model.specs.World.{Damage, is_in_air_by}
use Rattle.pb_world.specs.Buses.{world_of}
use Rattle.pb_medium.specs.Damaging.{damaged, can_hit, RefusesHit}
use Rattle.pb_medium.specs.Entries.{hit_of}
use Rattle.pb_medium.specs.Traces.{entries_of, over_of, recent_of, RecentBecomes}
use Rattle.pb_taps.specs.Taps.{tap_of}
use Rattle.pb_world.proofs.Ending.{in-time}
use Rattle.pb_world.proofs.Stepping.{both-there, is-there, in-err, stays-whole, cut-after, from-changed, begin-with_hit, sound-after, damage-done, damage-refused}
use Rattle.pb_world.proofs.buses.Bus.damage.Goals as goal

pub returns-in_err-damage-clause-follows : goal.returns-in_err-damage-clause-follows
returns-in_err-damage-clause-follows c =
    let bus = c.args.self.now in
    let w = world_of bus in
    let hit = c.args.hit in
    let at = slice_get w.taps hit.tap in
    let from = slice_get w.taps c.args.speaker in
    let taps = length-map bus.taps.items tap_of in
    let one : hit.tap < length w.taps = omega (arith, taps, c.if-hit-len.false) in
    let two : c.args.speaker < length w.taps = omega (arith, taps, c.if-speaker-len.false) in
    let there = both-there (is_none at) (is_none from) (is-there w.taps hit.tap one) (is-there w.taps c.args.speaker two) in
    let reason = c.in_err-damage.field-0.0 in
    in-err _ _ c.from_residual.result reason c.from_residual.ensures.0 c.from_residual.ensures.1 (
      stays-whole w bus.trace c.damage.new.self c.in_err-damage.ensures.err,
      damage-refused w (over_of bus.trace) hit.tap c.args.speaker hit.place at from _ c.requires.cut there
          (subst (λ d. RefusesHit (can_hit d c.args.speaker bus.now (hit_of hit) (recent_of bus.trace)) reason) c.ttd.ensures c.in_err-damage.ensures.fault),
    )

pub returns-clause-follows : goal.returns-clause-follows
returns-clause-follows c =
    let bus = c.args.self.now in
    let w = world_of bus in
    let hit = c.args.hit in
    let over = over_of bus.trace in
    let at = slice_get w.taps hit.tap in
    let from = slice_get w.taps c.args.speaker in
    let taps = length-map bus.taps.items tap_of in
    let one : hit.tap < length w.taps = omega (arith, taps, c.if-hit-len.false) in
    let two : c.args.speaker < length w.taps = omega (arith, taps, c.if-speaker-len.false) in
    let there = both-there (is_none at) (is_none from) (is-there w.taps hit.tap one) (is-there w.taps c.args.speaker two) in
    let becomes = subst (λ d. RecentBecomes (damaged d c.args.speaker bus.now (hit_of hit)) bus.trace c.damage.new.self) c.ttd.ensures c.in_ok-damage.ensures.ok in
    damage-done w over hit.tap c.args.speaker hit.place at from c.requires.cut there (subst (λ d. can_hit d c.args.speaker bus.now (hit_of hit) (recent_of bus.trace) ≡ true) c.ttd.ensures c.in_ok-damage.ensures.found)
    ∙ ap (λ o. Ok (record w { trace = take over w.trace ++ damaged bus.params.ttd c.args.speaker bus.now (hit_of hit) (drop over w.trace) }, record { now = bus.now; spoke = o })) (sym c.clear.ensures)
    ∙ ap (λ es. Ok (record w { trace = es }, record { now = bus.now; spoke = c.clear.new.self })) (sym becomes.entries)
    ∙ ap (λ l. Ok (record w { trace = entries_of c.damage.new.self; limit = l }, record { now = bus.now; spoke = c.clear.new.self })) (sym becomes.limit)

pub returns-clause-kept : goal.returns-clause-kept
returns-clause-kept c =
    let bus = c.args.self.now in
    let hit = c.args.hit in
    let becomes = subst (λ d. RecentBecomes (damaged d c.args.speaker bus.now (hit_of hit)) bus.trace c.damage.new.self) c.ttd.ensures c.in_ok-damage.ensures.ok in
    record {
      sound = sound-after (world_of bus) (Damage hit.tap c.args.speaker hit.place) _ _ (returns-clause-follows c) tt c.requires.sound;
      clock = c.requires.clock;
      room = c.requires.room;
      seats = c.requires.seats;
      cut = cut-after bus.params.ttd bus.now (damaged bus.params.ttd c.args.speaker bus.now (hit_of hit)) bus.trace c.damage.new.self becomes
          (λ m at from. from-changed bus.params.ttd m (is_in_air_by bus.params.ttd bus.now c.args.speaker) (with_hit (hit_of hit)) (recent_of bus.trace) (begin-with_hit bus.params.ttd (hit_of hit)) from)
          c.requires.cut;
      ends = in-time (world_of bus) (Damage hit.tap c.args.speaker hit.place) _ _ (returns-clause-follows c) tt c.requires.clock c.requires.sound c.requires.ends;
    }
