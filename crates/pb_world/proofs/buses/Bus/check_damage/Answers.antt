use Rattle.std.proofs.Common.{◌≡◌, ap, sym, subst, refl, arith, true, false}
use Rattle.std.specs.Prelude.{slice_get}
use Rattle.law_model.specs.World.{Damage}
use Rattle.pb_medium.specs.Damaging.{can_hit}
use Rattle.pb_medium.specs.Entries.{hit_of}
use Rattle.pb_medium.specs.Traces.{over_of, recent_of}
use Rattle.pb_taps.specs.declared.faults.WorldFault.TheVariants as fault
use Rattle.pb_world.specs.Buses.{world_of}
use Rattle.pb_world.specs.Refusals.{fault_of}
use Rattle.pb_world.proofs.Judging.{refused, both-taps}
use Rattle.pb_world.proofs.Stepping.{damage-done, damage-refused}
use Rattle.pb_world.proofs.buses.Bus.check_damage.Goals as goal

pub returns-then-not-can_hit : goal.returns-then-not-can_hit
returns-then-not-can_hit c =
    let bus = c.args.self.now in
    let w = world_of bus in
    let hit = c.args.hit in
    let there = both-taps bus hit.tap c.args.speaker (omega (arith, c.len.ensures, c.if-hit-len.false)) (omega (arith, c.len-else-hit-len.ensures, c.if-speaker-len.false)) in
    refused w (Damage hit.tap c.args.speaker hit.place) _ fault.NothingInAir refl
    (damage-refused w (over_of bus.trace) hit.tap c.args.speaker hit.place (slice_get w.taps hit.tap) (slice_get w.taps c.args.speaker) fault.NothingInAir
    c.requires.kept.cut there (subst (λ d. can_hit d c.args.speaker bus.now (hit_of hit) (recent_of bus.trace) ≡ false) c.ttd.ensures (sym c.if-not-can_hit.ensures)))

pub returns : goal.returns
returns c =
    let bus = c.args.self.now in
    let w = world_of bus in
    let hit = c.args.hit in
    let there = both-taps bus hit.tap c.args.speaker (omega (arith, c.len.ensures, c.if-hit-len.false)) (omega (arith, c.len-else-hit-len.ensures, c.if-speaker-len.false)) in
    ap fault_of (damage-done w (over_of bus.trace) hit.tap c.args.speaker hit.place (slice_get w.taps hit.tap) (slice_get w.taps c.args.speaker)
    c.requires.kept.cut there (subst (λ d. can_hit d c.args.speaker bus.now (hit_of hit) (recent_of bus.trace) ≡ true) c.ttd.ensures (sym c.if-not-can_hit.ensures)))
