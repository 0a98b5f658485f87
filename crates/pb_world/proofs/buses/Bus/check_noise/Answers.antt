use Rattle.std.proofs.Common.{◌≡◌, ◌∙◌, ◌==◌, ◌&&◌, None, ap, sym, refl, ℕ, length, not, Bool, true, false}
use Rattle.std.specs.Prelude.{nat_le}
use Rattle.std.proofs.Math.Bool.{and-false}
use Rattle.std.proofs.lemmas.Bool.{ne_eqb}
use Rattle.law_model.specs.Step.{is_noisy, step_noise}
use Rattle.law_model.specs.World.{Noise}
use Rattle.pb_medium.specs.Noising.{has_noise, has_no_room}
use Rattle.pb_medium.specs.Traces.{entries_of, limit_of, over_of, recent_of}
use Rattle.pb_taps.specs.declared.faults.WorldFault.TheVariants as fault
use Rattle.pb_world.specs.Buses.{world_of, IsKept}
use Rattle.pb_world.specs.Refusals.{fault_of}
use Rattle.pb_world.specs.declared.buses.Bus.{Bus}
use Rattle.pb_world.proofs.Judging.{refused}
use Rattle.pb_world.proofs.Stepping.{noise-done, noise-refused}
use Rattle.pb_world.proofs.buses.Bus.check_noise.Goals as goal
use Rattle.pb_world.proofs.buses.Bus.check_noise.Goals.{else-is_full-via-then-is_full+else-not-has_noise, else-is_full-via-else-is_full}

-- what the noise and the room of a trace come to
room : (noisy full : Bool) (b : Bus) → noisy ≡ has_noise b.now (recent_of b.trace) → full ≡ nat_le (limit_of b.trace) (length (entries_of b.trace))
    → has_no_room (has_noise b.now (recent_of b.trace)) (limit_of b.trace) (length (entries_of b.trace)) ≡ (not noisy && full)
room noisy full b heard holds =
    ap (λ (x : Bool). not x && nat_le (limit_of b.trace) (length (entries_of b.trace))) (sym heard) ∙ ap (λ (x : Bool). not noisy && x) (sym holds)

fits : (b : Bus) (bits : ℕ) → IsKept b → (bits == 0) ≡ false → has_no_room (has_noise b.now (recent_of b.trace)) (limit_of b.trace) (length (entries_of b.trace)) ≡ false
    → fault_of (step_noise (world_of b) bits (is_noisy (world_of b))) ≡ None
fits b bits kept some room = ap fault_of (noise-done (world_of b) (over_of b.trace) bits kept.cut some room)

pub returns-then-not-has_noise : goal.returns-then-not-has_noise
returns-then-not-has_noise c =
    let bus = c.args.self.now in
    let some = ne_eqb c.args.bits 0 c.if-bits-eq0.false in
    refused (world_of bus) (Noise c.args.bits) _ fault.TraceFull refl
    (noise-refused (world_of bus) (over_of bus.trace) c.args.bits fault.TraceFull c.requires.kept.cut (some, room false true bus c.if-not-has_noise.ensures c.if-is_full.ensures))

pub returns : goal.returns
returns c =
    let bus = c.args.self.now in
    let some = ne_eqb c.args.bits 0 c.if-bits-eq0.false in
    elim c.else-is_full.branch [
      | else-is_full-via-then-is_full+else-not-has_noise w ↦ fits bus c.args.bits c.requires.kept some (room true true bus w.if-not-has_noise.ensures w.if-is_full.ensures)
      | else-is_full-via-else-is_full w ↦ fits bus c.args.bits c.requires.kept some
          (room (has_noise bus.now (recent_of bus.trace)) false bus refl w.if-is_full.ensures ∙ and-false (not (has_noise bus.now (recent_of bus.trace))))
    ]
