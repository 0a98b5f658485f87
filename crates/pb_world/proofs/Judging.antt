-- Whether an event would be refused, and why.
use Rattle.std.proofs.Common.{◌≡◌, ◌∙◌, ap, sym, subst, refl, ℕ, List, [], ◌∷◌, length, Bool, true, false, not, ◌&&◌, ◌||◌, ◌<◌, arith, Option, Some, None, Ok, Err, Result}
use Rattle.std.specs.Prelude.{slice_get, slice_set, take, is_none, is_some, nat_le, IfErr, OnOk}
use Rattle.std.specs.Option.{option_map}
use Rattle.std.proofs.lemmas.List.{length-map}
use Rattle.std.proofs.lemmas.Option.{slice_get-map}
use Rattle.pb_cycles.specs.RequestFields.{RequestFields}
use Rattle.law_turn.specs.Stations.{Station}
use Rattle.law_turn.specs.Turns.{turn_of}
use Rattle.law_model.specs.Medium as medium
use Rattle.law_model.specs.Step.{told, first_full, step, step_pass, step_turn, with_said}
use Rattle.law_model.specs.Trace.{Entry}
use Rattle.pb_timers.specs.Timers.{Params}
use Rattle.pb_medium.specs.Airs.{air, IsCut}
use Rattle.pb_medium.proofs.Widening.{widened, pass-whole}
use Rattle.pb_world.specs.Clocks.{CanPass, IsFault}
use Rattle.law_model.specs.World.{World, Event, Reply, Fault, NotRunning, TraceFull, Pass, Turn, Start, Stop, Queue, unless}
use Rattle.pb_medium.specs.Traces.{over_of, recent_of}
use Rattle.pb_taps.specs.Faults.{Refuses}
use Rattle.pb_taps.specs.Queueing.{RefusesQueue}
use Rattle.pb_taps.specs.Taps.{tap_of}
use Rattle.pb_taps.specs.Turning.{RefusesStopped}
use Rattle.pb_taps.specs.declared.faults.WorldFault.{WorldFault}
use Rattle.pb_taps.specs.declared.faults.WorldFault.TheVariants as fault
use Rattle.pb_taps.specs.declared.taps.Tap as declared
use Rattle.pb_world.specs.Buses.{world_of, IsKept}
use Rattle.pb_world.specs.Refusals.{fault_of, Judges}
use Rattle.pb_world.specs.Starting.{CanStart, RefusesStart}
use Rattle.pb_world.specs.declared.buses.Bus.{Bus}
use Rattle.pb_world.proofs.Elapsing.{pass-by}
use Rattle.pb_world.proofs.Stepping as stepping
use Rattle.pb_world.proofs.Stepping.{both-there, is-there, start-done, start-missing, start-running, stop-done, stop-missing, stop-stopped, queue-done, queue-missing, queue-idle, queue-full}

abbrev is_memory : WorldFault → Bool
is_memory fault.NoMemory = true
is_memory other = false

-- what refuses an event, and is no want of memory, is the fault of its step
pub refused : (w : World) (e : Event) (r : Result (World × Reply) Fault) (f : WorldFault) → is_memory f ≡ false → Refuses w e r f → fault_of r ≡ Some f
refused w e (Err g) f other is = ap (λ x. Some x) (sym is)
refused w e (Ok next) f other (takes, is) = absurd (let wrong : false ≡ true = sym other ∙ ap is_memory is in cc)

-- the tap of a bus at a position, as the model says it
pub tap-at : (b : Bus) (i : ℕ) (t : declared.Tap) → slice_get b.taps.items i ≡ Some t → slice_get (world_of b).taps i ≡ Some (tap_of t)
tap-at b i t at = slice_get-map tap_of b.taps.items i ∙ ap (option_map tap_of) at

pub no-tap-at : (b : Bus) (i : ℕ) → slice_get b.taps.items i ≡ None → slice_get (world_of b).taps i ≡ None
no-tap-at b i missing = slice_get-map tap_of b.taps.items i ∙ ap (option_map tap_of) missing

-- two taps that are there
pub both-taps : (b : Bus) (i k : ℕ) → i < length b.taps.items → k < length b.taps.items → (is_none (slice_get (world_of b).taps i) || is_none (slice_get (world_of b).taps k)) ≡ false
both-taps b i k one two =
    let ts = (world_of b).taps in
    let many = length-map b.taps.items tap_of in
    both-there (is_none (slice_get ts i)) (is_none (slice_get ts k)) (is-there ts i (omega (arith, many, one))) (is-there ts k (omega (arith, many, two)))

-- ---- Start

pub start-refused : (b : Bus) (i : ℕ) (reason : WorldFault) → IsKept b → RefusesStart b.params.ttd b.now (recent_of b.trace) b.taps.items i reason
    → Refuses (world_of b) (Start i) (step (world_of b) (Start i)) reason
start-refused b i fault.NoSuchTap kept missing = start-missing (world_of b) i (no-tap-at b i missing)
start-refused b i fault.Running kept (t, at, up) = start-running (world_of b) (over_of b.trace) i (tap_of t) kept.cut (tap-at b i t at) up
start-refused b i other kept wrong = absurd wrong

pub judges-start : (b : Bus) (i : ℕ) (r : Result (Unit {0}) WorldFault) → IsKept b → OnOk r (CanStart b.params.ttd b.now (recent_of b.trace) b.taps.items i)
    → IfErr r (RefusesStart b.params.ttd b.now (recent_of b.trace) b.taps.items i) → Judges (world_of b) (Start i) r
judges-start b i (Ok done) kept (t, at, down) why = ap fault_of (start-done (world_of b) (over_of b.trace) i (tap_of t) kept.cut (tap-at b i t at) down)
judges-start b i (Err fault.NoSuchTap) kept ok why = refused (world_of b) (Start i) _ _ refl (start-refused b i fault.NoSuchTap kept why)
judges-start b i (Err fault.Running) kept ok why = refused (world_of b) (Start i) _ _ refl (start-refused b i fault.Running kept why)
judges-start b i (Err other) kept ok why = absurd why

-- ---- Stop

pub stop-refused : (b : Bus) (i : ℕ) (reason : WorldFault) → RefusesStopped b.taps.items i reason → Refuses (world_of b) (Stop i) (step (world_of b) (Stop i)) reason
stop-refused b i fault.NoSuchTap missing = stop-missing (world_of b) i (no-tap-at b i missing)
stop-refused b i fault.NotRunning (t, at, down) = stop-stopped (world_of b) i (tap_of t) (tap-at b i t at) down
stop-refused b i other wrong = absurd wrong

-- ---- Queue

pub queue-refused : (b : Bus) (i : ℕ) (r : RequestFields) (reason : WorldFault) → RefusesQueue b.taps.items i r reason
    → Refuses (world_of b) (Queue i r) (step (world_of b) (Queue i r)) reason
queue-refused b i r fault.NoSuchTap missing = queue-missing (world_of b) i r (no-tap-at b i missing)
queue-refused b i r fault.NotRunning (t, at, idle) = queue-idle (world_of b) i r (tap_of t) (tap-at b i t at) idle
queue-refused b i r fault.QueueFull (t, at, takes, full) = queue-full (world_of b) i r (tap_of t) (tap-at b i t at) takes full
queue-refused b i r other wrong = absurd wrong

-- ---- Turn

-- the world after the turn of a tap that runs
abbrev turned : World → ℕ → medium.Tap → Station × Option (List ℕ) → World × Reply
turned w i t turn = (
  record w { trace = with_said i turn.1 w.now w.taps w.trace; taps = slice_set w.taps i (record t { station = turn.0; marks = [] }) },
  record { now = w.now; spoke = turn.1 },
)

pub turn-stopped : (b : Bus) (i : ℕ) (reason : WorldFault) → RefusesStopped b.taps.items i reason → Refuses (world_of b) (Turn i) (step (world_of b) (Turn i)) reason
turn-stopped b i fault.NoSuchTap missing =
    let w = world_of b in
    subst (λ o. Refuses w (Turn i) (step_turn w i o) fault.NoSuchTap) (sym (no-tap-at b i missing)) refl
turn-stopped b i fault.NotRunning (t, at, down) =
    let w = world_of b in
    let turn = turn_of w.params t.station.station t.marks w.now in
    let next = turned w i (tap_of t) turn in
    subst (λ r. Refuses w (Turn i) r fault.NotRunning)
    (sym (
    ap (λ o. step_turn w i o) (tap-at b i t at)
    ∙ ap (λ (up : Bool). unless ((not up, NotRunning) ∷ (is_some turn.1 && nat_le w.limit (length w.trace), TraceFull) ∷ []) next) down
    ))
    refl
turn-stopped b i other wrong = absurd wrong

-- ---- Pass

fault-widened : (past : List Entry) (p : Params) (limit : ℕ) (r : Result (World × Reply) Fault) → fault_of (widened past p limit r) ≡ fault_of r
fault-widened past p limit (Ok next) = refl
fault-widened past p limit (Err f) = refl

fault-is : (r : Result (World × Reply) Fault) (reason : WorldFault) → IsFault r reason → fault_of r ≡ Some reason
fault-is (Ok next) reason wrong = absurd wrong
fault-is (Err f) reason is = ap (λ x. Some x) (sym is)

-- a pass is judged by the recent entries
pass-behind : (w : World) (over bits : ℕ) → IsCut w.params.ttd w.now over w.trace → fault_of (step_pass w bits) ≡ fault_of (step_pass (stepping.recent_of over w) bits)
pass-behind w over bits cut = ap fault_of (pass-whole w over bits cut) ∙ fault-widened (take over w.trace) w.params w.limit (step_pass (stepping.recent_of over w) bits)

pub pass-can : (b : Bus) (bits to : ℕ) → IsKept b → CanPass (air b.params.ttd b.now (recent_of b.trace) b.taps.items) bits to → fault_of (step (world_of b) (Pass bits)) ≡ None
pass-can b bits to kept can =
    let w = world_of b in
    let over = over_of b.trace in
    let x = air b.params.ttd b.now (recent_of b.trace) b.taps.items in
    let full = ap (λ n. first_full 0 (told b.params.ttd x.trace x.now n 0 x.taps)) (sym can.later) ∙ can.room in
    pass-behind w over bits kept.cut ∙ ap fault_of (pass-by x bits None can.time full)

pub pass-refused-by : (b : Bus) (bits : ℕ) (reason : WorldFault) → IsKept b → IsFault (step_pass (air b.params.ttd b.now (recent_of b.trace) b.taps.items) bits) reason
    → fault_of (step (world_of b) (Pass bits)) ≡ Some reason
pass-refused-by b bits reason kept is =
    pass-behind (world_of b) (over_of b.trace) bits kept.cut ∙ fault-is (step_pass (air b.params.ttd b.now (recent_of b.trace) b.taps.items) bits) reason is
