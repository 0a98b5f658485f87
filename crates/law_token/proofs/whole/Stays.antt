-- What each event leaves of each tap, whatever the premises, whether the tap runs or not; and that the trace stands by begin.
use Rattle.std.proofs.Common.{◌≡◌, ℕ, zero, suc, ◌+◌, ◌<◌, ◌≤◌, Bool, true, false, if◌then◌else◌, not, ◌==◌, ◌&&◌, ◌||◌, List, [], ◌∷◌, ◌++◌, length, map, refl, sym, ap, ◌∙◌, subst, arith, Option, Some, None, Ok}
use Rattle.std.specs.Prelude.{slice_get, slice_set, nat_le, find, is_some, is_none}
use Rattle.std.specs.List.{list_any}
use Rattle.std.proofs.lemmas.Bool.{ltb-false}
use Rattle.std.proofs.lemmas.Option.{none-some, same_Some}
use Rattle.pb_timers.specs.Timers.{Params}
use Rattle.pb_cycles.specs.RequestFields.{RequestFields}
use Rattle.law_turn.specs.Laws.{Fits, IsRequest}
use Rattle.law_turn.specs.Marks.{Mark}
use Rattle.law_turn.specs.Pasts.{nothing}
use Rattle.law_turn.specs.Phases.{PassiveIdle, Listening}
use Rattle.law_turn.specs.Stations.{list_for, pushed}
use Rattle.law_turn.specs.Turns.{turn_of}
use Rattle.law_turn.proofs.Addresses.{turn-address}
use Rattle.law_turn.proofs.Initiating.{reply-turn_of}
use Rattle.law_turn.proofs.Keeping.{cycles-new, cycles-started, cycles-pushed}
use Rattle.law_turn.proofs.Retrying.{left-started, left-turn_of}
use Rattle.law_turn.proofs.Standing.{stands-started, stands-pushed}
use Rattle.law_model.specs.Trace.{Hit, Entry, cut_at, begins_from, unheard_at}
use Rattle.law_model.specs.Medium.{Tap, TapSpec, new_marks, entry_at}
use Rattle.law_model.specs.World as world
use Rattle.law_model.specs.World.{World, Event, Turn, Pass, Damage, Start, Stop, Queue, Noise, Unheard, Reply, Fault, NoSuchTap, Running, NotRunning, NothingInAir, ZeroTime, QueueFull, TraceFull, queue_limit, is_in_air_by, stopped_tap, has_bad_address, first_bad_address, new_faults, IsNewWorld}
use Rattle.law_model.specs.Step.{with_said, step_turn, told, pass_faults, with_hit, change_first, has_place, started_tap, step_start, halted, step_stop, step_queue, with_noise, is_noisy, world_after, step}
use Rattle.law_model.specs.Laws.{AllFit, IsEvent}
use Rattle.law_model.proofs.Worlds.{unless-Ok}
use Rattle.law_runs.specs.Judging.{Stands}
use Rattle.law_runs.proofs.Ordered.{stands-new, stands-step}
use Rattle.law_token.specs.Lists.{EachTap}
use Rattle.law_token.specs.Stations.{IsActive, unasked, TapStays}
use Rattle.law_token.specs.Invariant.{Settled}
use Rattle.law_token.specs.Runs.{SameBus}
use Rattle.law_token.proofs.bus.Lists.{at_set}
use Rattle.law_token.proofs.turn.Inactive.{active_before}
use Rattle.law_token.proofs.replies.Unasked.{stands_turned}
use Rattle.law_token.proofs.whole.ReplyData.{turn-data}
use Rattle.law_token.proofs.bus.Kept as spelled

-- ---- what each event does to one tap

-- of requests of some kind
pub record Stable (p : Params) (R : RequestFields → Type 0) (Q : Tap → Type 0) : Type 0 where
  pub marks : (t : Tap) (ms : List Mark) → Q t → Q (record t { marks = ms })
  pub turn : (t : Tap) (now : ℕ) → t.running ≡ true → Q t → Q (record t { station = (turn_of p t.station t.marks now).0; marks = [] })
  pub start : (w : World) (k : ℕ) (t : Tap) → w.params ≡ p → Q t → Q (started_tap w k t)
  pub stop : (t : Tap) → Q t → Q (halted t)
  pub queue : (t : Tap) (r : RequestFields) → R r → Q t → Q (record t { station = pushed t.station r })

set_tap : (Q : Tap → Type 0) (taps : List Tap) (i : ℕ) (y : Tap) → Q y → EachTap Q taps → EachTap Q (slice_set taps i y)
set_tap Q taps i y here all = at_set (λ j u. Q u) taps i y here (λ j u ne h. all j u h)

told_tap : (p : Params) (R : RequestFields → Type 0) (Q : Tap → Type 0) → Stable p R Q → (delay : ℕ) (trace : List Entry) (from to k : ℕ) (ts : List Tap) → EachTap Q ts → EachTap Q (told delay trace from to k ts)
told_tap p R Q q delay trace from to k [] all i x h = absurd (none-some x h)
told_tap p R Q q delay trace from to k (t ∷ ts) all zero x h =
    subst Q (same_Some (record t { marks = t.marks ++ new_marks delay k t trace from to }) x h) (q.marks t (t.marks ++ new_marks delay k t trace from to) (all zero t refl))
told_tap p R Q q delay trace from to k (t ∷ ts) all (suc i) x h = told_tap p R Q q delay trace from to (k + 1) ts (λ j u e. all (suc j) u e) i x h

pub runs_then : (b : Bool) → not b ≡ false → b ≡ true
runs_then true e = refl
runs_then false e = absurd (let w : true ≡ false = e in cc)

-- ---- what follows an event that is not refused

-- the taps, with the parameters and what each tap is
abbrev After : (Tap → Type 0) → World → World → Type 0
After Q w next = SameBus w next × EachTap Q next.taps

-- a tap that becomes another leaves what each is
pub set_specs : (taps : List Tap) (i : ℕ) (t y : Tap) → slice_get taps i ≡ Some t → y.spec ≡ t.spec → map (λ z. z.spec) (slice_set taps i y) ≡ map (λ z. z.spec) taps
set_specs [] i t y at same = refl
set_specs (x ∷ xs) zero t y at same = ap (λ s. s ∷ map (λ z. z.spec) xs) (same ∙ sym (ap (λ (z : Tap). z.spec) (same_Some x t at)))
set_specs (x ∷ xs) (suc i) t y at same = ap (λ l. x.spec ∷ l) (set_specs xs i t y at same)

pub told_specs : (delay : ℕ) (trace : List Entry) (from to k : ℕ) (ts : List Tap) → map (λ z. z.spec) (told delay trace from to k ts) ≡ map (λ z. z.spec) ts
told_specs delay trace from to k [] = refl
told_specs delay trace from to k (t ∷ ts) = ap (λ l. t.spec ∷ l) (told_specs delay trace from to (k + 1) ts)

made_after : (Q : Tap → Type 0) (tests : List (Bool × Fault)) (w made next : World) (say reply : Reply) → world.unless {X = World × Reply} tests (made, say) ≡ Ok (next, reply) → SameBus w made → EachTap Q made.taps → After Q w next
made_after Q tests w made next say reply ok same all =
    let is : made ≡ next = ap (λ (z : World × Reply). z.0) (unless-Ok tests (made, say) (next, reply) ok).1 in subst (After Q w) is (same, all)

turn_after : (R : RequestFields → Type 0) (Q : Tap → Type 0) (w next : World) → Stable w.params R Q → (reply : Reply) (tap : ℕ) (o : Option Tap) → slice_get w.taps tap ≡ o → step_turn w tap o ≡ Ok (next, reply) → EachTap Q w.taps → After Q w next
turn_after R Q w next q reply tap None at ok all = absurd cc
turn_after R Q w next q reply tap (Some t) at ok all =
    let turn = turn_of w.params t.station t.marks w.now in
    let y = record t { station = turn.0; marks = [] } in
    let tests : List (Bool × Fault) = (not t.running, NotRunning) ∷ (is_some turn.1 && nat_le w.limit (length w.trace), TraceFull) ∷ [] in
    let made : World = record w { trace = with_said tap turn.1 w.now w.taps w.trace; taps = slice_set w.taps tap y } in
    let running = runs_then t.running (unless-Ok tests (made, record { now = w.now; spoke = turn.1 }) (next, reply) ok).0.0 in
    made_after Q tests w made next (record { now = w.now; spoke = turn.1 }) reply ok (record { params = refl; specs = set_specs w.taps tap t y at refl }) (set_tap Q w.taps tap y (q.turn t w.now running (all tap t at)) all)

start_after : (R : RequestFields → Type 0) (Q : Tap → Type 0) (w next : World) → Stable w.params R Q → (reply : Reply) (tap : ℕ) (o : Option Tap) → slice_get w.taps tap ≡ o → step_start w tap o ≡ Ok (next, reply) → EachTap Q w.taps → After Q w next
start_after R Q w next q reply tap None at ok all = absurd cc
start_after R Q w next q reply tap (Some t) at ok all =
    made_after Q ((t.running || list_any (is_in_air_by w.params.ttd w.now tap) w.trace, Running) ∷ []) w (record w { taps = slice_set w.taps tap (started_tap w tap t) }) next (record { now = w.now; spoke = None }) reply ok (record { params = refl; specs = set_specs w.taps tap t (started_tap w tap t) at refl })
    (set_tap Q w.taps tap (started_tap w tap t) (q.start w tap t refl (all tap t at)) all)

stop_after : (R : RequestFields → Type 0) (Q : Tap → Type 0) (w next : World) → Stable w.params R Q → (reply : Reply) (tap : ℕ) (o : Option Tap) → slice_get w.taps tap ≡ o → step_stop w tap o ≡ Ok (next, reply) → EachTap Q w.taps → After Q w next
stop_after R Q w next q reply tap None at ok all = absurd cc
stop_after R Q w next q reply tap (Some t) at ok all =
    made_after Q ((not t.running, NotRunning) ∷ []) w (record w { trace = map (cut_at w.now tap) w.trace; taps = slice_set w.taps tap (halted t) }) next (record { now = w.now; spoke = None }) reply ok (record { params = refl; specs = set_specs w.taps tap t (halted t) at refl })
    (set_tap Q w.taps tap (halted t) (q.stop t (all tap t at)) all)

queue_after : (R : RequestFields → Type 0) (Q : Tap → Type 0) (w next : World) → Stable w.params R Q → (reply : Reply) (tap : ℕ) (r : RequestFields) → R r → (o : Option Tap) → slice_get w.taps tap ≡ o → step_queue w tap r o ≡ Ok (next, reply) → EachTap Q w.taps
    → After Q w next
queue_after R Q w next q reply tap r is None at ok all = absurd cc
queue_after R Q w next q reply tap r is (Some t) at ok all =
    let y = record t { station = pushed t.station r } in
    made_after Q ((not (t.running && t.spec.master), NotRunning) ∷ (nat_le queue_limit (length (list_for t.station.cycles.queue r)), QueueFull) ∷ []) w
    (record w { taps = slice_set w.taps tap y }) next (record { now = w.now; spoke = None }) reply ok (record { params = refl; specs = set_specs w.taps tap t y at refl }) (set_tap Q w.taps tap y (q.queue t r is (all tap t at)) all)

-- an event asks for requests of some kind
abbrev Asks : (RequestFields → Type 0) → Event → Type 0
Asks R (Turn tap) = Unit {0}
Asks R (Pass bits) = Unit {0}
Asks R (Damage tap speaker place) = Unit {0}
Asks R (Start tap) = Unit {0}
Asks R (Stop tap) = Unit {0}
Asks R (Queue tap r) = R r
Asks R (Noise bits) = Unit {0}
Asks R (Unheard tap speaker) = Unit {0}

asks : (R : RequestFields → Type 0) → ((r : RequestFields) → IsRequest r → R r) → (e : Event) → IsEvent e → Asks R e
asks R f (Turn tap) is = tt
asks R f (Pass bits) is = tt
asks R f (Damage tap speaker place) is = tt
asks R f (Start tap) is = tt
asks R f (Stop tap) is = tt
asks R f (Queue tap r) is = f r is
asks R f (Noise bits) is = tt
asks R f (Unheard tap speaker) is = tt

asks_any : (e : Event) → Asks (λ r. Unit {0}) e
asks_any (Turn tap) = tt
asks_any (Pass bits) = tt
asks_any (Damage tap speaker place) = tt
asks_any (Start tap) = tt
asks_any (Stop tap) = tt
asks_any (Queue tap r) = tt
asks_any (Noise bits) = tt
asks_any (Unheard tap speaker) = tt

-- an event that is not refused leaves the parameters, and of each tap what it leaves of any
pub step_after : (R : RequestFields → Type 0) (Q : Tap → Type 0) (w next : World) → Stable w.params R Q → (e : Event) (reply : Reply) → Asks R e → step w e ≡ Ok (next, reply) → EachTap Q w.taps → After Q w next
step_after R Q w next q (Turn tap) reply is ok all = turn_after R Q w next q reply tap (slice_get w.taps tap) refl ok all
step_after R Q w next q (Pass bits) reply is ok all =
    let now = w.now + bits in
    let taps = told w.params.ttd w.trace w.now now 0 w.taps in
    made_after Q (pass_faults w bits taps) w (record w { now = now; taps = taps; trace = map (entry_at w.params.ttd w.taps w.trace w.now now) w.trace }) next (record { now = now; spoke = None }) reply ok (record { params = refl; specs = told_specs w.params.ttd w.trace w.now now 0 w.taps })
    (told_tap w.params R Q q w.params.ttd w.trace w.now now 0 w.taps all)
step_after R Q w next q (Damage tap speaker place) reply is ok all =
    let in_air = is_in_air_by w.params.ttd w.now speaker in
    let hit : Hit = record { tap = tap; place = place } in
    made_after Q ((is_none (slice_get w.taps tap) || is_none (slice_get w.taps speaker), NoSuchTap) ∷ (tap == speaker || not (has_place (find in_air w.trace) place), NothingInAir) ∷ []) w
    (record w { trace = change_first in_air (with_hit hit) w.trace }) next (record { now = w.now; spoke = None }) reply ok (record { params = refl; specs = refl }) all
step_after R Q w next q (Start tap) reply is ok all = start_after R Q w next q reply tap (slice_get w.taps tap) refl ok all
step_after R Q w next q (Stop tap) reply is ok all = stop_after R Q w next q reply tap (slice_get w.taps tap) refl ok all
step_after R Q w next q (Queue tap r) reply is ok all = queue_after R Q w next q reply tap r is (slice_get w.taps tap) refl ok all
step_after R Q w next q (Noise bits) reply is ok all =
    let noisy = is_noisy w in
    made_after Q ((bits == 0, ZeroTime) ∷ (not noisy && nat_le w.limit (length w.trace), TraceFull) ∷ []) w (record w { trace = with_noise w.now (w.now + bits) noisy w.trace }) next (record { now = w.now; spoke = None }) reply ok (record { params = refl; specs = refl }) all
step_after R Q w next q (Unheard tap speaker) reply is ok all =
    let begins = begins_from w.now speaker in
    made_after Q ((is_none (slice_get w.taps tap) || is_none (slice_get w.taps speaker), NoSuchTap) ∷ (tap == speaker || not (list_any begins w.trace), NothingInAir) ∷ []) w
    (record w { trace = change_first begins (unheard_at tap) w.trace }) next (record { now = w.now; spoke = None }) reply ok (record { params = refl; specs = refl }) all

-- ---- the taps of a world

pub not_true_false : (b : Bool) → b ≡ true → b ≡ false → ⊥
not_true_false true e f = cc
not_true_false false e f = cc

started_rank : (m : Bool) → IsActive (if m then Listening false else PassiveIdle) → m ≡ true
started_rank true a = refl
started_rank false a = absurd a

start_stays : (w : World) (k : ℕ) (t : Tap) → TapStays w.params t → TapStays w.params (started_tap w k t)
start_stays w k t h = record {
  address = h.address;
  below = h.below;
  sayable = (tt, cycles-started w.params t.station t.spec.master w.now h.sayable.1);
  opened = left-started w.params t.station t.spec.master w.now;
  ranked = started_rank t.spec.master;
  past = λ _. (nothing, stands-started w.params t.station t.spec.master w.now h.below);
  spells = (tt, record { here = h.spells.1.here; pending = tt; unit = h.spells.1.unit; kept = tt });
  stopped = λ off. absurd (let z : true ≡ false = off in cc);
  replies = h.replies;
}

stays_stable : (p : Params) → p.hsa < 127 → Stable p IsRequest (TapStays p)
stays_stable p highest = record {
  marks = λ t ms h. record { address = h.address; below = h.below; sayable = h.sayable; opened = h.opened; ranked = h.ranked; past = h.past; spells = h.spells; stopped = h.stopped; replies = h.replies };
  turn = λ t now run h. record {
    address = turn-address p t.station t.marks now ∙ h.address;
    below = subst (λ a. a < 127) (sym (turn-address p t.station t.marks now)) h.below;
    sayable = reply-turn_of p t.station t.marks now h.sayable;
    opened = left-turn_of p t.station t.marks now h.opened;
    ranked = λ a. h.ranked (active_before p t.station t.marks now a);
    past = λ run. let g = h.past run in stands_turned p t.station t.marks now g.0 highest h.sayable g.1;
    spells = spelled.reply-turn_of p t.station t.marks now h.spells;
    stopped = λ off. absurd (not_true_false t.running run off);
    replies = turn-data p t.station t.marks now ∙ h.replies;
  };
  start = λ w k t same h. subst (λ z. TapStays z (started_tap w k t)) same (start_stays w k t (subst (λ z. TapStays z t) (sym same) h));
  stop = λ t h. record {
    address = h.address;
    below = h.below;
    sayable = (tt, h.sayable.1);
    opened = tt;
    ranked = λ a. absurd a;
    past = λ run. absurd (let z : false ≡ true = run in cc);
    spells = (tt, h.spells.1);
    stopped = λ _. refl;
    replies = h.replies;
  };
  queue = λ t r is h. record {
    address = h.address;
    below = h.below;
    sayable = (h.sayable.0, cycles-pushed t.station r h.sayable.1 is);
    opened = h.opened;
    ranked = h.ranked;
    past = λ run. let g = h.past run in (g.0, stands-pushed p (unasked t.station) r g.0 g.1);
    spells = (h.spells.0, record { here = h.spells.1.here; pending = h.spells.1.pending; unit = h.spells.1.unit; kept = h.spells.1.kept });
    stopped = h.stopped;
    replies = h.replies;
  };
}

-- ---- a new world

good_address : (p : Params) (spec : TapSpec) → p.hsa < 127 → has_bad_address p spec ≡ false → spec.address < 127
good_address p spec highest good = by spec.master (ltb-false (if spec.master then p.hsa else 126) spec.address good)
  where
    by : (m : Bool) → spec.address ≤ (if m then p.hsa else 126) → spec.address < 127
    by true le = omega (arith, le, highest)
    by false le = omega (arith, le)

not_bad : (b : Bool) (n : ℕ) (rest : Option ℕ) → is_some (if b then Some n else rest) ≡ false → (b ≡ false) × (is_some rest ≡ false)
not_bad true n rest h = absurd (let z : true ≡ false = h in cc)
not_bad false n rest h = (refl, h)

new_tap : (p : Params) (spec : TapSpec) → spec.address < 127 → Fits spec.reply → TapStays p (stopped_tap p spec)
new_tap p spec low fits = record {
  address = refl;
  below = low;
  sayable = (tt, cycles-new p spec.address spec.reply fits);
  opened = tt;
  ranked = λ a. absurd a;
  past = λ run. absurd (let z : false ≡ true = run in cc);
  spells = (tt, record { here = low; pending = tt; unit = fits; kept = tt });
  stopped = λ _. refl;
  replies = refl;
}

new_taps : (p : Params) (n : ℕ) (specs : List TapSpec) → p.hsa < 127 → is_some (first_bad_address p n specs) ≡ false → AllFit specs → EachTap (TapStays p) (map (stopped_tap p) specs)
new_taps p n [] highest good fit k t at = absurd (none-some t at)
new_taps p n (spec ∷ specs) highest good fit zero t at =
    subst (TapStays p) (same_Some (stopped_tap p spec) t at) (new_tap p spec (good_address p spec highest (not_bad (has_bad_address p spec) n (first_bad_address p (n + 1) specs) good).0) fit.0)
new_taps p n (spec ∷ specs) highest good fit (suc k) t at = new_taps p (n + 1) specs highest (not_bad (has_bad_address p spec) n (first_bad_address p (n + 1) specs) good).1 fit.1 k t at

-- ---- both, of a world

pub settled_new : (p : Params) (specs : List TapSpec) (w : World) → p.hsa < 127 → AllFit specs → IsNewWorld p specs w → Settled w
settled_new p specs w highest fit made =
    let new : World = record { params = p; now = 0; trace = []; taps = map (stopped_tap p) specs; limit = made.0 } in
    let done = unless-Ok (new_faults p specs) new w made.1 in
    let stays = subst (λ (z : World). EachTap (TapStays z.params) z.taps) done.1 (new_taps p 0 specs highest done.0.1.1.0 fit) in
    record { stands = stands-new p specs w made; stays = stays }

pub settled_step : (w next : World) (e : Event) (reply : Reply) → w.params.hsa < 127 → IsEvent e → step w e ≡ Ok (next, reply) → Settled w → Settled next
settled_step w next e reply highest is ok s =
    let a = step_after IsRequest (TapStays w.params) w next (stays_stable w.params highest) e reply (asks IsRequest (λ r h. h) e is) ok s.stays in
    record { stands = subst (λ r. Stands (world_after w r)) ok (stands-step w e s.stands); stays = subst (λ z. EachTap (TapStays z) next.taps) (sym a.0.params) a.1 }

-- ---- the bus

-- an event that is not refused leaves the parameters and what each tap is
pub same_bus : (w next : World) (e : Event) (reply : Reply) → step w e ≡ Ok (next, reply) → SameBus w next
same_bus w next e reply ok =
    (step_after (λ r. Unit {0}) (λ t. Unit {0}) w next (record { marks = λ t ms h. h; turn = λ t now run h. h; start = λ v k t same h. h; stop = λ t h. h; queue = λ t r is h. h }) e reply (asks_any e) ok (λ k t at. tt)).0

pub new_params : (p : Params) (specs : List TapSpec) (w : World) → IsNewWorld p specs w → w.params ≡ p
new_params p specs w made =
    let new : World = record { params = p; now = 0; trace = []; taps = map (stopped_tap p) specs; limit = made.0 } in sym (ap (λ (z : World). z.params) (unless-Ok (new_faults p specs) new w made.1).1)
