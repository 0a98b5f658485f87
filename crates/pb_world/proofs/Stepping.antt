-- What the recent entries and the taps tell of a step of the whole world.
use Rattle.std.proofs.Common.{◌≡◌, ◌∙◌, ap, sym, subst, refl, arith, ℕ, ◌+◌, ◌<◌, ◌≤◌, ◌==◌, ◌++◌, List, [], ◌∷◌, length, length-append, map, Bool, true, false, not, ◌||◌, ◌&&◌, Option, Some, None, Ok, Err, Result}
use Rattle.std.specs.Prelude.{take, drop, find, is_none, is_some, nat_le, slice_get, slice_set, IsErr, IsErrAnd, MatchResult}
use Rattle.std.proofs.lemmas.List.{take-append-drop, length-take-le, length-map}
use Rattle.std.proofs.Math.Seq.{take-append_seam, drop-append_seam}
use Rattle.std.proofs.lemmas.Option.{slice_get-get_or}
use Rattle.pb_cycles.specs.RequestFields.{RequestFields}
use Rattle.law_turn.specs.Stations.{Station, list_for, pushed}
use Rattle.law_model.specs.Trace.{Hit, Record, cut_end, cut_at, Entry, Sent, Noise, goes_before, with_entry, is_noise_at, noisy_until, begins_from, unheard_at}
use Rattle.law_model.specs.Medium.{Tap, entry_at, ends_between, reaches, heard_by, reaches_taps}
use Rattle.law_turn.specs.Turns.{turn_of}
use Rattle.law_model.specs.World as world
use Rattle.law_model.specs.World.{World, Event, Turn, Pass, Damage, Start, Stop, Queue, Reply, Fault, NoSuchTap, Running, NotRunning, NothingInAir, ZeroTime, QueueFull, TraceFull, unless, is_in_air_by, queue_limit, trace_limit}
use Rattle.law_model.specs.Step.{told, pass_faults, step_pass, with_hit, change_first, has_place, step_damage, step_start, halted, step_stop, step_queue, with_noise, is_noisy, step_noise, step_unheard, with_said, after_turn, step_turn, sending, step, world_after}
use Rattle.law_model.specs.Laws.{AllBegun, AllOver, AllFrom, IsEvent, IsSound}
use Rattle.law_model.proofs.Cases.{by_test}
use Rattle.law_model.proofs.Worlds.{sound-step, unless-Ok}
use Rattle.pb_medium.specs.Airs.{plain, IsCut}
use Rattle.pb_world.specs.Clocks.{IsFault, PassesTo}
use Rattle.pb_medium.specs.Damaging.{can_hit, RefusesHit}
use Rattle.pb_taps.specs.Faults.{Refuses}
use Rattle.pb_medium.specs.Losing.{has_nothing_to_lose}
use Rattle.pb_medium.specs.Noising.{has_noise, has_no_room, RefusesNoise}
use Rattle.pb_medium.specs.Speaking.{is_full, RefusesSaid}
use Rattle.pb_medium.specs.Traces as traces
use Rattle.pb_medium.specs.Traces.{limit_of, entries_of, over_of, HasRoom, RecentBecomes, StaysAs}
use Rattle.pb_medium.specs.Entries.{entry_of}
use Rattle.pb_medium.specs.declared.traces.Trace.{Trace}
use Rattle.pb_taps.specs.declared.faults.WorldFault.{WorldFault}
use Rattle.pb_taps.specs.declared.faults.WorldFault.TheVariants as fault
use Rattle.pb_medium.proofs.Closing.{begun-behind}
use Rattle.pb_medium.proofs.Entering.{entered-behind}
use Rattle.pb_medium.proofs.Widening.{widened, pass-whole, damage-whole, is_sending, started_amid, start-whole, cut-whole, noisy-behind, noise-whole, unheard-whole}
use Rattle.std.proofs.lemmas.Bool.{not-true, not-false, lt-leb}

-- the world of the recent entries
abbrev pub recent_of : ℕ → World → World
recent_of over w = record w { params = plain w.params.ttd; trace = drop over w.trace; limit = 0 }

-- ---- results

pub in-err : {X F : Type 0} (P : X → Type 0) (Q : F → Type 0) (r : Result X F) (f : F) → IsErr r → IsErrAnd r (λ e. e ≡ f) → Q f → MatchResult r P Q
in-err P Q (Ok x) f err same q = absurd (let wrong : false ≡ true = err in cc)
in-err P Q (Err e) f err same q = subst Q (sym same) q

-- a trace that stays, in a world
pub stays-whole : (w : World) (before after : Trace) → StaysAs before after
    → record w { trace = entries_of after; limit = limit_of after } ≡ record w { trace = entries_of before; limit = limit_of before }
stays-whole w before after same =
    ap (λ es. record w { trace = es; limit = limit_of after }) same.entries
    ∙ ap (λ l. record w { trace = entries_of before; limit = l }) same.limit

-- a tap that is there
pub is-there : {X : Type 0} (xs : List X) (i : ℕ) → i < length xs → is_none (slice_get xs i) ≡ false
is-there [] i there = absurd (omega (arith, there))
is-there (x ∷ xs) i there = ap is_none (slice_get-get_or (x ∷ xs) i x there)

pub both-there : (a b : Bool) → a ≡ false → b ≡ false → (a || b) ≡ false
both-there a b x y = ap (λ (p : Bool). p || b) x ∙ y

-- ---- what stays

pub sound-after : (w : World) (e : Event) (next : World) (reply : Reply) → step w e ≡ Ok (next, reply) → IsEvent e → IsSound w → IsSound next
sound-after w e next reply ok is sound = subst IsSound (ap (world_after w) ok) (sound-step w e is sound)

-- the world of the recent entries is as sound
pub sound-recent : (over : ℕ) (w : World) → IsSound w → IsSound (recent_of over w)
sound-recent over w sound = record {
  begun = begun-behind w.now (take over w.trace) (drop over w.trace) (subst (AllBegun w.now) (sym (take-append-drop over w.trace)) sound.begun);
  in_order = sound.in_order;
  sayable = sound.sayable;
}

-- other entries behind those that are over, none of which reaches the taps before they had ended
pub cut-with : (delay now over : ℕ) (es recent : List Entry) → ((m : ℕ) → m ≤ now → AllFrom delay m (drop over es) → AllFrom delay m recent) → IsCut delay now over es
    → IsCut delay now over (take over es ++ recent)
cut-with delay now over es recent from (m, at, some, old, begun) =
    let front = take over es in
    let size : length front ≡ over = length-take-le over es some in
    let same : take over (front ++ recent) ≡ front = ap (λ n. take n (front ++ recent)) (sym size) ∙ take-append_seam front recent in
    let rest : drop over (front ++ recent) ≡ recent = ap (λ n. drop n (front ++ recent)) (sym size) ∙ drop-append_seam front recent in
    (m, at, omega (arith, size, length-append front recent), subst (AllOver delay m) (sym same) old, subst (AllFrom delay m) (sym rest) (from m at begun))

-- the recent entries of a trace change, none of which reaches the taps before the others had ended
pub cut-after : (delay now : ℕ) (change : List Entry → List Entry) (before after : Trace) → RecentBecomes change before after
    → ((m : ℕ) → m ≤ now → AllFrom delay m (traces.recent_of before) → AllFrom delay m (change (traces.recent_of before)))
    → IsCut delay now (over_of before) (entries_of before) → IsCut delay now (over_of after) (entries_of after)
cut-after delay now change before after becomes from cut =
    subst (λ over. IsCut delay now over (entries_of after)) (sym becomes.over)
    (subst (IsCut delay now (over_of before)) (sym becomes.entries) (cut-with delay now (over_of before) (entries_of before) (change (traces.recent_of before)) from cut))

pub from-changed : (delay m : ℕ) (test : Entry → Bool) (change : Entry → Entry) (es : List Entry)
    → ((e : Entry) → (reaches_taps delay (change e)).begin ≡ (reaches_taps delay e).begin) → AllFrom delay m es
    → AllFrom delay m (change_first test change es)
from-changed delay m test change [] same from = tt
from-changed delay m test change (e ∷ es) same from =
    by_test (AllFrom delay m) (test e) (change e ∷ es) (e ∷ change_first test change es)
    (λ _. (omega (arith, same e, from.0), from.1)) (λ _. (from.0, from-changed delay m test change es same from.1))

pub begin-with_hit : (delay : ℕ) (hit : Hit) (e : Entry) → (reaches_taps delay (with_hit hit e)).begin ≡ (reaches_taps delay e).begin
begin-with_hit delay hit (Noise span) = refl
begin-with_hit delay hit (Sent r) = refl

begin-noisy_until : (delay : ℕ) (m : ℕ) (e : Entry) → (reaches_taps delay (noisy_until m e)).begin ≡ (reaches_taps delay e).begin
begin-noisy_until delay m (Noise span) = refl
begin-noisy_until delay m (Sent r) = refl

pub begin-unheard_at : (delay : ℕ) (tap : ℕ) (e : Entry) → (reaches_taps delay (unheard_at tap e)).begin ≡ (reaches_taps delay e).begin
begin-unheard_at delay tap (Noise span) = refl
begin-unheard_at delay tap (Sent r) = refl

pub from-entered : (delay m : ℕ) (e : Entry) (es : List Entry) → m ≤ (reaches_taps delay e).begin → AllFrom delay m es → AllFrom delay m (with_entry e es)
from-entered delay m e [] later from = (later, tt)
from-entered delay m e (x ∷ es) later from =
    by_test (AllFrom delay m) (goes_before e x) (e ∷ x ∷ es) (x ∷ with_entry e es) (λ _. (later, from)) (λ _. (from.0, from-entered delay m e es later from.1))

from-settled : (m delay : ℕ) (taps : List Tap) (trace : List Entry) (t u : ℕ) (es : List Entry) → AllFrom delay m es → AllFrom delay m (map (entry_at delay taps trace t u) es)
from-settled m delay taps trace t u [] from = tt
from-settled m delay taps trace t u (Noise span ∷ es) from = (from.0, from-settled m delay taps trace t u es from.1)
from-settled m delay taps trace t u (Sent r ∷ es) from =
    by_test (λ (e : Entry). AllFrom delay m (e ∷ map (entry_at delay taps trace t u) es)) (ends_between t u (reaches delay r))
    (Sent (record r { heard = heard_by delay trace r 0 taps r.heard })) (Sent r)
    (λ _. (from.0, from-settled m delay taps trace t u es from.1)) (λ _. (from.0, from-settled m delay taps trace t u es from.1))

-- ---- Pass

pub pass-done : (w : World) (over d to : ℕ) (entries : List Entry) (taps : List Tap) → IsCut w.params.ttd w.now over w.trace
    → PassesTo (recent_of over w) d (take over w.trace) to entries taps
    → step_pass w d ≡ Ok (record w { now = to; trace = entries; taps = taps }, record { now = to; spoke = None })
pass-done w over d to entries taps cut (recent, are, passed) =
    pass-whole w over d cut ∙ ap (widened (take over w.trace) w.params w.limit) passed
    ∙ ap (λ es. Ok (record w { now = to; trace = es; taps = taps }, record { now = to; spoke = None })) (sym are)

pub pass-refused : (w : World) (over d : ℕ) (reason : WorldFault) → IsCut w.params.ttd w.now over w.trace
    → IsFault (step_pass (recent_of over w) d) reason → Refuses w (Pass d) (step_pass w d) reason
pass-refused w over d reason cut refused =
    subst (λ r. Refuses w (Pass d) r reason) (sym (pass-whole w over d cut)) (by (step_pass (recent_of over w) d) refused)
  where
    by : (r : Result (World × Reply) Fault) → IsFault r reason → Refuses w (Pass d) (widened (take over w.trace) w.params w.limit r) reason
    by (Ok next) refused = absurd refused
    by (Err f) refused = refused

pub cut-passed : (w : World) (over d to : ℕ) (entries : List Entry) (taps : List Tap) → IsCut w.params.ttd w.now over w.trace
    → PassesTo (recent_of over w) d (take over w.trace) to entries taps → IsCut w.params.ttd w.now over entries
cut-passed w over d to entries taps cut (recent, are, passed) =
    let s = recent_of over w in
    let after = w.now + d in
    let news = told s.params.ttd s.trace w.now after 0 w.taps in
    let moved : World = record s { now = after; taps = news; trace = map (entry_at s.params.ttd w.taps s.trace w.now after) s.trace } in
    let same = (unless-Ok (pass_faults s d news) (moved, record { now = after; spoke = None }) (record s { now = to; trace = recent; taps = taps }, record { now = to; spoke = None }) passed).1 in
    let settled = ap (λ (next : World × Reply). next.0.trace) same in
    subst (IsCut w.params.ttd w.now over) (ap (λ es. take over w.trace ++ es) settled ∙ sym are)
    (cut-with w.params.ttd w.now over w.trace moved.trace (λ m at from. from-settled m s.params.ttd w.taps s.trace w.now after s.trace from) cut)

-- ---- Damage

pub damage-done : (w : World) (over tap speaker : ℕ) (place : Option ℕ) (at from : Option Tap) → IsCut w.params.ttd w.now over w.trace
    → (is_none at || is_none from) ≡ false → can_hit w.params.ttd speaker w.now (record { tap = tap; place = place }) (drop over w.trace) ≡ true
    → step_damage w tap speaker place at from ≡ Ok (
      record w { trace = take over w.trace ++ change_first (is_in_air_by w.params.ttd w.now speaker) (with_hit (record { tap = tap; place = place })) (drop over w.trace) },
      record { now = w.now; spoke = None },
    )
damage-done w over tap speaker place at from cut there can =
    let es = drop over w.trace in
    let test = tap == speaker || not (has_place (find (is_in_air_by w.params.ttd w.now speaker) es) place) in
    let next : World = record w { params = plain w.params.ttd; trace = change_first (is_in_air_by w.params.ttd w.now speaker) (with_hit (record { tap = tap; place = place })) es; limit = 0 } in
    let reply : Reply = record { now = w.now; spoke = None } in
    damage-whole w over tap speaker place at from cut
    ∙ ap (λ (b : Bool). widened (take over w.trace) w.params w.limit (unless ((b, NoSuchTap) ∷ (test, NothingInAir) ∷ []) (next, reply))) there
    ∙ ap (λ (b : Bool). widened (take over w.trace) w.params w.limit (unless ((false, NoSuchTap) ∷ (b, NothingInAir) ∷ []) (next, reply))) (not-true test can)

pub damage-refused : (w : World) (over tap speaker : ℕ) (place : Option ℕ) (at from : Option Tap) (reason : WorldFault) → IsCut w.params.ttd w.now over w.trace
    → (is_none at || is_none from) ≡ false → RefusesHit (can_hit w.params.ttd speaker w.now (record { tap = tap; place = place }) (drop over w.trace)) reason
    → Refuses w (Damage tap speaker place) (step_damage w tap speaker place at from) reason
damage-refused w over tap speaker place at from fault.NoMemory cut there can =
    subst (λ r. Refuses w (Damage tap speaker place) r fault.NoMemory) (sym (damage-done w over tap speaker place at from cut there can)) (refl, refl)
damage-refused w over tap speaker place at from fault.NothingInAir cut there can =
    let es = drop over w.trace in
    let test = tap == speaker || not (has_place (find (is_in_air_by w.params.ttd w.now speaker) es) place) in
    let next : World = record w { params = plain w.params.ttd; trace = change_first (is_in_air_by w.params.ttd w.now speaker) (with_hit (record { tap = tap; place = place })) es; limit = 0 } in
    let reply : Reply = record { now = w.now; spoke = None } in
    subst (λ r. Refuses w (Damage tap speaker place) r fault.NothingInAir)
    (sym (
    damage-whole w over tap speaker place at from cut
    ∙ ap (λ (b : Bool). widened (take over w.trace) w.params w.limit (unless ((b, NoSuchTap) ∷ (test, NothingInAir) ∷ []) (next, reply))) there
    ∙ ap (λ (b : Bool). widened (take over w.trace) w.params w.limit (unless ((false, NoSuchTap) ∷ (b, NothingInAir) ∷ []) (next, reply))) (not-false test can)
    ))
    refl
damage-refused w over tap speaker place at from other cut there can = absurd can

-- ---- Start

pub start-done : (w : World) (over tap : ℕ) (t : Tap) → IsCut w.params.ttd w.now over w.trace → slice_get w.taps tap ≡ Some t → is_sending over w tap t ≡ false
    → step_start w tap (slice_get w.taps tap) ≡ Ok (record w { taps = slice_set w.taps tap (started_amid over w tap t) }, record { now = w.now; spoke = None })
start-done w over tap t cut at up =
    ap (λ o. step_start w tap o) at ∙ start-whole w over tap t cut
    ∙ ap (λ (b : Bool). unless ((b, Running) ∷ []) (record w { taps = slice_set w.taps tap (started_amid over w tap t) }, record { now = w.now; spoke = None })) up

pub start-missing : (w : World) (tap : ℕ) → slice_get w.taps tap ≡ None → Refuses w (Start tap) (step_start w tap (slice_get w.taps tap)) fault.NoSuchTap
start-missing w tap missing = subst (λ o. Refuses w (Start tap) (step_start w tap o) fault.NoSuchTap) (sym missing) refl

pub start-running : (w : World) (over tap : ℕ) (t : Tap) → IsCut w.params.ttd w.now over w.trace → slice_get w.taps tap ≡ Some t → is_sending over w tap t ≡ true
    → Refuses w (Start tap) (step_start w tap (slice_get w.taps tap)) fault.Running
start-running w over tap t cut at up =
    subst (λ r. Refuses w (Start tap) r fault.Running)
    (sym (
    ap (λ o. step_start w tap o) at ∙ start-whole w over tap t cut
    ∙ ap (λ (b : Bool). unless ((b, Running) ∷ []) (record w { taps = slice_set w.taps tap (started_amid over w tap t) }, record { now = w.now; spoke = None })) up
    ))
    refl

-- ---- Stop

pub stop-done : (w : World) (over tap : ℕ) (t : Tap) → IsCut w.params.ttd w.now over w.trace → slice_get w.taps tap ≡ Some t → t.running ≡ true
    → step_stop w tap (slice_get w.taps tap)
    ≡ Ok (record w { trace = take over w.trace ++ map (cut_at w.now tap) (drop over w.trace); taps = slice_set w.taps tap (halted t) }, record { now = w.now; spoke = None })
stop-done w over tap t cut at runs =
    let ending : Bool → List Entry → Result (World × Reply) Fault
    = λ b es. unless ((not b, NotRunning) ∷ []) (record w { trace = es; taps = slice_set w.taps tap (halted t) }, record { now = w.now; spoke = None }) in
    ap (λ o. step_stop w tap o) at ∙ ap (λ b. ending b (map (cut_at w.now tap) w.trace)) runs ∙ ap (ending true) (cut-whole w.params.ttd w.now over tap w.trace cut)

pub stop-missing : (w : World) (tap : ℕ) → slice_get w.taps tap ≡ None → Refuses w (Stop tap) (step_stop w tap (slice_get w.taps tap)) fault.NoSuchTap
stop-missing w tap missing = subst (λ o. Refuses w (Stop tap) (step_stop w tap o) fault.NoSuchTap) (sym missing) refl

pub stop-stopped : (w : World) (tap : ℕ) (t : Tap) → slice_get w.taps tap ≡ Some t → t.running ≡ false → Refuses w (Stop tap) (step_stop w tap (slice_get w.taps tap)) fault.NotRunning
stop-stopped w tap t at down =
    subst (λ r. Refuses w (Stop tap) r fault.NotRunning)
    (sym (
    ap (λ o. step_stop w tap o) at
    ∙ ap (λ (b : Bool). unless ((not b, NotRunning) ∷ []) (record w { trace = map (cut_at w.now tap) w.trace; taps = slice_set w.taps tap (halted t) }, record { now = w.now; spoke = None })) down
    ))
    refl

pub from-cut : (delay m now tap : ℕ) (es : List Entry) → AllFrom delay m es → AllFrom delay m (map (cut_at now tap) es)
from-cut delay m now tap [] from = tt
from-cut delay m now tap (Noise span ∷ es) from = (from.0, from-cut delay m now tap es from.1)
from-cut delay m now tap (Sent r ∷ es) from =
    by_test (λ (x : Record). AllFrom delay m (Sent x ∷ map (cut_at now tap) es)) (r.tap == tap) (record r { end = cut_end now r }) r
    (λ _. (from.0, from-cut delay m now tap es from.1)) (λ _. (from.0, from-cut delay m now tap es from.1))

-- ---- Queue

pub queue-done : (w : World) (tap : ℕ) (r : RequestFields) (t : Tap) → slice_get w.taps tap ≡ Some t → (t.running && t.spec.master) ≡ true
    → nat_le queue_limit (length (list_for t.station.cycles.queue r)) ≡ false
    → step_queue w tap r (slice_get w.taps tap) ≡ Ok (record w { taps = slice_set w.taps tap (record t { station = pushed t.station r }) }, record { now = w.now; spoke = None })
queue-done w tap r t at takes room =
    let ending : Bool → Bool → Result (World × Reply) Fault
    = λ a b. unless ((not a, NotRunning) ∷ (b, QueueFull) ∷ []) (record w { taps = slice_set w.taps tap (record t { station = pushed t.station r }) }, record { now = w.now; spoke = None }) in
    ap (λ o. step_queue w tap r o) at ∙ ap (λ a. ending a (nat_le queue_limit (length (list_for t.station.cycles.queue r)))) takes ∙ ap (ending true) room

pub queue-missing : (w : World) (tap : ℕ) (r : RequestFields) → slice_get w.taps tap ≡ None → Refuses w (Queue tap r) (step_queue w tap r (slice_get w.taps tap)) fault.NoSuchTap
queue-missing w tap r missing = subst (λ o. Refuses w (Queue tap r) (step_queue w tap r o) fault.NoSuchTap) (sym missing) refl

pub queue-idle : (w : World) (tap : ℕ) (r : RequestFields) (t : Tap) → slice_get w.taps tap ≡ Some t → (t.running && t.spec.master) ≡ false
    → Refuses w (Queue tap r) (step_queue w tap r (slice_get w.taps tap)) fault.NotRunning
queue-idle w tap r t at idle =
    subst (λ x. Refuses w (Queue tap r) x fault.NotRunning)
    (sym (
    ap (λ o. step_queue w tap r o) at
    ∙ ap (λ (a : Bool). unless ((not a, NotRunning) ∷ (nat_le queue_limit (length (list_for t.station.cycles.queue r)), QueueFull) ∷ []) (record w { taps = slice_set w.taps tap (record t { station = pushed t.station r }) }, record { now = w.now; spoke = None })) idle
    ))
    refl

pub queue-full : (w : World) (tap : ℕ) (r : RequestFields) (t : Tap) → slice_get w.taps tap ≡ Some t → (t.running && t.spec.master) ≡ true
    → nat_le queue_limit (length (list_for t.station.cycles.queue r)) ≡ true → Refuses w (Queue tap r) (step_queue w tap r (slice_get w.taps tap)) fault.QueueFull
queue-full w tap r t at takes full =
    let ending : Bool → Bool → Result (World × Reply) Fault
    = λ a b. unless ((not a, NotRunning) ∷ (b, QueueFull) ∷ []) (record w { taps = slice_set w.taps tap (record t { station = pushed t.station r }) }, record { now = w.now; spoke = None }) in
    subst (λ x. Refuses w (Queue tap r) x fault.QueueFull)
    (sym (ap (λ o. step_queue w tap r o) at ∙ ap (λ a. ending a (nat_le queue_limit (length (list_for t.station.cycles.queue r)))) takes ∙ ap (ending true) full)) refl

-- ---- Noise

pub noise-done : (w : World) (over bits : ℕ) → IsCut w.params.ttd w.now over w.trace → (bits == 0) ≡ false → has_no_room (has_noise w.now (drop over w.trace)) w.limit (length w.trace) ≡ false
    → step_noise w bits (is_noisy w) ≡ Ok (
      record w { trace = take over w.trace ++ with_noise w.now (w.now + bits) (has_noise w.now (drop over w.trace)) (drop over w.trace) },
      record { now = w.now; spoke = None },
    )
noise-done w over bits cut some room =
    let next = record w { trace = take over w.trace ++ with_noise w.now (w.now + bits) (has_noise w.now (drop over w.trace)) (drop over w.trace) } in
    let reply : Reply = record { now = w.now; spoke = None } in
    noise-whole w over bits cut
    ∙ ap (λ (b : Bool). unless ((b, ZeroTime) ∷ (has_no_room (has_noise w.now (drop over w.trace)) w.limit (length w.trace), TraceFull) ∷ []) (next, reply)) some
    ∙ ap (λ (b : Bool). unless ((false, ZeroTime) ∷ (b, TraceFull) ∷ []) (next, reply)) room

pub noise-refused : (w : World) (over bits : ℕ) (reason : WorldFault) → IsCut w.params.ttd w.now over w.trace → RefusesNoise bits (has_noise w.now (drop over w.trace)) w.limit (length w.trace) reason
    → Refuses w (world.Noise bits) (step_noise w bits (is_noisy w)) reason
noise-refused w over bits fault.ZeroTime cut none =
    let next = record w { trace = take over w.trace ++ with_noise w.now (w.now + bits) (has_noise w.now (drop over w.trace)) (drop over w.trace) } in
    let reply : Reply = record { now = w.now; spoke = None } in
    subst (λ r. Refuses w (world.Noise bits) r fault.ZeroTime)
    (sym (
    noise-whole w over bits cut
    ∙ ap (λ (b : Bool). unless ((b, ZeroTime) ∷ (has_no_room (has_noise w.now (drop over w.trace)) w.limit (length w.trace), TraceFull) ∷ []) (next, reply)) none
    ))
    refl
noise-refused w over bits fault.TraceFull cut (some, full) =
    let next = record w { trace = take over w.trace ++ with_noise w.now (w.now + bits) (has_noise w.now (drop over w.trace)) (drop over w.trace) } in
    let reply : Reply = record { now = w.now; spoke = None } in
    subst (λ r. Refuses w (world.Noise bits) r fault.TraceFull)
    (sym (
    noise-whole w over bits cut
    ∙ ap (λ (b : Bool). unless ((b, ZeroTime) ∷ (has_no_room (has_noise w.now (drop over w.trace)) w.limit (length w.trace), TraceFull) ∷ []) (next, reply)) some
    ∙ ap (λ (b : Bool). unless ((false, ZeroTime) ∷ (b, TraceFull) ∷ []) (next, reply)) full
    ))
    refl
noise-refused w over bits fault.NoMemory cut (some, room, silent) =
    subst (λ r. Refuses w (world.Noise bits) r fault.NoMemory) (sym (noise-done w over bits cut some room)) (ap not (noisy-behind w over cut ∙ silent), refl)
noise-refused w over bits other cut wrong = absurd wrong

pub from-noise : (delay m now end : ℕ) (noisy : Bool) (es : List Entry) → m ≤ now → AllFrom delay m es → AllFrom delay m (with_noise now end noisy es)
from-noise delay m now end true es later from = from-changed delay m (is_noise_at now) (noisy_until end) es (begin-noisy_until delay end) from
from-noise delay m now end false es later from = from-entered delay m (Noise (record { begin = now; end = end })) es later from

-- ---- Unheard

pub unheard-done : (w : World) (over tap speaker : ℕ) (at from : Option Tap) → IsCut w.params.ttd w.now over w.trace → (is_none at || is_none from) ≡ false
    → has_nothing_to_lose tap speaker w.now (drop over w.trace) ≡ false
    → step_unheard w tap speaker at from ≡ Ok (
      record w { trace = take over w.trace ++ change_first (begins_from w.now speaker) (unheard_at tap) (drop over w.trace) },
      record { now = w.now; spoke = None },
    )
unheard-done w over tap speaker at from cut there some =
    let next = record w { trace = take over w.trace ++ change_first (begins_from w.now speaker) (unheard_at tap) (drop over w.trace) } in
    let reply : Reply = record { now = w.now; spoke = None } in
    unheard-whole w over tap speaker at from cut
    ∙ ap (λ (b : Bool). unless ((b, NoSuchTap) ∷ (has_nothing_to_lose tap speaker w.now (drop over w.trace), NothingInAir) ∷ []) (next, reply)) there
    ∙ ap (λ (b : Bool). unless ((false, NoSuchTap) ∷ (b, NothingInAir) ∷ []) (next, reply)) some

pub unheard-refused : (w : World) (over tap speaker : ℕ) (at from : Option Tap) (reason : WorldFault) → IsCut w.params.ttd w.now over w.trace → (is_none at || is_none from) ≡ false
    → has_nothing_to_lose tap speaker w.now (drop over w.trace) ≡ true → reason ≡ fault.NothingInAir → Refuses w (world.Unheard tap speaker) (step_unheard w tap speaker at from) reason
unheard-refused w over tap speaker at from reason cut there nothing is =
    let next = record w { trace = take over w.trace ++ change_first (begins_from w.now speaker) (unheard_at tap) (drop over w.trace) } in
    let reply : Reply = record { now = w.now; spoke = None } in
    subst (λ r. Refuses w (world.Unheard tap speaker) r reason)
    (sym (
    unheard-whole w over tap speaker at from cut
    ∙ ap (λ (b : Bool). unless ((b, NoSuchTap) ∷ (has_nothing_to_lose tap speaker w.now (drop over w.trace), NothingInAir) ∷ []) (next, reply)) there
    ∙ ap (λ (b : Bool). unless ((false, NoSuchTap) ∷ (b, NothingInAir) ∷ []) (next, reply)) nothing
    ))
    is

-- ---- Turn

-- the turn of a running tap
turn-by : (w : World) (tap : ℕ) (t : Tap) (s : Station) (said : Option (List ℕ)) → slice_get w.taps tap ≡ Some t → t.running ≡ true
    → (s, said) ≡ turn_of w.params t.station t.marks w.now
    → step w (Turn tap) ≡ unless ((is_full said w.limit (length w.trace), TraceFull) ∷ []) (
      record w { trace = with_said tap said w.now w.taps w.trace; taps = slice_set w.taps tap (record t { station = s; marks = [] }) },
      record { now = w.now; spoke = said },
    )
turn-by w tap t s said at runs turns =
    ap (λ o. step_turn w tap o) at ∙ ap (after_turn w tap t) (sym turns)
    ∙ ap (λ (b : Bool). unless ((not b, NotRunning) ∷ (is_full said w.limit (length w.trace), TraceFull) ∷ []) (
      record w { trace = with_said tap said w.now w.taps w.trace; taps = slice_set w.taps tap (record t { station = s; marks = [] }) },
      record { now = w.now; spoke = said },
    )) runs

said-behind : (w : World) (over tap : ℕ) (said : Option (List ℕ)) → IsCut w.params.ttd w.now over w.trace
    → with_said tap said w.now w.taps w.trace ≡ take over w.trace ++ with_said tap said w.now w.taps (drop over w.trace)
said-behind w over tap None cut = sym (take-append-drop over w.trace)
said-behind w over tap (Some octets) (m, at, some, old, begun) =
    let e : Entry = Sent (sending tap octets w.now w.taps) in
    ap (with_entry e) (sym (take-append-drop over w.trace)) ∙ entered-behind w.params.ttd m e (take over w.trace) (drop over w.trace) old at

pub turn-done : (w : World) (over tap : ℕ) (t : Tap) (s : Station) (said : Option (List ℕ)) → slice_get w.taps tap ≡ Some t → t.running ≡ true
    → (s, said) ≡ turn_of w.params t.station t.marks w.now → IsCut w.params.ttd w.now over w.trace → is_full said w.limit (length w.trace) ≡ false
    → step w (Turn tap) ≡ Ok (
      record w {
        trace = take over w.trace ++ with_said tap said w.now w.taps (drop over w.trace);
        taps = slice_set w.taps tap (record t { station = s; marks = [] });
      },
      record { now = w.now; spoke = said },
    )
turn-done w over tap t s said at runs turns cut room =
    let taps = slice_set w.taps tap (record t { station = s; marks = [] }) in
    let reply : Reply = record { now = w.now; spoke = said } in
    turn-by w tap t s said at runs turns
    ∙ ap (λ (b : Bool). unless ((b, TraceFull) ∷ []) (record w { trace = with_said tap said w.now w.taps w.trace; taps = taps }, reply)) room
    ∙ ap (λ es. Ok (record w { trace = es; taps = taps }, reply)) (said-behind w over tap said cut)

pub turn-refused : (w : World) (tap : ℕ) (t : Tap) (s : Station) (said : Option (List ℕ)) (reason : WorldFault) → slice_get w.taps tap ≡ Some t → t.running ≡ true
    → (s, said) ≡ turn_of w.params t.station t.marks w.now → RefusesSaid said w.limit (length w.trace) reason → Refuses w (Turn tap) (step w (Turn tap)) reason
turn-refused w tap t s said fault.TraceFull at runs turns full =
    let next = record w { trace = with_said tap said w.now w.taps w.trace; taps = slice_set w.taps tap (record t { station = s; marks = [] }) } in
    let reply : Reply = record { now = w.now; spoke = said } in
    subst (λ r. Refuses w (Turn tap) r fault.TraceFull) (sym (turn-by w tap t s said at runs turns ∙ ap (λ (b : Bool). unless ((b, TraceFull) ∷ []) (next, reply)) full)) refl
turn-refused w tap t s said fault.NoMemory at runs turns room =
    let next = record w { trace = with_said tap said w.now w.taps w.trace; taps = slice_set w.taps tap (record t { station = s; marks = [] }) } in
    let reply : Reply = record { now = w.now; spoke = said } in
    subst (λ r. Refuses w (Turn tap) r fault.NoMemory) (sym (turn-by w tap t s said at runs turns ∙ ap (λ (b : Bool). unless ((b, TraceFull) ∷ []) (next, reply)) room.0)) (room.1, refl)
turn-refused w tap t s said other at runs turns wrong = absurd wrong

-- what is said at the clock goes behind what is over
pub from-said : (delay m tap now : ℕ) (said : Option (List ℕ)) (ts : List Tap) (es : List Entry) → m ≤ now → AllFrom delay m es
    → AllFrom delay m (with_said tap said now ts es)
from-said delay m tap now None ts es at from = from
from-said delay m tap now (Some octets) ts es at from = from-entered delay m (Sent (sending tap octets now ts)) es (omega (arith, at)) from

-- where a trace has room for what is said, it is not full
pub room-said : (said : Option (List ℕ)) (before roomy : Trace) → StaysAs before roomy → (is_some said ≡ true → HasRoom roomy) → is_full said (limit_of before) (length (entries_of before)) ≡ false
room-said None before roomy same room = refl
room-said (Some octets) before roomy same room =
    let few = (room refl).few in
    lt-leb (limit_of before) (length (entries_of before)) (omega (arith, few, same.limit, length-map roomy.entries.items entry_of, ap length same.entries))
