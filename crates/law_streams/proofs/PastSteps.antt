-- What is past rides along: each event has the same effect without it.
use Rattle.std.proofs.Common.{◌≡◌, ◌∙◌, ap, refl, arith, ℕ, ◌+◌, ◌≤◌, ◌==◌, ◌||◌, ◌&&◌, nat_lt, nat_le, ◌++◌, List, [], ◌∷◌, length, map, Bool, true, false, not, if◌then◌else◌, Option, Some, None, Result}
use Rattle.std.specs.Prelude.{find, is_none, slice_get, slice_set}
use Rattle.std.specs.List.{list_any}
use Rattle.std.proofs.lemmas.Bool.{le-ltb, ne_eqb}
use Rattle.std.proofs.lemmas.Bool.Decides.{nat_tests}
use Rattle.std.proofs.lemmas.List.{length-append}
use Rattle.pb_faults.specs.FirstFault.{first_fault}
use Rattle.pb_cycles.specs.RequestFields.{RequestFields}
use Rattle.law_turn.specs.Stations.{earlier, list_for, pushed, started}
use Rattle.law_model.specs.Trace as trace
use Rattle.law_model.specs.Trace.{Entry, Hit, Sent, cut_at, is_noise_at, begins_from, unheard_at, noisy_until, entry_begin, rank, with_entry}
use Rattle.law_model.specs.Medium.{Tap}
use Rattle.law_model.specs.World.{World, Event, Turn, Pass, Damage, Start, Stop, Queue, Noise, Unheard, Reply, Fault, NoSuchTap, Running, NotRunning, NothingInAir, ZeroTime, QueueFull, TraceFull, is_in_air_by, next_end_of, queue_limit, unless, unless_fault}
use Rattle.law_model.specs.Step.{change_first, has_place, halted, is_noisy, reaches_now, step, step_damage, step_noise, step_queue, step_start, step_stop, step_unheard, with_hit, with_noise}
use Rattle.law_model.specs.Laws.{AllOver}
use Rattle.law_model.specs.Behind.{behind, all_behind, IsPast}
use Rattle.law_model.proofs.Behind.{pass-behind, turn-behind}
use Rattle.law_model.proofs.Past.{ended-by, next_end_of-skip}
use Rattle.law_runs.specs.Bus.{is_in_air, next_change, next_known, started_now}
use Rattle.law_streams.proofs.PastEntries.{any-behind, changed-behind, cut-behind, find-behind, known-behind, none-begins, none-in-air, none-noisy, none-reaches, none-still-in-air}

behind-unless : (old : List Entry) (tests : List (Bool × Fault)) (w : World) (reply : Reply)
    → unless tests (behind old w, reply) ≡ all_behind old (unless tests (w, reply))
behind-unless old tests w reply = by_fault (first_fault tests)
  where
    by_fault : (o : Option Fault) → unless_fault o (behind old w, reply) ≡ all_behind old (unless_fault o (w, reply))
    by_fault None = refl
    by_fault (Some f) = refl

-- ---- Damage

damage-behind : (old : List Entry) (w : World) (tap speaker : ℕ) (place : Option ℕ) (at from : Option Tap) → IsPast old w
    → step_damage (behind old w) tap speaker place at from ≡ all_behind old (step_damage w tap speaker place at from)
damage-behind old w tap speaker place at from (m, later, over, begun) =
    let test = is_in_air_by w.params.ttd w.now speaker in
    let hit = with_hit (record { tap = tap; place = place }) in
    let none = none-in-air w.params.ttd m w.now speaker old over later in
    let reply : Reply = record { now = w.now; spoke = None } in
    let tests : Option Entry → List (Bool × Fault)
    = λ o. (is_none at || is_none from, NoSuchTap) ∷ (tap == speaker || not (has_place o place), NothingInAir) ∷ [] in
    let ending : Option Entry → List Entry → Result (World × Reply) Fault
    = λ o es. unless (tests o) (record w { trace = es; limit = length old + w.limit }, reply) in
    ap (λ o. ending o (change_first test hit (old ++ w.trace))) (find-behind test old w.trace none)
    ∙ ap (ending (find test w.trace)) (changed-behind test hit old w.trace none)
    ∙ behind-unless old (tests (find test w.trace)) (record w { trace = change_first test hit w.trace }) reply

-- ---- Start, Stop and Queue

start-behind : (old : List Entry) (w : World) (tap : ℕ) (o : Option Tap) → IsPast old w → step_start (behind old w) tap o ≡ all_behind old (step_start w tap o)
start-behind old w tap None past = refl
start-behind old w tap (Some t) (m, later, over, begun) =
    let sends = is_in_air_by w.params.ttd w.now tap in
    let reaches = reaches_now w.params.ttd tap w.now in
    let reply : Reply = record { now = w.now; spoke = None } in
    let tap_of : Bool → Tap = λ amid. record t { running = true; since = w.now; amid = amid; station = started w.params t.station t.spec.master w.now; marks = [] } in
    let ending : Bool → Bool → Result (World × Reply) Fault
    = λ sending amid. unless ((t.running || sending, Running) ∷ [])
    (record w { trace = old ++ w.trace; taps = slice_set w.taps tap (tap_of amid); limit = length old + w.limit }, reply) in
    ap (λ b. ending b (list_any reaches (old ++ w.trace))) (any-behind sends old w.trace (none-in-air w.params.ttd m w.now tap old over later))
    ∙ ap (ending (list_any sends w.trace)) (any-behind reaches old w.trace (none-reaches w.params.ttd m w.now tap old over later))
    ∙ behind-unless old ((t.running || list_any sends w.trace, Running) ∷ []) (record w { taps = slice_set w.taps tap (tap_of (list_any reaches w.trace)) }) reply

stop-behind : (old : List Entry) (w : World) (tap : ℕ) (o : Option Tap) → IsPast old w → step_stop (behind old w) tap o ≡ all_behind old (step_stop w tap o)
stop-behind old w tap None past = refl
stop-behind old w tap (Some t) (m, later, over, begun) =
    let tests : List (Bool × Fault) = (not t.running, NotRunning) ∷ [] in
    let reply : Reply = record { now = w.now; spoke = None } in
    let taps = slice_set w.taps tap (halted t) in
    ap (λ (es : List Entry). unless tests (let next : World = record w { trace = es; taps = taps; limit = length old + w.limit } in next, reply)) (cut-behind w.params.ttd m w.now tap old w.trace over later)
    ∙ behind-unless old tests (record w { trace = map (cut_at w.now tap) w.trace; taps = taps }) reply

queue-behind : (old : List Entry) (w : World) (tap : ℕ) (r : RequestFields) (o : Option Tap) → step_queue (behind old w) tap r o ≡ all_behind old (step_queue w tap r o)
queue-behind old w tap r None = refl
queue-behind old w tap r (Some t) =
    behind-unless old ((not (t.running && t.spec.master), NotRunning) ∷ (nat_le queue_limit (length (list_for t.station.cycles.queue r)), QueueFull) ∷ [])
    (record w { taps = slice_set w.taps tap (record t { station = pushed t.station r }) }) (record { now = w.now; spoke = None })

-- ---- Noise and Unheard

more-room : (a b c : ℕ) → nat_le (a + b) (a + c) ≡ nat_le b c
more-room a b c = grind (arith, nat_tests)

same-room : (old es : List Entry) (limit : ℕ) → nat_le (length old + limit) (length (old ++ es)) ≡ nat_le limit (length es)
same-room old es limit = ap (nat_le (length old + limit)) (length-append old es) ∙ more-room (length old) limit (length es)

entered-last : (delay m : ℕ) (e : Entry) (old es : List Entry) → AllOver delay m old → m ≤ entry_begin e → with_entry e (old ++ es) ≡ old ++ with_entry e es
entered-last delay m e [] es over later = refl
entered-last delay m e (x ∷ old) es over later =
    ap (λ (b : Bool). if b || (entry_begin e == entry_begin x && nat_lt (rank e) (rank x)) then e ∷ x ∷ (old ++ es) else x ∷ with_entry e (old ++ es))
    (le-ltb (entry_begin e) (entry_begin x) (omega (arith, over.0, ended-by delay m x over.1, later)))
    ∙ ap (λ (b : Bool). if b && nat_lt (rank e) (rank x) then e ∷ x ∷ (old ++ es) else x ∷ with_entry e (old ++ es))
    (ne_eqb (entry_begin e) (entry_begin x) (λ same. omega (arith, same, over.0, ended-by delay m x over.1, later)))
    ∙ ap (λ xs. x ∷ xs) (entered-last delay m e old es over.2 later)

noisy-behind : (delay m now end : ℕ) (noisy : Bool) (old es : List Entry) → AllOver delay m old → m ≤ now → with_noise now end noisy (old ++ es) ≡ old ++ with_noise now end noisy es
noisy-behind delay m now end true old es over later = changed-behind (is_noise_at now) (noisy_until end) old es (none-noisy delay m now old over later)
noisy-behind delay m now end false old es over later = entered-last delay m (trace.Noise (record { begin = now; end = end })) old es over later

noise-behind : (old : List Entry) (w : World) (bits : ℕ) → IsPast old w → step_noise (behind old w) bits (is_noisy (behind old w)) ≡ all_behind old (step_noise w bits (is_noisy w))
noise-behind old w bits (m, later, over, begun) =
    let noisy = is_noisy w in
    let reply : Reply = record { now = w.now; spoke = None } in
    let tests : Bool → List (Bool × Fault) = λ full. (bits == 0, ZeroTime) ∷ (not noisy && full, TraceFull) ∷ [] in
    let ending : Bool → List Entry → Result (World × Reply) Fault
    = λ full es. unless (tests full) (record w { trace = es; limit = length old + w.limit }, reply) in
    ap (step_noise (behind old w) bits) (any-behind (is_noise_at w.now) old w.trace (none-noisy w.params.ttd m w.now old over later))
    ∙ ap (λ full. ending full (with_noise w.now (w.now + bits) noisy (old ++ w.trace))) (same-room old w.trace w.limit)
    ∙ ap (ending (nat_le w.limit (length w.trace))) (noisy-behind w.params.ttd m w.now (w.now + bits) noisy old w.trace over later)
    ∙ behind-unless old (tests (nat_le w.limit (length w.trace))) (record w { trace = with_noise w.now (w.now + bits) noisy w.trace }) reply

unheard-behind : (old : List Entry) (w : World) (tap speaker : ℕ) (at from : Option Tap) → IsPast old w
    → step_unheard (behind old w) tap speaker at from ≡ all_behind old (step_unheard w tap speaker at from)
unheard-behind old w tap speaker at from (m, later, over, begun) =
    let test = begins_from w.now speaker in
    let none = none-begins w.params.ttd m w.now speaker old over later in
    let reply : Reply = record { now = w.now; spoke = None } in
    let tests : Bool → List (Bool × Fault)
    = λ b. (is_none at || is_none from, NoSuchTap) ∷ (tap == speaker || not b, NothingInAir) ∷ [] in
    let ending : Bool → List Entry → Result (World × Reply) Fault
    = λ b es. unless (tests b) (record w { trace = es; limit = length old + w.limit }, reply) in
    ap (λ b. ending b (change_first test (unheard_at tap) (old ++ w.trace))) (any-behind test old w.trace none)
    ∙ ap (ending (list_any test w.trace)) (changed-behind test (unheard_at tap) old w.trace none)
    ∙ behind-unless old (tests (list_any test w.trace)) (record w { trace = change_first test (unheard_at tap) w.trace }) reply

-- ---- every event, and what changes next

pub step-behind : (old : List Entry) (w : World) (e : Event) → IsPast old w → step (behind old w) e ≡ all_behind old (step w e)
step-behind old w (Turn tap) past = turn-behind old w tap (slice_get w.taps tap) past
step-behind old w (Pass d) past = pass-behind old w d past
step-behind old w (Damage tap speaker place) past = damage-behind old w tap speaker place (slice_get w.taps tap) (slice_get w.taps speaker) past
step-behind old w (Start tap) past = start-behind old w tap (slice_get w.taps tap) past
step-behind old w (Stop tap) past = stop-behind old w tap (slice_get w.taps tap) past
step-behind old w (Queue tap r) past = queue-behind old w tap r (slice_get w.taps tap)
step-behind old w (Noise bits) past = noise-behind old w bits past
step-behind old w (Unheard tap speaker) past = unheard-behind old w tap speaker (slice_get w.taps tap) (slice_get w.taps speaker) past

pub change-behind : (old : List Entry) (w : World) → IsPast old w → next_change (behind old w) ≡ next_change w
change-behind old w (m, later, over, begun) =
    let delay = w.params.ttd in
    let starts = list_any (started_now w.now) w.taps in
    let whole = old ++ w.trace in
    let ending : Option ℕ → Option ℕ → Bool → Option ℕ
    = λ end known amid. earlier end (earlier known (if starts && amid then Some (w.now + 1) else None)) in
    ap (λ o. ending o (next_known delay w.now whole) (list_any (is_in_air delay w.now) whole)) (next_end_of-skip delay m w.now old w.trace over later)
    ∙ ap (λ o. ending (next_end_of delay w.now w.trace) o (list_any (is_in_air delay w.now) whole)) (known-behind delay m w.now old w.trace over later)
    ∙ ap (ending (next_end_of delay w.now w.trace) (next_known delay w.now w.trace)) (any-behind (is_in_air delay w.now) old w.trace (none-still-in-air delay m w.now old over later))
