-- What is let go rides along: a step of the rest is a step of the whole.
use Rattle.std.proofs.Common.{◌≡◌, ◌∙◌, ap, sym, refl, arith, ℕ, ◌+◌, ◌≤◌, ◌<◌, ◌==◌, ◌||◌, ◌&&◌, nat_lt, nat_le, ◌++◌, List, [], ◌∷◌, map, length, Bool, true, false, not, if◌then◌else◌, Option, Some, None, Ok, Err, Result}
use Rattle.std.specs.Prelude.{is_some, unwrap_or, slice_get, slice_set}
use Rattle.std.proofs.lemmas.Bool.{le-ltb, ne_eqb}
use Rattle.std.proofs.lemmas.List.{length-append}
use Rattle.std.proofs.lemmas.Bool.Decides.{nat_tests}
use Rattle.pb_faults.specs.FirstFault.{first_fault}
use Rattle.law_turn.specs.Marks.{Mark}
use Rattle.law_turn.specs.Stations.{Station}
use Rattle.law_turn.specs.Turns.{turn_of}
use Rattle.law_model.specs.Trace.{Entry, Sent, entry_begin, rank, goes_before, with_entry}
use Rattle.law_model.specs.Medium.{Tap, new_marks, entry_at}
use Rattle.law_model.specs.World.{World, Reply, Fault, NotRunning, TraceFull, ZeroTime, TooFar, ClockFull, InboxFull, clock_limit, unless, unless_fault, next_end_of}
use Rattle.law_model.specs.Step.{sending, with_said, step_turn, told, first_full, is_past, step_pass}
use Rattle.law_model.specs.Laws.{AllOver, AllFrom}
use Rattle.law_model.specs.Behind.{behind, all_behind, IsPast}
use Rattle.law_model.proofs.Past.{ended-by, marks_between-skip, next_end_of-skip, trace_at-skip}

behind-unless : (old : List Entry) (tests : List (Bool × Fault)) (w : World) (reply : Reply)
    → unless tests (behind old w, reply) ≡ all_behind old (unless tests (w, reply))
behind-unless old tests w reply = by_fault (first_fault tests)
  where
    by_fault : (o : Option Fault) → unless_fault o (behind old w, reply) ≡ all_behind old (unless_fault o (w, reply))
    by_fault None = refl
    by_fault (Some f) = refl

-- there is as much room as before
more-room : (a b c : ℕ) → nat_le (a + b) (a + c) ≡ nat_le b c
more-room a b c = grind (arith, nat_tests)

same-room : (old es : List Entry) (limit : ℕ) → nat_le (length old + limit) (length (old ++ es)) ≡ nat_le limit (length es)
same-room old es limit = ap (nat_le (length old + limit)) (length-append old es) ∙ more-room (length old) limit (length es)

entered-last : (delay m : ℕ) (e : Entry) (old recent : List Entry) → AllOver delay m old → m ≤ entry_begin e → with_entry e (old ++ recent) ≡ old ++ with_entry e recent
entered-last delay m e [] recent over later = refl
entered-last delay m e (x ∷ old) recent over later =
    ap (λ (b : Bool). if b || (entry_begin e == entry_begin x && nat_lt (rank e) (rank x)) then e ∷ x ∷ (old ++ recent) else x ∷ with_entry e (old ++ recent))
    (le-ltb (entry_begin e) (entry_begin x) (omega (arith, over.0, ended-by delay m x over.1, later)))
    ∙ ap (λ (b : Bool). if b && nat_lt (rank e) (rank x) then e ∷ x ∷ (old ++ recent) else x ∷ with_entry e (old ++ recent))
    (ne_eqb (entry_begin e) (entry_begin x) (λ same. omega (arith, same, over.0, ended-by delay m x over.1, later)))
    ∙ ap (λ es. x ∷ es) (entered-last delay m e old recent over.2 later)

said-last : (delay m tap : ℕ) (said : Option (List ℕ)) (now : ℕ) (ts : List Tap) (old recent : List Entry) → AllOver delay m old → m ≤ now
    → with_said tap said now ts (old ++ recent) ≡ old ++ with_said tap said now ts recent
said-last delay m tap None now ts old recent over later = refl
said-last delay m tap (Some octets) now ts old recent over later = entered-last delay m (Sent (sending tap octets now ts)) old recent over later

-- ---- Turn

pub turn-behind : (old : List Entry) (w : World) (tap : ℕ) (o : Option Tap) → IsPast old w → step_turn (behind old w) tap o ≡ all_behind old (step_turn w tap o)
turn-behind old w tap None past = refl
turn-behind old w tap (Some t) (m, later, over, begun) =
    let turn = turn_of w.params t.station t.marks w.now in
    let reply : Reply = record { now = w.now; spoke = turn.1 } in
    let taps = slice_set w.taps tap (record t { station = turn.0; marks = [] }) in
    let ending : Bool → List Entry → Result (World × Reply) Fault
    = λ full es. unless ((not t.running, NotRunning) ∷ (is_some turn.1 && full, TraceFull) ∷ [])
    (record w { trace = es; taps = taps; limit = length old + w.limit }, reply) in
    ap (λ full. ending full (with_said tap turn.1 w.now w.taps (old ++ w.trace))) (same-room old w.trace w.limit)
    ∙ ap (ending (nat_le w.limit (length w.trace))) (said-last w.params.ttd m tap turn.1 w.now w.taps old w.trace over later)
    ∙ behind-unless old ((not t.running, NotRunning) ∷ (is_some turn.1 && nat_le w.limit (length w.trace), TraceFull) ∷ [])
    (record w { trace = with_said tap turn.1 w.now w.taps w.trace; taps = taps }) reply

-- ---- Pass

told-last : (delay m from to k : ℕ) (old recent : List Entry) (ts : List Tap) → AllOver delay m old → AllFrom delay m recent → m ≤ from
    → told delay (old ++ recent) from to k ts ≡ told delay recent from to k ts
told-last delay m from to k old recent [] over begun later = refl
told-last delay m from to k old recent (t ∷ ts) over begun later =
    ap (λ (ms : List Mark). record t { marks = t.marks ++ (if t.running then ms else []) } ∷ told delay (old ++ recent) from to (k + 1) ts)
    (marks_between-skip delay k m from to t old recent over begun later)
    ∙ ap (λ (us : List Tap). record t { marks = t.marks ++ new_marks delay k t recent from to } ∷ us) (told-last delay m from to (k + 1) old recent ts over begun later)

pub pass-behind : (old : List Entry) (w : World) (d : ℕ) → IsPast old w → step_pass (behind old w) d ≡ all_behind old (step_pass w d)
pass-behind old w d (m, later, over, begun) =
    let to = w.now + d in
    let reply : Reply = record { now = to; spoke = None } in
    let tests : Option ℕ → List Tap → List (Bool × Fault)
    = λ o ts. (d == 0, ZeroTime) ∷ (is_past o to, TooFar (unwrap_or o 0)) ∷ (nat_lt clock_limit to, ClockFull)
    ∷ (is_some (first_full 0 ts), InboxFull (unwrap_or (first_full 0 ts) 0)) ∷ [] in
    let ending : Option ℕ → List Tap → List Entry → Result (World × Reply) Fault
    = λ o ts es. unless (tests o ts) (record w { now = to; trace = es; taps = ts; limit = length old + w.limit }, reply) in
    let delay = w.params.ttd in
    let whole = old ++ w.trace in
    ap (λ o. ending o (told delay whole w.now to 0 w.taps) (map (entry_at delay w.taps whole w.now to) whole)) (next_end_of-skip delay m w.now old w.trace over later)
    ∙ ap (λ ts. ending (next_end_of delay w.now w.trace) ts (map (entry_at delay w.taps whole w.now to) whole)) (told-last delay m w.now to 0 old w.trace w.taps over begun later)
    ∙ ap (λ es. ending (next_end_of delay w.now w.trace) (told delay w.trace w.now to 0 w.taps) es) (trace_at-skip delay m w.now to w.taps old w.trace over begun later)
    ∙ behind-unless old (tests (next_end_of delay w.now w.trace) (told delay w.trace w.now to 0 w.taps))
    (record w { now = to; trace = map (entry_at delay w.taps w.trace w.now to) w.trace; taps = told delay w.trace w.now to 0 w.taps }) reply
