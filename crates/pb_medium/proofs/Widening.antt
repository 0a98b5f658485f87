-- What has ended rides along: a step of the recent entries alone is a step of all.
use Rattle.std.proofs.Common.{◌≡◌, ◌∙◌, ap, sym, refl, arith, ℕ, ◌+◌, ◌≤◌, ◌==◌, nat_lt, nat_le, ◌++◌, List, [], ◌∷◌, map, length, Bool, true, false, not, ◌&&◌, ◌||◌, cond, if◌then◌else◌, Option, Some, None, Ok, Err, Result}
use Rattle.std.specs.Prelude.{take, drop, find, is_some, is_none, unwrap_or, slice_get, slice_set}
use Rattle.std.specs.List.{list_any}
use Rattle.std.proofs.lemmas.Bool.{le-ltb, ne_eqb}
use Rattle.std.proofs.lemmas.List.{take-append-drop, map-append}
use Rattle.std.proofs.lemmas.List.Folds.{list_any-append}
use Rattle.pb_faults.specs.FirstFault.{first_fault}
use Rattle.pb_timers.specs.Timers.{Params}
use Rattle.law_turn.specs.Spans.{Span}
use Rattle.law_turn.specs.Marks.{Mark}
use Rattle.law_turn.specs.Stations.{started}
use Rattle.law_model.specs.Trace.{Record, Entry, Sent, Noise, cut_end, cut_at, is_noise_at, noisy_until, begins_from, unheard_at}
use Rattle.law_model.specs.Medium.{Tap, is_unheard, new_marks, entry_at, reaches}
use Rattle.law_model.specs.World.{World, Reply, Fault, NoSuchTap, Running, NothingInAir, ZeroTime, TooFar, ClockFull, InboxFull, TraceFull, clock_limit, unless, unless_fault, next_end_of, is_in_air_by}
use Rattle.law_model.specs.Step.{told, first_full, is_past, step_pass, with_hit, change_first, has_place, step_damage, is_there, reaches_now, step_start, with_noise, is_noisy, step_noise, step_unheard}
use Rattle.law_model.specs.Laws.{AllOver, AllFrom}
use Rattle.law_model.proofs.Cases.{by_test}
use Rattle.law_model.proofs.Past.{marks_between-skip, next_end_of-skip, trace_at-skip}
use Rattle.pb_medium.specs.Airs.{plain, IsCut}
use Rattle.pb_medium.specs.Losing.{has_nothing_to_lose}
use Rattle.pb_medium.specs.Noising.{has_noise, has_no_room}
use Rattle.pb_medium.proofs.Entering.{entered-behind}
use Rattle.std.proofs.Math.Bool.{and-false}

-- ---- a world with old entries in front of its own, and other parameters

abbrev pub widened : List Entry → Params → ℕ → Result (World × Reply) Fault → Result (World × Reply) Fault
widened old p limit (Ok next) = Ok (record next.0 { params = p; trace = old ++ next.0.trace; limit = limit }, next.1)
widened old p limit (Err f) = Err f

widened-unless : (old : List Entry) (p : Params) (limit : ℕ) (tests : List (Bool × Fault)) (w : World) (reply : Reply)
    → unless tests (record w { params = p; trace = old ++ w.trace; limit = limit }, reply) ≡ widened old p limit (unless tests (w, reply))
widened-unless old p limit tests w reply = by_fault (first_fault tests)
  where
    by_fault : (o : Option Fault) → unless_fault o (record w { params = p; trace = old ++ w.trace; limit = limit }, reply) ≡ widened old p limit (unless_fault o (w, reply))
    by_fault None = refl
    by_fault (Some f) = refl

-- ---- Pass

told-skip : (delay m from to k : ℕ) (old recent : List Entry) (ts : List Tap) → AllOver delay m old → AllFrom delay m recent → m ≤ from
    → told delay (old ++ recent) from to k ts ≡ told delay recent from to k ts
told-skip delay m from to k old recent [] over begun later = refl
told-skip delay m from to k old recent (t ∷ ts) over begun later =
    ap (λ (ms : List Mark). record t { marks = t.marks ++ (if t.running then ms else []) } ∷ told delay (old ++ recent) from to (k + 1) ts)
    (marks_between-skip delay k m from to t old recent over begun later)
    ∙ ap (λ (us : List Tap). record t { marks = t.marks ++ new_marks delay k t recent from to } ∷ us) (told-skip delay m from to (k + 1) old recent ts over begun later)

pass-wide : (p : Params) (limit : ℕ) (old recent : List Entry) (now d m : ℕ) (taps : List Tap) → AllOver p.ttd m old → AllFrom p.ttd m recent → m ≤ now
    → step_pass (record { params = p; now = now; trace = old ++ recent; taps = taps; limit = limit }) d
    ≡ widened old p limit (step_pass (record { params = plain p.ttd; now = now; trace = recent; taps = taps; limit = 0 }) d)
pass-wide p limit old recent now d m taps over begun later =
    let to = now + d in
    let reply : Reply = record { now = to; spoke = None } in
    let ending : Option ℕ → List Tap → List Entry → Result (World × Reply) Fault
    = λ o ts es. unless (
    (d == 0, ZeroTime) ∷ (is_past o to, TooFar (unwrap_or o 0)) ∷ (nat_lt clock_limit to, ClockFull)
    ∷ (is_some (first_full 0 ts), InboxFull (unwrap_or (first_full 0 ts) 0)) ∷ []
    ) (record { params = p; now = to; trace = es; taps = ts; limit = limit }, reply) in
    ap (λ o. ending o (told p.ttd (old ++ recent) now to 0 taps) (map (entry_at p.ttd taps (old ++ recent) now to) (old ++ recent))) (next_end_of-skip p.ttd m now old recent over later)
    ∙ ap (λ ts. ending (next_end_of p.ttd now recent) ts (map (entry_at p.ttd taps (old ++ recent) now to) (old ++ recent))) (told-skip p.ttd m now to 0 old recent taps over begun later)
    ∙ ap (λ es. ending (next_end_of p.ttd now recent) (told p.ttd recent now to 0 taps) es) (trace_at-skip p.ttd m now to taps old recent over begun later)
    ∙ widened-unless old p limit (
    (d == 0, ZeroTime) ∷ (is_past (next_end_of p.ttd now recent) to, TooFar (unwrap_or (next_end_of p.ttd now recent) 0)) ∷ (nat_lt clock_limit to, ClockFull)
    ∷ (is_some (first_full 0 (told p.ttd recent now to 0 taps)), InboxFull (unwrap_or (first_full 0 (told p.ttd recent now to 0 taps)) 0)) ∷ []
    ) (record { params = plain p.ttd; now = to; trace = map (entry_at p.ttd taps recent now to) recent; taps = told p.ttd recent now to 0 taps; limit = 0 }) reply

pub pass-whole : (w : World) (over d : ℕ) → IsCut w.params.ttd w.now over w.trace
    → step_pass w d ≡ widened (take over w.trace) w.params w.limit (step_pass (record w { params = plain w.params.ttd; trace = drop over w.trace; limit = 0 }) d)
pass-whole w over d (m, later, some, old, begun) =
    ap (λ es. step_pass (record w { trace = es }) d) (sym (take-append-drop over w.trace))
    ∙ pass-wide w.params w.limit (take over w.trace) (drop over w.trace) w.now d m w.taps old begun later

-- ---- what is over is not in the air, and reaches nobody

over-landed : (delay m now speaker : ℕ) (es : List Entry) → AllOver delay m es → m ≤ now → list_any (is_in_air_by delay now speaker) es ≡ false
over-landed delay m now speaker [] over later = refl
over-landed delay m now speaker (Noise span ∷ es) over later = over-landed delay m now speaker es over.2 later
over-landed delay m now speaker (Sent r ∷ es) over later =
    ap (λ (b : Bool). (r.tap == speaker && b) || list_any (is_in_air_by delay now speaker) es) (le-ltb now (reaches delay r).end (omega (arith, over.1, later)))
    ∙ ap (λ (b : Bool). b || list_any (is_in_air_by delay now speaker) es) (and-false (r.tap == speaker))
    ∙ over-landed delay m now speaker es over.2 later

over-passed : (delay m now tap : ℕ) (es : List Entry) → AllOver delay m es → m ≤ now → list_any (reaches_now delay tap now) es ≡ false
over-passed delay m now tap [] over later = refl
over-passed delay m now tap (Noise span ∷ es) over later =
    ap (λ (b : Bool). (nat_le span.begin now && b) || list_any (reaches_now delay tap now) es) (le-ltb now span.end (omega (arith, over.1, later)))
    ∙ ap (λ (b : Bool). b || list_any (reaches_now delay tap now) es) (and-false (nat_le span.begin now)) ∙ over-passed delay m now tap es over.2 later
over-passed delay m now tap (Sent r ∷ es) over later =
    by_test (λ (o : Option Span). (is_there now o || list_any (reaches_now delay tap now) es) ≡ false) (r.tap == tap || is_unheard (slice_get r.heard tap)) None (Some (reaches delay r))
    (λ _. over-passed delay m now tap es over.2 later)
    (λ _. ap (λ (b : Bool). (nat_le (reaches delay r).begin now && b) || list_any (reaches_now delay tap now) es) (le-ltb now (reaches delay r).end (omega (arith, over.1, later)))
    ∙ ap (λ (b : Bool). b || list_any (reaches_now delay tap now) es) (and-false (nat_le (reaches delay r).begin now)) ∙ over-passed delay m now tap es over.2 later)

any-behind : (test : Entry → Bool) (old recent : List Entry) → list_any test old ≡ false → list_any test (old ++ recent) ≡ list_any test recent
any-behind test old recent none = list_any-append test old recent ∙ ap (λ (b : Bool). b || list_any test recent) none

-- a test that fails for the first entries
neither-of : (a b : Bool) → (a || b) ≡ false → (a ≡ false) × (b ≡ false)
neither-of false b e = (refl, e)
neither-of true b e = absurd (let wrong : true ≡ false = e in cc)

find-behind : (test : Entry → Bool) (old recent : List Entry) → list_any test old ≡ false → find test (old ++ recent) ≡ find test recent
find-behind test [] recent none = refl
find-behind test (e ∷ old) recent none =
    let parts = neither-of (test e) (list_any test old) none in
    ap (λ (b : Bool). cond b (Some e) (find test (old ++ recent))) parts.0 ∙ find-behind test old recent parts.1

changed-behind : (test : Entry → Bool) (change : Entry → Entry) (old recent : List Entry) → list_any test old ≡ false
    → change_first test change (old ++ recent) ≡ old ++ change_first test change recent
changed-behind test change [] recent none = refl
changed-behind test change (e ∷ old) recent none =
    let parts = neither-of (test e) (list_any test old) none in
    ap (λ (b : Bool). if b then change e ∷ (old ++ recent) else e ∷ change_first test change (old ++ recent)) parts.0
    ∙ ap (λ es. e ∷ es) (changed-behind test change old recent parts.1)

-- ---- Damage

damage-wide : (p : Params) (limit : ℕ) (old recent : List Entry) (now m tap speaker : ℕ) (place : Option ℕ) (at from : Option Tap) (taps : List Tap)
    → AllOver p.ttd m old → m ≤ now
    → step_damage (record { params = p; now = now; trace = old ++ recent; taps = taps; limit = limit }) tap speaker place at from
    ≡ widened old p limit (step_damage (record { params = plain p.ttd; now = now; trace = recent; taps = taps; limit = 0 }) tap speaker place at from)
damage-wide p limit old recent now m tap speaker place at from taps over later =
    let hit = with_hit (record { tap = tap; place = place }) in
    let landed = over-landed p.ttd m now speaker old over later in
    let reply : Reply = record { now = now; spoke = None } in
    let ending : Option Entry → List Entry → Result (World × Reply) Fault
    = λ o es. unless ((is_none at || is_none from, NoSuchTap) ∷ (tap == speaker || not (has_place o place), NothingInAir) ∷ [])
    (record { params = p; now = now; trace = es; taps = taps; limit = limit }, reply) in
    ap (λ o. ending o (change_first (is_in_air_by p.ttd now speaker) hit (old ++ recent))) (find-behind (is_in_air_by p.ttd now speaker) old recent landed)
    ∙ ap (λ es. ending (find (is_in_air_by p.ttd now speaker) recent) es) (changed-behind (is_in_air_by p.ttd now speaker) hit old recent landed)
    ∙ widened-unless old p limit ((is_none at || is_none from, NoSuchTap) ∷ (tap == speaker || not (has_place (find (is_in_air_by p.ttd now speaker) recent) place), NothingInAir) ∷ [])
    (record { params = plain p.ttd; now = now; trace = change_first (is_in_air_by p.ttd now speaker) hit recent; taps = taps; limit = 0 }) reply

pub damage-whole : (w : World) (over tap speaker : ℕ) (place : Option ℕ) (at from : Option Tap) → IsCut w.params.ttd w.now over w.trace
    → step_damage w tap speaker place at from ≡ widened (take over w.trace) w.params w.limit (step_damage (record w { params = plain w.params.ttd; trace = drop over w.trace; limit = 0 }) tap speaker place at from)
damage-whole w over tap speaker place at from (m, later, some, old, begun) =
    ap (λ es. step_damage (record w { trace = es }) tap speaker place at from) (sym (take-append-drop over w.trace))
    ∙ damage-wide w.params w.limit (take over w.trace) (drop over w.trace) w.now m tap speaker place at from w.taps old later

-- ---- Start

-- whether a tap runs, or a telegram of its own is among the recent entries in the air
abbrev pub is_sending : ℕ → World → ℕ → Tap → Bool
is_sending over w tap t = t.running || list_any (is_in_air_by w.params.ttd w.now tap) (drop over w.trace)

-- a tap that starts, as the recent entries tell it
abbrev pub started_amid : ℕ → World → ℕ → Tap → Tap
started_amid over w tap t = record t {
  running = true;
  since = w.now;
  amid = list_any (reaches_now w.params.ttd tap w.now) (drop over w.trace);
  station = started w.params t.station t.spec.master w.now;
  marks = [];
}

pub start-whole : (w : World) (over tap : ℕ) (t : Tap) → IsCut w.params.ttd w.now over w.trace
    → step_start w tap (Some t) ≡ unless ((is_sending over w tap t, Running) ∷ []) (record w { taps = slice_set w.taps tap (started_amid over w tap t) }, record { now = w.now; spoke = None })
start-whole w over tap t (m, later, some, old, begun) =
    let past = take over w.trace in
    let recent = drop over w.trace in
    let parts = sym (take-append-drop over w.trace) in
    let sends = ap (list_any (is_in_air_by w.params.ttd w.now tap)) parts
    ∙ any-behind (is_in_air_by w.params.ttd w.now tap) past recent (over-landed w.params.ttd m w.now tap past old later) in
    let amid = ap (list_any (reaches_now w.params.ttd tap w.now)) parts
    ∙ any-behind (reaches_now w.params.ttd tap w.now) past recent (over-passed w.params.ttd m w.now tap past old later) in
    let ending : Bool → Bool → Result (World × Reply) Fault
    = λ s a. unless ((t.running || s, Running) ∷ []) (
      record w { taps = slice_set w.taps tap (record t { running = true; since = w.now; amid = a; station = started w.params t.station t.spec.master w.now; marks = [] }) },
      record { now = w.now; spoke = None },
    ) in
    ap (λ s. ending s (list_any (reaches_now w.params.ttd tap w.now) w.trace)) sends ∙ ap (ending (list_any (is_in_air_by w.params.ttd w.now tap) recent)) amid

-- ---- Stop

-- what is over is not cut
over-uncut : (delay m now tap : ℕ) (es : List Entry) → AllOver delay m es → m ≤ now → map (cut_at now tap) es ≡ es
over-uncut delay m now tap [] over later = refl
over-uncut delay m now tap (Noise span ∷ es) over later = ap (λ xs. Noise span ∷ xs) (over-uncut delay m now tap es over.2 later)
over-uncut delay m now tap (Sent r ∷ es) over later =
    let whole : cut_end now r ≡ r.end = omega (arith, over.0, over.1, later) in
    by_test (λ (x : Record). Sent x ∷ map (cut_at now tap) es ≡ Sent r ∷ es) (r.tap == tap) (record r { end = cut_end now r }) r
    (λ _. ap (λ end. Sent (record r { end = end }) ∷ map (cut_at now tap) es) whole ∙ ap (λ xs. Sent r ∷ xs) (over-uncut delay m now tap es over.2 later))
    (λ _. ap (λ xs. Sent r ∷ xs) (over-uncut delay m now tap es over.2 later))

pub cut-whole : (delay now over tap : ℕ) (es : List Entry) → IsCut delay now over es → map (cut_at now tap) es ≡ take over es ++ map (cut_at now tap) (drop over es)
cut-whole delay now over tap es (m, later, some, old, begun) =
    ap (map (cut_at now tap)) (sym (take-append-drop over es)) ∙ map-append (cut_at now tap) (take over es) (drop over es)
    ∙ ap (λ xs. xs ++ map (cut_at now tap) (drop over es)) (over-uncut delay m now tap (take over es) old later)

-- ---- Noise and Unheard

-- no noise that is over is in the air
over-silent : (delay m now : ℕ) (es : List Entry) → AllOver delay m es → m ≤ now → list_any (is_noise_at now) es ≡ false
over-silent delay m now [] over later = refl
over-silent delay m now (Noise span ∷ es) over later =
    ap (λ (b : Bool). b || list_any (is_noise_at now) es) (le-ltb now span.end (omega (arith, over.1, later))) ∙ over-silent delay m now es over.2 later
over-silent delay m now (Sent r ∷ es) over later = over-silent delay m now es over.2 later

-- nothing that is over begins now
over-begun : (delay m now speaker : ℕ) (es : List Entry) → AllOver delay m es → m ≤ now → list_any (begins_from now speaker) es ≡ false
over-begun delay m now speaker [] over later = refl
over-begun delay m now speaker (Noise span ∷ es) over later = over-begun delay m now speaker es over.2 later
over-begun delay m now speaker (Sent r ∷ es) over later =
    ap (λ (b : Bool). (r.tap == speaker && b) || list_any (begins_from now speaker) es) (ne_eqb r.begin now (λ same. omega (arith, same, over.0, over.1, later)))
    ∙ ap (λ (b : Bool). b || list_any (begins_from now speaker) es) (and-false (r.tap == speaker)) ∙ over-begun delay m now speaker es over.2 later

noise-behind : (delay m now end : ℕ) (noisy : Bool) (old recent : List Entry) → AllOver delay m old → m ≤ now → with_noise now end noisy (old ++ recent) ≡ old ++ with_noise now end noisy recent
noise-behind delay m now end true old recent over later = changed-behind (is_noise_at now) (noisy_until end) old recent (over-silent delay m now old over later)
noise-behind delay m now end false old recent over later = entered-behind delay m (Noise (record { begin = now; end = end })) old recent over later

pub noisy-behind : (w : World) (over : ℕ) → IsCut w.params.ttd w.now over w.trace → is_noisy w ≡ has_noise w.now (drop over w.trace)
noisy-behind w over (m, later, some, old, begun) =
    ap (list_any (is_noise_at w.now)) (sym (take-append-drop over w.trace))
    ∙ any-behind (is_noise_at w.now) (take over w.trace) (drop over w.trace) (over-silent w.params.ttd m w.now (take over w.trace) old later)

pub noise-whole : (w : World) (over bits : ℕ) → IsCut w.params.ttd w.now over w.trace
    → step_noise w bits (is_noisy w) ≡ unless ((bits == 0, ZeroTime) ∷ (has_no_room (has_noise w.now (drop over w.trace)) w.limit (length w.trace), TraceFull) ∷ []) (
      record w { trace = take over w.trace ++ with_noise w.now (w.now + bits) (has_noise w.now (drop over w.trace)) (drop over w.trace) },
      record { now = w.now; spoke = None },
    )
noise-whole w over bits (m, later, some, old, begun) =
    let noisy = has_noise w.now (drop over w.trace) in
    let ending : List Entry → Result (World × Reply) Fault
    = λ es. unless ((bits == 0, ZeroTime) ∷ (has_no_room noisy w.limit (length w.trace), TraceFull) ∷ []) (record w { trace = es }, record { now = w.now; spoke = None }) in
    ap (step_noise w bits) (noisy-behind w over (m, later, some, old, begun))
    ∙ ap (λ es. ending (with_noise w.now (w.now + bits) noisy es)) (sym (take-append-drop over w.trace))
    ∙ ap ending (noise-behind w.params.ttd m w.now (w.now + bits) noisy (take over w.trace) (drop over w.trace) old later)

pub unheard-whole : (w : World) (over tap speaker : ℕ) (at from : Option Tap) → IsCut w.params.ttd w.now over w.trace
    → step_unheard w tap speaker at from ≡ unless ((is_none at || is_none from, NoSuchTap) ∷ (has_nothing_to_lose tap speaker w.now (drop over w.trace), NothingInAir) ∷ []) (
      record w { trace = take over w.trace ++ change_first (begins_from w.now speaker) (unheard_at tap) (drop over w.trace) },
      record { now = w.now; spoke = None },
    )
unheard-whole w over tap speaker at from (m, later, some, old, begun) =
    let begins = begins_from w.now speaker in
    let past = take over w.trace in
    let recent = drop over w.trace in
    let none = over-begun w.params.ttd m w.now speaker past old later in
    let ending : Bool → List Entry → Result (World × Reply) Fault
    = λ b es. unless ((is_none at || is_none from, NoSuchTap) ∷ (tap == speaker || not b, NothingInAir) ∷ []) (record w { trace = es }, record { now = w.now; spoke = None }) in
    ap (λ es. ending (list_any begins es) (change_first begins (unheard_at tap) es)) (sym (take-append-drop over w.trace))
    ∙ ap (λ b. ending b (change_first begins (unheard_at tap) (past ++ recent))) (any-behind begins past recent none)
    ∙ ap (ending (list_any begins recent)) (changed-behind begins (unheard_at tap) past recent none)
