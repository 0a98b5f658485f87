-- What the premises ask of a bus.
use Rattle.std.proofs.Common.{◌≡◌, ◌≢◌, ◌∙◌, map, ap, sym, subst, refl, arith, ℕ, zero, suc, ◌+◌, ◌-◌, ◌<◌, ◌≤◌, ◌&&◌, ◌||◌, nat_le, List, [], ◌∷◌, ◌++◌, length, Bool, true, false, if◌then◌else◌, Option, Some, None, Result, Ok}
use Rattle.std.specs.Prelude.{take, drop, get_or, slice_get, slice_set, replicate, ◌==◌, nat_lt}
use Rattle.std.specs.List.{list_any}
use Rattle.std.specs.Option.{option_and_then}
use Rattle.std.proofs.lemmas.Bool.{ltb-false, leb-true, lt-ltb, le-ltb, eqb-true, eqb-false}
use Rattle.std.proofs.lemmas.Bool.Decides.{nat_tests}
use Rattle.std.proofs.lemmas.List.{take-append-drop, get_or-set_same, get_or-set_other, get_or-replicate}
use Rattle.pb_timers.specs.Timers.{Params, tto}
use Rattle.pb_timers.specs.ParamRules.{IsValid}
use Rattle.law_turn.specs.Stations.{due_of}
use Rattle.law_turn.specs.Spans.{Span}
use Rattle.law_model.specs.Trace.{Entry, Sent, Noise}
use Rattle.law_model.specs.Medium.{Tap, reaches, reaches_taps, entry_at}
use Rattle.law_model.specs.World.{World, Event, Turn, Pass, Damage, Start, Stop, Queue, Unheard, Reply, Fault, clock_limit}
use Rattle.law_model.specs.World as world
use Rattle.law_model.specs.Step.{step, told, pass_faults, step_pass}
use Rattle.law_model.specs.Laws.{AllOver, IsSound}
use Rattle.law_model.proofs.Worlds.{unless-Ok}
use Rattle.law_model.proofs.Cases.{by_test}
use Rattle.law_runs.specs.Activity.{active_at, is_silent}
use Rattle.law_runs.specs.Premises.{Waited, Broken, Course, is_overdue, is_late, runs_at, has_namesakes, has_waited, waited_by, loses, comes_late, first_number, broken_or, followed, course_of}
use Rattle.law_runs.specs.Quiet.{is_active, quiet_at, quiet_in, quiet_after}
use Rattle.law_runs.specs.Watching.{Watched, new_meet, last_waited, watched_after, StandsFor}
use Rattle.law_runs.proofs.Quiets.{silent-quiet}
use Rattle.law_runs.proofs.Judged.{any-append}
use Rattle.law_runs.proofs.Watching.{quiet-step, many-taps, stands-followed}
use Rattle.pb_medium.specs.Airs.{IsCut}
use Rattle.pb_world.specs.Premises.{IsFirstWaiting, IsOldest, IsQuiet, HaveHeard, Listens, time_in, waiting_of, met_by, last_by}
use Rattle.pb_world.specs.declared.premises.Waiting.{Waiting}
use Rattle.pb_world.specs.declared.premises.Waiting.TheVariants as waiting
use Rattle.pb_world.specs.Worlds.{due_at}
use Rattle.pb_transitions.specs.Clocks.{is_past}
use Rattle.std.proofs.Math.Bool.{or-true, and-false}

-- ---- what is active is recent

ends-soon : (delay tap : ℕ) (e : Entry) → (active_at delay tap e).end ≤ (reaches_taps delay e).end
ends-soon delay tap (Noise span) = omega arith
ends-soon delay tap (Sent r) =
    by_test (λ (s : Span). s.end ≤ r.end + delay) (r.tap == tap) (record { begin = r.begin; end = r.end }) (reaches delay r) (λ _. omega arith) (λ _. omega arith)

pub over-active : (delay m from to tap : ℕ) (es : List Entry) → AllOver delay m es → m ≤ from → is_active delay from to es tap ≡ false
over-active delay m from to tap [] over later = refl
over-active delay m from to tap (e ∷ es) over later =
    ap (λ (b : Bool). (nat_lt (active_at delay tap e).begin to && b) || is_active delay from to es tap) (le-ltb from (active_at delay tap e).end (omega (arith, ends-soon delay tap e, over.1, later)))
    ∙ ap (λ (b : Bool). b || is_active delay from to es tap) (and-false (nat_lt (active_at delay tap e).begin to))
    ∙ over-active delay m from to tap es over.2 later

pub active-recent : (w : World) (over to tap : ℕ) → IsCut w.params.ttd w.now over w.trace → is_active w.params.ttd w.now to (drop over w.trace) tap ≡ is_active w.params.ttd w.now to w.trace tap
active-recent w over to tap (m, at, some, old, recent) =
    sym (
    ap (λ es. is_active w.params.ttd w.now to es tap) (sym (take-append-drop over w.trace)) ∙ any-append w.params.ttd tap w.now to (take over w.trace) (drop over w.trace)
    ∙ ap (λ (b : Bool). b || is_active w.params.ttd w.now to (drop over w.trace) tap) (over-active w.params.ttd m w.now to tap (take over w.trace) old at)
    )

pub none-active : (w : World) (over to tap : ℕ) → IsCut w.params.ttd w.now over w.trace → drop over w.trace ≡ [] → is_active w.params.ttd w.now to w.trace tap ≡ false
none-active w over to tap cut none = sym (active-recent w over to tap cut) ∙ ap (λ es. is_active w.params.ttd w.now to es tap) none

-- an event that is accepted ends when it can
pub pass-ends : (w next : World) (bits : ℕ) (reply : Reply) → step_pass w bits ≡ Ok (next, reply) → w.now + bits ≤ clock_limit
pass-ends w next bits reply ok =
    let to = w.now + bits in
    let taps = told w.params.ttd w.trace w.now to 0 w.taps in
    let made : World × Reply = (record w { now = to; taps = taps; trace = map (entry_at w.params.ttd w.taps w.trace w.now to) w.trace }, record { now = to; spoke = None }) in
    let is = unless-Ok (pass_faults w bits taps) made (next, reply) ok in
    ltb-false clock_limit to is.0.1.1.0

-- since when the taps are in silence after a pass
pub listens-pass : (w : World) (bits to : ℕ) (before after : List ℕ) → IsSound w → IsQuiet w before → (w.now + bits ≤ clock_limit → to ≡ w.now + bits) → HaveHeard w to before after → Listens w (Pass bits) after
listens-pass w bits to before after sound quiet reaches have next reply ok tap there =
    let same = reaches (pass-ends w next bits reply ok) in
    let here : tap < length w.taps = omega (arith, there, many-taps w next (Pass bits) reply ok) in
    have tap here
    ∙ ap (λ n. if is_active w.params.ttd w.now n w.trace tap then n else get_or before tap 0) same
    ∙ ap (λ n. if is_active w.params.ttd w.now (w.now + bits) w.trace tap then w.now + bits else n) (quiet tap here)
    ∙ sym (quiet-step w next (Pass bits) reply sound ok tap)

-- and after a pass where nothing is recent
pub listens-alone : (w : World) (over bits : ℕ) (quiet : List ℕ) → IsSound w → IsQuiet w quiet → IsCut w.params.ttd w.now over w.trace → drop over w.trace ≡ [] → Listens w (Pass bits) quiet
listens-alone w over bits quiet sound silent cut none =
    let to = w.now + bits in
    listens-pass w bits to quiet quiet sound silent (λ ends. refl) (λ tap there. sym (ap (λ (b : Bool). if b then to else get_or quiet tap 0) (none-active w over to tap cut none)))

-- and after any other event
pub listens-still : (w : World) (e : Event) (before : List ℕ) → ((tap q : ℕ) → quiet_after w e tap q ≡ q) → IsSound w → IsQuiet w before → Listens w e before
listens-still w e before still sound quiet next reply ok tap there =
    let here : tap < length w.taps = omega (arith, there, many-taps w next e reply ok) in
    quiet tap here ∙ sym (still tap (quiet_in w tap)) ∙ sym (quiet-step w next e reply sound ok tap)

pub listens-none : (w : World) (e : Event) (before : List ℕ) → time_in e ≡ None → IsSound w → IsQuiet w before → Listens w e before
listens-none w (Turn tap) before none sound quiet = listens-still w (Turn tap) before (λ tap q. refl) sound quiet
listens-none w (Pass bits) before none sound quiet = absurd cc
listens-none w (Damage tap speaker place) before none sound quiet = listens-still w (Damage tap speaker place) before (λ tap q. refl) sound quiet
listens-none w (Start tap) before none sound quiet = listens-still w (Start tap) before (λ tap q. refl) sound quiet
listens-none w (Stop tap) before none sound quiet = listens-still w (Stop tap) before (λ tap q. refl) sound quiet
listens-none w (Queue tap request) before none sound quiet = listens-still w (Queue tap request) before (λ tap q. refl) sound quiet
listens-none w (world.Noise bits) before none sound quiet = listens-still w (world.Noise bits) before (λ tap q. refl) sound quiet
listens-none w (Unheard tap speaker) before none sound quiet = listens-still w (Unheard tap speaker) before (λ tap q. refl) sound quiet

pub passes-time : (e : Event) (bits : ℕ) → time_in e ≡ Some bits → e ≡ Pass bits
passes-time (Turn tap) bits is = absurd cc
passes-time (Pass n) bits is = ap Pass (let same : n ≡ bits = cc in same)
passes-time (Damage tap speaker place) bits is = absurd cc
passes-time (Start tap) bits is = absurd cc
passes-time (Stop tap) bits is = absurd cc
passes-time (Queue tap request) bits is = absurd cc
passes-time (world.Noise n) bits is = absurd cc
passes-time (Unheard tap speaker) bits is = absurd cc

-- ---- one of some numbers after another

-- one more is a function's
pub renewed : (f : ℕ → ℕ) (xs before : List ℕ) (tap v : ℕ) → tap < length xs → v ≡ f tap → ((k : ℕ) → get_or xs k 0 ≡ (if nat_lt k tap then f k else get_or before k 0))
    → (k : ℕ) → get_or (slice_set xs tap v) k 0 ≡ (if nat_lt k (tap + 1) then f k else get_or before k 0)
renewed f xs before tap v there is so_far k = by (k == tap) refl
  where
    by : (b : Bool) → (k == tap) ≡ b → get_or (slice_set xs tap v) k 0 ≡ (if nat_lt k (tap + 1) then f k else get_or before k 0)
    by true here =
        let same : k ≡ tap = eqb-true k tap here in
        ap (λ n. get_or (slice_set xs tap v) n 0) same ∙ get_or-set_same xs tap v 0 there ∙ is ∙ ap f (sym same)
        ∙ sym (ap (λ (b : Bool). if b then f k else get_or before k 0) (lt-ltb k (tap + 1) (omega (arith, same))))
    by false other =
        let apart = eqb-false k tap other in
        let same : nat_lt k (tap + 1) ≡ nat_lt k tap = grind (arith, apart, nat_tests) in
        get_or-set_other xs tap k v 0 apart ∙ so_far k ∙ ap (λ (b : Bool). if b then f k else get_or before k 0) (sym same)

-- one more stays as it was
pub still-old : (f : ℕ → ℕ) (xs before : List ℕ) (tap : ℕ) → f tap ≡ get_or before tap 0 → ((k : ℕ) → get_or xs k 0 ≡ (if nat_lt k tap then f k else get_or before k 0))
    → (k : ℕ) → get_or xs k 0 ≡ (if nat_lt k (tap + 1) then f k else get_or before k 0)
still-old f xs before tap is so_far k = by (k == tap) refl
  where
    by : (b : Bool) → (k == tap) ≡ b → get_or xs k 0 ≡ (if nat_lt k (tap + 1) then f k else get_or before k 0)
    by true here =
        let same : k ≡ tap = eqb-true k tap here in
        so_far k ∙ ap (λ (b : Bool). if b then f k else get_or before k 0) (le-ltb k tap (omega (arith, same))) ∙ ap (λ n. get_or before n 0) same ∙ sym is ∙ ap f (sym same)
        ∙ sym (ap (λ (b : Bool). if b then f k else get_or before k 0) (lt-ltb k (tap + 1) (omega (arith, same))))
    by false other =
        let apart = eqb-false k tap other in
        let same : nat_lt k (tap + 1) ≡ nat_lt k tap = grind (arith, apart, nat_tests) in
        so_far k ∙ ap (λ (b : Bool). if b then f k else get_or before k 0) (sym same)

-- the first number that is not a function's yet is as it was
pub not-yet : (f : ℕ → ℕ) (xs before : List ℕ) (tap : ℕ) → ((k : ℕ) → get_or xs k 0 ≡ (if nat_lt k tap then f k else get_or before k 0)) → get_or xs tap 0 ≡ get_or before tap 0
not-yet f xs before tap so_far = so_far tap ∙ ap (λ (b : Bool). if b then f tap else get_or before tap 0) (le-ltb tap tap (omega arith))

-- all of them are
pub all-renewed : (f : ℕ → ℕ) (xs before : List ℕ) (tap : ℕ) → ((k : ℕ) → get_or xs k 0 ≡ (if nat_lt k tap then f k else get_or before k 0)) → (k : ℕ) → k < tap → get_or xs k 0 ≡ f k
all-renewed f xs before tap so_far k there = so_far k ∙ ap (λ (b : Bool). if b then f k else get_or before k 0) (lt-ltb k tap there)

-- in a world without entries each tap has been in silence all the time
pub quiet-blank : (w : World) (quiet : List ℕ) → w.trace ≡ [] → length w.taps ≤ 127 → quiet ≡ replicate 127 0 → IsQuiet w quiet
quiet-blank w quiet empty few zeros tap there =
    ap (λ qs. get_or qs tap 0) zeros ∙ get_or-replicate 127 tap 0 0 (omega (arith, few, there)) ∙ sym (ap (quiet_at w.params.ttd tap w.now) empty)

-- ---- the least of some numbers

-- a number behind them changes
pub least-still : (least tap v : ℕ) (xs : List ℕ) → IsOldest least tap xs → IsOldest least tap (slice_set xs tap v)
least-still least tap v xs all k there =
    let apart : k ≢ tap = λ (same : k ≡ tap). omega (arith, same, there) in
    subst (λ (n : ℕ). least ≤ n) (sym (get_or-set_other xs tap k v 0 apart)) (all k there)

-- one more of them
pub least-more : (before least tap : ℕ) (xs : List ℕ) → least ≤ before → least ≤ get_or xs tap 0 → IsOldest before tap xs → IsOldest least (tap + 1) xs
least-more before least tap xs less here all k there = by (k == tap) refl
  where
    by : (b : Bool) → (k == tap) ≡ b → least ≤ get_or xs k 0
    by true is = subst (λ (n : ℕ). least ≤ get_or xs n 0) (sym (eqb-true k tap is)) here
    by false other =
        let apart = eqb-false k tap other in
        omega (arith, less, all k (omega (arith, there, apart)))

-- ---- time-outs

behind-test : (a b c d e : Bool) → b ≡ c → (c ≡ true → d ≡ e) → ((a && b) && d) ≡ ((a && c) && e)
behind-test true b c d e same rest = by_test-c c d e same rest
  where
    by_test-c : (c d e : Bool) → b ≡ c → (c ≡ true → d ≡ e) → (b && d) ≡ (c && e)
    by_test-c true d e same rest = ap (λ (x : Bool). x && d) same ∙ rest refl
    by_test-c false d e same rest = ap (λ (x : Bool). x && d) same
behind-test false b c d e same rest = refl

ran-for : (timeout since now : ℕ) → 0 < timeout → nat_le timeout (now - since) ≡ nat_le (since + timeout) now
ran-for timeout since now some = grind (arith, nat_tests)

silent-for : (timeout quiet now : ℕ) → 0 < timeout → timeout ≤ now → nat_le timeout (now - quiet) ≡ nat_le quiet (now - timeout)
silent-for timeout quiet now some fits = grind (arith, nat_tests)

timeout-some : (p : Params) (address : ℕ) → IsValid p → 0 < tto p address
timeout-some p address valid = omega (arith, valid.slot_long)

pub waited-is : (w : World) (position : ℕ) (t : Tap) (quiet timeout : ℕ) → IsValid w.params → timeout ≡ tto w.params t.spec.address → quiet ≡ quiet_in w position
    → (t.running && t.spec.master && nat_le timeout (w.now - t.since) && nat_le timeout (w.now - quiet)) ≡ has_waited w position t
waited-is w position t quiet timeout valid is silent =
    let p = w.params in
    let full = tto p t.spec.address in
    let some : 0 < full = timeout-some p t.spec.address valid in
    ap (λ (n : ℕ). t.running && t.spec.master && nat_le n (w.now - t.since) && nat_le n (w.now - quiet)) is
    ∙ ap (λ (n : ℕ). t.running && t.spec.master && nat_le full (w.now - t.since) && nat_le full (w.now - n)) silent
    ∙ behind-test (t.running && t.spec.master) (nat_le full (w.now - t.since)) (nat_le (t.since + full) w.now) (nat_le full (w.now - quiet_in w position))
    (is_silent p.ttd position w.trace (w.now - full) w.now) (ran-for full t.since w.now some)
    (λ ran.
    let fits : full ≤ w.now = omega (arith, leb-true (t.since + full) w.now ran) in
    silent-for full (quiet_in w position) w.now some fits ∙ sym (silent-quiet p.ttd position (w.now - full) w.now w.trace (omega (arith, some, fits))))

-- ---- the first of what is left

pub late-at : (w : World) (moment tap : ℕ) (t : Tap) → slice_get w.taps tap ≡ Some t → is_late w.params moment t ≡ is_overdue w.params.lag moment (due_at w tap)
late-at w moment tap t at =
    by_running t.running
    ∙ ap (λ (o : Option Tap). is_overdue w.params.lag moment (option_and_then (λ (x : Tap). if x.running then due_of w.params x.station x.marks else None) o)) (sym at)
  where
    by_running : (b : Bool) → (b && is_overdue w.params.lag moment (due_of w.params t.station t.marks)) ≡ is_overdue w.params.lag moment (if b then due_of w.params t.station t.marks else None)
    by_running true = refl
    by_running false = refl

pub any-here : {X : Type 0} (test : X → Bool) (left rest : List X) (x : X) → left ≡ x ∷ rest → test x ≡ true → list_any test left ≡ true
any-here test left rest x here passes = ap (list_any test) here ∙ ap (λ (b : Bool). b || list_any test rest) passes

pub any-later : {X : Type 0} (test : X → Bool) (left rest : List X) (x : X) → left ≡ x ∷ rest → test x ≡ false → list_any test left ≡ list_any test rest
any-later test left rest x here fails = ap (list_any test) here ∙ ap (λ (b : Bool). b || list_any test rest) fails

pub waits-here : (w : World) (tap : ℕ) (left rest : List Tap) (t : Tap) → left ≡ t ∷ rest → has_waited w tap t ≡ true
    → waited_by w tap left ≡ record { tap = tap; moment = w.now } ∷ waited_by w (tap + 1) rest
waits-here w tap left rest t here has =
    ap (waited_by w tap) here ∙ ap (λ (b : Bool). if b then record { tap = tap; moment = w.now } ∷ waited_by w (tap + 1) rest else waited_by w (tap + 1) rest) has

pub waits-later : (w : World) (tap : ℕ) (left rest : List Tap) (t : Tap) → left ≡ t ∷ rest → has_waited w tap t ≡ false
    → waited_by w tap left ≡ waited_by w (tap + 1) rest
waits-later w tap left rest t here has =
    ap (waited_by w tap) here ∙ ap (λ (b : Bool). if b then record { tap = tap; moment = w.now } ∷ waited_by w (tap + 1) rest else waited_by w (tap + 1) rest) has

-- ---- namesakes

-- some taps run at those addresses that a table has
abbrev pub RunAt : List Bool → List Tap → Type 0
RunAt table ts = (n : ℕ) → n < 127 → get_or table n false ≡ list_any (runs_at n) ts

pub none-runs : RunAt (replicate 127 false) []
none-runs n small = get_or-replicate 127 n false false small

runs-both : (running noted rest : Bool) → noted ≡ rest → (noted || running) ≡ ((running && true) || rest)
runs-both true true rest same = refl
runs-both true false rest same = refl
runs-both false true rest same = same
runs-both false false rest same = same

runs-none : (running noted rest : Bool) → noted ≡ rest → noted ≡ ((running && false) || rest)
runs-none true noted rest same = same
runs-none false noted rest same = same

noted-at : (table : List Bool) (t : Tap) (ts : List Tap) (n : ℕ) (same : Bool) → (t.spec.address == n) ≡ same → t.spec.address < length table → RunAt table ts → n < 127
    → get_or (slice_set table t.spec.address (get_or table t.spec.address false || t.running)) n false ≡ list_any (runs_at n) (t ∷ ts)
noted-at table t ts n true is there noted small =
    let here : t.spec.address ≡ n = eqb-true t.spec.address n is in
    let runs : Bool = get_or table t.spec.address false || t.running in
    ap (λ (k : ℕ). get_or (slice_set table t.spec.address runs) k false) (sym here)
    ∙ get_or-set_same table t.spec.address runs false there
    ∙ runs-both t.running (get_or table t.spec.address false) (list_any (runs_at n) ts) (ap (λ (k : ℕ). get_or table k false) here ∙ noted n small)
    ∙ ap (λ (b : Bool). (t.running && b) || list_any (runs_at n) ts) (sym is)
noted-at table t ts n false is there noted small =
    let other : n ≢ t.spec.address = λ (here : n ≡ t.spec.address). eqb-false t.spec.address n is (sym here) in
    get_or-set_other table t.spec.address n (get_or table t.spec.address false || t.running) false other
    ∙ runs-none t.running (get_or table n false) (list_any (runs_at n) ts) (noted n small)
    ∙ ap (λ (b : Bool). (t.running && b) || list_any (runs_at n) ts) (sym is)

-- the address of one more tap is noted, if it runs
pub noted-more : (table : List Bool) (left ts : List Tap) (t : Tap) → left ≡ t ∷ ts → t.spec.address < length table → RunAt table ts
    → RunAt (slice_set table t.spec.address (get_or table t.spec.address false || t.running)) left
noted-more table left ts t here there noted n small =
    noted-at table t ts n (t.spec.address == n) refl there noted small ∙ ap (list_any (runs_at n)) (sym here)

-- a tap runs at an address that is noted, and so has a namesake
pub namesake-noted : (table : List Bool) (left ts : List Tap) (t : Tap) → left ≡ t ∷ ts → t.spec.address < 127 → RunAt table ts → t.running ≡ true → get_or table t.spec.address false ≡ true
    → has_namesakes left ≡ true
namesake-noted table left ts t here small noted runs taken =
    ap has_namesakes here ∙ ap (λ (b : Bool). (b && list_any (runs_at t.spec.address) ts) || has_namesakes ts) runs
    ∙ ap (λ (b : Bool). b || has_namesakes ts) (sym (noted t.spec.address small) ∙ taken)

-- a tap runs at no address that is noted, and so has no namesake
pub no-namesake : (table : List Bool) (left ts : List Tap) (t : Tap) → left ≡ t ∷ ts → t.spec.address < 127 → RunAt table ts → (t.running && get_or table t.spec.address false) ≡ false
    → has_namesakes ts ≡ false → has_namesakes left ≡ false
no-namesake table left ts t here small noted free none =
    ap has_namesakes here ∙ ap (λ (b : Bool). (t.running && b) || has_namesakes ts) (sym (noted t.spec.address small))
    ∙ ap (λ (b : Bool). b || has_namesakes ts) free ∙ none

-- one that has a namesake behind it stands behind others too
pub namesakes-behind : (ts : List Tap) (place : ℕ) → has_namesakes (drop place ts) ≡ true → has_namesakes ts ≡ true
namesakes-behind ts zero has = has
namesakes-behind [] (suc place) has = has
namesakes-behind (t ∷ ts) (suc place) has =
    ap (λ (b : Bool). (t.running && list_any (runs_at t.spec.address) ts) || b) (namesakes-behind ts place has) ∙ or-true (t.running && list_any (runs_at t.spec.address) ts)

-- ---- those that have waited out now

-- all have waited out at the clock
abbrev AllAt : ℕ → List Waited → Type 0
AllAt now [] = Unit {0}
AllAt now (one ∷ more) = (one.moment ≡ now) × AllAt now more

all-at : (w : World) (tap : ℕ) (taps : List Tap) → AllAt w.now (waited_by w tap taps)
all-at w tap [] = tt
all-at w tap (t ∷ ts) =
    by_test (λ (new : List Waited). AllAt w.now new) (has_waited w tap t) (record { tap = tap; moment = w.now } ∷ waited_by w (tap + 1) ts) (waited_by w (tap + 1) ts)
    (λ _. (refl, all-at w (tap + 1) ts)) (λ _. all-at w (tap + 1) ts)

met-of : (delay now : ℕ) (new : List Waited) (last : Option Waited) → AllAt now new → met_by delay now (waiting_of new) last ≡ new_meet delay new last
met-of delay now [] last all = refl
met-of delay now (one ∷ []) last all = ap (λ (n : ℕ). new_meet delay (record { tap = one.tap; moment = n } ∷ []) last) (sym all.0)
met-of delay now (one ∷ other ∷ more) last all = refl

last-is : (now : ℕ) (new : List Waited) (last : Option Waited) → AllAt now new → last_by now (waiting_of new) last ≡ last_waited new last
last-is now [] last all = refl
last-is now (one ∷ []) last all = ap (λ (n : ℕ). Some (record { tap = one.tap; moment = n })) (sym all.0)
last-is now (one ∷ other ∷ more) last all = ap (λ (n : ℕ). Some (record { tap = one.tap; moment = n })) (sym all.0)

pub met-now : (w : World) (last : Option Waited) → met_by w.params.ttd w.now (waiting_of (waited_by w 0 w.taps)) last ≡ new_meet w.params.ttd (waited_by w 0 w.taps) last
met-now w last = met-of w.params.ttd w.now (waited_by w 0 w.taps) last (all-at w 0 w.taps)

pub last-now : (w : World) (last : Option Waited) → last_by w.now (waiting_of (waited_by w 0 w.taps)) last ≡ last_waited (waited_by w 0 w.taps) last
last-now w last = last-is w.now (waited_by w 0 w.taps) last (all-at w 0 w.taps)

-- ---- one of the taps by its place

pub item-left : {X : Type 0} (xs : List X) (i : ℕ) → i < length xs → (x : X) × (slice_get xs i ≡ Some x) × (drop i xs ≡ x ∷ drop (i + 1) xs)
item-left [] i there = absurd (omega (arith, there))
item-left (x ∷ xs) zero there = (x, refl, refl)
item-left {X} (x ∷ xs) (suc i) there =
    let rest = item-left xs i (omega (arith, there)) in
    let place : suc (i + 1) ≡ suc i + 1 = omega arith in
    (rest.0, rest.1, subst (λ (n : ℕ). drop i xs ≡ rest.0 ∷ drop n (x ∷ xs)) place rest.2)

-- a turn that is past by more than the lag is overdue
pub past-overdue : (lag moment : ℕ) (due : Option ℕ) → is_past lag moment due ≡ is_overdue lag moment due
past-overdue lag moment None = refl
past-overdue lag moment (Some d) = refl

pub late-here : (w : World) (moment tap : ℕ) → tap < length w.taps → is_overdue w.params.lag moment (due_at w tap) ≡ true
    → list_any (is_late w.params moment) w.taps ≡ list_any (is_late w.params moment) (drop tap w.taps) → list_any (is_late w.params moment) w.taps ≡ true
late-here w moment tap there late none =
    let item = item-left w.taps tap there in
    none ∙ any-here (is_late w.params moment) (drop tap w.taps) (drop (tap + 1) w.taps) item.0 item.2 (late-at w moment tap item.0 item.1 ∙ late)

pub late-later : (w : World) (moment tap : ℕ) → tap < length w.taps → is_overdue w.params.lag moment (due_at w tap) ≡ false
    → list_any (is_late w.params moment) w.taps ≡ list_any (is_late w.params moment) (drop tap w.taps)
    → list_any (is_late w.params moment) w.taps ≡ list_any (is_late w.params moment) (drop (tap + 1) w.taps)
late-later w moment tap there late none =
    let item = item-left w.taps tap there in
    none ∙ any-later (is_late w.params moment) (drop tap w.taps) (drop (tap + 1) w.taps) item.0 item.2 (late-at w moment tap item.0 item.1 ∙ late)

-- ---- those that wait, by the first of them and the first behind it

pub waiting-one : (w : World) (tap : ℕ) → IsFirstWaiting w 0 (Some tap) → IsFirstWaiting w (tap + 1) None → waiting.One tap ≡ waiting_of (waited_by w 0 w.taps)
waiting-one w tap (from, there, is) none =
    sym (ap waiting_of is ∙ ap (λ (more : List Waited). waiting_of (record { tap = tap; moment = w.now } ∷ more)) none)

pub waiting-several : (w : World) (tap next : ℕ) → IsFirstWaiting w 0 (Some tap) → IsFirstWaiting w (tap + 1) (Some next) → waiting.Several tap ≡ waiting_of (waited_by w 0 w.taps)
waiting-several w tap next (from, there, is) (behind, too, another) =
    sym (ap waiting_of is ∙ ap (λ (more : List Waited). waiting_of (record { tap = tap; moment = w.now } ∷ more)) another)

-- ---- a watch

pub after-is : (v : Watched) (w next : World) (e : Event) (waited : Option Waited) (broken : Option Broken) (namesakes lost late met : Bool) (number : Option ℕ)
    (waiting : Waiting)
    → lost ≡ loses e → late ≡ comes_late w e
    → waiting ≡ waiting_of (waited_by next 0 next.taps) → waited ≡ last_by next.now waiting v.waited → met ≡ met_by next.params.ttd next.now waiting v.waited
    → namesakes ≡ has_namesakes next.taps → number ≡ first_number namesakes lost late met → broken ≡ broken_or v.broken next.now number
    → record { waited = waited; broken = broken } ≡ watched_after v w e next
after-is v w next e waited broken namesakes lost late met number waiting islost islate iswaiting iswaited ismet isnamesakes isnumber isbroken =
    let new = waited_by next 0 next.taps in
    let same_waited : waited ≡ last_waited new v.waited = iswaited ∙ ap (λ (o : Waiting). last_by next.now o v.waited) iswaiting ∙ last-now next v.waited in
    let same_met : met ≡ new_meet next.params.ttd new v.waited =
    ismet ∙ ap (λ (o : Waiting). met_by next.params.ttd next.now o v.waited) iswaiting ∙ met-now next v.waited in
    let same_number : number ≡ first_number (has_namesakes next.taps) (loses e) (comes_late w e) (new_meet next.params.ttd new v.waited) =
    isnumber ∙ ap (λ (b : Bool). first_number b lost late met) isnamesakes ∙ ap (λ (b : Bool). first_number (has_namesakes next.taps) b late met) islost
    ∙ ap (λ (b : Bool). first_number (has_namesakes next.taps) (loses e) b met) islate ∙ ap (λ (b : Bool). first_number (has_namesakes next.taps) (loses e) (comes_late w e) b) same_met in
    let same_broken : broken ≡ broken_or v.broken next.now (first_number (has_namesakes next.taps) (loses e) (comes_late w e) (new_meet next.params.ttd new v.waited)) =
    isbroken ∙ ap (λ (o : Option ℕ). broken_or v.broken next.now o) same_number in
    let second : Option Waited → Watched = λ o. record { waited = o; broken = broken } in
    let third : Option Broken → Watched = λ o. record { waited = last_waited new v.waited; broken = o } in
    ap second same_waited ∙ ap third same_broken

pub goes-on : (v after : Watched) (w next : World) (e : Event) (reply : Reply) → step w e ≡ Ok (next, reply) → after ≡ watched_after v w e next
    → (c : Course) → c.world ≡ w → StandsFor v c → StandsFor after (followed c e (step c.world e))
goes-on v after w next e reply ok is c at stands =
    subst (λ (x : Watched). StandsFor x (followed c e (step c.world e))) (sym (subst (λ (x : World). after ≡ watched_after v x e next) (sym at) is))
    (stands-followed v c next e reply (subst (λ (x : World). step x e ≡ Ok (next, reply)) (sym at) ok) stands)

-- ---- a run

pub course-more : (c : Course) (events : List Event) (e : Event) → course_of c (events ++ e ∷ []) ≡ followed (course_of c events) e (step (course_of c events).world e)
course-more c [] e = refl
course-more c (x ∷ events) e = course-more (followed c x (step c.world x)) events e

pub world-followed : (c : Course) (w next : World) (e : Event) (reply : Reply) → c.world ≡ w → step w e ≡ Ok (next, reply) → (followed c e (step c.world e)).world ≡ next
world-followed c w next e reply at ok =
    ap (λ (r : Result (World × Reply) Fault). (followed c e r).world) (ap (λ (x : World). step x e) at ∙ ok)
