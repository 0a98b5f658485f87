-- Time passes.
use Rattle.std.proofs.Common.{◌≡◌, ◌∙◌, ap, sym, refl, ℕ, ◌+◌, ◌++◌, List, [], ◌∷◌, map, Bool, true, false, if◌then◌else◌, Option, Some, None, Result, Ok, Err}
use Rattle.std.specs.Prelude.{is_some, unwrap_or}
use Rattle.std.specs.Result.{IfOk, IfErr}
use Rattle.pb_faults.specs.FirstFault.{first_fault}
use Rattle.pb_faults.proofs.FirstFaults.{none_holds, first_fault-append}
use Rattle.law_model.specs.Trace.{Heard, Record, Entry, Sent, Noise}
use Rattle.law_model.specs.Medium.{Tap, heard_by, entry_at, reaches, ends_between, heard_in_the_end, is_whole_at}
use Rattle.law_model.specs.World.{World, Reply, Fault, InboxFull, next_end_of, unless_fault}
use Rattle.law_model.specs.Step.{told, first_full, step_pass}
use Rattle.pb_world.specs.Clocks.{time_faults}
use Rattle.pb_world.proofs.Passing.{nobody-told}

-- ---- what the taps are told

-- news to the taps doesn't change what telegrams were to them
heard_by-told : (delay : ℕ) (trace entries : List Entry) (from to : ℕ) (r : Record) (k : ℕ) (ts : List Tap) (hs : List Heard)
    → heard_by delay entries r k (told delay trace from to k ts) hs ≡ heard_by delay entries r k ts hs
heard_by-told delay trace entries from to r k [] hs = refl
heard_by-told delay trace entries from to r k (t ∷ ts) [] = refl
heard_by-told delay trace entries from to r k (t ∷ ts) (h ∷ hs) =
    ap (λ (rest : List Heard). heard_in_the_end (is_whole_at delay k t entries r) h ∷ rest) (heard_by-told delay trace entries from to r (k + 1) ts hs)

entries-told : (delay : ℕ) (trace entries : List Entry) (from to : ℕ) (ts : List Tap) (es : List Entry)
    → map (entry_at delay (told delay trace from to 0 ts) entries from to) es ≡ map (entry_at delay ts entries from to) es
entries-told delay trace entries from to ts [] = refl
entries-told delay trace entries from to ts (Noise span ∷ es) = ap (λ (rest : List Entry). Noise span ∷ rest) (entries-told delay trace entries from to ts es)
entries-told delay trace entries from to ts (Sent r ∷ es) =
    ap (λ (hs : List Heard). (if ends_between from to (reaches delay r) then Sent (record r { heard = hs }) else Sent r) ∷ map (entry_at delay (told delay trace from to 0 ts) entries from to) es)
    (heard_by-told delay trace entries from to r 0 ts r.heard)
    ∙ ap (λ (rest : List Entry). entry_at delay ts entries from to (Sent r) ∷ rest) (entries-told delay trace entries from to ts es)

-- ---- faults

found-in-front : (tests rest : List (Bool × Fault)) (f : Fault) → first_fault tests ≡ Some f → first_fault (tests ++ rest) ≡ Some f
found-in-front [] rest f e = absurd (let wrong : None ≡ Some f = e in cc)
found-in-front ((true, g) ∷ tests) rest f e = e
found-in-front ((false, g) ∷ tests) rest f e = found-in-front tests rest f e

-- time doesn't pass
pub pass-refused : (w : World) (d : ℕ) (f : Fault) → first_fault (time_faults w.now d (next_end_of w.params.ttd w.now w.trace)) ≡ Some f → step_pass w d ≡ Err f
pass-refused w d f e =
    let now = w.now + d in
    let taps = told w.params.ttd w.trace w.now now 0 w.taps in
    ap (λ o. unless_fault o (record w { now = now; taps = taps; trace = map (entry_at w.params.ttd w.taps w.trace w.now now) w.trace }, record { now = now; spoke = None }))
    (found-in-front (time_faults w.now d (next_end_of w.params.ttd w.now w.trace)) ((is_some (first_full 0 taps), InboxFull (unwrap_or (first_full 0 taps) 0)) ∷ []) f e)

-- how a pass ends, by the first tap that would have too many unread marks
pub pass-by : (w : World) (d : ℕ) (o : Option ℕ) → first_fault (time_faults w.now d (next_end_of w.params.ttd w.now w.trace)) ≡ None
    → first_full 0 (told w.params.ttd w.trace w.now (w.now + d) 0 w.taps) ≡ o
    → step_pass w d ≡ unless_fault (first_fault ((is_some o, InboxFull (unwrap_or o 0)) ∷ [])) (
      record w {
        now = w.now + d;
        taps = told w.params.ttd w.trace w.now (w.now + d) 0 w.taps;
        trace = map (entry_at w.params.ttd (told w.params.ttd w.trace w.now (w.now + d) 0 w.taps) w.trace w.now (w.now + d)) w.trace;
      },
      record { now = w.now + d; spoke = None },
    )
pass-by w d o e full =
    let delay = w.params.ttd in
    let now = w.now + d in
    let times = time_faults w.now d (next_end_of delay w.now w.trace) in
    let none = none_holds times e in
    let taps = told delay w.trace w.now now 0 w.taps in
    let reply : Reply = record { now = now; spoke = None } in
    let entries = map (entry_at delay w.taps w.trace w.now now) w.trace in
    ap (λ x. unless_fault x (record w { now = now; taps = taps; trace = entries }, reply))
    (first_fault-append times ((is_some (first_full 0 taps), InboxFull (unwrap_or (first_full 0 taps) 0)) ∷ []) none)
    ∙ ap (λ (x : Option ℕ). unless_fault (first_fault ((is_some x, InboxFull (unwrap_or x 0)) ∷ [])) (record w { now = now; taps = taps; trace = entries }, reply)) full
    ∙ ap (λ (es : List Entry). unless_fault (first_fault ((is_some o, InboxFull (unwrap_or o 0)) ∷ [])) (record w { now = now; taps = taps; trace = es }, reply))
    (sym (entries-told delay w.trace w.trace w.now now w.taps w.trace))

-- ---- where nothing is recent

pub if-ok : {X E : Type 0} (r : Result X E) {P Q : X → Type 0} → ((x : X) → P x → Q x) → IfOk r P → IfOk r Q
if-ok (Ok x) f h = f x h
if-ok (Err e) f h = h

pub if-err : {X E : Type 0} (r : Result X E) {P Q : E → Type 0} → ((e : E) → P e → Q e) → IfErr r P → IfErr r Q
if-err (Ok x) f h = h
if-err (Err e) f h = f e h

-- nothing changes but the clock
pub silent-pass : (w : World) (d : ℕ) → w.trace ≡ [] → first_fault (time_faults w.now d (next_end_of w.params.ttd w.now w.trace)) ≡ None
    → first_full 0 (told w.params.ttd w.trace w.now (w.now + d) 0 w.taps) ≡ None → step_pass w d ≡ Ok (record w { now = w.now + d }, record { now = w.now + d; spoke = None })
silent-pass w d silent e full =
    let delay = w.params.ttd in
    let now = w.now + d in
    let reply : Reply = record { now = now; spoke = None } in
    pass-by w d None e full
    ∙ ap (λ (es : List Entry). Ok (record w { now = now; taps = told delay es w.now now 0 w.taps; trace = map (entry_at delay (told delay es w.now now 0 w.taps) es w.now now) es }, reply)) silent
    ∙ ap (λ (ts : List Tap). Ok (record w { now = now; taps = ts; trace = [] }, reply)) (nobody-told delay w.now now 0 w.taps)
    ∙ ap (λ (es : List Entry). Ok (record w { now = now; trace = es }, reply)) (sym silent)
