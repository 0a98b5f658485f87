-- What changes next on a bus.
use Rattle.std.proofs.Common.{◌≡◌, ◌∙◌, ap, sym, subst, refl, ℕ, zero, suc, ◌+◌, ◌<◌, ◌≤◌, ◌++◌, List, [], ◌∷◌, Bool, false, ◌||◌, ◌&&◌, if◌then◌else◌, arith, Option, Some, None}
use Rattle.std.specs.Prelude.{IfSome, nat_lt, take, drop}
use Rattle.std.specs.List.{list_any}
use Rattle.std.specs.Option.{option_map}
use Rattle.std.proofs.lemmas.List.{take-append-drop}
use Rattle.std.proofs.lemmas.List.Folds.{list_any-append}
use Rattle.std.proofs.Math.Bool.{and-false}
use Rattle.std.proofs.lemmas.Bool.{le-ltb}
use Rattle.law_turn.specs.Stations.{earlier}
use Rattle.law_model.specs.Trace.{Entry, Sent, Noise, entry_begin, entry_end}
use Rattle.law_model.specs.Medium.{reaches_taps}
use Rattle.law_model.specs.World.{World, later_end, next_end_of}
use Rattle.law_model.specs.Laws.{AllBegun, AllOver}
use Rattle.law_model.proofs.Cases.{by_test}
use Rattle.law_model.proofs.Past.{next_end_of-skip}
use Rattle.law_runs.specs.Bus.{next_change, next_known, is_in_air, started_now}
use Rattle.pb_world.specs.Ends.{AllBy}
use Rattle.pb_medium.specs.Airs.{IsCut}
use Rattle.pb_medium.proofs.Closing.{begun-behind}

-- an entry begins at the taps before it ends there
begins-first : (delay : ℕ) (e : Entry) → entry_begin e < entry_end e → (reaches_taps delay e).begin < (reaches_taps delay e).end
begins-first delay (Noise span) lasts = lasts
begins-first delay (Sent r) lasts = omega (arith, lasts)

-- ---- what is over is known, and is not in the air

over-known : (delay m now : ℕ) (old recent : List Entry) → AllOver delay m old → m ≤ now → next_known delay now (old ++ recent) ≡ next_known delay now recent
over-known delay m now [] recent over later = refl
over-known delay m now (e ∷ old) recent over later =
    let begin = (reaches_taps delay e).begin in
    ap (λ (b : Bool). earlier (if b then Some (begin + 1) else None) (next_known delay now (old ++ recent))) (le-ltb now (begin + 1) (omega (arith, begins-first delay e over.0, over.1, later)))
    ∙ over-known delay m now old recent over.2 later

over-silent : (delay m now : ℕ) (es : List Entry) → AllOver delay m es → m ≤ now → list_any (is_in_air delay now) es ≡ false
over-silent delay m now [] over later = refl
over-silent delay m now (e ∷ es) over later =
    ap (λ (b : Bool). (nat_lt (entry_begin e) now && b) || list_any (is_in_air delay now) es) (le-ltb now (reaches_taps delay e).end (omega (arith, over.1, later)))
    ∙ ap (λ (b : Bool). b || list_any (is_in_air delay now) es) (and-false (nat_lt (entry_begin e) now))
    ∙ over-silent delay m now es over.2 later

any-recent : (test : Entry → Bool) (over : ℕ) (es : List Entry) → list_any test (take over es) ≡ false → list_any test es ≡ list_any test (drop over es)
any-recent test over es none =
    ap (list_any test) (sym (take-append-drop over es)) ∙ list_any-append test (take over es) (drop over es) ∙ ap (λ (b : Bool). b || list_any test (drop over es)) none

-- ---- the next change

-- a tap that has started now can know one bit time later what it started amid
abbrev pub start_known : World → Bool → Option ℕ
start_known w amid = if list_any (started_now w.now) w.taps && amid then Some (w.now + 1) else None

pub change-recent : (w : World) (over : ℕ) → IsCut w.params.ttd w.now over w.trace
    → next_change w ≡ earlier (next_end_of w.params.ttd w.now (drop over w.trace))
    (earlier (next_known w.params.ttd w.now (drop over w.trace)) (start_known w (list_any (is_in_air w.params.ttd w.now) (drop over w.trace))))
change-recent w over (m, later, some, old, from) =
    let delay = w.params.ttd in
    let now = w.now in
    let recent = drop over w.trace in
    let parts = sym (take-append-drop over w.trace) in
    let ending : Option ℕ → Option ℕ → Bool → Option ℕ = λ end known amid. earlier end (earlier known (start_known w amid)) in
    let ends = ap (next_end_of delay now) parts ∙ next_end_of-skip delay m now (take over w.trace) recent old later in
    let known = ap (next_known delay now) parts ∙ over-known delay m now (take over w.trace) recent old later in
    let amid = any-recent (is_in_air delay now) over w.trace (over-silent delay m now (take over w.trace) old later) in
    ap (λ o. ending o (next_known delay now w.trace) (list_any (is_in_air delay now) w.trace)) ends
    ∙ ap (λ o. ending (next_end_of delay now recent) o (list_any (is_in_air delay now) w.trace)) known
    ∙ ap (ending (next_end_of delay now recent) (next_known delay now recent)) amid

-- ---- the next end is a moment

earlier-by : (m : ℕ) (a b : Option ℕ) → IfSome a (λ t. t ≤ m) → IfSome b (λ t. t ≤ m) → IfSome (earlier a b) (λ t. t ≤ m)
earlier-by m None b x y = y
earlier-by m (Some s) None x y = x
earlier-by m (Some s) (Some t) x y = omega (arith, x, y)

later_end-by : (m now end : ℕ) → end ≤ m → IfSome (later_end now end) (λ t. t ≤ m)
later_end-by m now end by = by_test (λ (o : Option ℕ). IfSome o (λ t. t ≤ m)) (nat_lt now end) (Some end) None (λ _. by) (λ _. tt)

next_end-by : (m delay now : ℕ) (es : List Entry) → AllBy m es → IfSome (next_end_of delay now es) (λ t. t ≤ m + delay)
next_end-by m delay now [] by = tt
next_end-by m delay now (Noise span ∷ es) by =
    earlier-by (m + delay) (later_end now span.end) (next_end_of delay now es) (later_end-by (m + delay) now span.end (omega (arith, by.0))) (next_end-by m delay now es by.1)
next_end-by m delay now (Sent r ∷ es) by =
    earlier-by (m + delay) (earlier (later_end now r.end) (later_end now (r.end + delay))) (next_end_of delay now es)
    (earlier-by (m + delay) (later_end now r.end) (later_end now (r.end + delay)) (later_end-by (m + delay) now r.end (omega (arith, by.0))) (later_end-by (m + delay) now (r.end + delay) (omega (arith, by.0))))
    (next_end-by m delay now es by.1)

next_known-by : (m delay now : ℕ) (es : List Entry) → now ≤ m → AllBegun now es → IfSome (next_known delay now es) (λ t. t ≤ m + delay + 1)
next_known-by m delay now [] le begun = tt
next_known-by m delay now (e ∷ es) le begun =
    let begin = (reaches_taps delay e).begin in
    earlier-by (m + delay + 1) (later_end now (begin + 1)) (next_known delay now es) (later_end-by (m + delay + 1) now (begin + 1) (omega (arith, reached delay e begun.0, le))) (next_known-by m delay now es le begun.2)
  where
    reached : (d : ℕ) (x : Entry) → entry_begin x ≤ now → (reaches_taps d x).begin ≤ now + d
    reached d (Noise span) at = omega (arith, at)
    reached d (Sent r) at = omega (arith, at)

pub by-drop : (m n : ℕ) (es : List Entry) → AllBy m es → AllBy m (drop n es)
by-drop m zero es by = by
by-drop m (suc n) [] by = tt
by-drop m (suc n) (e ∷ es) by = by-drop m n es by.1

pub recent-begun : (now over : ℕ) (es : List Entry) → AllBegun now es → AllBegun now (drop over es)
recent-begun now over es begun = begun-behind now (take over es) (drop over es) (subst (AllBegun now) (sym (take-append-drop over es)) begun)

pub recent-by : (m delay now over : ℕ) (es : List Entry) → AllBy m es → IfSome (next_end_of delay now (drop over es)) (λ t. t ≤ m + delay)
recent-by m delay now over es by = next_end-by m delay now (drop over es) (by-drop m over es by)

-- what is a moment later is known soon enough
one-sooner : (m : ℕ) (o : Option ℕ) → IfSome (option_map (λ n. n + 1) o) (λ t. t ≤ m + 1) → IfSome o (λ t. t ≤ m)
one-sooner m None by = tt
one-sooner m (Some n) by = omega (arith, by)

pub known-by : (m delay now over : ℕ) (es : List Entry) (o : Option ℕ) → option_map (λ n. n + 1) o ≡ next_known delay now (drop over es) → now ≤ m → AllBegun now es
    → IfSome o (λ t. t ≤ m + delay)
known-by m delay now over es o is le begun =
    one-sooner (m + delay) o (subst (λ x. IfSome x (λ t. t ≤ m + delay + 1)) (sym is)
    (next_known-by m delay now (drop over es) le (recent-begun now over es begun)))
