-- The moment since which a tap has been in silence, along the events.
use Rattle.std.proofs.Common.{◌≡◌, ◌∙◌, ap, sym, refl, arith, ℕ, ◌+◌, ◌<◌, ◌≤◌, ◌==◌, ◌||◌, ◌&&◌, nat_lt, nat_le, not, max, min, List, [], ◌∷◌, length, map, Bool, true, false, if◌then◌else◌, Option}
use Rattle.std.specs.List.{list_any}
use Rattle.std.proofs.lemmas.Bool.{ltb-true, ltb-false, leb-true, leb-false, lt-ltb, le-ltb, le-leb, lt-leb}
use Rattle.std.proofs.lemmas.Bool.Decides.{nat_tests}
use Rattle.law_turn.specs.Spans.{Span}
use Rattle.law_model.specs.Trace as trace
use Rattle.law_model.specs.Trace.{Hit, Record, Entry, Sent, entry_begin, goes_before, with_entry, cut_end, cut_at, is_noise_at, noisy_until, unheard_at}
use Rattle.law_model.specs.Medium.{Tap, reaches, ends_between, entry_at, heard_by}
use Rattle.law_model.specs.World.{later_end, entry_next_end, next_end_of}
use Rattle.law_model.specs.Step.{is_past, with_hit, change_first, with_noise}
use Rattle.law_model.specs.Laws.{AllBegun}
use Rattle.law_model.proofs.Cases.{by_test}
use Rattle.law_model.proofs.Sensed.{is_past-earlier, later_end-bound}
use Rattle.law_model.proofs.Window.{Solid}
use Rattle.law_runs.specs.Activity.{active_at, is_within, is_silent}
use Rattle.law_runs.specs.Quiet.{active_until, quiet_at, is_active}
use Rattle.law_runs.proofs.Judged.{active-late}

-- ---- silence

silent_more : (from u v : ℕ) (a b : Bool) → a ≡ nat_lt from u → not b ≡ nat_le v from → not (a || b) ≡ nat_le (max u v) from
silent_more from u v true b is rest = sym (lt-leb (max u v) from (omega (arith, ltb-true from u (sym is))))
silent_more from u v false true is rest = sym (lt-leb (max u v) from (omega (arith, leb-false v from (sym rest))))
silent_more from u v false false is rest = sym (le-leb (max u v) from (omega (arith, ltb-false from u (sym is), leb-true v from (sym rest))))

until-begun : (now : ℕ) (s : Span) → s.begin < now → active_until now s ≡ min s.end now
until-begun now s begun = ap (λ (b : Bool). if b then min s.end now else 0) (lt-ltb s.begin now begun)

until-later : (now : ℕ) (s : Span) → now ≤ s.begin → active_until now s ≡ 0
until-later now s later = ap (λ (b : Bool). if b then min s.end now else 0) (le-ltb s.begin now later)

within-until : (from now : ℕ) (s : Span) → from < now → is_within from now s ≡ nat_lt from (active_until now s)
within-until from now s before = by_begin (nat_lt s.begin now)
  where
    by_begin : (b : Bool) → (b && nat_lt from s.end) ≡ nat_lt from (if b then min s.end now else 0)
    by_begin true = grind (arith, nat_tests)
    by_begin false = sym (le-ltb from 0 (omega arith))

-- a tap is in silence from the moment on since which nothing has been active at it
pub silent-quiet : (delay tap from now : ℕ) (es : List Entry) → from < now → is_silent delay tap es from now ≡ nat_le (quiet_at delay tap now es) from
silent-quiet delay tap from now [] before = sym (le-leb 0 from (omega arith))
silent-quiet delay tap from now (e ∷ es) before =
    silent_more from (active_until now (active_at delay tap e)) (quiet_at delay tap now es) (is_within from now (active_at delay tap e)) (list_any (λ e. is_within from now (active_at delay tap e)) es)
    (within-until from now (active_at delay tap e) before) (silent-quiet delay tap from now es before)

-- ---- changes that leave it

-- until when an entry has been active at a tap
abbrev until_of : (delay tap now : ℕ) → Entry → ℕ
until_of delay tap now e = active_until now (active_at delay tap e)

-- what begins now, or later, has not been active
quiet-with_entry : (delay tap now : ℕ) (e : Entry) (es : List Entry) → now ≤ entry_begin e → quiet_at delay tap now (with_entry e es) ≡ quiet_at delay tap now es
quiet-with_entry delay tap now e [] later =
    let none = until-later now (active_at delay tap e) (omega (arith, later, active-late delay tap e)) in omega (arith, none)
quiet-with_entry delay tap now e (x ∷ xs) later =
    let none = until-later now (active_at delay tap e) (omega (arith, later, active-late delay tap e)) in
    by_test (λ (es : List Entry). quiet_at delay tap now es ≡ quiet_at delay tap now (x ∷ xs)) (goes_before e x) (e ∷ x ∷ xs) (x ∷ with_entry e xs)
    (λ _. omega (arith, none)) (λ _. ap (λ (n : ℕ). max (until_of delay tap now x) n) (quiet-with_entry delay tap now e xs later))

quiet-change_first : (delay tap now : ℕ) (test : Entry → Bool) (change : Entry → Entry) (es : List Entry) → ((e : Entry) → test e ≡ true → until_of delay tap now (change e) ≡ until_of delay tap now e)
    → quiet_at delay tap now (change_first test change es) ≡ quiet_at delay tap now es
quiet-change_first delay tap now test change [] same = refl
quiet-change_first delay tap now test change (e ∷ es) same =
    by_test (λ (xs : List Entry). quiet_at delay tap now xs ≡ quiet_at delay tap now (e ∷ es)) (test e) (change e ∷ es) (e ∷ change_first test change es)
    (λ passes. ap (λ (n : ℕ). max n (quiet_at delay tap now es)) (same e passes))
    (λ _. ap (λ (n : ℕ). max (until_of delay tap now e) n) (quiet-change_first delay tap now test change es same))

quiet-map : (delay tap now : ℕ) (change : Entry → Entry) (es : List Entry) → ((e : Entry) → until_of delay tap now (change e) ≡ until_of delay tap now e)
    → quiet_at delay tap now (map change es) ≡ quiet_at delay tap now es
quiet-map delay tap now change [] same = refl
quiet-map delay tap now change (e ∷ es) same =
    ap (λ (n : ℕ). max n (quiet_at delay tap now (map change es))) (same e) ∙ ap (λ (n : ℕ). max (until_of delay tap now e) n) (quiet-map delay tap now change es same)

until-with_hit : (delay tap now : ℕ) (hit : Hit) (e : Entry) → until_of delay tap now (with_hit hit e) ≡ until_of delay tap now e
until-with_hit delay tap now hit (trace.Noise span) = refl
until-with_hit delay tap now hit (Sent r) = refl

until-unheard_at : (delay tap now at : ℕ) (e : Entry) → until_of delay tap now (unheard_at at e) ≡ until_of delay tap now e
until-unheard_at delay tap now at (trace.Noise span) = refl
until-unheard_at delay tap now at (Sent r) = refl

until-same : (now begin end other : ℕ) → (begin < now → min end now ≡ min other now) → active_until now (record { begin = begin; end = end }) ≡ active_until now (record { begin = begin; end = other })
until-same now begin end other same = by_begin (nat_lt begin now) refl
  where
    by_begin : (b : Bool) → nat_lt begin now ≡ b → (if b then min end now else 0) ≡ (if b then min other now else 0)
    by_begin true is = same (ltb-true begin now is)
    by_begin false is = refl

-- a cut leaves the character that is on its way
until-cut_at : (delay tap now speaker : ℕ) (e : Entry) → until_of delay tap now (cut_at now speaker e) ≡ until_of delay tap now e
until-cut_at delay tap now speaker (trace.Noise span) = refl
until-cut_at delay tap now speaker (Sent r) =
    by_test (λ (x : Record). until_of delay tap now (Sent x) ≡ until_of delay tap now (Sent r)) (r.tap == speaker) (record r { end = cut_end now r }) r
    (λ _. by_own (r.tap == tap)) (λ _. refl)
  where
    at : Bool → ℕ → Span
    at own end = if own then record { begin = r.begin; end = end } else record { begin = r.begin + delay; end = end + delay }

    by_own : (own : Bool) → active_until now (at own (cut_end now r)) ≡ active_until now (at own r.end)
    by_own true = until-same now r.begin (cut_end now r) r.end (λ begun. omega arith)
    by_own false = until-same now (r.begin + delay) (cut_end now r + delay) (r.end + delay) (λ begun. omega arith)

-- longer noise has been active as long before
until-noisy : (delay tap now m : ℕ) (e : Entry) → now ≤ m → is_noise_at now e ≡ true → until_of delay tap now (noisy_until m e) ≡ until_of delay tap now e
until-noisy delay tap now m (trace.Noise span) later noisy = until-same now span.begin (max span.end m) span.end (λ begun. omega (arith, ltb-true now span.end noisy))
until-noisy delay tap now m (Sent r) later noisy = refl

pub quiet-speech : (delay tap now : ℕ) (r : Record) (es : List Entry) → r.begin ≡ now → quiet_at delay tap now (with_entry (Sent r) es) ≡ quiet_at delay tap now es
quiet-speech delay tap now r es begins = quiet-with_entry delay tap now (Sent r) es (omega (arith, begins))

pub quiet-damaged : (delay tap now : ℕ) (test : Entry → Bool) (hit : Hit) (es : List Entry) → quiet_at delay tap now (change_first test (with_hit hit) es) ≡ quiet_at delay tap now es
quiet-damaged delay tap now test hit es = quiet-change_first delay tap now test (with_hit hit) es (λ e _. until-with_hit delay tap now hit e)

pub quiet-unheard : (delay tap now at : ℕ) (test : Entry → Bool) (es : List Entry) → quiet_at delay tap now (change_first test (unheard_at at) es) ≡ quiet_at delay tap now es
quiet-unheard delay tap now at test es = quiet-change_first delay tap now test (unheard_at at) es (λ e _. until-unheard_at delay tap now at e)

pub quiet-cut : (delay tap now speaker : ℕ) (es : List Entry) → quiet_at delay tap now (map (cut_at now speaker) es) ≡ quiet_at delay tap now es
quiet-cut delay tap now speaker es = quiet-map delay tap now (cut_at now speaker) es (until-cut_at delay tap now speaker)

pub quiet-noise : (delay tap now end : ℕ) (noisy : Bool) (es : List Entry) → now ≤ end → quiet_at delay tap now (with_noise now end noisy es) ≡ quiet_at delay tap now es
quiet-noise delay tap now end true es later = quiet-change_first delay tap now (is_noise_at now) (noisy_until end) es (λ e passes. until-noisy delay tap now end e later passes)
quiet-noise delay tap now end false es later = quiet-with_entry delay tap now (trace.Noise (record { begin = now; end = end })) es (omega arith)

-- ---- time

until-entry_at : (delay tap : ℕ) (taps : List Tap) (all : List Entry) (from to now : ℕ) (e : Entry) → until_of delay tap now (entry_at delay taps all from to e) ≡ until_of delay tap now e
until-entry_at delay tap taps all from to now (trace.Noise span) = refl
until-entry_at delay tap taps all from to now (Sent r) =
    by_test (λ (x : Entry). until_of delay tap now x ≡ until_of delay tap now (Sent r)) (ends_between from to (reaches delay r)) (Sent (record r { heard = heard_by delay all r 0 taps r.heard })) (Sent r)
    (λ _. refl) (λ _. refl)

until-bound : (now : ℕ) (s : Span) → active_until now s ≤ now
until-bound now s = by_test (λ (n : ℕ). n ≤ now) (nat_lt s.begin now) (min s.end now) 0 (λ _. omega arith) (λ _. omega arith)

pub quiet-bound : (delay tap now : ℕ) (es : List Entry) → quiet_at delay tap now es ≤ now
quiet-bound delay tap now [] = omega arith
quiet-bound delay tap now (e ∷ es) = omega (arith, until-bound now (active_at delay tap e), quiet-bound delay tap now es)

-- a pass that goes past no end goes past none at a tap
solid-at : (delay tap now later : ℕ) (e : Entry) → entry_begin e < trace.entry_end e → is_past (entry_next_end delay now e) later ≡ false → Solid now later (active_at delay tap e)
solid-at delay tap now later (trace.Noise span) some past = (some, later_end-bound now span.end later past)
solid-at delay tap now later (Sent r) some past =
    let ends = is_past-earlier (later_end now r.end) (later_end now (reaches delay r).end) later past in
    by_test (Solid now later) (r.tap == tap) (record { begin = r.begin; end = r.end }) (reaches delay r)
    (λ _. (some, later_end-bound now r.end later ends.0)) (λ _. (omega (arith, some), later_end-bound now (reaches delay r).end later ends.1))

until-passed : (now later : ℕ) (s : Span) → now < later → Solid now later s → active_until later s ≡ (if is_within now later s then later else active_until now s)
until-passed now later s goes solid = by (nat_lt s.begin later) (nat_lt now s.end) refl refl
  where
    by : (a b : Bool) → nat_lt s.begin later ≡ a → nat_lt now s.end ≡ b → active_until later s ≡ (if a && b then later else active_until now s)
    by true true begun lasts = until-begun later s (ltb-true s.begin later begun) ∙ (let same : min s.end later ≡ later = omega (arith, solid.1 (ltb-true now s.end lasts)) in same)
    by true false begun over =
        let ended = ltb-false now s.end over in
        until-begun later s (ltb-true s.begin later begun) ∙ (let same : min s.end later ≡ min s.end now = omega (arith, ended, goes) in same) ∙ sym (until-begun now s (omega (arith, solid.0, ended)))
    by false b begun lasts =
        let late = ltb-false s.begin later begun in
        until-later later s late ∙ sym (until-later now s (omega (arith, late, goes)))

passed_more : (now later u q : ℕ) (one more : Bool) → u ≤ now → q ≤ now → now < later
    → max (if one then later else u) (if more then later else q) ≡ (if one || more then later else max u q)
passed_more now later u q true true a b goes = omega arith
passed_more now later u q true false a b goes = omega (arith, b, goes)
passed_more now later u q false true a b goes = omega (arith, a, goes)
passed_more now later u q false false a b goes = refl

quiet-later : (delay tap now later : ℕ) (es : List Entry) → now < later → AllBegun now es → is_past (next_end_of delay now es) later ≡ false
    → quiet_at delay tap later es ≡ (if is_active delay now later es tap then later else quiet_at delay tap now es)
quiet-later delay tap now later [] goes begun past = refl
quiet-later delay tap now later (e ∷ es) goes begun past =
    let ends = is_past-earlier (entry_next_end delay now e) (next_end_of delay now es) later past in
    let s = active_at delay tap e in
    ap (λ (n : ℕ). max n (quiet_at delay tap later es)) (until-passed now later s goes (solid-at delay tap now later e begun.1 ends.0))
    ∙ ap (λ (n : ℕ). max (if is_within now later s then later else active_until now s) n) (quiet-later delay tap now later es goes begun.2 ends.1)
    ∙ passed_more now later (active_until now s) (quiet_at delay tap now es) (is_within now later s) (is_active delay now later es tap) (until-bound now s) (quiet-bound delay tap now es) goes

-- as time passes, to the next end at most, it is the new clock where something was active at the tap
pub quiet-passed : (delay tap now later : ℕ) (taps : List Tap) (es : List Entry) → now < later → AllBegun now es → is_past (next_end_of delay now es) later ≡ false
    → quiet_at delay tap later (map (entry_at delay taps es now later) es) ≡ (if is_active delay now later es tap then later else quiet_at delay tap now es)
quiet-passed delay tap now later taps es goes begun past =
    quiet-map delay tap later (entry_at delay taps es now later) es (until-entry_at delay tap taps es now later later) ∙ quiet-later delay tap now later es goes begun past
