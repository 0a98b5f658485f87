-- The silence bound, for every cable delay: no master that runs is left in silence for longer than its time-out, the lag and the delay.
use Rattle.std.proofs.Common.{◌≡◌, ℕ, ◌+◌, ◌-◌, ◌<◌, ◌≤◌, ◌⊎◌, inl, inr, ⊎_elim, Bool, true, false, if◌then◌else◌, ◌&&◌, List, [], ◌∷◌, sym, ap, subst, arith}
use Rattle.std.specs.Prelude.{nat_lt}
use Rattle.std.specs.List.{list_any}
use Rattle.std.proofs.lemmas.Bool.{ltb-false, lt-ltb, cases_lt, eq-eqb, ne_eqb, or_parts}
use Rattle.pb_timers.specs.Timers.{Params, tto}
use Rattle.law_turn.specs.Spans.{Span}
use Rattle.law_turn.specs.Phases.{Phase, Offline, is_offline}
use Rattle.law_model.specs.Trace.{Entry, Sent, Noise}
use Rattle.law_model.specs.Medium.{TapSpec, Tap, reaches}
use Rattle.law_model.specs.World.{World, Event}
use Rattle.law_model.specs.Step.{RunsTo}
use Rattle.law_model.specs.Laws.{AreEvents}
use Rattle.law_runs.specs.Activity.{active_at, is_within, is_silent}
use Rattle.law_runs.specs.Headline.{NoneLosesOrComesLate, SilenceBound}
use Rattle.law_token.specs.Lists.{Each}
use Rattle.law_token.specs.Places.{LeavesTime}
use Rattle.law_token.specs.Views.{IsOn}
use Rattle.law_token.specs.Promises.{HasRun, IsMasterAt, SilenceAtSpeakers, SilenceAtTap}
use Rattle.law_token.proofs.bus.Lists.{each_map}
use Rattle.law_token.proofs.bus.Live.{on_or_off}
use Rattle.law_token.proofs.whole.Keeping.{fits_valid}
use Rattle.law_token.proofs.quiet.Alert.{IsApart}
use Rattle.law_token.proofs.quiet.Watched.{Watch, event_watches, new_watches}
use Rattle.law_model.proofs.Window.{not_false}

-- ---- silence, entry by entry

pub none_of : (test : Entry → Bool) (es : List Entry) → list_any test es ≡ false → Each (λ e. test e ≡ false) es
none_of test [] h = tt
none_of test (e ∷ es) h = let b = or_parts (test e) (list_any test es) h in (b.0, none_of test es b.1)

apart : (from to : ℕ) (span : Span) → is_within from to span ≡ false → (to ≤ span.begin) ⊎ (span.end ≤ from)
apart from to span h =
    ⊎_elim
    (λ (a : span.begin < to). inr (ltb-false from span.end (subst (λ b. (b && nat_lt from span.end) ≡ false) (lt-ltb span.begin to a) h)))
    (λ (a : to ≤ span.begin). inl a)
    (cases_lt span.begin to)

-- what is not active in a stretch is apart from it
apart_one : (reach tap from to : ℕ) (e : Entry) → is_within from to (active_at reach tap e) ≡ false → IsApart reach tap from to e
apart_one reach tap from to (Noise span) h = apart from to span h
apart_one reach tap from to (Sent r) h = (
  λ mine. apart from to (record { begin = r.begin; end = r.end }) (subst (λ b. is_within from to (if b then record { begin = r.begin; end = r.end } else reaches reach r) ≡ false) (eq-eqb r.tap tap mine) h),
  λ other. apart from to (reaches reach r) (subst (λ b. is_within from to (if b then record { begin = r.begin; end = r.end } else reaches reach r) ≡ false) (ne_eqb r.tap tap other) h),
)

-- ---- the runs

runs_watch : (events : List Event) (p : Params) (w next : World) → AreEvents events → RunsTo w events next → NoneLosesOrComesLate w events → Watch p w → Watch p next
runs_watch [] p w next are runs none k = subst (λ z. Watch p z) runs k
runs_watch (e ∷ es) p w next are runs none k =
    runs_watch es p runs.0 next are.1 runs.3 (none.2 runs.0 runs.1 runs.2) (event_watches w e p runs.0 runs.1 runs.2 are.0 none.0 none.1 k)

is_on : (ph : Phase) → (is_offline ph ≡ true → ⊥) → IsOn ph
is_on ph h = ⊎_elim (λ (e : ph ≡ Offline). absurd (h (ap is_offline e))) (λ (on : IsOn ph). on) (on_or_off ph)

-- a stretch of silence in a watched world, where telegrams of others count so long after they were sent
pub stretch_in : (p : Params) (w : World) (tap m u reach : ℕ) (t : Tap) → Watch p w → IsMasterAt w tap t
    → reach ≤ p.ttd → t.since ≤ m → m < u → u ≤ w.now → is_silent reach tap w.trace m u ≡ true → u ≤ m + (tto p t.spec.address + p.lag + (p.ttd - reach))
stretch_in p w tap m u reach t k is short since lt le silent =
    let quiet = none_of (λ e. is_within m u (active_at reach tap e)) w.trace (not_false (list_any (λ e. is_within m u (active_at reach tap e)) w.trace) silent) in
    let short' : reach ≤ w.params.ttd = subst (λ (z : Params). reach ≤ z.ttd) (sym k.params) short in
    subst (λ (z : Params). u ≤ m + (tto z t.spec.address + z.lag + (z.ttd - reach))) k.params
    ((k.taps tap t is.here is.running is.master).recalls (is_on t.station.phase is.on) reach m u short' since lt le
    (each_map (λ e. is_within m u (active_at reach tap e) ≡ false) (IsApart reach tap m u) w.trace (λ e. apart_one reach tap m u e) quiet))

-- and after a run
stretch : (p : Params) (specs : List TapSpec) (events : List Event) (new w : World) (tap m u reach : ℕ) (t : Tap) → LeavesTime p → HasRun p specs events new w → NoneLosesOrComesLate new events → IsMasterAt w tap t
    → reach ≤ p.ttd → t.since ≤ m → m < u → u ≤ w.now → is_silent reach tap w.trace m u ≡ true → u ≤ m + (tto p t.spec.address + p.lag + (p.ttd - reach))
stretch p specs events new w tap m u reach t fits run none is short since lt le silent =
    stretch_in p w tap m u reach t (runs_watch events p new w run.are run.runs none (new_watches p specs new fits run.fit run.made)) is short since lt le silent

-- ---- the bounds

pub silence_at_speakers : SilenceAtSpeakers
silence_at_speakers p specs events new w tap m u t fits run none is since lt le silent =
    let h = stretch p specs events new w tap m u 0 t fits run none is (omega arith) since lt le silent in omega (arith, h)

pub silence_at_tap : SilenceAtTap
silence_at_tap p specs events new w tap m u t fits run none is since lt le silent =
    let h = stretch p specs events new w tap m u p.ttd t fits run none is (omega arith) since lt le silent in omega (arith, h)

-- with valid parameters, up to the clock
pub silence_bound : SilenceBound
silence_bound p specs events new w tap m t valid fit are made runs none at running master on since lt silent =
    silence_at_speakers p specs events new w tap m w.now t (fits_valid p valid) (record { fit = fit; are = are; made = made; runs = runs }) none
    (record { here = at; running = running; master = master; on = on }) since lt (omega arith) silent
