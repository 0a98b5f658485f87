-- Moments that lie after now: what comes next in a plan and on the bus.
use Rattle.std.proofs.Common.{◌≡◌, ℕ, ◌+◌, ◌<◌, ◌≤◌, Bool, true, false, ◌&&◌, List, [], ◌∷◌, Option, Some, None, refl, arith}
use Rattle.std.specs.Prelude.{IfSome, nat_lt, nat_le, if◌then◌else◌}
use Rattle.std.proofs.lemmas.Bool.{ltb-true, ltb-false, leb-false}
use Rattle.law_turn.specs.Stations.{earlier}
use Rattle.law_turn.proofs.Cases.{by_test, earlier-later, later-earlier}
use Rattle.law_model.specs.Trace.{Entry, Sent, Noise}
use Rattle.law_model.specs.Medium.{reaches}
use Rattle.law_model.specs.World.{World, later_end, entry_next_end, next_end_of}
use Rattle.law_runs.specs.Runs.{Plan, after, comes, next_turn, onward, next}
use Rattle.law_model.specs.Medium.{reaches_taps}
use Rattle.law_runs.specs.Bus.{next_known, is_started_amid, next_change}
use Rattle.law_runs.specs.Scenarios.{Planned, next_step}

-- a moment, where there is one, lies after another
abbrev pub LiesAfter : ℕ → Option ℕ → Type 0
LiesAfter now o = IfSome o (λ t. now < t)

pub after-later_end : (now m : ℕ) → LiesAfter now (later_end now m)
after-later_end now m = by_test (λ (o : Option ℕ). LiesAfter now o) (nat_lt now m) (Some m) None (λ is. ltb-true now m is) (λ _. tt)

pub after-after : (now : ℕ) (o : Option ℕ) → LiesAfter now (after now o)
after-after now None = tt
after-after now (Some m) = after-later_end now m

after-entry : (delay now : ℕ) (e : Entry) → LiesAfter now (entry_next_end delay now e)
after-entry delay now (Noise span) = after-later_end now span.end
after-entry delay now (Sent r) = earlier-later now (later_end now r.end) (later_end now (reaches delay r).end) (after-later_end now r.end) (after-later_end now (reaches delay r).end)

pub after-next_end : (delay now : ℕ) (es : List Entry) → LiesAfter now (next_end_of delay now es)
after-next_end delay now [] = tt
after-next_end delay now (e ∷ es) = earlier-later now (entry_next_end delay now e) (next_end_of delay now es) (after-entry delay now e) (after-next_end delay now es)

after-next_known : (delay now : ℕ) (es : List Entry) → LiesAfter now (next_known delay now es)
after-next_known delay now [] = tt
after-next_known delay now (e ∷ es) =
    earlier-later now (later_end now ((reaches_taps delay e).begin + 1)) (next_known delay now es) (after-later_end now ((reaches_taps delay e).begin + 1)) (after-next_known delay now es)

-- what changes on the bus changes after now
pub after-next_change : (w : World) → LiesAfter w.now (next_change w)
after-next_change w =
    let amid : Option ℕ = if is_started_amid w then Some (w.now + 1) else None in
    let after_amid : LiesAfter w.now amid = by_test (λ (o : Option ℕ). LiesAfter w.now o) (is_started_amid w) (Some (w.now + 1)) None (λ _. omega arith) (λ _. tt) in
    earlier-later w.now (next_end_of w.params.ttd w.now w.trace) (earlier (next_known w.params.ttd w.now w.trace) amid) (after-next_end w.params.ttd w.now w.trace)
    (earlier-later w.now (next_known w.params.ttd w.now w.trace) amid (after-next_known w.params.ttd w.now w.trace) after_amid)

pub after-next_step : (steps : List Planned) (now : ℕ) → LiesAfter now (next_step steps now)
after-next_step [] now = tt
after-next_step (s ∷ steps) now = earlier-later now (after now (Some s.at)) (next_step steps now) (after-after now (Some s.at)) (after-next_step steps now)

after-comes : {E : Type 0} (p : Plan E) (now tap : ℕ) (due : Option ℕ) → LiesAfter now (comes p now tap due)
after-comes p now tap due =
    by_test (λ (o : Option ℕ). LiesAfter now o) (nat_lt now (p.held_until now tap)) (Some (p.held_until now tap)) (after now due) (λ is. ltb-true now (p.held_until now tap) is) (λ _. after-after now due)

after-next_turn : {E : Type 0} (p : Plan E) (now tap : ℕ) (dues : List (Option ℕ)) → LiesAfter now (next_turn p now tap dues)
after-next_turn p now tap [] = tt
after-next_turn p now tap (due ∷ dues) = earlier-later now (comes p now tap due) (next_turn p now (tap + 1) dues) (after-comes p now tap due) (after-next_turn p now (tap + 1) dues)

-- ---- before the next instant

-- what comes next is after a moment, where the run has its next instant after that, or none at all
abbrev pub Skips : ℕ → Option ℕ → Type 0
Skips m next = IfSome next (λ t. m < t)

onward-skips : {E : Type 0} (p : Plan E) (now m : ℕ) (o : Option ℕ) → LiesAfter now o → m ≤ p.until → Skips m (onward p now o) → LiesAfter m o
onward-skips p now m None later in_time skips = tt
onward-skips p now m (Some t) later in_time skips = by (nat_lt now t) (nat_le t p.until) refl refl skips
  where
    by : (a b : Bool) → nat_lt now t ≡ a → nat_le t p.until ≡ b → Skips m (if a && b then Some t else None) → m < t
    by true true one two skips = skips
    by true false one two skips = omega (arith, in_time, leb-false t p.until two)
    by false b one two skips = absurd (omega (arith, later, ltb-false now t one))

-- no event of the plan comes up to such a moment
pub later-skips : {E : Type 0} (p : Plan E) (now m : ℕ) (dues : List (Option ℕ)) (change : Option ℕ) → LiesAfter now (p.later now) → LiesAfter now change → m ≤ p.until
    → Skips m (next p now dues change) → LiesAfter m (p.later now)
later-skips p now m dues change later changes in_time skips =
    let turn = next_turn p now 0 dues in
    let all = earlier-later now (p.later now) (earlier change turn) later (earlier-later now change turn changes (after-next_turn p now 0 dues)) in
    (later-earlier m (p.later now) (earlier change turn) (onward-skips p now m (earlier (p.later now) (earlier change turn)) all in_time skips)).0
