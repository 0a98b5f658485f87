use Rattle.std.proofs.Common.{rules, ◌≡◌, ◌∙◌, ◌<◌, ◌≤◌, ap, sym, refl, subst, ℕ, List, Option, Some, None}
use Rattle.std.specs.Prelude.{is_some, IsSome}
use Rattle.pb_tokenfsm.specs.Phases.{phase_of}
use Rattle.law_turn.specs.Stations.{Station, speaks_at}
use Rattle.law_turn.specs.Turns.{phase_says}
use Rattle.pb_transitions.specs.Cores.{station_with}
use Rattle.pb_transitions.proofs.Speaking.{speaks, waits, has_none}
use Rattle.pb_transitions.proofs.speeches.would_say.Goals as goal

pub returns-in-Some : goal.returns-in-Some
returns-in-Some c p queue =
    let s = station_with c.args.kept.now queue (phase_of c.args.phase.now) in
    let come : c.in-Some.moment ≤ c.args.now = search rules in
    let some : IsSome (speaks_at s) = subst IsSome (sym c.in-Some.is ∙ c.speaks_at.ensures queue) refl in
    c.has_words.ensures p queue c.args.now some
    ∙ ap (λ (x : Station × Option (List ℕ)). is_some x.1)
    (speaks p s c.speaks_at.result (speaks_at s) c.in-Some.moment c.args.now (phase_says p s s.phase c.args.now) refl c.in-Some.is (c.speaks_at.ensures queue) come)

pub returns-in_default : goal.returns-in_default
returns-in_default c p queue =
    let s = station_with c.args.kept.now queue (phase_of c.args.phase.now) in
    let early : c.args.now < c.in-Some.moment = search rules in
    ap (λ (x : Station × Option (List ℕ)). is_some x.1)
    (waits p s c.speaks_at.result (speaks_at s) c.in-Some.moment c.args.now c.in-Some.is (c.speaks_at.ensures queue) early)

pub returns-in_default-2 : goal.returns-in_default-2
returns-in_default-2 c p queue =
    let s = station_with c.args.kept.now queue (phase_of c.args.phase.now) in
    ap (λ (x : Station × Option (List ℕ)). is_some x.1) (has_none p s c.speaks_at.result (speaks_at s) c.args.now c.in_default.is (c.speaks_at.ensures queue))
