use Rattle.std.proofs.Common.{rules, ◌≡◌, ◌∙◌, ◌<◌, ◌≤◌, ap, sym, arith, None}
use Rattle.pb_tokenfsm.specs.Phases.{phase_of}
use Rattle.law_turn.specs.Stations.{speaks_at}
use Rattle.law_turn.specs.Turns.{phase_says}
use Rattle.pb_transitions.specs.Cores.{station_with}
use Rattle.pb_transitions.specs.Speeches.{spoken_with}
use Rattle.pb_transitions.proofs.Speaking.{speaks, waits, has_none}
use Rattle.pb_transitions.proofs.speeches.speak.Goals as goal
use Rattle.pb_transitions.proofs.speeches.speak.Goals.{in_default-via-in-Some+else-le, in_default-via-in_default}

pub returns-in-Some : goal.returns-in-Some
returns-in-Some c =
    let s = station_with c.args.kept.now c.args.waiting.now (phase_of c.args.phase.now) in
    let come : c.in-Some.moment ≤ c.args.now = search rules in
    speaks c.args.params.now s c.speaks_at.result (speaks_at s) c.in-Some.moment c.args.now (spoken_with c.says.new.kept c.says.new.waiting (phase_of c.says.result) c.says.new.out)
    (c.says.ensures ∙ ap (λ phase. phase_says c.args.params.now (station_with c.args.kept.now c.args.waiting.now (phase_of phase)) (phase_of phase) c.args.now) c.take-before.ensures.taken)
    c.in-Some.is (c.speaks_at.ensures c.args.waiting.now) come

pub returns-in_default : goal.returns-in_default
returns-in_default c =
    let s = station_with c.args.kept.now c.args.waiting.now (phase_of c.args.phase.now) in
    ap (λ sent. spoken_with c.args.kept.now c.args.waiting.now (phase_of c.args.phase.now) sent) c.clear.ensures
    ∙ elim c.in_default.branch [
      | in_default-via-in-Some+else-le w ↦
          (let early : c.args.now < w.in-Some.moment = search rules in waits c.args.params.now s c.speaks_at.result (speaks_at s) w.in-Some.moment c.args.now w.in-Some.is (c.speaks_at.ensures c.args.waiting.now) early)
      | in_default-via-in_default w ↦ has_none c.args.params.now s c.speaks_at.result (speaks_at s) c.args.now w.in_default.is (c.speaks_at.ensures c.args.waiting.now)
    ]
