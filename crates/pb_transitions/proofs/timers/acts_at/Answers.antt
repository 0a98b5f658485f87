use Rattle.std.proofs.Common.{◌∙◌, ap, ℕ, Option}
use Rattle.law_turn.specs.Stations.{earlier, timer_of}
use Rattle.pb_tokenfsm.specs.Phases.{phase_of}
use Rattle.pb_transitions.specs.Cores.{station_with}
use Rattle.pb_transitions.proofs.timers.acts_at.Goals as goal

pub returns-in-AwaitData : goal.returns-in-AwaitData
returns-in-AwaitData c = λ queue.
    let s = station_with c.args.kept.now queue (phase_of c.args.phase.now) in
    c.earlier.ensures
    ∙ ap (λ (o : Option ℕ). earlier o c.speaks_at.result) (c.timer.ensures queue)
    ∙ ap (λ (o : Option ℕ). earlier (timer_of c.args.params.now s) o) (c.speaks_at.ensures queue)
