use Rattle.std.proofs.Common.{◌∙◌, ap, sym, ℕ, Option}
use Rattle.law_turn.specs.Stations.{speaks_at}
use Rattle.pb_tokenfsm.specs.Phases.{phase_of}
use Rattle.pb_transitions.specs.Cores.{station_with}
use Rattle.pb_transitions.specs.Speeches.{spoken_with}
use Rattle.pb_station.specs.Halves.{has_come}
use Rattle.pb_station.proofs.Silence.{silent_speech}
use Rattle.pb_station.proofs.turns.speak_if_due.Goals as goal

pub returns-else-has_come : goal.returns-else-has_come
returns-else-has_come c =
    let kept = c.args.kept.now in
    let waiting = c.args.waiting.now in
    let phase = phase_of c.args.phase.now in
    let before = station_with kept waiting phase in
    let not_come = sym (ap (λ (o : Option ℕ). has_come o c.args.now) (c.speaks_at.ensures waiting)) ∙ sym c.has_come.ensures ∙ c.if-has_come.false in
    ap (spoken_with kept waiting phase) c.clear.ensures ∙ sym (silent_speech c.args.params.now before (speaks_at before) c.args.now not_come)
