use Rattle.std.proofs.Common.{◌∙◌, ap, map, ℕ, Option}
use Rattle.pb_tokenfsm.specs.Phases.{phase_of}
use Rattle.pb_transitions.specs.Cores.{station_of, station_with}
use Rattle.pb_station.specs.Halves.{has_come}
use Rattle.pb_station.specs.MarkViews.{mark_of}
use Rattle.pb_station.proofs.Receipts.{received-clock}
use Rattle.pb_station.proofs.turns.read_on.Goals as goal

pub returns-clause-come : goal.returns-clause-come
returns-clause-come c =
    c.has_come.ensures ∙ ap (λ (o : Option ℕ). has_come o c.args.now) (c.speaks_at.ensures c.args.core.now.waiting)

pub returns-clause-received : goal.returns-clause-received
returns-clause-received c =
    received-clock c.args.params.now (station_of c.args.core.now) (station_with c.settle_on.new.kept c.args.core.now.waiting (phase_of c.settle_on.new.phase)) (map mark_of c.args.marks.now) c.args.now
    (c.settle_on.ensures c.args.core.now.waiting) c.requires.received
