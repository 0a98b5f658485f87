use Rattle.std.proofs.Common.{sym, subst, Option, List, ℕ}
use Rattle.law_turn.specs.Stations.{Station, speaks_at}
use Rattle.pb_tokenfsm.specs.Phases.{phase_of}
use Rattle.pb_transitions.specs.Cores.{station_of, station_with, HasReceived}
use Rattle.pb_station.proofs.Receipts.{received-clock, received-speech}
use Rattle.pb_station.proofs.turns.take_turn_with.Goals as goal

pub speak_if_due-requires-clause-received : goal.speak_if_due-requires-clause-received
speak_if_due-requires-clause-received c =
    received-clock c.args.params.now (station_of c.args.core.now) (station_with c.settle_with.new.kept c.args.core.now.waiting (phase_of c.settle_with.new.phase)) c.args.mail.now.marks c.args.now
    (c.settle_with.ensures.read c.args.core.now.waiting) c.requires.received

pub returns-clause-received : goal.returns-clause-received
returns-clause-received c =
    let settled = station_with c.settle_with.new.kept c.args.core.now.waiting (phase_of c.settle_with.new.phase) in
    subst (λ (x : Station × Option (List ℕ)). HasReceived x.0) (sym c.speak_if_due.ensures)
    (received-speech c.args.params.now settled (speaks_at settled) c.args.now
    (received-clock c.args.params.now (station_of c.args.core.now) settled c.args.mail.now.marks c.args.now (c.settle_with.ensures.read c.args.core.now.waiting) c.requires.received))
