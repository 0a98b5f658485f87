use Rattle.std.proofs.Common.{sym, subst, Option, List, ℕ}
use Rattle.law_turn.specs.Stations.{Station, speaks_at}
use Rattle.pb_transitions.specs.Cores.{station_of, HasReceived}
use Rattle.pb_station.proofs.Receipts.{received-speech}
use Rattle.pb_station.proofs.turns.speak_on.Goals as goal

pub returns-clause-received : goal.returns-clause-received
returns-clause-received c =
    let before = station_of c.args.core.now in
    subst (λ (x : Station × Option (List ℕ)). HasReceived x.0) (sym c.speak.ensures)
    (received-speech c.args.params.now before (speaks_at before) c.args.now c.requires.received)
