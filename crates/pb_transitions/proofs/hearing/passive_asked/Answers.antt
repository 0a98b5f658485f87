use Rattle.std.proofs.Common.{◌∙◌}
use Rattle.law_turn.specs.Phases as turn
use Rattle.pb_transitions.specs.Cores.{station_with}
use Rattle.pb_transitions.proofs.Responses.{in_passive}
use Rattle.pb_transitions.proofs.hearing.passive_asked.Goals as goal

pub returns : goal.returns
returns c queue =
    c.answer.ensures turn.PassiveIdle queue
    ∙ in_passive c.args.params.now (station_with c.args.kept.now queue turn.PassiveIdle) c.args.at c.args.telegram.now c.requires.framed
