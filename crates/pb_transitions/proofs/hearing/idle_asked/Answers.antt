use Rattle.std.proofs.Common.{◌∙◌}
use Rattle.law_turn.specs.Phases as turn
use Rattle.pb_transitions.specs.Cores.{station_with}
use Rattle.pb_transitions.proofs.Responses.{in_idle}
use Rattle.pb_transitions.proofs.hearing.idle_asked.Goals as goal

pub returns : goal.returns
returns c refused queue =
    c.answer.ensures (turn.Idle refused) queue
    ∙ in_idle c.args.params.now (station_with c.args.kept.now queue (turn.Idle refused)) refused c.args.at c.args.telegram.now c.requires.framed
