use Rattle.std.proofs.Common.{◌∙◌, ap, subst}
use Rattle.pb_stream.specs.Streams.{HasPlayed}
use Rattle.pb_stream.specs.declared.streams.Progress.{Progress}
use Rattle.pb_cli.specs.declared.settled.Settled.{Settled}
use Rattle.pb_cli.proofs.DrawnRuns.{at_refusal}
use Rattle.pb_cli.proofs.stream_drawing.play.Goals as goal

pub returns-in_ok-refused_line-in-Refused : goal.returns-in_ok-refused_line-in-Refused
returns-in_ok-refused_line-in-Refused c =
    let old = c.args.stream.now in
    let next = c.play.new.self in
    at_refusal old next c.in-Refused.clock c.in-Refused.fault c.refused.result (subst (λ (p : Progress). HasPlayed p old next) c.in-Refused.is c.in_ok-play.ensures.plays)
    c.in_ok-refused_line-in-Refused.ensures.told (ap (λ (e : Settled). e.status) c.refused.ensures)
    (ap (λ (e : Settled). e.line.items) c.refused.ensures ∙ c.in_ok-refused_line-in-Refused.ensures.line)
