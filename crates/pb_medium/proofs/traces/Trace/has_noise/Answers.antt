use Rattle.std.proofs.Common.{◌∙◌, ap}
use Rattle.std.specs.Prelude.{is_some}
use Rattle.std.specs.List.{position}
use Rattle.law_model.specs.Trace.{is_noise_at}
use Rattle.pb_medium.specs.Traces.{recent_of}
use Rattle.pb_medium.proofs.Hitting.{some-placed}
use Rattle.pb_medium.proofs.traces.Trace.has_noise.Goals as goal

pub returns : goal.returns
returns c =
    let now = c.args.now in
    let recent = recent_of c.args.self.now in
    c.is_some.ensures ∙ ap is_some (c.noise_in_air.ensures ∙ ap (position (is_noise_at now)) c.recent.ensures) ∙ some-placed (is_noise_at now) recent
