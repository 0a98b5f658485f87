use Rattle.std.proofs.Common.{◌∙◌, ap, map}
use Rattle.std.specs.List.{list_any}
use Rattle.pb_world.specs.Buses.{world_of}
use Rattle.pb_medium.specs.Entries.{entry_of}
use Rattle.pb_medium.specs.Traces.{over_of}
use Rattle.pb_world.specs.Liveness.{ends_within}
use Rattle.pb_world.proofs.Stretching.{ends-recent}
use Rattle.pb_world.proofs.stretches.has_token_or_noise.Goals as goal

pub returns : goal.returns
returns c =
    let bus = c.args.bus.now in
    c.ends_within.ensures
    ∙ ap (λ n. list_any (ends_within n c.args.to) (map entry_of c.recent.result.now)) c.get.ensures.value
    ∙ ap (λ es. list_any (ends_within bus.now c.args.to) es) c.recent.ensures
    ∙ ends-recent bus.params.ttd bus.now (over_of bus.trace) c.args.to (world_of bus).trace c.requires.cut
