use Rattle.std.proofs.Common.{◌∙◌, ap, map}
use Rattle.law_runs.specs.Quiet.{is_active}
use Rattle.pb_world.specs.Buses.{world_of}
use Rattle.pb_medium.specs.Entries.{entry_of}
use Rattle.pb_medium.specs.Traces.{over_of}
use Rattle.pb_world.proofs.Premising.{active-recent}
use Rattle.pb_world.proofs.premises.is_heard.Goals as goal

pub returns : goal.returns
returns c =
    let bus = c.args.bus.now in
    let delay = bus.params.ttd in
    c.is_active.ensures
    ∙ ap (λ d. is_active d c.get.result c.args.to (map entry_of c.recent.result.now) c.args.tap) c.ttd.ensures
    ∙ ap (λ n. is_active delay n c.args.to (map entry_of c.recent.result.now) c.args.tap) c.get.ensures.value
    ∙ ap (λ es. is_active delay bus.now c.args.to es c.args.tap) c.recent.ensures
    ∙ active-recent (world_of bus) (over_of bus.trace) c.args.to c.args.tap c.requires.cut
