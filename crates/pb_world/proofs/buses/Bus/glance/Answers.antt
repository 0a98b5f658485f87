use Rattle.std.proofs.Common.{ap, ◌∙◌}
use Rattle.std.specs.Prelude.{slice_get}
use Rattle.pb_taps.proofs.Behind.{if-ok}
use Rattle.pb_world.proofs.Showing.{shows, can_be_decided, tap_there}
use Rattle.pb_world.proofs.buses.Bus.glance.Goals as goal

pub returns-clause-shows : goal.returns-clause-shows
returns-clause-shows c =
    let bus = c.args.self.now in
    let t = tap_there bus.taps.items c.args.tap c.requires.there in
    if-ok c.glance.result (λ g shown. shows bus c.args.tap t.0 g c.requires.kept t.1 (shown t.0 (ap (λ xs. slice_get xs c.args.tap) c.deref.ensures.value ∙ t.1))) c.glance.ensures

pub returns-clause-turn : goal.returns-clause-turn
returns-clause-turn c =
    let bus = c.args.self.now in
    let t = tap_there bus.taps.items c.args.tap c.requires.there in
    if-ok c.glance.result (λ g shown. can_be_decided bus c.args.tap t.0 g c.requires.kept t.1 (shown t.0 (ap (λ xs. slice_get xs c.args.tap) c.deref.ensures.value ∙ t.1))) c.glance.ensures
