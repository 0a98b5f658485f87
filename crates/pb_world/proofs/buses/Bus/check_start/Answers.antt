use Rattle.std.proofs.Common.{map, subst, List}
use Rattle.std.specs.Prelude.{IfErr, OnOk}
use Rattle.law_model.specs.Trace as trace
use Rattle.pb_medium.specs.Entries.{entry_of}
use Rattle.pb_world.specs.Starting.{CanStart, RefusesStart}
use Rattle.pb_world.proofs.Judging.{judges-start}
use Rattle.pb_world.proofs.buses.Bus.check_start.Goals as goal

pub returns : goal.returns
returns c =
    let bus = c.args.self.now in
    let i = c.args.tap in
    let entries = c.recent.ensures in
    let taps = c.deref.ensures.value in
    judges-start bus i c.check_start.result c.requires.kept
    (subst (λ (es : List trace.Entry). OnOk c.check_start.result (CanStart bus.params.ttd bus.now es bus.taps.items i)) entries
    (subst (λ ts. OnOk c.check_start.result (CanStart bus.params.ttd bus.now (map entry_of c.recent.result.now) ts i)) taps
    (subst (λ d. OnOk c.check_start.result (CanStart d bus.now (map entry_of c.recent.result.now) c.deref.result.now i)) c.ttd.ensures c.check_start.ensures.ok)))
    (subst (λ (es : List trace.Entry). IfErr c.check_start.result (RefusesStart bus.params.ttd bus.now es bus.taps.items i)) entries
    (subst (λ ts. IfErr c.check_start.result (RefusesStart bus.params.ttd bus.now (map entry_of c.recent.result.now) ts i)) taps
    (subst (λ d. IfErr c.check_start.result (RefusesStart d bus.now (map entry_of c.recent.result.now) c.deref.result.now i)) c.ttd.ensures c.check_start.ensures.fault)))
