use Rattle.std.proofs.Common.{map, subst, List}
use Rattle.law_model.specs.Step.{step_pass}
use Rattle.law_model.specs.Trace as trace
use Rattle.pb_medium.specs.Airs.{air}
use Rattle.pb_medium.specs.Entries.{entry_of}
use Rattle.pb_world.specs.Clocks.{CanPass, IsFault}
use Rattle.pb_world.proofs.Judging.{pass-can, pass-refused-by}
use Rattle.pb_world.proofs.Stepping.{in-err}
use Rattle.pb_world.proofs.buses.Bus.check_pass.Goals as goal

pub returns-in_err-passes_to : goal.returns-in_err-passes_to
returns-in_err-passes_to c =
    let bus = c.args.self.now in
    let reason = c.in_err-passes_to.field-0.0 in
    let why = subst (λ (es : List trace.Entry). IsFault (step_pass (air bus.params.ttd bus.now es bus.taps.items) c.args.bits) reason) c.recent.ensures
    (subst (λ ts. IsFault (step_pass (air bus.params.ttd bus.now (map entry_of c.recent.result.now) ts) c.args.bits) reason) c.deref.ensures.value
    (subst (λ d. IsFault (step_pass (air d bus.now (map entry_of c.recent.result.now) c.deref.result.now) c.args.bits) reason) c.ttd.ensures c.in_err-passes_to.ensures.fault)) in
    in-err _ _ c.from_residual.result reason c.from_residual.ensures.0 c.from_residual.ensures.1 (pass-refused-by bus c.args.bits reason c.requires.kept why)

pub returns : goal.returns
returns c =
    let bus = c.args.self.now in
    let to = c.in_ok-passes_to.field-0 in
    pass-can bus c.args.bits to c.requires.kept
    (subst (λ (es : List trace.Entry). CanPass (air bus.params.ttd bus.now es bus.taps.items) c.args.bits to) c.recent.ensures
    (subst (λ ts. CanPass (air bus.params.ttd bus.now (map entry_of c.recent.result.now) ts) c.args.bits to) c.deref.ensures.value
    (subst (λ d. CanPass (air d bus.now (map entry_of c.recent.result.now) c.deref.result.now) c.args.bits to) c.ttd.ensures c.in_ok-passes_to.ensures.ok)))
