use Rattle.std.proofs.Common.{◌∙◌, ◌+◌, ap, sym, length, ℕ, Option}
use Rattle.std.specs.Prelude.{slice_get}
use Rattle.std.proofs.lemmas.Bool.{ltb-true}
use Rattle.law_turn.specs.Stations.{due_of}
use Rattle.pb_transitions.specs.Clocks.{is_past}
use Rattle.pb_taps.proofs.Items.{found-at}
use Rattle.pb_world.proofs.Dues.{due-running}
use Rattle.pb_world.proofs.buses.Bus.is_overdue.Goals as goal

pub returns : goal.returns
returns c =
    let bus = c.args.self.now in
    let moment = bus.now + c.args.bits in
    let t = c.in-Some.tap.now in
    let s = t.station in
    let found = c.in-Some.ensures.lookup in
    let at = ap (λ xs. slice_get xs c.args.tap) (sym c.deref.ensures.value)
    ∙ found-at c.deref.result.now c.args.tap t (ltb-true c.args.tap (length c.deref.result.now) (sym found.0)) found.1 in
    c.is_overdue.ensures
    ∙ ap (λ (lag : ℕ). is_past lag moment (due_of s.params s.station t.marks)) c.lag.ensures
    ∙ ap (λ (o : Option ℕ). is_past bus.params.lag moment o) (due-running bus c.args.tap t c.requires.seats at c.if-not-tap.false)
