use Rattle.std.proofs.Common.{◌∙◌, ap, sym, length, Option, ℕ}
use Rattle.std.specs.Prelude.{slice_get}
use Rattle.std.proofs.lemmas.Bool.{ltb-true}
use Rattle.law_turn.specs.Stations.{due_of}
use Rattle.pb_station.specs.Halves.{has_come}
use Rattle.pb_taps.proofs.Items.{found-at}
use Rattle.pb_world.proofs.Dues.{due-running, past-by}
use Rattle.pb_world.proofs.buses.Bus.is_due.Goals as goal

pub returns : goal.returns
returns c =
    let bus = c.args.self.now in
    let t = c.in-Some.tap.now in
    let s = t.station in
    let found = c.in-Some.ensures.lookup in
    let at = ap (λ xs. slice_get xs c.args.tap) (sym c.deref.ensures.value)
    ∙ found-at c.deref.result.now c.args.tap t (ltb-true c.args.tap (length c.deref.result.now) (sym found.0)) found.1 in
    c.is_overdue.ensures ∙ past-by c.args.at (due_of s.params s.station t.marks)
    ∙ ap (λ (o : Option ℕ). has_come o c.args.at) (due-running bus c.args.tap t c.requires.seats at c.if-not-tap.false)
