use Rattle.std.proofs.Common.{◌≡◌, ◌∙◌, ◌++◌, ℕ, List, Option, Some, ap, refl, arith}
use Rattle.std.specs.Prelude.{slice_get, slice_index}
use Rattle.std.proofs.lemmas.Option.{slice_get-get_or}
use Rattle.std.specs.Option.{option_map}
use Rattle.law_model.specs.Trace.{Heard}
use Rattle.pb_medium.specs.Entries.{heard_of}
use Rattle.pb_export.specs.Names.{name_at}
use Rattle.pb_export.specs.Boxes.{hearer_if, hearers}
use Rattle.pb_export.proofs.Loops.{item-step}
use Rattle.pb_export.proofs.boxes.push_hearers.Goals as goal

pub loop-lane-preserved : goal.loop-lane-preserved
loop-lane-preserved c =
    let xs = c.args.lanes.now in
    let i = c.loop-lane.lane in
    let tap = slice_index xs i in
    let s = c.args.scenario.now in
    let sheet = c.args.sheet in
    let x = c.args.stretch in
    let heard = c.args.telegram.now.heard in
    let before = c.loop-lane.text.items in
    let here : slice_get xs i ≡ Some tap = slice_get-get_or xs i 0 (omega (arith, c.loop-lane-test.true)) in
    item-step (hearers s sheet x heard) (λ k y. hearer_if (name_at s y) sheet x k (slice_get heard y)) xs i tap before c.push_hearer_at.new.text.items _
    (λ k y ys. refl) here
    (c.in_ok-push_hearer_at.ensures ∙ ap (λ (name : List ℕ). before ++ hearer_if name sheet x i (option_map heard_of c.get.result)) c.name_of.ensures
    ∙ ap (λ (h : Option Heard). before ++ hearer_if (name_at s tap) sheet x i h) c.get.ensures)
    c.loop-lane.invariant
