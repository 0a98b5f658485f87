use Rattle.std.proofs.Common.{◌≡◌, ◌∙◌, ap, List, ℕ}
use Rattle.law_runs.specs.Scenarios.{Planned}
use Rattle.pb_scenario.specs.Repeats.{all_of}
use Rattle.pb_scenario.specs.Steps.{deed_of, planned_of}
use Rattle.pb_texts.proofs.Pieces.{last}
use Rattle.pb_export.specs.declared.marks.Series.{Series}
use Rattle.pb_export.specs.Marks.{happenings_of, marks_text, skipped}
use Rattle.pb_export.proofs.Repeating.{skipped-same}
use Rattle.pb_export.proofs.marks.push_step.Goals as goal

pub returns : goal.returns
returns c =
    let s = c.args.scenario.now in
    let sheet = c.args.sheet in
    let lanes = c.args.lanes.now in
    let deed = deed_of c.args.step.now.deed in
    let texts : Series → List ℕ = λ x. marks_text s sheet lanes (happenings_of x deed) in
    let all = all_of c.args.until (planned_of c.args.step.now) c.args.repeat in
    let same : texts c.skip_to-series.result ≡ marks_text s sheet lanes all =
    ap texts (c.skip_to-series.ensures ∙ ap (λ (from : ℕ). skipped from c.series_of.result) c.from.ensures.value)
    ∙ skipped-same s sheet lanes deed c.series_of.result c.series_of.ensures.steady
    ∙ ap (λ (ps : List Planned). marks_text s sheet lanes ps) c.series_of.ensures.all in
    last c.push_series.result c.args.text.now.items c.push_series.new.text.items (texts c.skip_to-series.result) (marks_text s sheet lanes all) same c.push_series.ensures
