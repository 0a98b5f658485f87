use Rattle.std.proofs.Common.{◌≡◌, ◌∙◌, [], ℕ, List, ap, map}
use Rattle.law_runs.specs.Scenarios as runs
use Rattle.law_runs.specs.Scenarios.{Planned}
use Rattle.pb_medium.specs.Entries.{entry_of}
use Rattle.pb_scenario.specs.Repeats.{happenings}
use Rattle.pb_scenario.specs.Steps.{steps_of}
use Rattle.pb_scenario.proofs.SameFiles.{unrolls-same}
use Rattle.pb_texts.proofs.Pieces.{last}
use Rattle.pb_export.specs.Svg.{drawn, svg_text}
use Rattle.pb_export.proofs.svg.push_svg.Goals as goal

pub returns : goal.returns
returns c =
    let w = c.args.window in
    let s = c.args.scenario.now in
    let es = map entry_of c.args.entries.now in
    let until = c.until.result in
    let steps = c.steps.result.now in
    let once : happenings until [] (steps_of steps) ≡ s.scenario.steps =
    ap (happenings until []) c.steps.ensures.steps ∙ ap (λ (x : runs.Scenario). x.steps) (unrolls-same s until) in
    let same : drawn w s until (happenings until [] (steps_of steps)) es ≡ svg_text w s es =
    ap (λ (ps : List Planned). drawn w s until ps es) once ∙ ap (λ (u : ℕ). drawn w s u s.scenario.steps es) c.until.ensures.until in
    last c.push_run.result c.args.text.now.items c.push_run.new.text.items (drawn w s until (happenings until [] (steps_of steps)) es) (svg_text w s es)
    same c.push_run.ensures
