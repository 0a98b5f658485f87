use Rattle.std.proofs.Common.{◌≡◌, ◌∙◌, ℕ, List, Option, ap, map}
use Rattle.law_runs.specs.Scenarios.{Planned}
use Rattle.pb_medium.specs.Entries.{entry_of}
use Rattle.pb_scenario.specs.Repeats.{happenings}
use Rattle.pb_scenario.specs.Scenarios.{ScenarioView}
use Rattle.pb_scenario.specs.Steps.{steps_of}
use Rattle.pb_scenario.specs.declared.repeats.Repeat.{Repeat}
use Rattle.pb_texts.proofs.Pieces.{last}
use Rattle.pb_export.specs.Svg.{drawn, stream_svg_text}
use Rattle.pb_export.proofs.svg.push_stream_svg.Goals as goal

pub returns : goal.returns
returns c =
    let w = c.args.window in
    let s = c.args.scenario.now in
    let es = map entry_of c.args.entries.now in
    let once = c.once-once.result.now in
    let until = c.until.result in
    let repeats = c.repeats.result.now in
    let steps = c.steps.result.now in
    let planned : steps_of steps ≡ s.once.scenario.steps = c.steps.ensures.steps ∙ ap (λ (v : ScenarioView). v.scenario.steps) c.once-once.ensures in
    let same : drawn w once until (happenings until repeats (steps_of steps)) es ≡ stream_svg_text w s es =
    ap (λ (v : ScenarioView). drawn w v until (happenings until repeats (steps_of steps)) es) c.once-once.ensures
    ∙ ap (λ (ps : List Planned). drawn w s.once until (happenings until repeats ps) es) planned
    ∙ ap (λ (rs : List (Option Repeat)). drawn w s.once until (happenings until rs s.once.scenario.steps) es) c.repeats.ensures.repeats
    ∙ ap (λ (u : ℕ). drawn w s.once u (happenings u s.repeats s.once.scenario.steps) es) c.until.ensures.until in
    last c.push_run.result c.args.text.now.items c.push_run.new.text.items (drawn w once until (happenings until repeats (steps_of steps)) es)
    (stream_svg_text w s es) same c.push_run.ensures
