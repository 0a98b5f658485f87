use Rattle.std.proofs.Common.{◌≡◌, ◌∙◌, ◌++◌, OnOk, List, ℕ, ap, subst, sym}
use Rattle.pb_scenario.specs.Scenarios.{ScenarioView}
use Rattle.pb_export.specs.Json.{bus_line}
use Rattle.pb_export.specs.Streamed.{head_in}
use Rattle.pb_export.specs.declared.options.StreamForm.{StreamForm}
use Rattle.pb_export.proofs.streamed.push_stream_head.Goals as goal

pub returns-in-Json : goal.returns-in-Json
returns-in-Json c =
    let x = c.args.export.now in
    let s = c.args.scenario.now in
    let head =
    ap (λ (v : ScenarioView). bus_line v c.until.result) c.once.ensures ∙ ap (bus_line s.once) c.until.ensures.until ∙ ap (λ (f : StreamForm). head_in f x s) (sym c.in-Json.is) in
    subst (λ (l : List ℕ). OnOk c.push_bus.result (c.push_bus.new.text.items ≡ c.args.bytes.now.items ++ l)) head c.push_bus.ensures
