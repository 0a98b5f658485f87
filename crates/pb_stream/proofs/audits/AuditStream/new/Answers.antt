-- Of a new audit, all is to be found.
use Rattle.std.proofs.Common.{◌≡◌, ◌∙◌, [], None, Ok, ap, map, refl, subst}
use Rattle.law_model.specs.World.{new_world_within}
use Rattle.law_live.proofs.Promising.{new_begins}
use Rattle.law_streams.specs.Audits.{no_events}
use Rattle.law_streams.specs.Streams.{stream_limit}
use Rattle.pb_taps.specs.Taps.{spec_of}
use Rattle.pb_scenario.specs.Scenarios.{ScenarioView}
use Rattle.pb_world.specs.Judges.{HasHeard}
use Rattle.pb_world.specs.Watched.{world_in, IsOfRun}
use Rattle.pb_stream.proofs.Auditing.{begins}
use Rattle.pb_stream.proofs.audits.AuditStream.new.Goals as goal

pub returns-in-Ok-walk-clause-audits : goal.returns-in-Ok-walk-clause-audits
returns-in-Ok-walk-clause-audits c =
    let v = c.args.scenario.now in
    let p = v.once.scenario.params in
    let specs = v.once.scenario.taps in
    let w = c.in_ok-watched.watched in
    let judge = c.in-Ok.judge in
    let params = c.params.ensures ∙ ap (λ (s : ScenarioView). s.scenario.params) c.once-once.ensures in
    let taps = c.taps.ensures.specs ∙ ap (λ (s : ScenarioView). s.scenario.taps) c.once-once.ensures in
    let params_2 = c.params-2.ensures ∙ ap (λ (s : ScenarioView). s.scenario.params) c.once-once.ensures in
    let taps_2 = c.taps-2.ensures.specs ∙ ap (λ (s : ScenarioView). s.scenario.taps) c.once-once.ensures in
    let made = subst (λ q. new_world_within stream_limit q specs ≡ Ok (world_in w)) params
    (subst (λ ts. new_world_within stream_limit c.params.result.now ts ≡ Ok (world_in w)) taps c.in_ok-watched.ensures.new) in
    let heard = subst (λ q. HasHeard q specs [] judge) params_2 (subst (λ ts. HasHeard c.params-2.result.now ts [] judge) taps_2 c.in-Ok.ensures) in
    let run : IsOfRun (no_events (world_in w)) =
    let q = c.params.result.now in
    let ts = map spec_of c.taps.result.now in
    (world_in w, [], (new_begins q ts (world_in w) c.in_ok-watched.ensures.valid c.in_ok-watched.ensures.fit (stream_limit, c.in_ok-watched.ensures.new)).0, refl) in
    begins v c.args.until (record { watched = w; walk = c.in-Ok-walk.walk; judge = judge; found = record { premise = None; illegal = None }; usual = c.new-in-Ok-walk.result })
    made c.in_ok-watched.ensures.followed c.in_ok-watched.ensures.at_end run heard c.in-Ok-walk.ensures refl
