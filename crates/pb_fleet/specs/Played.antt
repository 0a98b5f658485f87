-- What a fleet has played.
use Rattle.std.specs.Prelude.{◌≡◌, List, map, Ok}
use Rattle.law_model.specs.World.{World, new_world}
use Rattle.law_live.specs.Promises.{KeepsPromises, LeadTo}
use Rattle.law_runs.specs.Laws as runs
use Rattle.law_runs.specs.Scenarios.{Scenario}
use Rattle.pb_segment.specs.Histories.{Replays, events_in}
use Rattle.pb_segment.specs.Origins.{Origin}
use Rattle.pb_segment.specs.Reports.{ReportView}
use Rattle.pb_segment.specs.declared.outlooks.Outlook.{Outlook}

-- the definition of the new world of a scenario
abbrev pub begins : Scenario → Origin
begins s = record { params = s.params; specs = s.taps }

-- outlooks as the plain data of runs
abbrev pub looks_of : List Outlook → List runs.Look
looks_of outlooks = map (λ o. record { place = o.place; dues = o.due; change = o.next_change }) outlooks

-- a report's history leads from a scenario's new world to one with the report's trace, which keeps the promises of the
-- token and of silence
pub record IsPlayed (s : Scenario) (r : ReportView) : Type 0 where
  pub first : World
  pub last : World
  pub made : new_world s.params s.taps ≡ Ok first
  pub replays : Replays first r.history last
  pub trace : r.trace ≡ last.trace
  pub lead : LeadTo first (events_in r.history) last
  pub promises : KeepsPromises first (events_in r.history) last
