-- The contents of a report.
use Rattle.std.specs.Prelude.{◌≡◌, ℕ, ◌<◌, List, length, slice_index}
use Rattle.law_model.specs.Trace.{Entry}
use Rattle.law_model.specs.World.{World}
use Rattle.law_live.specs.Promises.{KeepsPromises, LeadTo}
use Rattle.pb_segment.specs.Histories.{Happened, Replays, events_in, is_turn_of, told}
use Rattle.pb_segment.specs.Origins.{Origin, IsMadeOf}
use Rattle.pb_segment.specs.Outlooks.{AreOutlooksOf}
use Rattle.pb_segment.specs.declared.outlooks.Outlook.{Outlook}

pub record ReportView : Type 0 where
  pub origin : Origin
  pub trace : List Entry
  pub history : List Happened
  pub turns : List ℕ
  pub outlooks : List Outlook

abbrev pub report_of : Origin → List Entry → List Happened → List ℕ → List Outlook → ReportView
report_of o trace history turns looks = record { origin = o; trace = trace; history = history; turns = turns; outlooks = looks }

-- The trace is that of the last world, to which the history's replay leads from the new one, and which keeps the
-- promises of the token and of silence. The turns are those of each tap in the history, and the outlooks are those of
-- its worlds.
pub record IsReport (r : ReportView) : Type 0 where
  pub first : World
  pub last : World
  pub made : IsMadeOf r.origin first
  pub replays : Replays first r.history last
  pub trace : r.trace ≡ last.trace
  pub lead : LeadTo first (events_in r.history) last
  pub promises : KeepsPromises first (events_in r.history) last
  pub taps : length r.turns ≡ length r.origin.specs
  pub turns : (tap : ℕ) → tap < length r.turns → slice_index r.turns tap ≡ length (told (is_turn_of tap) r.history)
  pub outlooks : AreOutlooksOf first r.history r.outlooks
