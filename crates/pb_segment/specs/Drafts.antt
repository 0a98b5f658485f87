-- What has happened on a segment that is being closed, as the reader of the draft sees it.
use Rattle.std.specs.Prelude.{List}
use Rattle.pb_segment.specs.Histories.{Happened}
use Rattle.pb_segment.specs.Locked.{LockedView}
use Rattle.pb_segment.specs.Reports.{ReportView}
use Rattle.pb_segment.specs.declared.outlooks.Outlook.{Outlook}

pub record DraftView : Type 0 where
  pub history : List Happened
  pub outlooks : List Outlook

-- the draft of a report
abbrev pub draft_of : ReportView → DraftView
draft_of r = record { history = r.history; outlooks = r.outlooks }

-- the draft of the state under a lock
abbrev pub draft_in : LockedView → DraftView
draft_in l = record { history = l.history; outlooks = l.outlooks }
