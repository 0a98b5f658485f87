-- A mailbox, as contracts see it: the unread marks of a port, and the requests that its last turn executed.
use Rattle.std.specs.Prelude.{ℕ, List, [], ◌∷◌, ◌++◌}
use Rattle.pb_timers.specs.Timers.{Params}
use Rattle.law_turn.specs.Marks.{Mark}
use Rattle.law_turn.specs.Stations.{Station}
use Rattle.pb_station.specs.Indications.{IndicationFields, indications_of}

pub record MailboxView : Type 0 where
  pub room : ℕ  -- how many marks may be unread
  pub marks : List Mark
  pub told : List IndicationFields

abbrev pub empty_mail : ℕ → MailboxView
empty_mail room = record { room = room; marks = []; told = [] }

-- one unread mark more
abbrev pub with_mark : MailboxView → Mark → MailboxView
with_mark mail m = record mail { marks = mail.marks ++ m ∷ [] }

-- a station has read all marks
abbrev pub read_mail : Params → Station → MailboxView → MailboxView
read_mail p s mail = record mail { marks = []; told = indications_of p s mail.marks }
