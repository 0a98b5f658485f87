-- The requests of others that a station executes in a turn.
use Rattle.std.specs.Prelude.{ℕ, ◌==◌, ◌%◌, Bool, if◌then◌else◌, List, [], ◌∷◌, Option, Some, None}
use Rattle.pb_timers.specs.Timers.{Params}
use Rattle.pb_cycles.specs.Fields.{Fields}
use Rattle.pb_cycles.specs.Messages.{address_in}
use Rattle.pb_cycles.specs.Requests.{is_high, asked_by}
use Rattle.pb_cycles.specs.declared.services.Asked.{Asked}
use Rattle.pb_cycles.specs.declared.services.Asked.TheVariants.{Send, Status, Unknown}
use Rattle.pb_cycles.specs.declared.services.Service.{Service}
use Rattle.law_turn.specs.Arrivals.{Arrival, Token, Framed, Acknowledgement, NoTelegram, arrival_of}
use Rattle.law_turn.specs.Hearing.{after_timer, after_mark}
use Rattle.law_turn.specs.Marks.{Mark, moment_of}
use Rattle.law_turn.specs.Stations.{Station}
use Rattle.pb_station.specs.MarkViews.{brought}
use Rattle.pb_station.specs.declared.indications.Indication.{Indication}

pub record IndicationFields : Type 0 where
  pub source : ℕ  -- the address of the station that asks
  pub service : Service
  pub high : Bool
  pub unit : List ℕ

abbrev pub fields_of : Indication → IndicationFields
fields_of i = record { source = i.source; service = i.service; high = i.high; unit = i.unit.items }

-- the request for a service in a telegram
abbrev pub asked_in : Fields → Asked → Option IndicationFields
asked_in f (Send service priority) = Some (record { source = address_in f.sa; service = service; high = is_high priority; unit = f.unit })
asked_in f Status = None
asked_in f Unknown = None

abbrev pub request_in : Arrival → Option IndicationFields
request_in (Framed f) = asked_in f (asked_by (f.fc % 16))
request_in (Token da sa) = None
request_in Acknowledgement = None
request_in NoTelegram = None

abbrev pub executed_by : Station → ℕ
executed_by s = s.cycles.responder.executed

-- the request in a mark, if it was executed: the count of executed requests has changed
abbrev pub executed_in : ℕ → ℕ → Mark → Option IndicationFields
executed_in before after m = if before == after then None else request_in (arrival_of (brought m))

abbrev pub with_front : Option IndicationFields → List IndicationFields → List IndicationFields
with_front None behind = behind
with_front (Some i) behind = i ∷ behind

-- the requests that a station executes as it reads marks, in order
abbrev pub indications_of : Params → Station → List Mark → List IndicationFields
indications_of p s [] = []
indications_of p s (m ∷ ms) =
    let before = after_timer p (moment_of m) s in
    let after = after_mark p before m in
    with_front (executed_in (executed_by before) (executed_by after) m) (indications_of p after ms)
