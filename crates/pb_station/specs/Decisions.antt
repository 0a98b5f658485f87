-- What a decision is.
use Rattle.std.specs.Prelude.{◌≡◌, ℕ, List, Option, map, option_map}
pub use Rattle.pb_transitions.specs.Sending.{octets_of}
use Rattle.law_turn.specs.Marks as turn
use Rattle.law_turn.specs.Turns.{turn_of}
use Rattle.pb_station.specs.MarkViews.{mark_of}
use Rattle.pb_station.specs.Stations.{StationView}
use Rattle.pb_station.specs.declared.decisions.Decided.TheInside as decided
use Rattle.pb_station.specs.declared.decisions.Decision.TheInside.{Inside}
use Rattle.pb_station.specs.declared.marks.Mark.{Mark}

-- a station after its turn, which changes nothing else of it, and what it sends
abbrev pub turned : StationView → List turn.Mark → ℕ → StationView × Option (List ℕ)
turned before marks now =
    let turn = turn_of before.params before.station marks now in
    (record before { station = turn.0 }, turn.1)

pub record DecisionView : Type 0 where
  pub tap : ℕ
  pub before : StationView
  pub marks : List Mark
  pub now : ℕ
  pub after : StationView
  pub speak : Option (List ℕ)

abbrev pub decision_view : Inside → DecisionView
decision_view d = record {
  tap = d.tap;
  before = d.before;
  marks = d.marks.items;
  now = d.now;
  after = d.after;
  speak = octets_of d.speak;
}

abbrev pub decided_view : decided.Inside → DecisionView
decided_view d = record {
  tap = d.tap;
  before = d.before;
  marks = d.marks.items;
  now = d.now;
  after = d.after;
  speak = option_map (λ o. o.now.items) d.speak;
}

-- each decision is a turn
abbrev pub IsDecision : DecisionView → Type 0
IsDecision d = (d.after, d.speak) ≡ turned d.before (map mark_of d.marks) d.now
