-- A station whose speaking moment has not come says nothing.
use Rattle.std.proofs.Common.{refl, ◌≡◌, ap, sym, subst, ℕ, List, Bool, false, Option, Some, None}
use Rattle.std.specs.Prelude.{if◌then◌else◌}
use Rattle.pb_timers.specs.Timers.{Params}
use Rattle.law_turn.specs.Marks.{Mark}
use Rattle.law_turn.specs.Stations.{Station, speaks_at}
use Rattle.law_turn.specs.Turns.{phase_says, speech}
use Rattle.pb_station.specs.Decisions.{turned}
use Rattle.pb_station.specs.Halves.{at_clock, has_come, spoken}
use Rattle.pb_station.specs.Stations.{StationView}

pub silent_speech : (p : Params) (s : Station) (o : Option ℕ) (now : ℕ) → has_come o now ≡ false → speech p s o now ≡ (s, None)
silent_speech p s None now h = refl
silent_speech p s (Some moment) now h = ap (λ (b : Bool). if b then phase_says p s s.phase now else (s, None)) h

by_clock : (a : StationView) (now : ℕ) → has_come (speaks_at a.station) now ≡ false → (a, None) ≡ spoken a now
by_clock a now h = sym (ap (λ (x : Station × Option (List ℕ)). (record a { station = x.0 }, x.1)) (silent_speech a.params a.station (speaks_at a.station) now h))

-- what it has read is its whole turn
pub silent_turn : (before after : StationView) (marks : List Mark) (now : ℕ) → after ≡ at_clock before marks now
    → has_come (speaks_at after.station) now ≡ false → (after, None) ≡ turned before marks now
silent_turn before after marks now read h = subst (λ (x : StationView). (after, None) ≡ spoken x now) read (by_clock after now h)
