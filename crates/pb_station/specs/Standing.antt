-- How a station stands in the ring.
use Rattle.std.specs.Prelude.{◌≡◌, is_some}
use Rattle.law_turn.specs.Stations.{Station}
use Rattle.pb_tokenfsm.specs.Phases.{phase_of}
use Rattle.pb_station.specs.declared.standing.Standing.{Standing}

-- what is said of a station is so: its phase, its list of active stations, whether it has a reply to send, and whether
-- it has received the token since its start
abbrev pub StandsAs : Station → Standing → Type 0
StandsAs s said =
    (phase_of said.phase ≡ s.phase) × (said.las ≡ s.las) × (said.replies ≡ is_some s.reply) × (said.has_received ≡ is_some s.rotation.last)
