-- Which station a token or request says that it is from.
use Rattle.std.specs.Prelude.{◌≤◌, List}
use Rattle.pb_timers.specs.Timers.{Params}
use Rattle.law_model.specs.Medium.{TapSpec}
use Rattle.law_model.specs.World.{World, Event}
use Rattle.law_token.specs.Promises.{HasRun}
use Rattle.pb_monitor.specs.Captures.{All}
use Rattle.pb_monitor.specs.Promises.{IsBySource}

-- In every run, whatever the premises, each token and each request has its speaker's address as its source.
abbrev pub TelegramsNameTheirSpeakers : Type 0
TelegramsNameTheirSpeakers = (p : Params) (specs : List TapSpec) (events : List Event) (new w : World) → p.hsa ≤ 126 → HasRun p specs events new w
    → All (IsBySource specs) w.trace
