-- What taps of one bus have in common.
use Rattle.std.specs.Prelude.{◌≡◌, List, [], ◌∷◌}
use Rattle.pb_timers.specs.Timers.{Params}
use Rattle.pb_taps.specs.declared.taps.Tap.{Tap}

-- the stations of some taps have these parameters of their bus
abbrev pub ShareParams : Params → List Tap → Type 0
ShareParams p [] = Unit {0}
ShareParams p (t ∷ ts) = (t.station.params ≡ p) × ShareParams p ts
