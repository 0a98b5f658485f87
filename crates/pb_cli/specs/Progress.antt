-- How far a stream is, in numbers.
use Rattle.std.specs.Prelude.{ℕ, ◌-◌, ◌*◌, ◌/◌, max}
use Rattle.pb_cli.specs.declared.progress.Progress.{Progress}

abbrev pub percent : Progress → ℕ
percent p = p.clock * 100 / max p.until 1

-- bit times a second
abbrev pub rate : Progress → ℕ
rate p = p.clock * 1000 / max p.millis 1

-- how long the rest takes at that rate
abbrev pub seconds_left : Progress → ℕ
seconds_left p = (p.until - p.clock) / max (rate p) 1
