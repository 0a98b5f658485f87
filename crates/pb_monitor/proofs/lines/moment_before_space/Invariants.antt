use Rattle.std.proofs.Common.{◌≡◌, take}
use Rattle.std.specs.Str.Parse.{AllDigits, digits_value}
use Rattle.pb_monitor.proofs.lines.moment_before_space.Given as goal

abbrev pub invariant-loop-place : goal.invariant-loop-place
invariant-loop-place l = record {
  digits : AllDigits 10 (take l.place l.bytes);
  value : l.bits ≡ digits_value 10 (take l.place l.bytes);
}
