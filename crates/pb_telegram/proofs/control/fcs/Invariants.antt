use Rattle.std.proofs.Common.{◌≡◌, ◌+◌, ◌%◌, take}
use Rattle.std.specs.Prelude.{sum}
use Rattle.pb_telegram.proofs.control.fcs.Given as goal

abbrev pub invariant-loop-octet : goal.invariant-loop-octet
invariant-loop-octet l = l.sum ≡ (l.da + l.sa + l.fc + sum (take l.octet-index l.unit)) % 256
