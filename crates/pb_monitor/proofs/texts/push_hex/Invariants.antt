use Rattle.std.proofs.Common.{◌≡◌, ◌*◌, ◌++◌, length, take, drop}
use Rattle.hex.specs.Hex.{encode_lower}
use Rattle.pb_monitor.proofs.texts.push_hex.Given as goal

abbrev pub invariant-loop-place : goal.invariant-loop-place
invariant-loop-place l = record {
  room : length l.room ≡ 492;
  written : take (2 * l.place) l.room ++ encode_lower (drop l.place l.octets) ≡ encode_lower l.octets;
}
