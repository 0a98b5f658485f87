-- Whether one of those that are left is.
use Rattle.std.proofs.Common.{◌≡◌, drop}
use Rattle.std.specs.List.{list_any}
use Rattle.pb_export.specs.Boxes.{is_damaged}
use Rattle.pb_export.proofs.boxes.has_damage.Given as goal

abbrev pub invariant-loop-tap : goal.invariant-loop-tap
invariant-loop-tap l =
    list_any is_damaged (drop l.tap l.heard) ≡ list_any is_damaged l.heard
