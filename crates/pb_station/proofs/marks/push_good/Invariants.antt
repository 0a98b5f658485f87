use Rattle.std.proofs.Common.{◌≡◌, ◌+◌, ◌++◌, map, length}
use Rattle.std.specs.Prelude.{take}
use Rattle.pb_telegram.specs.declared.chars.RxChar.TheVariants.{Good}
use Rattle.pb_station.proofs.marks.push_good.Given as goal

abbrev pub invariant-loop-heard : goal.invariant-loop-heard
invariant-loop-heard l = record {
  items : l.chars.items ≡ l.initial.chars.items ++ map Good (take l.heard-index l.octets);
  count : length l.chars.items ≡ length l.initial.chars.items + l.heard-index;
}
