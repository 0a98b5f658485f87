use Rattle.std.proofs.Common.{◌≡◌, map, length}
use Rattle.std.specs.Prelude.{drop, true}
use Rattle.pb_telegram.specs.declared.chars.RxChar.TheVariants.{Good}
use Rattle.pb_station.proofs.notes.are_good.Given as goal

-- all are good where those up to the place are, and those that are left
abbrev pub invariant-loop-place : goal.invariant-loop-place
invariant-loop-place l = record {
  all : l.all ≡ true → drop l.place l.chars ≡ map Good (drop l.place l.octets) → l.chars ≡ map Good l.octets;
  those : l.chars ≡ map Good l.octets → l.all ≡ true;
  left : l.chars ≡ map Good l.octets → drop l.place l.chars ≡ map Good (drop l.place l.octets);
  long : length l.octets ≡ length l.chars;
}
