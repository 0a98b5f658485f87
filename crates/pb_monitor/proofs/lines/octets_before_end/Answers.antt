use Rattle.std.proofs.Common.{rules, ◌≡◌, ◌+◌, ◌*◌, get_or, Some, arith}
use Rattle.pb_telegram.specs.declared.chars.RxChar.TheVariants.{Good}
use Rattle.pb_decode.specs.Characters.{character_of}
use Rattle.pb_monitor.proofs.Characters.{none_yet, one_more}
use Rattle.pb_monitor.proofs.lines.octets_before_end.Goals as goal

pub loop-place-init : goal.loop-place-init
loop-place-init c = none_yet c.args.bytes.now c.args.room.now

pub loop-place-preserved : goal.loop-place-preserved
loop-place-preserved c =
    let hex = c.args.bytes.now in
    let i = c.loop-place.place in
    let found : character_of (get_or hex (2 * i) 0) (get_or hex (2 * i + 1) 0) ≡ Some (Good c.in-Some-Good.octet) = search rules in
    one_more hex c.loop-place.room i c.in-Some-Good.octet (omega arith) (omega arith) found c.loop-place.invariant
