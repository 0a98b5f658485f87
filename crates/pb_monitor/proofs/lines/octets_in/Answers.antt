use Rattle.std.proofs.Common.{rules, ◌≡◌, ℕ, ◌+◌, ◌*◌, ◌/◌, get_or, length, map, take, Some, subst, arith}
use Rattle.pb_telegram.specs.declared.chars.RxChar.TheVariants.{Good}
use Rattle.pb_decode.specs.Characters.{character_of, characters_of}
use Rattle.pb_monitor.proofs.Characters.{all_is, none_yet, one_more}
use Rattle.pb_monitor.proofs.lines.octets_in.Goals as goal

pub loop-place-init : goal.loop-place-init
loop-place-init c = none_yet c.args.hex.now c.args.room.now

pub loop-place-preserved : goal.loop-place-preserved
loop-place-preserved c =
    let hex = c.args.hex.now in
    let i = c.loop-place.place in
    let found : character_of (get_or hex (2 * i) 0) (get_or hex (2 * i + 1) 0) ≡ Some (Good c.in-Some-Good.octet) = search rules in
    one_more hex c.loop-place.room i c.in-Some-Good.octet (omega arith) (omega arith) found c.loop-place.invariant

pub returns-clause-chars : goal.returns-clause-chars
returns-clause-chars c =
    let hex = c.args.hex.now in
    let room = c.loop-place.room in
    let all : c.loop-place.place ≡ length hex / 2 = omega arith in
    subst (λ (n : ℕ). characters_of hex ≡ Some (map Good (take n room))) all
    (all_is hex room c.loop-place.place (omega arith) c.loop-place.invariant)
