use Rattle.std.proofs.Common.{◌≡◌, ◌∙◌, ◌≤◌, ◌<◌, length, take, sym, arith}
use Rattle.std.specs.Prelude.{false, Result, Ok, Err, OnErr, is_ok}
use Rattle.pb_telegram.specs.Grammar.{spelling}
use Rattle.pb_telegram.specs.declared.faults.TelegramFault.{TelegramFault}
use Rattle.pb_telegram.specs.declared.telegrams.Telegram.{Telegram}
use Rattle.pb_monitor.proofs.Fronts.{first_and_others, none_begins}
use Rattle.pb_monitor.proofs.cutting.cut_front.Goals as goal

when_err : (r : Result Telegram TelegramFault) (P : Type 0) → is_ok r ≡ false → OnErr r P → P
when_err (Ok telegram) P bad on = absurd cc
when_err (Err fault) P bad on = on

pub returns-clause-piece : goal.returns-clause-piece
returns-clause-piece c =
    let octets = c.args.octets.now in
    let count = c.in_ok-count.count in
    let room : count ≤ length octets = omega (arith, c.if-octets-count.false) in
    let some : 0 < length octets = omega (arith, room, c.in_ok-count.ensures.some) in
    let bad : is_ok c.read_octets.new.telegram ≡ false = sym c.is_ok.ensures.value ∙ c.if-is_ok.false in (
      first_and_others octets some,
      none_begins octets count (sym c.in_ok-count.ensures.value) room
          (when_err c.read_octets.new.telegram ((t : Telegram) → take count octets ≡ spelling t → ⊥) bad c.read_octets.ensures.none),
    )
