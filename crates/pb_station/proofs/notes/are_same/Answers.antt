use Rattle.std.proofs.Common.{rules, ◌≡◌, List}
use Rattle.std.specs.Bool.{Decides}
use Rattle.std.specs.Cmp.Lexicographic.{pointwise, pointwise_decides}
use Rattle.pb_telegram.specs.declared.chars.RxChar.{RxChar}
use Rattle.pb_telegram.specs.contracts.chars.RxCharPartialEq.TheImpl as rx_char
use Rattle.pb_station.proofs.notes.are_same.Goals as goal

chars_agree : (xs ys : List RxChar) → Decides (pointwise rx_char.ghosts.eq xs ys) (xs ≡ ys)
chars_agree xs ys = pointwise_decides (λ a b. (search rules, search rules)) xs ys

pub returns : goal.returns
returns c = search (rules, chars_agree c.args.one.now c.args.other.now)
