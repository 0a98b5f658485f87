use Rattle.std.proofs.Common.{◌∙◌, ◌+◌, ap, sym, ◌&&◌, not, nat_le}
use Rattle.pb_medium.specs.Entries.{record_of}
use Rattle.pb_world.proofs.Hearing.{other-takes}
use Rattle.pb_world.proofs.judge.follows_token.Goals as goal

pub returns-then-takes : goal.returns-then-takes
returns-then-takes c = λ specs m is at less.
    let p = c.args.params.now in
    let r = record_of c.args.telegram.now in
    let late = c.is_slot_over-is_late.result in
    sym (ap (λ b. b && not late) c.if-takes.true)
    ∙ other-takes p specs m c.args.to r c.takes.result late (λ e. c.if-last-telegram.false (is.tap ∙ e)) (c.takes.ensures specs m is at less)
    (c.is_slot_over-is_late.ensures ∙ ap (λ n. nat_le (n + c.tsl.result) r.begin) is.end ∙ ap (λ n. nat_le (m.telegram.end + n) r.begin) c.tsl.ensures)
