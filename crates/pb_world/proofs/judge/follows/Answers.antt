use Rattle.std.proofs.Common.{◌≡◌, ◌∙◌, ap, sym, Some}
use Rattle.law_runs.specs.Initiators.{telegram_of, offered_to}
use Rattle.law_runs.specs.Judging.{goes_on_after}
use Rattle.law_streams.proofs.Judgement.{none-offered, sent-addressed}
use Rattle.pb_medium.specs.Entries.{record_of}
use Rattle.pb_world.proofs.judge.follows.Goals as goal

pub returns-in-Some : goal.returns-in-Some
returns-in-Some c = λ specs m is at.
    let offers : offered_to m.telegram ≡ Some c.in-Some.to = sym (c.offered_by.ensures (telegram_of m.telegram) is.meaning) ∙ c.in-Some.is in
    c.follows_token.ensures specs m is at (none-offered (telegram_of m.telegram) c.in-Some.to (sent-addressed m.telegram) offers)
    ∙ sym (ap (λ o. goes_on_after c.args.params.now specs m o (record_of c.args.telegram.now)) offers)
