use Rattle.std.proofs.Common.{◌∙◌, ap, sym, ◌&&◌, ◌-◌, nat_le, get_or, map}
use Rattle.law_runs.specs.Activity.{is_silent}
use Rattle.law_runs.specs.Initiators.{telegram_of}
use Rattle.pb_medium.specs.Entries.{record_of}
use Rattle.pb_timers.specs.Timers.{tto}
use Rattle.pb_world.specs.Airtimes.{air_of}
use Rattle.pb_world.proofs.Hearing.{claims-kept, claims-not}
use Rattle.pb_world.proofs.judge.Judge.claims.Goals as goal

pub returns-then-claims_for : goal.returns-then-claims_for
returns-then-claims_for c = λ p specs k keeps.
    let r = record_of c.args.telegram.now in
    let from = c.saturating_sub-from.result in
    let address = c.address-address.result in
    sym (ap (λ b. b && c.was_silent.result) c.if-claims_for.true)
    ∙ claims-kept p specs k r address from c.claims_for.result c.was_silent.result (c.address-address.ensures p specs k keeps)
    (c.claims_for.ensures (telegram_of r) c.requires.means)
    (c.saturating_sub-from.ensures ∙ ap (λ n. r.begin - n) (c.tto.ensures.value ∙ ap (λ q. tto q address) keeps.params))
    (c.was_silent.ensures
    ∙ ap (λ ends. nat_le (get_or ends r.tap 0) from && is_silent c.ttd.result r.tap (map air_of c.args.self.now.air.recent.items) from r.begin) keeps.ends
    ∙ ap (λ es. nat_le (get_or k.ends r.tap 0) from && is_silent c.ttd.result r.tap es from r.begin) keeps.recent
    ∙ ap (λ d. nat_le (get_or k.ends r.tap 0) from && is_silent d r.tap k.recent from r.begin) (c.ttd.ensures ∙ ap (λ q. q.ttd) keeps.params))

pub returns-else-claims_for : goal.returns-else-claims_for
returns-else-claims_for c = λ p specs k keeps.
    let r = record_of c.args.telegram.now in
    claims-not p specs k r c.address-address.result c.claims_for.result (c.address-address.ensures p specs k keeps)
    (c.claims_for.ensures (telegram_of r) c.requires.means) c.if-claims_for.false
