use Rattle.std.proofs.Common.{map, subst}
use Rattle.pb_taps.specs.Events.{event_of}
use Rattle.pb_taps.specs.Taps.{spec_of}
use Rattle.pb_world.specs.Watched.{HasCome, world_in}
use Rattle.pb_world.proofs.reasons.audit_with_reasons.Goals as goal

pub returns-in-Ok-inquire-clause-ok : goal.returns-in-Ok-inquire-clause-ok
returns-in-Ok-inquire-clause-ok c =
    let events = map event_of c.args.events.now in
    let came = subst (λ w. HasCome c.inquire.new.inquiry.watched (world_in w) events) c.new-inquiry.ensures c.in-Ok-inquire.ensures.ok in
    (c.judge_with_reasons.ensures c.args.params (map spec_of c.args.specs.now) (world_in c.in-Ok.watched) events c.in-Ok.ensures.new came).0
