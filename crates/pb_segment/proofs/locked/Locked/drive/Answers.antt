use Rattle.std.proofs.Common.{◌∙◌, ap, subst, sym, List}
use Rattle.std.specs.Prelude.{OnOk}
use Rattle.pb_taps.specs.Events.{event_of}
use Rattle.pb_segment.specs.Histories.{Receipt}
use Rattle.pb_segment.specs.Seats.{ConductorView, IsSilent, IsTold}
use Rattle.pb_segment.proofs.Replies.{driven_told, on-ok}
use Rattle.pb_segment.proofs.locked.Locked.drive.Goals as goal

pub returns-clause-reply : goal.returns-clause-reply
returns-clause-reply g c =
    let before = c.seat.inside.receipts.items in
    let after = c.keep_event.new.receipts.items in
    let driven = sym c.is_turn.ensures ∙ c.if-is_turn.false in
    let told = driven_told c.args.self.now c.keep_event.new.self (event_of c.args.event) before after driven in
    subst (λ (rs : List Receipt). OnOk c.keep_event.result (IsTold rs after IsSilent)) (ap (λ (s : ConductorView). s.receipts) c.seat.view_is)
    (on-ok c.keep_event.result told c.keep_event.ensures.ok)
