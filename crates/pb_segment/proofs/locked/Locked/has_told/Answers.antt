use Rattle.std.proofs.Common.{IsTrue, subst, refl}
use Rattle.pb_segment.specs.Blocks.{happened_in}
use Rattle.pb_segment.specs.Closing.{HasTold}
use Rattle.pb_segment.specs.Locked.{LockedView, view_of}
use Rattle.pb_segment.specs.Seats.{ConductorView}
use Rattle.pb_segment.proofs.Agreeing.{agreeing}
use Rattle.pb_segment.proofs.locked.Locked.has_told.Goals as goal

pub returns : goal.returns
returns g c =
    let i = c.self.inside in
    let l = view_of i.world i.origin (happened_in i.history) i.turns.items i.drives i.outlooks.items i.limit in
    let o = c.args.origin.now in
    let seats = c.args.seats.now.items in
    let r = c.all_agree.result in
    let shown : ConductorView = record { receipts = c.conductor.inside.receipts.items; outlooks = c.conductor.inside.outlooks.items } in
    let all = agreeing l o shown seats r (c.if-not-is_same.ensures.0 refl) (c.if-not-agree.ensures.0 refl) c.all_agree.ensures in
    subst (λ (x : LockedView). (IsTrue r → HasTold x o c.args.conductor.now seats) × (HasTold x o c.args.conductor.now seats → IsTrue r)) c.self.view_is
    (subst (λ (x : ConductorView). (IsTrue r → HasTold l o x seats) × (HasTold l o x seats → IsTrue r)) c.conductor.view_is all)
