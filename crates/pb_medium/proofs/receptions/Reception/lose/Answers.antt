use Rattle.std.proofs.Common.{ap, arith, ◌==◌, refl}
use Rattle.law_model.specs.Trace.{Unheard}
use Rattle.pb_medium.specs.Receptions.{holds, heard_as}
use Rattle.pb_medium.proofs.Receiving.{list-length, list-set, set-behind}
use Rattle.pb_medium.proofs.receptions.Reception.lose.Goals as goal

pub returns-then-tap-self : goal.returns-then-tap-self
returns-then-tap-self c =
    let r = c.self.inside in
    let tap = c.args.tap in
    list-set r (record r { unheard = c.insert.new.self }) c.args.self.now tap Unheard c.self.view_is refl
    (ap (λ b. heard_as b (tap == r.speaker) (holds r.whole tap) (holds r.damaged tap)) c.insert.ensures.new)
    (λ other apart. ap (λ b. heard_as b (other == r.speaker) (holds r.whole other) (holds r.damaged other)) (c.insert.ensures.others other apart))

pub returns-else-tap-self : goal.returns-else-tap-self
returns-else-tap-self c =
    set-behind c.args.self.now c.args.tap Unheard (omega (arith, c.if-tap-self.false, list-length c.self.inside c.args.self.now c.self.view_is))
