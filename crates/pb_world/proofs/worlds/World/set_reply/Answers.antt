use Rattle.std.proofs.Common.{subst, refl, ℕ, List, [], ◌∷◌, Result, Ok, Err}
use Rattle.std.specs.Prelude.{OnOk}
use Rattle.law_turn.specs.Laws.{Fits}
use Rattle.law_model.specs.World.{World}
use Rattle.law_token.specs.Actions.{Sets}
use Rattle.law_live.specs.Actions.{ActOn}
use Rattle.law_live.proofs.Acting.{actions_lead_on}
use Rattle.pb_taps.specs.declared.faults.WorldFault.{WorldFault}
use Rattle.pb_world.specs.Buses.{world_of}
use Rattle.pb_world.specs.Data.{SetsData}
use Rattle.pb_world.proofs.worlds.World.set_reply.Goals as goal

leads : (w next : World) (tap : ℕ) (unit : List ℕ) (r : Result (Unit {0}) WorldFault) → Fits unit → SetsData w tap unit r next → OnOk r (ActOn w (Sets tap unit ∷ []) next)
leads w next tap unit (Ok done) fits sets = actions_lead_on w next (Sets tap unit ∷ []) (fits, tt) (next, sets, refl)
leads w next tap unit (Err fault) fits sets = tt

pub returns : goal.returns
returns c =
    let next = world_of c.set_reply.new.self in
    let unit = c.args.reply.items in
    let e = c.set_reply.ensures in
    record {
      sets = subst (λ w. SetsData w c.args.tap unit c.set_reply.result next) c.self.view_is e.sets;
      promises = subst (λ w. OnOk c.set_reply.result (ActOn w (Sets c.args.tap unit ∷ []) next)) c.self.view_is
          (leads (world_of c.self.inside.bus) next c.args.tap unit c.set_reply.result e.fits e.sets);
    }
