use Rattle.std.proofs.Common.{sym, ap, ◌∙◌}
use Rattle.std.specs.Prelude.{slice_get}
use Rattle.pb_taps.proofs.Items.{if-found}
use Rattle.pb_world.proofs.worlds.World.station.Goals as goal

pub returns : goal.returns
returns c =
    let view = c.self.view_is in
    let same = ap (λ w. slice_get w.taps c.args.tap) (sym view) in
    if-found _ _ _ _ c.station.result (λ none. same ∙ none)
    (λ s found. (
      found.0,
      same ∙ found.1,
      found.2 ∙ ap (λ w. record { tap = c.args.tap; params = w.params; master = found.0.spec.master; reply_data = found.0.spec.reply; station = found.0.station }) view,
    ))
    c.station.ensures
