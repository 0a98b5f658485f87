use Rattle.std.proofs.Common.{ap, sym, ◌∙◌, ◌==◌}
use Rattle.std.proofs.lemmas.Bool.{le-ltb}
use Rattle.law_model.specs.Medium.{is_unheard}
use Rattle.pb_medium.specs.Receptions.{holds}
use Rattle.pb_medium.proofs.Receiving.{as-unheard, heard-by-all, list-at, list-none}
use Rattle.pb_medium.proofs.receptions.Reception.is_unheard.Goals as goal

pub returns-then-tap-self : goal.returns-then-tap-self
returns-then-tap-self c =
    let r = c.self.inside in
    let tap = c.args.tap in
    c.contains.ensures ∙ as-unheard (holds r.unheard tap) (tap == r.speaker) (holds r.whole tap) (holds r.damaged tap)
    ∙ sym (ap is_unheard (list-at r c.args.self.now tap c.self.view_is c.if-tap-self.true))

pub returns-else-tap-self : goal.returns-else-tap-self
returns-else-tap-self c =
    le-ltb c.args.tap c.self.inside.taps c.if-tap-self.false
    ∙ sym (ap is_unheard (list-none c.self.inside c.args.self.now c.args.tap c.self.view_is c.if-tap-self.false))

-- nothing is lost at any tap
pub returns-then-is_empty : goal.returns-then-is_empty
returns-then-is_empty c = sym (heard-by-all c.self.inside c.args.self.now c.self.view_is (c.is_empty.ensures c.if-is_empty.true) c.args.tap)
