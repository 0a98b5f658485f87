use Rattle.std.proofs.Common.{sym, subst, ◌∷◌, [], ◌++◌}
use Rattle.pb_rotation.specs.Receipts as heard
use Rattle.pb_rotation.specs.Rotation as model
use Rattle.pb_rotation.specs.RotationViews.{rotation_of}
use Rattle.pb_rotation.proofs.Standing as standing
use Rattle.pb_rotation.proofs.rotations.Rotation.started_high.Goals as goal

pub returns-clause-stands : goal.returns-clause-stands
returns-clause-stands c ttr happenings stands =
    let before = subst (λ r. model.StandsFor ttr r happenings) (sym c.self.view_is) stands in
    subst (λ l. model.StandsFor ttr (record { ttr = c.self.inside.ttr; last = l }) (happenings ++ heard.StartedHigh ∷ []))
    (sym c.used-self-inside.ensures) (standing.stands-started_high ttr (rotation_of c.self.inside) happenings before)
