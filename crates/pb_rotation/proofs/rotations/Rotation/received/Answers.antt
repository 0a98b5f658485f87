use Rattle.std.proofs.Common.{sym, subst, ◌∷◌, [], ◌++◌, Some, false}
use Rattle.pb_rotation.specs.Receipts as heard
use Rattle.pb_rotation.specs.Rotation as model
use Rattle.pb_rotation.specs.RotationViews.{rotation_of}
use Rattle.pb_rotation.proofs.Standing as standing
use Rattle.pb_rotation.proofs.rotations.Rotation.received.Goals as goal

pub returns-clause-stands : goal.returns-clause-stands
returns-clause-stands c ttr happenings stands =
    let before = subst (λ r. model.StandsFor ttr r happenings) (sym c.self.view_is) stands in
    subst (λ m. model.StandsFor ttr (record { ttr = c.self.inside.ttr; last = Some (record { previous = m; at = c.args.at; high = false }) }) (happenings ++ heard.Received c.args.at ∷ []))
    (sym c.before-2.ensures) (standing.stands-received ttr (rotation_of c.self.inside) happenings c.args.at before)
