use Rattle.std.proofs.Common.{◌∙◌, ap}
use Rattle.law_runs.specs.Initiators.{offered_to}
use Rattle.law_runs.specs.Judging.{goes_on_after}
use Rattle.pb_medium.specs.Entries.{record_of}
use Rattle.pb_world.proofs.judge.Judge.goes_on.Goals as goal

pub returns : goal.returns
returns c = λ p specs k m keeps is.
    c.follows.ensures specs m is (c.address.ensures p specs k keeps)
    ∙ ap (λ q. goes_on_after q specs m (offered_to m.telegram) (record_of c.args.telegram.now)) keeps.params
