use Rattle.law_model.specs.Step.{replay}
use Rattle.law_model.proofs.Passes.{pass_tells}
use Rattle.law_model.proofs.Worlds.{sound-new_world, sound-replay}
use Rattle.law_model.proofs.world_laws.what_a_pass_tells_a_tap.Goals as goal

pub returns : goal.returns
returns c = λ p specs w events d tap next reply t fit are new ok here running.
    pass_tells (replay w events) next reply d tap t (sound-replay w events are (sound-new_world p specs w fit new)) ok here running
