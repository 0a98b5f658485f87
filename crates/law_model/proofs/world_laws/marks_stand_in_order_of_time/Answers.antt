use Rattle.law_model.proofs.Worlds.{sound-new_world, sound-replay}
use Rattle.law_model.proofs.world_laws.marks_stand_in_order_of_time.Goals as goal

pub returns : goal.returns
returns c = λ p specs w events fit are new. (sound-replay w events are (sound-new_world p specs w fit new)).in_order
