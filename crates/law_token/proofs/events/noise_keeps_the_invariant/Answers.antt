use Rattle.law_token.proofs.air.Noise.{noise_invariant}
use Rattle.law_token.proofs.events.noise_keeps_the_invariant.Goals as goal

pub returns : goal.returns
returns c = noise_invariant
