use Rattle.law_turn.proofs.Initiating.{holder-turn_of, reply-turn_of, fits-turn_of}
use Rattle.law_turn.proofs.laws.only_a_holder_initiates.Goals as goal

pub returns-clause-speech : goal.returns-clause-speech
returns-clause-speech c p s marks now reply cycles = holder-turn_of p s marks now (reply, cycles)

pub returns-clause-reply : goal.returns-clause-reply
returns-clause-reply c p s marks now reply cycles = (reply-turn_of p s marks now (reply, cycles)).0

pub returns-clause-fits : goal.returns-clause-fits
returns-clause-fits c p s marks now reply cycles = fits-turn_of p s marks now (reply, cycles)

pub returns-clause-started : goal.returns-clause-started
returns-clause-started c p s master now = tt

pub returns-clause-stopped : goal.returns-clause-stopped
returns-clause-stopped c s = tt

pub returns-clause-pushed : goal.returns-clause-pushed
returns-clause-pushed c s r has = has
