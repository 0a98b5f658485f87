use Rattle.law_token.proofs.quiet.Bound.{silence_bound, silence_at_speakers, silence_at_tap}
use Rattle.law_token.proofs.whole.Readers.{none_in_silence}
use Rattle.law_token.proofs.silence.no_master_is_left_in_silence.Goals as goal

pub returns-clause-bound : goal.returns-clause-bound
returns-clause-bound c = silence_bound

pub returns-clause-at_speakers : goal.returns-clause-at_speakers
returns-clause-at_speakers c = silence_at_speakers

pub returns-clause-at_the_tap : goal.returns-clause-at_the_tap
returns-clause-at_the_tap c = silence_at_tap

pub returns-clause-of_a_world : goal.returns-clause-of_a_world
returns-clause-of_a_world c = none_in_silence
