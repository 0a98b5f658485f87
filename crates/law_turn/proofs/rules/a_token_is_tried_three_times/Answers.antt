use Rattle.law_turn.proofs.Numbers.{tried, tried-again}
use Rattle.law_turn.proofs.rules.a_token_is_tried_three_times.Goals as goal

pub returns-clause-first : goal.returns-clause-first
returns-clause-first c p s now = tried p s 0 now

pub returns-clause-second : goal.returns-clause-second
returns-clause-second c p s now = tried p s 1 now

pub returns-clause-third : goal.returns-clause-third
returns-clause-third c p s now = tried p s 2 now

pub returns-clause-again : goal.returns-clause-again
returns-clause-again c = tried-again
