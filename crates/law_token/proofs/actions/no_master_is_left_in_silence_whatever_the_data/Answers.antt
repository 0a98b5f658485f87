use Rattle.law_token.proofs.replies.Actions.{none_in_silence_of_actions}
use Rattle.law_token.proofs.actions.no_master_is_left_in_silence_whatever_the_data.Goals as goal

pub returns : goal.returns
returns c = none_in_silence_of_actions
