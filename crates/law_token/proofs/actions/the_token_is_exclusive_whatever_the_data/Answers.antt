use Rattle.law_token.proofs.replies.Actions.{theorem_of_actions, one_token_of_actions}
use Rattle.law_token.proofs.actions.the_token_is_exclusive_whatever_the_data.Goals as goal

pub returns-clause-with_delay : goal.returns-clause-with_delay
returns-clause-with_delay c = theorem_of_actions

pub returns-clause-readers : goal.returns-clause-readers
returns-clause-readers c = one_token_of_actions
