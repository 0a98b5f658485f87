use Rattle.pb_cycles.proofs.Hearing.{heard-more}
use Rattle.pb_cycles.proofs.laws.a_responder_stands_for_what_it_heard.Goals as goal

pub returns-clause-message : goal.returns-clause-message
returns-clause-message c = heard-more
