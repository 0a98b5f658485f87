use Rattle.law_monitor.proofs.Captured.{claimer_named, taker_named}
use Rattle.law_monitor.proofs.examples.holders_are_named.Goals as goal

pub returns-clause-claims : goal.returns-clause-claims
returns-clause-claims c = claimer_named

pub returns-clause-takes : goal.returns-clause-takes
returns-clause-takes c = taker_named
