use Rattle.std.proofs.Common.{arith}
use Rattle.law_live.proofs.Runs.{never_dead}
use Rattle.law_live.proofs.theorem.the_bus_is_never_dead.Goals as goal

pub returns-clause-law : goal.returns-clause-law
returns-clause-law c = never_dead

pub returns-clause-bound : goal.returns-clause-bound
returns-clause-bound c p address = omega arith
