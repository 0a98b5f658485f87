use Rattle.std.proofs.Common.{refl}
use Rattle.pb_monitor.proofs.laws.captures_are_judged.Goals as goal

pub returns-clause-ring : goal.returns-clause-ring
returns-clause-ring c = refl

pub returns-clause-intrudes : goal.returns-clause-intrudes
returns-clause-intrudes c = refl

pub returns-clause-third : goal.returns-clause-third
returns-clause-third c = refl

pub returns-clause-again : goal.returns-clause-again
returns-clause-again c = refl

pub returns-clause-again_early : goal.returns-clause-again_early
returns-clause-again_early c = refl

pub returns-clause-again_though : goal.returns-clause-again_though
returns-clause-again_though c = refl

pub returns-clause-blind : goal.returns-clause-blind
returns-clause-blind c = refl

pub returns-clause-taken_first : goal.returns-clause-taken_first
returns-clause-taken_first c = refl

pub returns-clause-taken_soon : goal.returns-clause-taken_soon
returns-clause-taken_soon c = refl

pub returns-clause-taken_late : goal.returns-clause-taken_late
returns-clause-taken_late c = refl

pub returns-clause-taken_after : goal.returns-clause-taken_after
returns-clause-taken_after c = refl

pub returns-clause-claims : goal.returns-clause-claims
returns-clause-claims c = refl

pub returns-clause-claims_early : goal.returns-clause-claims_early
returns-clause-claims_early c = refl

pub returns-clause-claims_behind : goal.returns-clause-claims_behind
returns-clause-claims_behind c = refl

pub returns-clause-claims_lost : goal.returns-clause-claims_lost
returns-clause-claims_lost c = refl

pub returns-clause-claims_after_ttos : goal.returns-clause-claims_after_ttos
returns-clause-claims_after_ttos c = refl

pub returns-clause-claims_loosely : goal.returns-clause-claims_loosely
returns-clause-claims_loosely c = refl

pub returns-clause-claims_early_loosely : goal.returns-clause-claims_early_loosely
returns-clause-claims_early_loosely c = refl

pub returns-clause-speaks_lost : goal.returns-clause-speaks_lost
returns-clause-speaks_lost c = refl
