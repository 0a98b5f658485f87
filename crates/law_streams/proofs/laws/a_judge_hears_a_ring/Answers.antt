-- each clause computes; a false one is refused at once
use Rattle.std.proofs.Common.{refl}
use Rattle.law_streams.proofs.laws.a_judge_hears_a_ring.Goals as goal

pub returns-clause-kept : goal.returns-clause-kept
returns-clause-kept c = refl

pub returns-clause-taken : goal.returns-clause-taken
returns-clause-taken c = refl

pub returns-clause-last : goal.returns-clause-last
returns-clause-last c = refl

pub returns-clause-late : goal.returns-clause-late
returns-clause-late c = refl

pub returns-clause-early : goal.returns-clause-early
returns-clause-early c = refl

pub returns-clause-claims : goal.returns-clause-claims
returns-clause-claims c = refl
