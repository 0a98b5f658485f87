use Rattle.pb_ring.specs.Gap.{gap_range}
use Rattle.pb_ring.proofs.GapRounds.{round-answers, round-closes, member-behind, gap-in_turn}
use Rattle.pb_ring.proofs.gap_laws.a_round_asks_each_address_once.Goals as goal

pub returns-clause-answers : goal.returns-clause-answers
returns-clause-answers c = round-answers

pub returns-clause-closes : goal.returns-clause-closes
returns-clause-closes c = round-closes

pub returns-clause-all : goal.returns-clause-all
returns-clause-all c ts ns hsa a = member-behind ts (gap_range ts ns hsa) a

pub returns-clause-in_turn : goal.returns-clause-in_turn
returns-clause-in_turn c = gap-in_turn
