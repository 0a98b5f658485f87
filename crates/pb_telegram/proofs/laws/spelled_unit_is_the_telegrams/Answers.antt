use Rattle.pb_telegram.proofs.Beginnings.{unit_of_var, unit_of_fixed}
use Rattle.pb_telegram.proofs.laws.spelled_unit_is_the_telegrams.Goals as goal

pub returns-clause-var : goal.returns-clause-var
returns-clause-var c = unit_of_var

pub returns-clause-fixed : goal.returns-clause-fixed
returns-clause-fixed c = unit_of_fixed
