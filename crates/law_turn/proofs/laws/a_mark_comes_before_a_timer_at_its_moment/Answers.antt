use Rattle.law_turn.proofs.Moments.{after_marks-mark, after_marks-timer}
use Rattle.law_turn.proofs.laws.a_mark_comes_before_a_timer_at_its_moment.Goals as goal

pub returns-clause-mark : goal.returns-clause-mark
returns-clause-mark c = after_marks-mark

pub returns-clause-timer : goal.returns-clause-timer
returns-clause-timer c = after_marks-timer
