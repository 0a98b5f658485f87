use Rattle.law_monitor.proofs.hearing.Heard.{taps_capture_by}
use Rattle.law_monitor.proofs.hearing.NoneRaised.{taps_raise_none_by}
use Rattle.law_monitor.proofs.actions.a_tap_hears_a_capture_whatever_the_data.Goals as goal

pub returns-clause-capture : goal.returns-clause-capture
returns-clause-capture c = taps_capture_by

pub returns-clause-none : goal.returns-clause-none
returns-clause-none c = taps_raise_none_by
