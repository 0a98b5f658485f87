use Rattle.law_monitor.proofs.hearing.Heard.{taps_capture}
use Rattle.law_monitor.proofs.hearing.NoneRaised.{taps_raise_none}
use Rattle.law_monitor.proofs.taps.a_tap_hears_a_capture.Goals as goal

pub returns-clause-capture : goal.returns-clause-capture
returns-clause-capture c = taps_capture

pub returns-clause-none : goal.returns-clause-none
returns-clause-none c = taps_raise_none
