use Rattle.law_monitor.proofs.Captured.{captured_with_delay, captured_amid}
use Rattle.law_monitor.proofs.examples.passive_taps_capture_a_ring.Goals as goal

pub returns-clause-with_delay : goal.returns-clause-with_delay
returns-clause-with_delay c = captured_with_delay

pub returns-clause-amid : goal.returns-clause-amid
returns-clause-amid c = captured_amid
