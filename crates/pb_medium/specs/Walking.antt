-- The rest of an iteration over taps.
use Rattle.std.specs.Prelude.{List, drop}
use Rattle.law_model.specs.Trace.{Heard}
use Rattle.pb_medium.specs.declared.hearing.HeardByTap.{HeardByTap}

abbrev pub heard_left : HeardByTap → List Heard
heard_left w = drop w.next w.reception.now
