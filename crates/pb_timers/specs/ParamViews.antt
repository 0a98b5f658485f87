-- The parameters of a bus as plain numbers.
use Rattle.pb_timers.specs.Timers.{Params}
use Rattle.pb_timers.specs.declared.params.BusParams.TheInside.{Inside}
use Rattle.pb_timers.specs.declared.params.NamedParams.{NamedParams}

abbrev pub params_of : Inside → Params
params_of b = record {
  tsl = b.tsl;
  tid1 = b.tid1;
  tid2 = b.tid2;
  tsdr = b.tsdr;
  lag = b.lag;
  ttr = b.ttr;
  gap = b.gap;
  hsa = b.hsa;
  retries = b.retries;
  ttd = b.ttd;
}

abbrev pub params_inside : Params → Inside
params_inside p = record {
  tsl = p.tsl;
  tid1 = p.tid1;
  tid2 = p.tid2;
  tsdr = p.tsdr;
  lag = p.lag;
  ttr = p.ttr;
  gap = p.gap;
  hsa = p.hsa;
  retries = p.retries;
  ttd = p.ttd;
}

abbrev pub params_named : NamedParams → Params
params_named p = record {
  tsl = p.tsl;
  tid1 = p.tid1;
  tid2 = p.tid2;
  tsdr = p.tsdr;
  lag = p.lag;
  ttr = p.ttr;
  gap = p.gap;
  hsa = p.hsa;
  retries = p.retries;
  ttd = p.ttd;
}
