-- The parameters of a bus, in bit times, and what follows from them.
use Rattle.std.specs.Prelude.{ℕ, ◌+◌, ◌*◌}

pub record Params : Type 0 where
  pub tsl : ℕ  -- slot time
  pub tid1 : ℕ  -- idle time 1: after a reply, an acknowledgement or a token
  pub tid2 : ℕ  -- idle time 2: after a request that nobody answers
  pub tsdr : ℕ  -- how long a responder waits
  pub lag : ℕ  -- how late a turn may be
  pub ttr : ℕ  -- target rotation time
  pub gap : ℕ  -- GAP factor
  pub hsa : ℕ  -- highest station address
  pub retries : ℕ  -- retries of a message cycle
  pub ttd : ℕ  -- cable delay: how long a telegram takes to the other taps

-- the time-out of a station: how long the bus is silent before it claims the token
abbrev pub tto : Params → ℕ → ℕ
tto p address = 6 * p.tsl + 2 * address * p.tsl

-- how long some octets take: a character takes eleven bit times
abbrev pub bits : ℕ → ℕ
bits octets = 11 * octets

-- the last moment, 2^62
abbrev pub last_moment : ℕ
last_moment = 4611686018427387904
