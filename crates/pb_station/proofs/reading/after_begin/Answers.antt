use Rattle.std.proofs.Common.{rules}
use Rattle.pb_station.proofs.reading.after_begin.Goals as goal

pub returns : goal.returns
returns c p seen queue = let h = c.begun.ensures queue in search rules
