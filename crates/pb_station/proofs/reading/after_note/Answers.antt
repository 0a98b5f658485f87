use Rattle.std.proofs.Common.{rules}
use Rattle.pb_station.proofs.reading.after_note.Goals as goal

pub returns-in-Begin-clause-read : goal.returns-in-Begin-clause-read
returns-in-Begin-clause-read c queue = let h = c.after_begin.ensures c.args.params.now c.in-Begin.seen queue in search rules

pub returns-in-End-clause-read : goal.returns-in-End-clause-read
returns-in-End-clause-read c queue = let h = c.after_end.ensures c.in-End.seen queue in search rules

pub returns-in-GoodEnd-clause-read : goal.returns-in-GoodEnd-clause-read
returns-in-GoodEnd-clause-read c queue = let h = c.after_good_end.ensures c.in-GoodEnd.seen queue in search rules

pub returns-in-Three-clause-read : goal.returns-in-Three-clause-read
returns-in-Three-clause-read c queue = let h = c.after_good_end-in-Three.ensures c.in-Three.seen queue in search rules

pub returns-in-Noise-clause-read : goal.returns-in-Noise-clause-read
returns-in-Noise-clause-read c queue = let h = c.after_noise.ensures c.in-Noise.seen queue in search rules
