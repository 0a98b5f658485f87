-- An entry without what was sent, as the model's plain data.
use Rattle.std.specs.Prelude.{[]}
use Rattle.law_model.specs.Trace as model
use Rattle.pb_world.specs.declared.airtimes.Airtime.{Airtime}
use Rattle.pb_world.specs.declared.airtimes.Airtime.TheVariants as airtime

abbrev pub air_of : Airtime → model.Entry
air_of (airtime.Sent s) = model.Sent (record { tap = s.tap; octets = []; begin = s.begin; end = s.end; hits = []; heard = [] })
air_of (airtime.Noise begin end) = model.Noise (record { begin = begin; end = end })
