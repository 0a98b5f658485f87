use Rattle.std.proofs.Common.{◌∙◌, sym}
use Rattle.pb_world.specs.Buses.{world_of}
use Rattle.pb_taps.specs.Events.{event_of}
use Rattle.pb_world.proofs.Lasting.{namesakes-steady, steady}
use Rattle.pb_world.proofs.premises.has_namesakes_after.Goals as goal

pub returns-in_default : goal.returns-in_default
returns-in_default c =
    let (w, reply, ok, had) = c.requires.led in
    had ∙ sym (namesakes-steady w (world_of c.args.bus.now) (event_of c.args.event.now) reply (steady c.args.event.now c.in_default.not-Start c.in_default.not-Stop) ok)
