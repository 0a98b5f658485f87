-- Events and replies as the model's plain data.
use Rattle.std.specs.Option.{option_map}
use Rattle.law_model.specs.World as model
use Rattle.pb_taps.specs.declared.events.Event.{Event}
use Rattle.pb_taps.specs.declared.events.Event.TheVariants as event
use Rattle.pb_taps.specs.declared.events.Reply.{Reply}

abbrev pub event_of : Event → model.Event
event_of (event.Turn tap) = model.Turn tap
event_of (event.Pass bits) = model.Pass bits
event_of (event.Damage tap speaker place) = model.Damage tap speaker place
event_of (event.Start tap) = model.Start tap
event_of (event.Stop tap) = model.Stop tap
event_of (event.Queue tap request) = model.Queue tap request
event_of (event.Noise bits) = model.Noise bits
event_of (event.Unheard tap speaker) = model.Unheard tap speaker

abbrev pub reply_of : Reply → model.Reply
reply_of r = record { now = r.now; spoke = option_map (λ octets. octets.items) r.spoke }
