-- What was to come are the entries that go, and then what is still to come.
use Rattle.std.proofs.Common.{◌∙◌, length, ap, refl, sym}
use Rattle.law_model.specs.World.{World}
use Rattle.pb_world.specs.Buses.{world_of}
use Rattle.pb_stream.specs.Streams.{past_in}
use Rattle.pb_stream.proofs.Streaming.{let-go-rest}
use Rattle.pb_stream.proofs.streams.Stream.let_go.Goals as goal

pub returns : goal.returns
returns c =
    let s = c.args.self.now in
    let lets = c.let_go.ensures in
    record {
      rest = let-go-rest s.walk (world_of s.bus) (world_of c.let_go.new.self) (past_in s) lets.whole lets.past;
      ready = record { kept = lets.kept; in_time = c.requires.in_time; taps = sym (ap (λ (w : World). length w.taps) lets.whole) ∙ c.requires.taps };
      names = refl;
      walk = refl;
    }
