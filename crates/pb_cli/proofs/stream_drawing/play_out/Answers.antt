use Rattle.std.proofs.Common.{Option, refl, subst}
use Rattle.pb_cli.specs.StreamDrawing.{Plays}
use Rattle.pb_cli.specs.declared.stream_drawing.Ending.{Ending}
use Rattle.pb_cli.proofs.DrawnRuns.{ends, goes_on}
use Rattle.pb_stream.specs.Streams.{rest_of}
use Rattle.pb_cli.proofs.stream_drawing.play_out.Goals as goal

pub loop-ended-init : goal.loop-ended-init
loop-ended-init g c = record { rest = refl; ready = c.requires }

pub returns-in-Some : goal.returns-in-Some
returns-in-Some g c =
    ends c.args.stream.now c.loop-ended.stream c.play.new.stream c.in-Some.ending c.loop-ended.invariant
    (subst (λ (o : Option Ending). Plays c.loop-ended.stream c.play.new.stream o) c.in-Some.is c.in_ok-ended.ensures)

pub loop-ended-preserved : goal.loop-ended-preserved
loop-ended-preserved g c =
    goes_on (rest_of c.args.stream.now) c.loop-ended.stream c.play.new.stream c.loop-ended.invariant
    (subst (λ (o : Option Ending). Plays c.loop-ended.stream c.play.new.stream o) c.in-None.is c.in_ok-ended.ensures)
