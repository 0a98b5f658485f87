use Rattle.pb_segment.proofs.NewWorlds.{own_origin}
use Rattle.pb_segment.proofs.segments.SharedSegment.with_history.Goals as goal

pub of-requires : goal.of-requires
of-requires g c = own_origin c.args.world c.requires.new
