use Rattle.std.proofs.Common.{subst}
use Rattle.pb_stream.specs.Plays.{HappenedAt}
use Rattle.pb_stream.proofs.plays.play_late.Goals as goal

pub returns-clause-plays : goal.returns-clause-plays
returns-clause-plays g c =
    let new = g.S.Stage.view c.play_deeds.new.stage in
    λ now old course from. subst (λ es. HappenedAt now old course es new) c.today-2.ensures.late (c.in_ok-play_deeds.ensures.plays now old course from)
