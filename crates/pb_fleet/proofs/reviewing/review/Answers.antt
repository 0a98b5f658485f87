use Rattle.pb_fleet.proofs.reviewing.review.Goals as goal

pub returns : goal.returns
returns c = rw c.in_ok-walk.ensures.walk at c.is_run.ensures
