use Rattle.pb_station.proofs.turns.acts.Goals as goal

pub returns : goal.returns
returns c = c.acts_at.ensures c.args.core.now.waiting
