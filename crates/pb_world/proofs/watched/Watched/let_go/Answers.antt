use Rattle.std.proofs.Common.{◌∙◌, ◌++◌, ap, subst}
use Rattle.law_model.specs.Behind.{behind, IsPast}
use Rattle.pb_medium.specs.LettingGo.{past_of}
use Rattle.pb_world.specs.Buses.{world_of}
use Rattle.pb_world.specs.Premises.{Knows}
use Rattle.pb_world.proofs.Behind.{behind-more, past-more}
use Rattle.pb_world.proofs.watched.Watched.let_go.Goals as goal

pub returns-clause-followed : goal.returns-clause-followed
returns-clause-followed c =
    let (old, past, knows) = c.requires.knows in
    let gone = past_of c.args.self.now.bus.trace in
    let after = world_of c.let_go.new.self in
    let whole = c.let_go.ensures.whole in
    record {
      kept = c.let_go.ensures.kept;
      knows = (
        old ++ gone,
        past-more old gone after (subst (IsPast old) whole past) c.let_go.ensures.past,
        subst (Knows c.args.self.now.watch) (ap (behind old) whole ∙ behind-more old gone after) knows,
      );
    }

pub returns-clause-gone : goal.returns-clause-gone
returns-clause-gone c = λ old course at.
    let gone = past_of c.args.self.now.bus.trace in
    let after = world_of c.let_go.new.self in
    let whole = c.let_go.ensures.whole in
    let same = ap (behind old) whole ∙ behind-more old gone after in
    record {
      past = past-more old gone after (subst (IsPast old) whole at.past) c.let_go.ensures.past;
      here = at.here ∙ same;
      knows = subst (Knows c.args.self.now.watch) same at.knows;
      stands = at.stands;
    }
