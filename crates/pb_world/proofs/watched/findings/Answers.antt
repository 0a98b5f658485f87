use Rattle.std.proofs.Common.{◌∙◌, ap, subst, sym, map}
use Rattle.law_runs.specs.Headline.{specs_of}
use Rattle.law_runs.specs.Judging.{IsOrdered}
use Rattle.law_runs.specs.Legality.{first_illegal}
use Rattle.pb_medium.specs.Entries.{entry_of}
use Rattle.pb_world.specs.Judging.{specs_at}
use Rattle.pb_world.specs.Watched.{world_in}
use Rattle.pb_world.proofs.watched.findings.Goals as goal

pub first_illegal-requires : goal.first_illegal-requires
first_illegal-requires c = subst IsOrdered (sym c.entries.ensures) c.requires

pub returns-clause-premise : goal.returns-clause-premise
returns-clause-premise c = c.numbered.ensures ∙ c.first_broken.ensures

pub returns-clause-illegal : goal.returns-clause-illegal
returns-clause-illegal c =
    let w = world_in c.args.watched.now in
    c.first_illegal.ensures
    ∙ ap (λ ts. first_illegal w.params (specs_at ts) (map entry_of c.entries.result.now)) c.deref.ensures.value
    ∙ ap (first_illegal w.params (specs_of w)) c.entries.ensures
