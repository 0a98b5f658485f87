-- What a bus lets go, its judge has heard.
use Rattle.std.proofs.Common.{◌≡◌, ◌∙◌, ◌++◌, ap, map, subst, List}
use Rattle.law_model.specs.Behind.{behind}
use Rattle.law_model.specs.Trace.{Entry}
use Rattle.law_runs.specs.Headline.{specs_of}
use Rattle.law_live.specs.Actions.{ActedTo}
use Rattle.pb_medium.specs.Entries.{entry_of}
use Rattle.pb_medium.specs.LettingGo.{past_of}
use Rattle.pb_world.specs.Acted.{course_from}
use Rattle.pb_world.specs.Judges.{HasHeard}
use Rattle.pb_world.specs.Told.{tray_at}
use Rattle.pb_world.specs.Watched.{world_in}
use Rattle.pb_world.proofs.Behind.{behind-more}
use Rattle.pb_world.proofs.driven.let_go.Goals as goal

pub returns-clause-gone : goal.returns-clause-gone
returns-clause-gone c =
    let old = c.args.driven.now in
    let new = c.let_go.new.self in
    let past = past_of old.watched.bus.trace in
    let all : map entry_of c.past-past.result.now ≡ past = c.past-past.ensures in
    record {
      world = c.let_go.ensures.world;
      acts = λ gone start actions by.
          let acted = by.acted in
          record {
            acted = record {
              followed = c.let_go.ensures.followed;
              lead = subst (ActedTo start actions) (ap (behind gone) c.let_go.ensures.world ∙ behind-more gone past (world_in new)) acted.lead;
              at = c.let_go.ensures.gone gone (course_from start actions) acted.at;
            };
            heard = subst (λ (es : List Entry). HasHeard start.params (specs_of start) (gone ++ es) c.hear_all.new.self) all
                (c.in_ok-hear_all.ensures start.params (specs_of start) gone (c.in_ok-judge.ensures start.params (specs_of start) gone by.heard));
          };
      told = λ k. ap (λ t. tray_at t k) c.let_go.ensures.told;
    }
