use Rattle.std.proofs.Common.{◌≡◌, ◌∙◌, ◌++◌, ap, map, subst, sym, List}
use Rattle.law_model.specs.Trace.{Entry}
use Rattle.law_model.specs.Behind.{behind}
use Rattle.law_runs.specs.Headline.{specs_of}
use Rattle.law_runs.specs.Judging.{IsOrdered}
use Rattle.law_runs.proofs.Ordered.{is-ordered, stands-new}
use Rattle.law_runs.specs.Legality.{first_illegal}
use Rattle.law_token.proofs.replies.Addresses.{illegal_same}
use Rattle.law_live.proofs.Acting.{kept_by_actions}
use Rattle.pb_medium.specs.Entries.{entry_of}
use Rattle.pb_medium.specs.Traces.{entries_of}
use Rattle.pb_world.specs.Acted.{FindsActed, FindsBy}
use Rattle.pb_world.specs.Judges.{HasHeard}
use Rattle.pb_world.specs.Watched.{world_in}
use Rattle.pb_world.proofs.Acting.{acted-same, acts-in-order, legal-by-actions}
use Rattle.pb_world.proofs.Behind.{sound-behind}
use Rattle.pb_world.proofs.driven.DrivenBus.judge.Goals as goal

pub returns : goal.returns
returns c =
    subst (λ b. FindsBy b (record { premise = c.broken.result; illegal = c.illegal.result })) c.self.view_is
    (λ gone start actions by.
    let b = c.self.inside.driven in
    let came = by.acted in
    let w = behind gone (world_in b.watched) in
    let lead = came.lead.acted in
    let ordered : IsOrdered w.trace =
    is-ordered w (sound-behind gone (world_in b.watched) came.at.past came.followed.kept.sound) (acts-in-order actions start w lead.leads (stands-new came.lead.p came.lead.specs start lead.made)) in
    let whole : map entry_of c.entries.result.now ≡ entries_of b.watched.bus.trace = c.entries.ensures in
    let heard : HasHeard start.params (specs_of start) w.trace c.hear_all.new.self =
    subst (λ (es : List Entry). HasHeard start.params (specs_of start) (gone ++ es) c.hear_all.new.self) whole
    (c.in_ok-hear_all.ensures start.params (specs_of start) gone (c.in_ok-judge.ensures start.params (specs_of start) gone by.heard)) in
    let same = acted-same actions start w lead.leads in
    let illegal =
    c.illegal.ensures start.params (specs_of start) w.trace heard ordered
    ∙ illegal_same start.params (specs_of start) (specs_of w) w.trace (λ tap. sym (same.1 tap)) ∙ ap (λ q. first_illegal q (specs_of w) w.trace) (sym same.0) in
    let finds : FindsActed start actions (record { premise = c.broken.result; illegal = c.illegal.result }) =
    (w, lead.leads, c.broken.ensures _ came.at.stands, illegal, kept_by_actions start w actions came.lead) in
    (finds, legal-by-actions start actions _ finds))
