-- What an instant finds of the audit, by how it ends.
use Rattle.std.proofs.Common.{◌≡◌, ◌∙◌, ◌++◌, List, Some, None, ap, map, subst, sym}
use Rattle.std.specs.Prelude.{IfSome}
use Rattle.law_model.specs.Trace.{Entry}
use Rattle.law_runs.specs.Headline.{specs_of}
use Rattle.pb_medium.specs.Entries.{entry_of}
use Rattle.pb_medium.specs.LettingGo.{past_of}
use Rattle.pb_medium.specs.Traces.{entries_of}
use Rattle.pb_world.specs.Judges.{HasHeard}
use Rattle.pb_world.specs.declared.buses.Bus.{Bus}
use Rattle.pb_stream.specs.Audits.{Finds, IsFoundBy}
use Rattle.pb_stream.specs.Plays.{GoesOn, IsNext}
use Rattle.pb_stream.specs.Stages.{watched_view}
use Rattle.pb_stream.specs.declared.audits.AuditStream.{AuditStream}
use Rattle.pb_stream.specs.declared.streams.Progress.{Progress}
use Rattle.pb_stream.specs.declared.streams.Progress.TheVariants as progress
use Rattle.pb_stream.proofs.Auditing.{ends, goes, stops}
use Rattle.pb_stream.proofs.audits.AuditStream.advance.Goals as goal
use Rattle.pb_stream.proofs.audits.AuditStream.advance.Goals.{in-Ok-Some+in_ok-hear_all-in-Ok-Some, in-Ok-None+in_ok-hear_all-in-Ok-None, in-Err+in_ok-hear_all-in-Err}

pub returns : goal.returns
returns c whole i =
    let s = c.args.self.now in
    let f = c.findings-self.result in
    let mid = c.play_instant.new.stage in
    let m = c.match-play_instant.self in
    let p = i.course.world.params in
    let specs = specs_of i.course.world in
    let So : Progress → AuditStream → Type 0 =
    λ q n. IsFoundBy n.watched n.judge f → Finds q whole s (record { watched = n.watched; walk = n.walk; judge = n.judge; found = f; usual = n.usual }) in
    elim c.match-play_instant.branch [
      | in-Ok-Some+in_ok-hear_all-in-Ok-Some w ↦
          let at = w.in-Ok-Some.at in
          let going : GoesOn s.walk i.gone i.course (Some at) (watched_view mid) =
          subst (λ o. GoesOn s.walk i.gone i.course o (watched_view mid)) w.in-Ok-Some.field-0-is (w.in-Ok-Some.ensures.goes i.gone i.course i.from) in
          let next : IsNext s.walk at = subst (λ o. IfSome o (IsNext s.walk)) w.in-Ok-Some.field-0-is w.in-Ok-Some.ensures.next in
          let all : map entry_of w.past.result.now ≡ past_of mid.bus.trace = w.past.ensures ∙ ap (λ (b : Bus). past_of b.trace) w.bus.ensures in
          let heard = subst (λ (es : List Entry). HasHeard p specs (i.gone ++ es) w.hear_all.new.self) all (w.in_ok-hear_all-in-Ok-Some.ensures p specs i.gone i.heard) in
          subst (λ q. So q m) (sym w.progress-is)
          (subst (So progress.Goes) (sym w.self-is)
          (λ by. goes whole s (record { watched = w.let_go.new.self; walk = w.go_to.new.self; judge = w.hear_all.new.self; found = f; usual = c.play_instant.new.usual }) i mid at
          going next w.in-Ok-Some.ensures.taps heard w.let_go.ensures.followed w.let_go.ensures.gone w.go_to.ensures by))
          c.findings-self.ensures
      | in-Ok-None+in_ok-hear_all-in-Ok-None w ↦
          let going : GoesOn s.walk i.gone i.course None (watched_view mid) =
          subst (λ o. GoesOn s.walk i.gone i.course o (watched_view mid)) w.in-Ok-None.field-0-is (w.in-Ok-None.ensures.goes i.gone i.course i.from) in
          let all : map entry_of w.entries.result.now ≡ entries_of mid.bus.trace = w.entries.ensures ∙ ap (λ (b : Bus). entries_of b.trace) w.bus-in-Ok-None.ensures in
          let heard = subst (λ (es : List Entry). HasHeard p specs (i.gone ++ es) w.hear_all-in-Ok-None.new.self) all (w.in_ok-hear_all-in-Ok-None.ensures p specs i.gone i.heard) in
          subst (λ q. So q m) (sym w.progress-is)
          (subst (So progress.Ended) (sym w.self-is) (λ by. ends whole s i mid w.hear_all-in-Ok-None.new.self f going heard by)) c.findings-self.ensures
      | in-Err+in_ok-hear_all-in-Err w ↦
          let fault = w.in-Err.fault in
          let clock = w.now.result in
          let all : map entry_of w.entries-in-Err.result.now ≡ entries_of mid.bus.trace = w.entries-in-Err.ensures ∙ ap (λ (b : Bus). entries_of b.trace) w.bus-in-Err.ensures in
          let heard = subst (λ (es : List Entry). HasHeard p specs (i.gone ++ es) w.hear_all-in-Err.new.self) all (w.in_ok-hear_all-in-Err.ensures p specs i.gone i.heard) in
          subst (λ q. So q m) (sym w.progress-is)
          (subst (So (progress.Refused clock fault)) (sym w.self-is)
          (λ by. stops whole s i mid w.hear_all-in-Err.new.self f fault clock w.now.ensures (w.in-Err.ensures.goes i.gone i.course i.from) heard by)) c.findings-self.ensures
    ]
