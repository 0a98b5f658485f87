use Rattle.std.proofs.Common.{ap, ◌∙◌}
use Rattle.pb_monitor.specs.Judge.{alarm_by}
use Rattle.pb_monitor.specs.Meanings.{arrival_in}
use Rattle.pb_monitor.proofs.Meant.{alarm_meant}
use Rattle.pb_monitor.proofs.judges.Judge.hear.Goals as goal

pub returns-clause-alarm : goal.returns-clause-alarm
returns-clause-alarm c = λ chars same.
    let j = c.args.self.now in
    let b = c.args.burst.now in
    c.alarm-raised.ensures
    ∙ ap (alarm_by j.params j.slack j.classes j.since j.state b.begin) c.meaning_in-meaning.ensures
    ∙ alarm_meant j.params j.slack j.classes j.since j.state b.begin b.end chars (arrival_in b.telegram) same
