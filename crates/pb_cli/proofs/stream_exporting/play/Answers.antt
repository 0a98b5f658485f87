-- What is appended were the next entries to come.
use Rattle.std.proofs.Common.{◌∙◌, ◌++◌, Global, Vec, ap, length, refl, subst, ℕ}
use Rattle.pb_stream.specs.Streams.{HasPlayed, StillHas}
use Rattle.pb_stream.specs.declared.streams.Progress.{Progress}
use Rattle.pb_export.specs.Streamed.{unwritten}
use Rattle.pb_cli.specs.declared.settled.Settled.{Settled}
use Rattle.pb_cli.proofs.Appended.{at_refusal, goes_so, joins, keeps_all}
use Rattle.pb_cli.proofs.stream_exporting.play.Goals as goal
use Rattle.pb_cli.proofs.stream_exporting.play.Goals.{then-over-ge-BLOCK+then-may_go+in_ok-push_past-in-Goes, else-over-ge-BLOCK}

pub returns-after-over-ge-BLOCK : goal.returns-after-over-ge-BLOCK
returns-after-over-ge-BLOCK c =
    let s = c.args.scenario.now in
    let old = c.args.stream.now in
    let mid = c.play.new.self in
    let x = c.args.exporter.now in
    let before = c.args.bytes.now.items in
    let past = c.past-past.result.now in
    let joined = c.if-over-ge-BLOCK in
    let still : StillHas old mid = subst (λ (p : Progress). HasPlayed p old mid) c.in-Goes.is c.in_ok-play.ensures.plays in
    elim c.if-over-ge-BLOCK.branch [
      | then-over-ge-BLOCK+then-may_go+in_ok-push_past-in-Goes w ↦
          joins s old w.let_go.new.self joined.stream x w.push_past.new.self joined.exporter before w.push_past.new.bytes.items joined.bytes.items
          w.stream-is w.exporter-is (ap (λ (v : Vec ℕ Global). v.items) w.bytes-is)
          (goes_so s old mid w.let_go.new.self x w.push_past.new.self w.entries.result.now past (length past) w.may_go.result before w.push_past.new.bytes.items
          still w.entries.ensures c.past-past.ensures refl w.if-may_go.true w.may_go.ensures w.in_ok-push_past-in-Goes.ensures w.let_go.ensures)
      | else-over-ge-BLOCK w ↦
          joins s old mid joined.stream x x joined.exporter before before joined.bytes.items w.stream-is w.exporter-is
          (ap (λ (v : Vec ℕ Global). v.items) w.bytes-is) (keeps_all s old mid x before still)
    ]

pub returns-in_ok-refused_line-in-Refused : goal.returns-in_ok-refused_line-in-Refused
returns-in_ok-refused_line-in-Refused c =
    let s = c.args.scenario.now in
    let old = c.args.stream.now in
    let next = c.play.new.self in
    let x = c.args.exporter.now in
    let before = c.args.bytes.now.items in
    at_refusal s old next x c.in-Refused.clock c.in-Refused.fault before c.push_rest-in-Refused.new.bytes.items c.refused.result
    (subst (λ (p : Progress). HasPlayed p old next) c.in-Refused.is c.in_ok-play.ensures.plays)
    (c.in_ok-push_rest-in-Refused.ensures ∙ ap (λ es. before ++ unwritten x s es) c.entries-in-Refused.ensures)
    c.in_ok-refused_line-in-Refused.ensures.told (ap (λ (e : Settled). e.status) c.refused.ensures)
    (ap (λ (e : Settled). e.line.items) c.refused.ensures ∙ c.in_ok-refused_line-in-Refused.ensures.line)
