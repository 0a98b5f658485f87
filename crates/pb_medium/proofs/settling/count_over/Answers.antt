use Rattle.std.proofs.Common.{◌∙◌, map, true, false}
use Rattle.pb_medium.specs.Entries.{entry_of}
use Rattle.pb_medium.proofs.Closing.{counted, cut-in-two}
use Rattle.pb_medium.proofs.settling.count_over.Goals as goal

pub returns-then-none_before-clause-count : goal.returns-then-none_before-clause-count
returns-then-none_before-clause-count c =
    let entries = c.args.entries.now in
    let ended = c.first_ended-ended.result in
    counted c.args.delay c.args.now ended (map entry_of entries) true c.first_ended-ended.ensures.count
    (c.if-none_before.ensures ∙ cut-in-two entry_of c.args.delay ended c.latest_end.result entries c.latest_end.ensures)

pub returns-else-none_before-clause-count : goal.returns-else-none_before-clause-count
returns-else-none_before-clause-count c =
    let entries = c.args.entries.now in
    let ended = c.first_ended-ended.result in
    counted c.args.delay c.args.now ended (map entry_of entries) false c.first_ended-ended.ensures.count
    (c.if-none_before.ensures ∙ cut-in-two entry_of c.args.delay ended c.latest_end.result entries c.latest_end.ensures)
