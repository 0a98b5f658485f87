-- One turn more, and in the end all.
use Rattle.std.proofs.Common.{◌≡◌, ◌∙◌, ap, sym, true}
use Rattle.law_runs.specs.Histories.{none_left}
use Rattle.pb_scenario.proofs.Joined.{turns-join, turns-end}
use Rattle.pb_scenario.proofs.turning.read_turns.Goals as goal

pub loop-preserved : goal.loop-preserved
loop-preserved g c =
    turns-join (g.R.Report.events c.args.report.now) c.args.place c.loop.at c.in_ok-at.at c.args.want.now.items c.loop.want.items c.read_turn.new.want.items c.loop.invariant c.in_ok-at.ensures

pub returns-then-is_none_left : goal.returns-then-is_none_left
returns-then-is_none_left g c =
    let none : none_left c.loop.want.items ≡ true = ap none_left (sym c.deref.ensures.value) ∙ sym c.is_none_left.ensures ∙ c.if-is_none_left.true in
    turns-end (g.R.Report.events c.args.report.now) c.args.place c.loop.at c.args.want.now.items c.loop.want.items c.loop.invariant none
