-- One happening more has its mark, or none is left that has one.
use Rattle.std.proofs.Common.{◌∙◌, ◌++◌, ap, arith, subst, sym}
use Rattle.pb_scenario.specs.Steps.{deed_of}
use Rattle.pb_export.specs.declared.marks.Series.{Series}
use Rattle.pb_export.specs.Marks.{IsSteadySeries, happenings_of, marks_text}
use Rattle.pb_export.proofs.Repeating.{ended, more}
use Rattle.pb_export.proofs.marks.push_series.Goals as goal

pub loop-left-preserved : goal.loop-left-preserved
loop-left-preserved c =
    let s = c.args.scenario.now in
    let sheet = c.args.sheet in
    let lanes = c.args.lanes.now in
    let deed = deed_of c.args.deed.now in
    let after = c.push_mark_if.new.text.items in
    record {
      text = ap (λ (x : Series). after ++ marks_text s sheet lanes (happenings_of x deed)) c.rest-left.ensures
          ∙ more s sheet lanes deed c.loop-left.left c.loop-left.text.items after _ c.loop-left-test.true c.in_ok-push_mark_if.ensures c.loop-left.invariant.text;
      steady = subst (λ (x : Series). IsSteadySeries x) (sym c.rest-left.ensures) c.loop-left.invariant.steady;
    }

pub returns-else-left-last : goal.returns-else-left-last
returns-else-left-last c =
    let deed = deed_of c.args.deed.now in
    ended c.args.scenario.now c.args.sheet c.args.lanes.now deed c.loop-left.left c.loop-left.text.items _
    (λ some. omega (arith, c.if-left-last.false, c.last.ensures.value)) c.loop-left.invariant.text
