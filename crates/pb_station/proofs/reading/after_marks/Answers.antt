use Rattle.std.proofs.Common.{refl, map, arith, ◌≤◌, length}
use Rattle.pb_tokenfsm.specs.Phases.{phase_of}
use Rattle.pb_transitions.specs.Cores.{station_with}
use Rattle.pb_station.specs.MarkViews.{mark_of}
use Rattle.pb_station.proofs.MarkByMark.{read-more, read-all}
use Rattle.pb_station.proofs.Places.{left-at}
use Rattle.pb_station.proofs.reading.after_marks.Goals as goal

pub loop-mark-init : goal.loop-mark-init
loop-mark-init c queue = refl

pub loop-mark-preserved : goal.loop-mark-preserved
loop-mark-preserved c queue =
    read-more c.args.params.now (station_with c.args.kept.now queue (phase_of c.args.phase.now)) (map mark_of c.args.marks.now) c.loop-mark.mark-index
    (station_with c.loop-mark.kept queue (phase_of c.loop-mark.phase)) (station_with c.after_timer.new.kept queue (phase_of c.after_timer.new.phase))
    (station_with c.after_mark.new.kept queue (phase_of c.after_mark.new.phase)) (mark_of c.mark-item.result) c.moment.result (c.loop-mark.invariant queue)
    (left-at mark_of c.args.marks.now c.loop-mark.mark-index c.mark-item.result (omega (arith, c.loop-mark-test.true)) c.mark-item.is)
    (c.moment.ensures) (c.after_timer.ensures queue) (c.after_mark.ensures queue)

pub returns : goal.returns
returns c queue =
    let over : length c.args.marks.now ≤ c.loop-mark.mark-index = omega (arith, c.loop-mark-test.false) in
    read-all mark_of c.args.marks.now c.loop-mark.mark-index c.args.params.now (station_with c.args.kept.now queue (phase_of c.args.phase.now))
    (station_with c.loop-mark.kept queue (phase_of c.loop-mark.phase)) (c.loop-mark.invariant queue) over
