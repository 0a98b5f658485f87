use Rattle.std.proofs.Common.{ap, ◌∙◌, false}
use Rattle.pb_taps.specs.Taps.{spec_at, spec_of}
use Rattle.law_model.specs.World.{stopped_tap}
use Rattle.pb_taps.proofs.making.new_tap.Goals as goal

pub returns-clause-tap : goal.returns-clause-tap
returns-clause-tap c =
    ap (λ s. record { spec = spec_at s; running = false; since = 0; amid = false; station = s.station; marks = c.in_ok-marks.marks }) c.in_ok-station.ensures.station
    ∙ ap (λ marks. record (stopped_tap c.args.params.now (spec_of c.args.spec.now)) { marks = marks }) c.in_ok-marks.ensures

pub returns-clause-seat : goal.returns-clause-seat
returns-clause-seat c = ap (λ s. record { tap = s.tap; params = s.params }) c.in_ok-station.ensures.station
