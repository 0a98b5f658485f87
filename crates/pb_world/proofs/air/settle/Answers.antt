use Rattle.std.proofs.Common.{◌∙◌, ap, sym, arith, ◌+◌, ◌<◌, drop, map}
use Rattle.law_model.specs.Medium.{reaches_taps}
use Rattle.law_streams.specs.Judgement.{ends_by, recent_at}
use Rattle.pb_taps.proofs.Items.{left-at}
use Rattle.pb_world.specs.Airtimes.{air_of}
use Rattle.pb_world.proofs.Hearing.{ends-go-on, ends-stop, recent-go-on, recent-stop}
use Rattle.pb_world.proofs.air.settle.Goals as goal

pub returns-then-reached-moment-clause-ends : goal.returns-then-reached-moment-clause-ends
returns-then-reached-moment-clause-ends c =
    let place = c.loop-place.place in
    let es = map air_of c.args.recent.now in
    let x = air_of c.index-recent-place.result in
    let left = left-at air_of c.args.recent.now place c.index-recent-place.result c.loop-place-test.true c.index-recent-place.is in
    sym (ends-stop c.args.delay c.args.moment c.loop-place.ends x (drop (place + 1) es) (omega (arith, c.if-reached-moment.true, c.reached.ensures)))
    ∙ sym (ap (ends_by c.args.delay c.args.moment c.loop-place.ends) left) ∙ sym c.loop-place.invariant.ends

pub returns-then-reached-moment-clause-others : goal.returns-then-reached-moment-clause-others
returns-then-reached-moment-clause-others c =
    let place = c.loop-place.place in
    let es = map air_of c.args.recent.now in
    let x = air_of c.index-recent-place.result in
    let left = left-at air_of c.args.recent.now place c.index-recent-place.result c.loop-place-test.true c.index-recent-place.is in
    left ∙ sym (recent-stop c.args.delay c.args.moment x (drop (place + 1) es) (omega (arith, c.if-reached-moment.true, c.reached.ensures)))
    ∙ sym (ap (recent_at c.args.delay c.args.moment) left) ∙ sym c.loop-place.invariant.others

pub loop-place-preserved : goal.loop-place-preserved
loop-place-preserved c =
    let place = c.loop-place.place in
    let es = map air_of c.args.recent.now in
    let x = air_of c.index-recent-place.result in
    let rest = drop (place + 1) es in
    let left = left-at air_of c.args.recent.now place c.index-recent-place.result c.loop-place-test.true c.index-recent-place.is in
    let before : (reaches_taps c.args.delay x).begin < c.args.moment = omega (arith, c.if-reached-moment.false, c.reached.ensures) in
    record {
      ends = c.loop-place.invariant.ends ∙ ap (ends_by c.args.delay c.args.moment c.loop-place.ends) left
          ∙ ends-go-on c.args.delay c.args.moment c.loop-place.ends x rest before
          ∙ ap (λ ends. ends_by c.args.delay c.args.moment ends rest) (sym c.take_in.ensures);
      others = c.loop-place.invariant.others ∙ ap (recent_at c.args.delay c.args.moment) left ∙ recent-go-on c.args.delay c.args.moment x rest before;
    }
