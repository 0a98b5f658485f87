use Rattle.std.proofs.Common.{◌≡◌, ◌∙◌, ◌-◌, nat_le, ap, refl, subst, sym}
use Rattle.std.specs.Prelude.{take}
use Rattle.law_model.specs.Laws.{AllBegun}
use Rattle.law_model.specs.Behind.{behind, IsPast}
use Rattle.pb_medium.specs.Airs.{IsCut}
use Rattle.pb_medium.specs.LettingGo.{gone_of}
use Rattle.pb_medium.specs.Traces.{entries_of, limit_of, over_of}
use Rattle.pb_world.specs.Buses.{world_of}
use Rattle.pb_world.specs.Ends.{AllBy, last_end}
use Rattle.pb_world.proofs.LettingGo.{begun-rest, by-rest, lets-go, without}
use Rattle.pb_world.proofs.buses.Bus.let_go.Goals as goal

pub returns : goal.returns
returns c =
    let bus = c.args.self.now in
    let w = world_of bus in
    let gone = gone_of bus.trace in
    let after = c.let_go.new.self in
    let kept = c.requires in
    let goes = lets-go w (over_of bus.trace) (nat_le (over_of bus.trace) (limit_of bus.trace)) refl kept.cut in
    let entries = c.let_go.ensures.entries in
    let same : without gone w ≡ record w { trace = entries_of after; limit = limit_of after }
    = ap (λ es. record w { trace = es; limit = limit_of bus.trace - gone }) (sym entries)
    ∙ ap (λ limit. record w { trace = entries_of after; limit = limit }) (sym c.let_go.ensures.limit) in
    record {
      whole = goes.0 ∙ ap (behind (take gone w.trace)) same;
      past = subst (IsPast (take gone w.trace)) same goes.1;
      kept = record {
        sound = record {
          begun = subst (AllBegun w.now) (sym entries) (begun-rest w.now gone w.trace kept.sound.begun);
          in_order = kept.sound.in_order;
          sayable = kept.sound.sayable;
        };
        clock = kept.clock;
        room = kept.room;
        seats = kept.seats;
        cut = subst (λ over. IsCut w.params.ttd w.now over (entries_of after)) (sym c.let_go.ensures.over)
            (subst (IsCut w.params.ttd w.now (over_of bus.trace - gone)) (sym entries) goes.2);
        ends = subst (AllBy last_end) (sym entries) (by-rest last_end gone w.trace kept.ends);
      };
    }
