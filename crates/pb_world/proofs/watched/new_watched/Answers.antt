use Rattle.std.proofs.Common.{◌∙◌, arith, sym, map}
use Rattle.std.proofs.lemmas.List.{length-map}
use Rattle.law_model.specs.World.{trace_limit}
use Rattle.pb_taps.specs.Taps.{spec_of, tap_of}
use Rattle.pb_world.specs.Buses.{world_of}
use Rattle.law_live.proofs.Promising.{new_begins}
use Rattle.pb_world.proofs.Premising.{quiet-blank}
use Rattle.pb_world.proofs.Coming.{comes-new}
use Rattle.pb_world.proofs.Lasting.{namesakes-new}
use Rattle.pb_world.proofs.watched.new_watched.Goals as goal

pub returns-clause-came : goal.returns-clause-came
returns-clause-came c =
    let bus = c.in_ok-bus.bus in
    let kept = c.in_ok-bus.ensures.kept in
    comes-new (record { bus = bus; watch = c.new.result; told = c.nothing.result }) (record {
      kept = kept;
      knows = record {
        silent = quiet-blank (world_of bus) c.new.result.quiet c.in_ok-bus.ensures.blank.empty (omega (arith, kept.room, length-map bus.taps.items tap_of)) c.new.ensures.silent;
        oldest = λ tap there. omega (arith, c.new.ensures.oldest);
        namesakes = c.new.ensures.namesakes ∙ sym (namesakes-new c.args.params (map spec_of c.args.specs.now) (world_of bus) c.in_ok-bus.ensures.ok);
      };
    }) (new_begins c.args.params (map spec_of c.args.specs.now) (world_of bus) c.in_ok-bus.ensures.valid c.in_ok-bus.ensures.fit (trace_limit, c.in_ok-bus.ensures.ok)).0 c.new.ensures.watched
