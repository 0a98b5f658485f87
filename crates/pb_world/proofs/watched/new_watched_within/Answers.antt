use Rattle.std.proofs.Common.{◌∙◌, arith, map, subst, sym}
use Rattle.std.proofs.lemmas.List.{length-map}
use Rattle.law_runs.proofs.Watching.{stands-new}
use Rattle.law_runs.specs.Watching.{StandsFor}
use Rattle.law_streams.specs.Audits.{no_events}
use Rattle.pb_taps.specs.Taps.{spec_of, tap_of}
use Rattle.pb_world.specs.Buses.{world_of}
use Rattle.pb_world.specs.Premises.{Knows}
use Rattle.pb_world.proofs.Behind.{past-none, plain-known, with-none}
use Rattle.pb_world.proofs.Lasting.{empty-within, namesakes-within}
use Rattle.pb_world.proofs.Premising.{quiet-blank}
use Rattle.pb_world.proofs.watched.new_watched_within.Goals as goal

pub returns-clause-followed : goal.returns-clause-followed
returns-clause-followed c =
    let bus = c.in_ok-bus.bus in
    let kept = c.in_ok-bus.ensures.kept in
    let specs = map spec_of c.args.specs.now in
    let ok = c.in_ok-bus.ensures.ok in
    let knows : Knows c.new.result (world_of bus) = record {
      silent = quiet-blank (world_of bus) c.new.result.quiet (empty-within c.args.limit c.args.params specs (world_of bus) ok) (omega (arith, kept.room, length-map bus.taps.items tap_of)) c.new.ensures.silent;
      oldest = λ tap there. omega (arith, c.new.ensures.oldest);
      namesakes = c.new.ensures.namesakes ∙ sym (namesakes-within c.args.limit c.args.params specs (world_of bus) ok);
    } in
    record { kept = kept; knows = plain-known c.new.result bus knows }

pub returns-clause-at_end : goal.returns-clause-at_end
returns-clause-at_end c =
    let bus = c.in_ok-bus.bus in
    let w = world_of bus in
    let kept = c.in_ok-bus.ensures.kept in
    let specs = map spec_of c.args.specs.now in
    let ok = c.in_ok-bus.ensures.ok in
    let knows : Knows c.new.result w = record {
      silent = quiet-blank w c.new.result.quiet (empty-within c.args.limit c.args.params specs w ok) (omega (arith, kept.room, length-map bus.taps.items tap_of)) c.new.ensures.silent;
      oldest = λ tap there. omega (arith, c.new.ensures.oldest);
      namesakes = c.new.ensures.namesakes ∙ sym (namesakes-within c.args.limit c.args.params specs w ok);
    } in
    record {
      past = past-none w;
      here = sym (with-none bus);
      knows = subst (Knows c.new.result) (sym (with-none bus)) knows;
      stands = subst (λ v. StandsFor v (no_events w)) (sym c.new.ensures.watched) (stands-new w);
    }
