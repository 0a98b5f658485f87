use Rattle.std.proofs.Common.{rules, ◌∙◌, ap, sym, subst, arith, map}
use Rattle.std.proofs.lemmas.List.{nil_from_length}
use Rattle.law_model.specs.World.{Event}
use Rattle.pb_medium.specs.Entries.{entry_of}
use Rattle.pb_medium.specs.Traces.{over_of}
use Rattle.pb_world.specs.Buses.{world_of, world_with}
use Rattle.pb_taps.specs.Events.{event_of}
use Rattle.pb_world.specs.Premises.{Listens}
use Rattle.pb_world.proofs.Behind.{alone-behind, heard-behind, sound-behind}
use Rattle.pb_world.proofs.Premising.{listens-pass, listens-none, passes-time}
use Rattle.pb_world.proofs.premises.listen.Goals as goal

pub returns-in_default-clause-listens : goal.returns-in_default-clause-listens
returns-in_default-clause-listens c = λ old past silent.
    let bus = c.args.bus.now in
    listens-none (world_with old bus) (event_of c.args.event.now) c.args.quiet.now (sym c.time_in.ensures ∙ c.in_default.is)
    (sound-behind old (world_of bus) past c.requires.kept.sound) silent

pub returns-then-is_empty-clause-listens : goal.returns-then-is_empty-clause-listens
returns-then-is_empty-clause-listens c = λ old past silent.
    let bus = c.args.bus.now in
    let bits = c.in-Some.bits in
    let is = passes-time (event_of c.args.event.now) bits (sym c.time_in.ensures ∙ c.in-Some.is) in
    let none = sym c.recent.ensures ∙ ap (map entry_of) (nil_from_length c.recent.result.now (search (rules, arith))) in
    subst (λ (x : Event). Listens (world_with old bus) x c.args.quiet.now) (sym is)
    (alone-behind old (world_of bus) (over_of bus.trace) bits c.args.quiet.now past c.requires.kept.sound silent c.requires.kept.cut none)

pub returns-clause-listens : goal.returns-clause-listens
returns-clause-listens c = λ old past silent.
    let bus = c.args.bus.now in
    let w = world_of bus in
    let bits = c.in-Some.bits in
    let is = passes-time (event_of c.args.event.now) bits (sym c.time_in.ensures ∙ c.in-Some.is) in
    subst (λ (x : Event). Listens (world_with old bus) x c.listen_to.new.quiet) (sym is)
    (listens-pass (world_with old bus) bits c.saturating_add.result c.args.quiet.now c.listen_to.new.quiet (sound-behind old w past c.requires.kept.sound) silent
    (λ le. omega (arith, le, c.saturating_add.ensures, c.get.ensures.value))
    (heard-behind old w c.saturating_add.result c.args.quiet.now c.listen_to.new.quiet past c.listen_to.ensures.heard))
