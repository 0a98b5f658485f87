use Rattle.std.proofs.Common.{◌≡◌, ◌∙◌, ap, sym, subst, Ok}
use Rattle.std.specs.Prelude.{slice_get}
use Rattle.law_model.specs.Step.{step}
use Rattle.law_model.specs.World.{Event, Reply, Turn}
use Rattle.law_token.specs.Actions.{Happens}
use Rattle.pb_taps.specs.Events.{event_of}
use Rattle.pb_world.specs.Acted.{ActsOnBy}
use Rattle.pb_taps.specs.Faults.{Refuses}
use Rattle.pb_world.specs.Driven.{StaysBut}
use Rattle.pb_world.specs.Premises.{time_in}
use Rattle.pb_world.specs.Told.{executed_by_tap, executes, tray_in}
use Rattle.pb_world.specs.Watched.{IsFollowed, world_in}
use Rattle.pb_world.specs.declared.watched.Watched.{Watched}
use Rattle.pb_world.proofs.Coming.{leads-on, still-followed}
use Rattle.pb_world.proofs.Driving.{acts-event, comes-one, same-told, same-watch}
use Rattle.pb_world.proofs.Instants.{in-err}
use Rattle.pb_world.proofs.Telling.{read-by, turn-told}
use Rattle.pb_world.proofs.driven.apply_told.Goals as goal

-- a refused turn

refused : (c : goal.After-from_residual) → IsFollowed (record { bus = c.follow.new.bus; watch = c.follow.new.watch; told = c.read.new.self })
    × StaysBut c.args.watched.now (record { bus = c.follow.new.bus; watch = c.follow.new.watch; told = c.read.new.self })
refused c =
    let new : Watched = record { bus = c.follow.new.bus; watch = c.follow.new.watch; told = c.read.new.self } in
    same-watch c.args.watched.now new c.in_err-follow.ensures.err.0 (c.in_err-follow.ensures.stays (ap time_in c.requires.turn)) c.follow.ensures.kept c.requires.followed

pub returns-in_err-follow-clause-followed : goal.returns-in_err-follow-clause-followed
returns-in_err-follow-clause-followed c = (refused c).0

pub returns-in_err-follow-clause-applies : goal.returns-in_err-follow-clause-applies
returns-in_err-follow-clause-applies c =
    let old = c.args.watched.now in
    let new : Watched = record { bus = c.follow.new.bus; watch = c.follow.new.watch; told = c.read.new.self } in
    let fault = c.in_err-follow.field-0.0 in
    let why = subst (λ (x : Event). Refuses (world_in old) x (step (world_in old) x) fault) c.requires.turn c.in_err-follow.ensures.err.1 in
    in-err _ _ c.from_residual.result fault c.from_residual.ensures.0 c.from_residual.ensures.1
    (same-told old new (refused c).1 (λ k. ap (λ trays. tray_in (slice_get trays k)) c.read.ensures.trays), why)

-- one that happens

pub returns-clause-followed : goal.returns-clause-followed
returns-clause-followed c =
    let old = c.args.watched.now in
    let steps = c.in_ok-follow.ensures.steps in
    still-followed old (record { bus = c.follow.new.bus; watch = c.follow.new.watch; told = c.note.new.self }) (event_of c.args.event.now) steps.0 c.requires.followed c.follow.ensures.kept steps.1
    c.in_ok-follow.ensures.knows

pub returns-clause-applies : goal.returns-clause-applies
returns-clause-applies c =
    let old = c.args.watched.now in
    let tap = c.args.tap in
    let e = event_of c.args.event.now in
    let turn = c.requires.turn in
    let new : Watched = record { bus = c.follow.new.bus; watch = c.follow.new.watch; told = c.note.new.self } in
    let done = c.in_ok-follow.ensures in
    let steps : (reply : Reply) × (step (world_in old) (Turn tap) ≡ Ok (world_in new, reply)) =
    (done.steps.0, ap (step (world_in old)) (sym turn) ∙ done.steps.1) in
    let acts : ActsOnBy old (Happens (Turn tap)) new =
    subst (λ (x : Event). ActsOnBy old (Happens x) new) turn (acts-event old new e done.steps.0 (returns-clause-followed c) c.follow.ensures.event done.steps.1
    (leads-on old new e done.steps.0 done.steps.1 done.knows done.stands)) in
    let read : c.read.new.self.news ≡ executes old.bus.params (slice_get (world_in old).taps tap) =
    c.read.ensures.news ∙ ap (λ ts. executed_by_tap (slice_get ts tap)) c.deref.ensures.value ∙ read-by old.bus.params old.bus.taps.items tap c.requires.followed.kept.seats in
    (comes-one old new (Turn tap) steps.0 steps.1 acts (turn-told (world_in old) old.told c.read.new.self c.note.new.self tap c.read.ensures.trays read c.note.ensures), steps)
