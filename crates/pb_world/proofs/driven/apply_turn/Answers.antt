use Rattle.std.proofs.Common.{◌≡◌, ◌∙◌, ap, refl, subst, sym, false, None}
use Rattle.std.specs.Prelude.{is_some}
use Rattle.pb_taps.specs.Events.{event_of}
use Rattle.pb_world.specs.Driven.{Applies}
use Rattle.pb_world.specs.Premises.{time_in}
use Rattle.pb_world.specs.Told.{tray_at}
use Rattle.pb_world.specs.Watched.{IsFollowed, world_in}
use Rattle.pb_world.specs.declared.watched.Watched.{Watched}
use Rattle.pb_world.proofs.Driving.{applies-so, followed-so, told-so}
use Rattle.pb_world.proofs.Telling.{IsUntold, turn-untold}
use Rattle.pb_world.proofs.driven.apply_turn.Goals as goal

-- the turn is applied, and nothing more is kept
applied : (c : goal.After-follow) → Applies c.args.watched.now (event_of c.args.event.now) c.follow.result (record { bus = c.follow.new.bus; watch = c.follow.new.watch; told = c.args.watched.now.told })
    × IsFollowed (record { bus = c.follow.new.bus; watch = c.follow.new.watch; told = c.args.watched.now.told })
applied c =
    let old = c.args.watched.now in
    let tap = c.args.tap in
    let e = event_of c.args.event.now in
    let r = c.follow.result in
    let new : Watched = record { bus = c.follow.new.bus; watch = c.follow.new.watch; told = old.told } in
    let none : is_some (tray_at old.told tap) ≡ false = sym c.keeps.ensures ∙ c.if-keeps.false in
    let unasked : IsUntold (world_in old) old.told e = subst (IsUntold (world_in old) old.told) (sym c.requires.turn) (turn-untold (world_in old) old.told tap none) in
    let no_time : time_in e ≡ None = ap time_in c.requires.turn in
    let kept = told-so old new e r refl unasked in
    let now = followed-so old new e r c.requires.followed c.follow.ensures.kept c.follow.ensures.steps c.follow.ensures.knows c.follow.ensures.stands in
    applies-so old new e r no_time c.requires.followed c.follow.ensures.kept
    c.follow.ensures.event c.follow.ensures.steps now.0 now.1 c.follow.ensures.err c.follow.ensures.stays kept.0 kept.1

pub returns-clause-applies : goal.returns-clause-applies
returns-clause-applies c = subst (λ x. Applies c.args.watched.now x c.follow.result (record { bus = c.follow.new.bus; watch = c.follow.new.watch; told = c.args.watched.now.told })) c.requires.turn (applied c).0

pub returns-clause-followed : goal.returns-clause-followed
returns-clause-followed c = (applied c).1
