use Rattle.std.proofs.Common.{refl}
use Rattle.pb_taps.specs.Events.{event_of}
use Rattle.pb_world.specs.Watched.{world_in}
use Rattle.pb_world.specs.declared.watched.Watched.{Watched}
use Rattle.pb_world.proofs.Driving.{applies-so, followed-so, no-time, told-so}
use Rattle.pb_world.proofs.Telling.{untold}
use Rattle.pb_world.proofs.driven.apply.Goals as goal

pub returns-in_default : goal.returns-in_default
returns-in_default c =
    let old = c.args.watched.now in
    let e = event_of c.args.event.now in
    let r = c.follow.result in
    let new : Watched = record { bus = c.follow.new.bus; watch = c.follow.new.watch; told = old.told } in
    let kept = told-so old new e r refl (untold (world_in old) old.told c.args.event.now (λ tap is. absurd (c.in_default.not-Turn tap is))) in
    let now = followed-so old new e r c.requires c.follow.ensures.kept c.follow.ensures.steps c.follow.ensures.knows c.follow.ensures.stands in
    let both = applies-so old new e r (no-time c.args.event.now c.in_default.not-Pass) c.requires c.follow.ensures.kept
    c.follow.ensures.event c.follow.ensures.steps now.0 now.1 c.follow.ensures.err c.follow.ensures.stays kept.0 kept.1 in
    record { applies = both.0; followed = both.1 }
