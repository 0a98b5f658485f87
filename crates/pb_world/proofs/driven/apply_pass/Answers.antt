use Rattle.std.proofs.Common.{◌≡◌, ◌∙◌, refl, sym, Result, Ok, Err, None}
use Rattle.std.specs.Prelude.{IfErr, IsSome, OnOk}
use Rattle.law_model.specs.Laws.{IsEvent}
use Rattle.law_model.specs.Step.{step}
use Rattle.law_model.specs.World.{World, Event, Reply, Fault, Turn, Pass, Damage, Start, Stop, Queue, Noise, Unheard}
use Rattle.pb_taps.specs.Events.{event_of}
use Rattle.pb_taps.specs.Faults.{Refuses}
use Rattle.pb_taps.specs.declared.faults.WorldFault.{WorldFault}
use Rattle.pb_world.specs.Driven.{Applies}
use Rattle.pb_world.specs.Premises.{time_in}
use Rattle.pb_world.specs.Refusals.{fault_of}
use Rattle.pb_world.specs.Watched.{IsFollowed, LeadsOnBy, world_in}
use Rattle.pb_world.specs.declared.watched.Watched.{Watched}
use Rattle.pb_world.specs.Told.{ToldView, tray_at}
use Rattle.pb_world.proofs.Driving.{acts-event, comes-one, followed-so, told-so}
use Rattle.pb_world.proofs.Telling.{IsUntold, tray-none}
use Rattle.pb_world.proofs.driven.apply_pass.Goals as goal

-- a pass that its step allows is not refused: it takes no memory
never : (w : World) (e : Event) (r : Result (World × Reply) Fault) (fault : WorldFault) → IsSome (time_in e) → fault_of r ≡ None → Refuses w e r fault → ⊥
never w (Pass bits) (Ok next) fault some none refuses = let h = refuses.0 in cc
never w (Pass bits) (Err f) fault some none refuses = cc
never w (Turn tap) r fault some none refuses = let h = some in cc
never w (Damage tap speaker place) r fault some none refuses = let h = some in cc
never w (Start tap) r fault some none refuses = let h = some in cc
never w (Stop tap) r fault some none refuses = let h = some in cc
never w (Queue tap request) r fault some none refuses = let h = some in cc
never w (Noise bits) r fault some none refuses = let h = some in cc
never w (Unheard tap speaker) r fault some none refuses = let h = some in cc

applies-pass : (old new : Watched) (e : Event) (r : Result (Unit {0}) WorldFault) → IsSome (time_in e) → fault_of (step (world_in old) e) ≡ None → IsEvent e
    → OnOk r ((reply : Reply) × (step (world_in old) e ≡ Ok (world_in new, reply))) → OnOk r (IsFollowed new) → OnOk r (LeadsOnBy old e new)
    → IfErr r (λ fault. (world_in new ≡ world_in old) × Refuses (world_in old) e (step (world_in old) e) fault) → new.told ≡ old.told → IsUntold (world_in old) old.told e
    → Applies old e r new × IsFollowed new
applies-pass old new e (Ok done) pass none is steps now leads err same untold =
    let told = told-so old new e (Ok done) same untold in
    ((comes-one old new e steps.0 steps.1 (acts-event old new e steps.0 now is steps.1 leads) told.0, steps), now)
applies-pass old new e (Err fault) pass none is steps now leads err same untold = absurd (never (world_in old) e (step (world_in old) e) fault pass none err.1)

-- nothing is executed as time passes
untold-pass : (w : World) (told : ToldView) (e : Event) → IsSome (time_in e) → IsUntold w told e
untold-pass w told (Pass bits) some k = tray-none (tray_at told k)
untold-pass w told (Turn tap) some k = let h = some in cc
untold-pass w told (Damage tap speaker place) some k = let h = some in cc
untold-pass w told (Start tap) some k = let h = some in cc
untold-pass w told (Stop tap) some k = let h = some in cc
untold-pass w told (Queue tap request) some k = let h = some in cc
untold-pass w told (Noise bits) some k = let h = some in cc
untold-pass w told (Unheard tap speaker) some k = let h = some in cc

passed : (c : goal.After-follow) → Applies c.args.watched.now (event_of c.args.event.now) c.follow.result (record { bus = c.follow.new.bus; watch = c.follow.new.watch; told = c.args.watched.now.told })
    × IsFollowed (record { bus = c.follow.new.bus; watch = c.follow.new.watch; told = c.args.watched.now.told })
passed c =
    let old = c.args.watched.now in
    let e = event_of c.args.event.now in
    let r = c.follow.result in
    let new : Watched = record { bus = c.follow.new.bus; watch = c.follow.new.watch; told = old.told } in
    let now = followed-so old new e r c.requires.followed c.follow.ensures.kept c.follow.ensures.steps c.follow.ensures.knows c.follow.ensures.stands in
    applies-pass old new e r c.requires.pass (sym c.refusal.ensures ∙ c.in_default.is) c.follow.ensures.event c.follow.ensures.steps now.0 now.1 c.follow.ensures.err
    refl (untold-pass (world_in old) old.told e c.requires.pass)

pub returns-clause-applies : goal.returns-clause-applies
returns-clause-applies c = (passed c).0

pub returns-clause-followed : goal.returns-clause-followed
returns-clause-followed c = (passed c).1
