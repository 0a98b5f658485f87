-- A refused event leaves a watched bus as it was; and whatever is done at a bus with a judge, actions have led to it.
use Rattle.std.proofs.Common.{◌≡◌, ◌∙◌, ℕ, List, [], ◌∷◌, ◌++◌, map, None, ap, Result, Ok, Err, refl, sym, subst}
use Rattle.std.specs.Prelude.{IfErr, OnErr, OnOk}
use Rattle.pb_timers.specs.Timers.{Params}
use Rattle.pb_timers.specs.ParamRules.{IsValid}
use Rattle.law_model.specs.Behind.{behind, IsPast}
use Rattle.law_model.specs.Medium.{TapSpec}
use Rattle.law_model.specs.Trace.{Entry}
use Rattle.law_model.specs.World.{World, Event, Reply, new_world_within}
use Rattle.law_model.specs.Step.{step}
use Rattle.law_turn.specs.Laws.{Fits}
use Rattle.law_model.specs.Laws.{AllFit, IsEvent}
use Rattle.law_runs.specs.Headline.{specs_of}
use Rattle.law_runs.specs.Watching.{StandsFor}
use Rattle.law_streams.specs.Audits.{no_events}
use Rattle.law_token.specs.Actions.{Action, Happens, Sets}
use Rattle.law_live.specs.Actions.{ActedTo}
use Rattle.law_live.proofs.Acting.{new_acts}
use Rattle.pb_medium.specs.LettingGo.{past_of}
use Rattle.pb_taps.specs.Events.{event_of}
use Rattle.pb_taps.specs.Faults.{Refuses}
use Rattle.pb_taps.specs.declared.events.Event as taps
use Rattle.pb_taps.specs.declared.events.Event.TheVariants as event
use Rattle.pb_taps.specs.declared.faults.WorldFault.{WorldFault}
use Rattle.pb_world.specs.Buses.{IsKept, world_with}
use Rattle.pb_world.specs.Acted.{ActsOnBy, course_from, HasActed, IsDrivenBy, IsOfActions}
use Rattle.pb_world.specs.Data.{SetsData}
use Rattle.pb_world.specs.Driven.{Applies, ComesOn, KeepsSame, LetsGo, SetsReply, Stays, StaysBut}
use Rattle.pb_world.specs.Judges.{HasHeard}
use Rattle.pb_world.specs.RunTo.{HasRun, HasStopped}
use Rattle.pb_world.specs.Told.{executed_by, tray_at, tray_with}
use Rattle.pb_world.specs.Premises.{GoesOn, Knows, time_in, watched_of}
use Rattle.pb_world.specs.Watched.{IsAtEnd, IsFollowed, LeadsOnBy, world_in}
use Rattle.pb_world.specs.declared.driven.Driven.{Driven}
use Rattle.pb_world.specs.declared.judge.Judge.{Judge}
use Rattle.pb_world.specs.declared.premises.Watch.{Watch}
use Rattle.pb_world.specs.declared.watched.Watched.{Watched}
use Rattle.pb_world.proofs.Acting.{acts-by, acts-new, at-end-set, knows-set, sets-behind, sets-past}
use Rattle.pb_world.proofs.Coming.{leads-on, still-followed}
use Rattle.pb_world.proofs.Lasting.{params-within, specs-within}
use Rattle.pb_world.proofs.Telling.{IsUntold, one-told}

-- no time passes in another event than a pass
pub no-time : (e : taps.Event) → ((bits : ℕ) → e ≡ event.Pass bits → ⊥) → time_in (event_of e) ≡ None
no-time (event.Turn tap) none = refl
no-time (event.Pass bits) none = absurd (none bits refl)
no-time (event.Damage tap speaker place) none = refl
no-time (event.Start tap) none = refl
no-time (event.Stop tap) none = refl
no-time (event.Noise bits) none = refl
no-time (event.Queue tap request) none = refl
no-time (event.Unheard tap speaker) none = refl

-- the same world, watched in the same way
pub same-watch : (old new : Watched) → world_in new ≡ world_in old → new.watch ≡ old.watch → IsKept new.bus → IsFollowed old → IsFollowed new × StaysBut old new
same-watch old new world watch kept followed =
    let (gone, past, known) = followed.knows in
    let knows : (gone : List Entry) → Knows old.watch (behind gone (world_in old)) → Knows new.watch (behind gone (world_in new)) =
    λ gone k. subst (λ (v : Watch). Knows v (behind gone (world_in new))) (sym watch) (subst (λ (w : World). Knows old.watch (behind gone w)) (sym world) k) in
    let now : IsFollowed new = record { kept = kept; knows = (gone, subst (IsPast gone) (sym world) past, knows gone known) } in (
      now,
      record {
        world = world;
        came = λ gone start actions came. record {
          followed = now;
          lead = subst (λ (w : World). ActedTo start actions (behind gone w)) (sym world) came.lead;
          at = record {
            past = subst (IsPast gone) (sym world) came.at.past;
            here = came.at.here ∙ ap (behind gone) (sym world);
            knows = knows gone came.at.knows;
            stands = subst (λ (v : Watch). StandsFor (watched_of v) (course_from start actions)) (sym watch) came.at.stands;
          };
        };
      },
    )

-- and nothing more is kept
pub same-told : (old new : Watched) → StaysBut old new → KeepsSame old new → Stays old new
same-told old new stays same = record { rest = stays; told = same }

-- an event leads on from the actions that led to a bus
pub acts-event : (old new : Watched) (e : Event) (reply : Reply) → IsFollowed new → IsEvent e → step (world_in old) e ≡ Ok (world_in new, reply) → LeadsOnBy old e new → ActsOnBy old (Happens e) new
acts-event old new e reply followed is goes leads = acts-by old new (Happens e) followed is (reply, goes) leads

-- an event leads on, and what is executed in it is kept
pub comes-one : (old new : Watched) (e : Event) (reply : Reply) → step (world_in old) e ≡ Ok (world_in new, reply) → ActsOnBy old (Happens e) new
    → ((k : ℕ) → tray_at new.told k ≡ tray_with (executed_by (world_in old) (e ∷ []) k) (tray_at old.told k)) → ComesOn old (e ∷ []) new
comes-one old new e reply ok acts told = record { acts = acts; runs = (world_in new, reply, ok, refl); told = told }

-- what follows an event in which no time passes
pub applies-so : (old new : Watched) (e : Event) (r : Result (Unit {0}) WorldFault) → time_in e ≡ None → IsFollowed old → IsKept new.bus → IsEvent e
    → OnOk r ((reply : Reply) × (step (world_in old) e ≡ Ok (world_in new, reply))) → OnOk r (IsFollowed new) → OnOk r (LeadsOnBy old e new)
    → IfErr r (λ fault. (world_in new ≡ world_in old) × Refuses (world_in old) e (step (world_in old) e) fault) → OnErr r (time_in e ≡ None → new.watch ≡ old.watch)
    → OnOk r ((k : ℕ) → tray_at new.told k ≡ tray_with (executed_by (world_in old) (e ∷ []) k) (tray_at old.told k))
    → OnErr r (KeepsSame old new)
    → Applies old e r new × IsFollowed new
applies-so old new e (Ok done) none followed kept is steps now leads err stays told same =
    ((comes-one old new e steps.0 steps.1 (acts-event old new e steps.0 now is steps.1 leads) told, steps), now)
applies-so old new e (Err fault) none followed kept is steps now leads err stays told same =
    let as_was = same-watch old new err.0 (stays none) kept followed in
    ((same-told old new as_was.1 same, err.1), as_was.0)

-- what a bus that follows an event is then
pub followed-so : (old new : Watched) (e : Event) (r : Result (Unit {0}) WorldFault) → IsFollowed old → IsKept new.bus
    → OnOk r ((reply : Reply) × (step (world_in old) e ≡ Ok (world_in new, reply)))
    → OnOk r ((gone : List Entry) → IsPast gone (world_in old) → Knows old.watch (world_with gone old.bus) → Knows new.watch (world_with gone new.bus))
    → OnOk r ((gone : List Entry) → IsPast gone (world_in old) → Knows old.watch (world_with gone old.bus) → GoesOn old.watch (world_with gone old.bus) e new.watch)
    → OnOk r (IsFollowed new) × OnOk r (LeadsOnBy old e new)
followed-so old new e (Ok done) followed kept steps knows stands = (still-followed old new e steps.0 followed kept steps.1 knows, leads-on old new e steps.0 steps.1 knows stands)
followed-so old new e (Err fault) followed kept steps knows stands = (tt, tt)

-- an event in which nothing is executed that is asked for
pub told-so : (old new : Watched) (e : Event) (r : Result (Unit {0}) WorldFault) → new.told ≡ old.told → IsUntold (world_in old) old.told e
    → OnOk r ((k : ℕ) → tray_at new.told k ≡ tray_with (executed_by (world_in old) (e ∷ []) k) (tray_at old.told k)) × OnErr r (KeepsSame old new)
told-so old new e (Ok done) same none = (λ k. ap (λ t. tray_at t k) same ∙ one-told (world_in old) old.told e none k, tt)
told-so old new e (Err fault) same none = (tt, λ k. ap (λ t. tray_at t k) same)

-- what follows other data of a tap
pub sets-so : (old new : Watched) (tap : ℕ) (unit : List ℕ) (r : Result (Unit {0}) WorldFault) → IsFollowed old → IsKept new.bus → new.watch ≡ old.watch → new.told ≡ old.told → Fits unit → SetsData (world_in old) tap unit r (world_in new)
    → SetsReply old tap unit r new × IsFollowed new
sets-so old new tap unit (Ok done) followed kept watch told fits sets =
    let (gone, past, known) = followed.knows in
    let before = behind gone (world_in old) in
    let after = behind gone (world_in new) in
    let knows : Knows new.watch after =
    subst (λ (v : Watch). Knows v after) (sym watch) (knows-set old.watch before after tap unit (sets-behind gone (world_in old) (world_in new) tap unit sets) known) in
    let now : IsFollowed new = record { kept = kept; knows = (gone, sets-past gone (world_in old) (world_in new) tap unit sets past, knows) } in (
      record {
        sets = sets;
        acts = acts-by old new (Sets tap unit) now fits sets (at-end-set old new tap unit watch sets);
        stays = tt;
        told = λ k. ap (λ t. tray_at t k) told;
      },
      now,
    )
sets-so old new tap unit (Err fault) followed kept watch told fits sets =
    let same = same-watch old new sets.0 watch kept followed in
    let kept_same : KeepsSame old new = λ k. ap (λ t. tray_at t k) told in
    (record { sets = sets; acts = tt; stays = same-told old new same.1 kept_same; told = kept_same }, same.0)

-- ---- a bus with a judge

-- a new one
pub new-by : (limit : ℕ) (p : Params) (specs : List TapSpec) (w : Watched) (judge : Judge) → IsValid p → AllFit specs → new_world_within limit p specs ≡ Ok (world_in w)
    → IsFollowed w → IsAtEnd w [] (no_events (world_in w)) → HasHeard p specs [] judge → IsDrivenBy (record { watched = w; judge = judge }) [] (world_in w) []
new-by limit p specs w judge valid fit new followed at heard = record {
  acted = acts-new w followed (new_acts p specs (world_in w) valid fit (limit, new)).0 at;
  heard = subst (λ q. HasHeard q (specs_of (world_in w)) [] judge) (sym (params-within limit p specs (world_in w) new))
      (subst (λ ts. HasHeard p ts [] judge) (sym (specs-within limit p specs (world_in w) new)) heard);
}

-- actions still lead to it: as many more
acts-of : (old new : Watched) (judge : Judge) (more : List Action)
    → ((gone : List Entry) (start : World) (actions : List Action) → HasActed old gone start actions → HasActed new gone start (actions ++ more))
    → IsOfActions (record { watched = old; judge = judge }) → IsOfActions (record { watched = new; judge = judge })
acts-of old new judge more acts (gone, start, actions, by) = (gone, start, actions ++ more, record { acted = acts gone start actions by.acted; heard = by.heard })

-- or none
pub stays-of : (old new : Watched) (judge : Judge) → StaysBut old new → IsOfActions (record { watched = old; judge = judge }) → IsOfActions (record { watched = new; judge = judge })
stays-of old new judge stays (gone, start, actions, by) = (gone, start, actions, record { acted = stays.came gone start actions by.acted; heard = by.heard })

pub applied-of : (old new : Watched) (judge : Judge) (e : Event) (r : Result (Unit {0}) WorldFault) → Applies old e r new
    → IsOfActions (record { watched = old; judge = judge }) → IsOfActions (record { watched = new; judge = judge })
applied-of old new judge e (Ok done) (comes, steps) of = acts-of old new judge (map Happens (e ∷ [])) comes.acts of
applied-of old new judge e (Err fault) (stays, why) of = stays-of old new judge stays.rest of

pub ran-of : (old new : Watched) (judge : Judge) (until : ℕ) (r : Result (Unit {0}) WorldFault) → OnOk r (HasRun until old new) → IfErr r (λ fault. HasStopped until fault old new)
    → IsOfActions (record { watched = old; judge = judge }) → IsOfActions (record { watched = new; judge = judge })
ran-of old new judge until (Ok done) ran stopped of = acts-of old new judge (map Happens ran.events) ran.comes.acts of
ran-of old new judge until (Err fault) ran stopped of = acts-of old new judge (map Happens stopped.events) stopped.comes.acts of

pub set-of : (old new : Watched) (judge : Judge) (tap : ℕ) (unit : List ℕ) (r : Result (Unit {0}) WorldFault) → SetsReply old tap unit r new
    → IsOfActions (record { watched = old; judge = judge }) → IsOfActions (record { watched = new; judge = judge })
set-of old new judge tap unit (Ok done) sets of = acts-of old new judge (Sets tap unit ∷ []) sets.acts of
set-of old new judge tap unit (Err fault) sets of = stays-of old new judge sets.stays.rest of

pub let-go-of : {X F : Type 0} (old new : Driven) (r : Result X F) → OnOk r (LetsGo old new) → OnErr r (new ≡ old) → IsOfActions old → IsOfActions new
let-go-of {X} {F} old new (Ok x) goes same (gone, start, actions, by) = (gone ++ past_of old.watched.bus.trace, start, actions, goes.acts gone start actions by)
let-go-of {X} {F} old new (Err f) goes same of = subst IsOfActions (sym same) of
