-- A watched bus comes on by events.
use Rattle.std.proofs.Common.{◌≡◌, ◌∙◌, ap, sym, subst, refl, List, [], ◌∷◌, ◌++◌, None, Result, Ok}
use Rattle.law_model.specs.Behind.{behind, IsPast}
use Rattle.law_model.specs.Trace.{Entry}
use Rattle.law_model.specs.World.{World, Event, Reply, Fault}
use Rattle.law_model.specs.Step.{step}
use Rattle.law_model.specs.Laws.{IsEvent}
use Rattle.law_runs.specs.Premises.{Course, followed}
use Rattle.law_runs.specs.Watching.{StandsFor}
use Rattle.law_runs.proofs.Watching.{stands-new}
use Rattle.law_live.specs.Promises.{LeadTo}
use Rattle.law_live.proofs.Promising.{kept_promises, run_leads_on}
use Rattle.law_streams.specs.Audits.{illegal_in}
use Rattle.law_streams.proofs.PastStays.{past-stays}
use Rattle.pb_world.specs.Buses.{world_with, IsKept}
use Rattle.pb_world.specs.Premises.{watched_of, course_at, GoesOn, Knows}
use Rattle.pb_world.specs.Watched.{GoesOnBy, HasCome, IsFollowed, IsOfRun, IsWatched, LeadsOnBy, world_in}
use Rattle.pb_world.specs.declared.watched.Watched.{Watched}
use Rattle.pb_world.proofs.Behind.{plain-known, steps-behind}
use Rattle.pb_world.proofs.Premising.{course-more, world-followed}

-- one of whose past nothing was let go
pub watched-followed : (w : Watched) → IsWatched w → IsFollowed w
watched-followed w watched = record { kept = watched.kept; knows = plain-known w.watch w.bus watched.knows }

-- an event leads on behind what was let go
pub leads-on : (w next : Watched) (e : Event) (reply : Reply) → step (world_in w) e ≡ Ok (world_in next, reply)
    → ((old : List Entry) → IsPast old (world_in w) → Knows w.watch (world_with old w.bus) → Knows next.watch (world_with old next.bus))
    → ((old : List Entry) → IsPast old (world_in w) → Knows w.watch (world_with old w.bus) → GoesOn w.watch (world_with old w.bus) e next.watch) → LeadsOnBy w e next
leads-on w next e reply goes knows stands old course at = record {
  past = past-stays old (world_in w) (world_in next) e reply at.past goes;
  here = world-followed course (behind old (world_in w)) (behind old (world_in next)) e reply at.here (steps-behind old (world_in w) (world_in next) e reply at.past goes);
  knows = knows old at.past at.knows;
  stands = stands old at.past at.knows course at.here at.stands;
}

-- and the bus is still one whose past may have been let go
pub still-followed : (w next : Watched) (e : Event) (reply : Reply) → IsFollowed w → IsKept next.bus → step (world_in w) e ≡ Ok (world_in next, reply)
    → ((old : List Entry) → IsPast old (world_in w) → Knows w.watch (world_with old w.bus) → Knows next.watch (world_with old next.bus)) → IsFollowed next
still-followed w next e reply followed kept goes knows =
    let (old, past, known) = followed.knows in
    record { kept = kept; knows = (old, past-stays old (world_in w) (world_in next) e reply past goes, knows old past known) }

-- to a new one nothing has happened
pub comes-new : (w : Watched) → IsWatched w → LeadTo (world_in w) [] (world_in w) → watched_of w.watch ≡ record { waited = None; broken = None } → HasCome w (world_in w) []
comes-new w watched lead none = record {
  watched = watched;
  lead = lead;
  here = refl;
  stands = subst (λ v. StandsFor v (course_at (world_in w) [])) (sym none) (stands-new (world_in w));
}

-- one event more
pub comes-by : (w next : Watched) (e : Event) (reply : Reply) → IsWatched next → IsEvent e → step (world_in w) e ≡ Ok (world_in next, reply) → GoesOn w.watch (world_in w) e next.watch → GoesOnBy w e next
comes-by w next e reply watched is goes stands start events came =
    let course = course_at start events in
    let more : course_at start (events ++ e ∷ []) ≡ _ = course-more (course_at start []) events e in
    record {
      watched = watched;
      lead = (run_leads_on (world_in w) (world_in next) (e ∷ []) (is, tt) (world_in next, reply, goes, refl) start events came.lead).0;
      here = ap (λ (x : Course). x.world) more ∙ world-followed course (world_in w) (world_in next) e reply came.here goes;
      stands = subst (StandsFor (watched_of next.watch)) (sym more) (stands course came.here came.stands);
    }

-- ---- a course of events

-- valid events lead on from it
pub run-on : (c : Course) (next : World) (e : Event) (reply : Reply) → IsEvent e → step c.world e ≡ Ok (next, reply) → IsOfRun c → IsOfRun (followed c e (step c.world e))
run-on c next e reply is goes (start, events, lead, came) =
    let world : (followed c e (step c.world e)).world ≡ next = ap (λ (o : Result (World × Reply) Fault). (followed c e o).world) goes in (
      start,
      events ++ e ∷ [],
      subst (LeadTo start (events ++ e ∷ [])) (sym world) (run_leads_on c.world next (e ∷ []) (is, tt) (next, reply, goes, refl) start events lead).0,
      ap (λ (x : Course). followed x e (step x.world e)) came ∙ sym (course-more (course_at start []) events e),
    )

-- if they break no premise, no record is illegal
pub run-legal : (c : Course) → IsOfRun c → c.broken ≡ None → illegal_in c.world ≡ None
run-legal c (start, events, lead, came) none = ((kept_promises start c.world events lead).token (ap (λ (x : Course). x.broken) (sym came) ∙ none)).legal
