-- An event on each of the stages.
use Rattle.std.proofs.Common.{◌≡◌, ◌∙◌, ap, sym, subst, [], ◌∷◌, length, Result, Ok, Err}
use Rattle.std.specs.Prelude.{IfErr, OnErr, OnOk}
use Rattle.law_model.specs.Behind.{behind, IsPast}
use Rattle.law_model.specs.Laws.{IsEvent}
use Rattle.law_model.specs.World.{World, Event, Reply}
use Rattle.law_model.specs.Step.{step}
use Rattle.law_runs.specs.Premises.{followed}
use Rattle.law_runs.specs.Watching as watching
use Rattle.law_runs.specs.Watching.{StandsFor}
use Rattle.law_runs.proofs.Watching.{many-taps}
use Rattle.law_streams.proofs.PastStays.{past-stays}
use Rattle.pb_taps.specs.Faults.{Refuses}
use Rattle.pb_taps.specs.declared.faults.WorldFault.{WorldFault}
use Rattle.pb_world.specs.Buses.{world_of, Does, IsKept}
use Rattle.pb_world.specs.Premises.{watched_of}
use Rattle.pb_world.specs.Watched.{world_in, LeadsOnBy}
use Rattle.pb_world.specs.declared.buses.Bus.{Bus}
use Rattle.pb_world.specs.declared.watched.Watched.{Watched}
use Rattle.pb_world.proofs.Behind.{steps-behind}
use Rattle.pb_world.proofs.Coming.{run-on}
use Rattle.pb_scenario.proofs.Playing.{refused-by}
use Rattle.pb_stream.specs.Plays.{Plays, StoppedAt}
use Rattle.pb_stream.specs.Stages.{bus_view, watched_view}
use Rattle.pb_stream.proofs.Playing.{one-happened, one-refused, one-world, stops-so}

-- ---- a bus

pub bus-plays : (bus next : Bus) (e : Event) (result : Result (Unit {0}) WorldFault) → Does bus e result next → IsKept next → Plays (bus_view bus) (e ∷ []) result (bus_view next)
bus-plays bus next e (Ok u) does kept now old c from =
    let w = world_of bus in
    let reply : Reply = record { now = next.now; spoke = next.sent } in (
      followed c e (step c.world e),
      record {
        at = record { kept = kept; past = past-stays old w (world_of next) e reply from.at.past does; here = one-world old c w e from.at.past from.at.here (world_of next) reply does; found = tt };
        knows = tt;
      },
      one-happened old c w e from.at.past from.at.here now (world_of next) reply does,
    )
bus-plays bus next e (Err fault) (same, refuses) kept now old c from =
    let w = world_of bus in
    stops-so fault (λ f. step w e ≡ Err f) (λ f. StoppedAt now old c (e ∷ []) f (bus_view next))
    (λ f err. (
      c,
      record { kept = kept; past = subst (IsPast old) (sym same) from.at.past; here = from.at.here ∙ ap (behind old) (sym same); found = tt },
      one-refused old c w e from.at.past from.at.here now f err,
    ))
    (refused-by w e fault refuses)

pub bus-counts : (bus next : Bus) (e : Event) (result : Result (Unit {0}) WorldFault) → Does bus e result next → OnOk result (length (world_of next).taps ≡ length (world_of bus).taps)
bus-counts bus next e (Ok u) does = many-taps (world_of bus) (world_of next) e (record { now = next.now; spoke = next.sent }) does
bus-counts bus next e (Err fault) does = tt

-- ---- a watched bus

pub watched-plays : (w next : Watched) (e : Event) (result : Result (Unit {0}) WorldFault) → IsKept next.bus → IsEvent e → OnOk result (LeadsOnBy w e next)
    → OnOk result ((reply : Reply) × (step (world_in w) e ≡ Ok (world_in next, reply)))
    → IfErr result (λ fault. (world_in next ≡ world_in w) × Refuses (world_in w) e (step (world_in w) e) fault)
    → OnErr result (watched_of next.watch ≡ watched_of w.watch) → Plays (watched_view w) (e ∷ []) result (watched_view next)
watched-plays w next e (Ok u) kept is leads (reply, does) err found now old c from =
    let end = leads old c (record { past = from.at.past; here = from.at.here; knows = from.knows; stands = from.at.found.0 }) in
    let steps = ap (λ (x : World). step x e) from.at.here ∙ steps-behind old (world_in w) (world_in next) e reply from.at.past does in
    let run = run-on c (behind old (world_in next)) e reply is steps from.at.found.1 in (
      followed c e (step c.world e),
      record { at = record { kept = kept; past = end.past; here = end.here; found = (end.stands, run) }; knows = end.knows },
      one-happened old c (world_in w) e from.at.past from.at.here now (world_in next) reply does,
    )
watched-plays w next e (Err fault) kept is leads steps (same, refuses) found now old c from =
    stops-so fault (λ f. step (world_in w) e ≡ Err f) (λ f. StoppedAt now old c (e ∷ []) f (watched_view next))
    (λ f err. (
      c,
      record {
        kept = kept;
        past = subst (IsPast old) (sym same) from.at.past;
        here = from.at.here ∙ ap (behind old) (sym same);
        found = (subst (λ (v : watching.Watched). StandsFor v c) (sym found) from.at.found.0, from.at.found.1);
      },
      one-refused old c (world_in w) e from.at.past from.at.here now f err,
    ))
    (refused-by (world_in w) e fault refuses)

pub watched-counts : (w next : Watched) (e : Event) (result : Result (Unit {0}) WorldFault) → OnOk result ((reply : Reply) × (step (world_in w) e ≡ Ok (world_in next, reply)))
    → OnOk result (length (world_in next).taps ≡ length (world_in w).taps)
watched-counts w next e (Ok u) (reply, does) = many-taps (world_in w) (world_in next) e reply does
watched-counts w next e (Err fault) does = tt
