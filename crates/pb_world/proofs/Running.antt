-- A run goes on by one event.
use Rattle.std.proofs.Common.{◌≡◌, sym, subst, refl, ℕ, ◌++◌, List, [], ◌∷◌, Ok}
use Rattle.std.specs.Prelude.{Option, Result, Err}
use Rattle.pb_world.specs.Worlds.{Sends, Goes}
use Rattle.pb_taps.specs.declared.faults.WorldFault.{WorldFault}
use Rattle.law_model.specs.World.{World, Event, Reply}
use Rattle.law_model.specs.Step.{step, RunsTo}

pub runs-on : (w between next : World) (events : List Event) (e : Event) (reply : Reply) → RunsTo w events between → step between e ≡ Ok (next, reply)
    → RunsTo w (events ++ e ∷ []) next
runs-on w between next [] e reply here goes = (next, reply, subst (λ x. step x e ≡ Ok (next, reply)) (sym here) goes, refl)
runs-on w between next (x ∷ events) e reply (after, answer, went, rest) goes = (after, answer, went, runs-on after between next events e reply rest goes)

-- an event that is done is done, whatever it has sent
pub goes : (w : World) (event : Event) (result : Result (Unit {0}) WorldFault) (sent : Option (List ℕ)) (next : World) → Sends w event result sent next → Goes w event result next
goes w event (Ok done) sent next steps = (record { now = next.now; spoke = sent }, steps)
goes w event (Err fault) sent next stays = stays
