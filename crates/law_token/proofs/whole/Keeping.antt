-- What an event that breaks no premise keeps of the token; and that no premise is broken where none is in the end.
use Rattle.std.proofs.Common.{◌≡◌, ℕ, List, [], ◌∷◌, ◌++◌, refl, sym, ap, ◌∙◌, arith, Option, Some, None, Result, Ok, Err}
use Rattle.std.proofs.lemmas.Option.{none-some}
use Rattle.pb_timers.specs.Timers.{Params}
use Rattle.pb_timers.specs.ParamRules.{IsValid}
use Rattle.law_model.specs.World.{World, Event, Reply, Fault}
use Rattle.law_model.specs.Step.{step}
use Rattle.law_model.specs.Laws.{IsEvent}
use Rattle.law_runs.specs.Premises.{Waited, Broken, Course, waited_by, broken_by, broken_or, followed, course_of}
use Rattle.law_token.specs.Places.{LeavesTime}
use Rattle.law_token.specs.Invariant.{Settled, Keeps, BreaksNone}

-- of a settled world
abbrev pub Kept : World → Event → Type 0
Kept w e = (waited : List Waited) (next : World) (reply : Reply) → step w e ≡ Ok (next, reply) → IsEvent e → BreaksNone w waited e next → Settled w → Keeps w waited → Keeps next (waited_by next 0 next.taps ++ waited)

-- valid parameters leave time
pub fits_valid : (p : Params) → IsValid p → LeavesTime p
fits_valid p v = record {
  slot = v.slot_long;
  idle = v.idle;
  idle_order = v.idle_order;
  take = v.take_in_time;
  highest = (let h = v.highest_station in omega (arith, h));
}

-- ---- a premise that is broken stays so

pub follow_stays : (c : Course) (b : Broken) (e : Event) (r : Result (World × Reply) Fault) → c.broken ≡ Some b → (followed c e r).broken ≡ Some b
follow_stays c b e (Ok next) h = ap (λ o. broken_or o next.0.now (broken_by c.world e next.0 (waited_by next.0 0 next.0.taps) (waited_by next.0 0 next.0.taps ++ c.waited))) h
follow_stays c b e (Err fault) h = h

pub stays_broken : (es : List Event) (c : Course) (b : Broken) → c.broken ≡ Some b → (course_of c es).broken ≡ Some b
stays_broken [] c b h = h
stays_broken (e ∷ es) c b h = stays_broken es (followed c e (step c.world e)) b (follow_stays c b e (step c.world e) h)

-- so none is broken on the way where none is in the end
pub unbroken : (w : World) (all : List Waited) (clock : ℕ) (es : List Event) (o : Option ℕ) → (course_of (record { world = w; waited = all; broken = broken_or None clock o }) es).broken ≡ None → o ≡ None
unbroken w all clock es None h = refl
unbroken w all clock es (Some n) h =
    let b : Broken = record { number = n; clock = clock } in
    absurd (none-some b (sym h ∙ stays_broken es (record { world = w; waited = all; broken = Some b }) b refl))
