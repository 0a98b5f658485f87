-- The silence bound is reached, also on a bus with a delay: a run that meets all its premises and is silent for as long as it allows.
use Rattle.std.proofs.Common.{◌≡◌, Bool, true, false, not, ◌&&◌, List, [], ◌∷◌, refl, sym, ap, subst, arith, Result, Ok, Err}
use Rattle.std.specs.Prelude.{map}
use Rattle.std.proofs.lemmas.Bool.{and_parts}
use Rattle.law_model.specs.World.{trace_limit, World, Event, Reply, Fault, stopped_tap}
use Rattle.law_model.specs.Step.{step, world_after, replay, RunsTo}
use Rattle.law_model.specs.Scenarios.{two_masters}
use Rattle.law_runs.specs.Premises.{loses, comes_late}
use Rattle.law_runs.specs.Headline.{NoneLosesOrComesLate}
use Rattle.law_token.specs.Promises.{IsReached}
use Rattle.law_token.specs.Examples.{long_bus, long_silence}

-- ---- lists of events that are judged by computation

abbrev is_ok : Result (World × Reply) Fault → Bool
is_ok (Ok next) = true
is_ok (Err fault) = false

abbrev pub all_accepted : World → List Event → Bool
all_accepted w [] = true
all_accepted w (e ∷ es) = is_ok (step w e) && all_accepted (world_after w (step w e)) es

abbrev pub all_in_time : World → List Event → Bool
all_in_time w [] = true
all_in_time w (e ∷ es) = (not (loses e) && not (comes_late w e)) && all_in_time (world_after w (step w e)) es

not_true : (b : Bool) → not b ≡ true → b ≡ true → ⊥
not_true true e f = cc
not_true false e f = cc

record Accepted (w : World) (e : Event) : Type 0 where
  next : World
  reply : Reply
  is : step w e ≡ Ok (next, reply)

accepted : (w : World) (e : Event) (r : Result (World × Reply) Fault) → step w e ≡ r → is_ok r ≡ true → Accepted w e
accepted w e (Ok next) same ok = record { next = next.0; reply = next.1; is = same }
accepted w e (Err fault) same ok = absurd cc

pub runs_to : (w : World) (es : List Event) → all_accepted w es ≡ true → RunsTo w es (replay w es)
runs_to w [] h = refl
runs_to w (e ∷ es) h =
    let b = and_parts (is_ok (step w e)) (all_accepted (world_after w (step w e)) es) h in
    let a = accepted w e (step w e) refl b.0 in
    let same : world_after w (step w e) ≡ a.next = ap (world_after w) a.is in
    (a.next, a.reply, a.is, subst (λ z. RunsTo a.next es (replay z es)) (sym same) (runs_to a.next es (subst (λ z. all_accepted z es ≡ true) same b.1)))

pub none_late : (w : World) (es : List Event) → all_in_time w es ≡ true → NoneLosesOrComesLate w es
none_late w [] h = tt
none_late w (e ∷ es) h =
    let b = and_parts (not (loses e) && not (comes_late w e)) (all_in_time (world_after w (step w e)) es) h in
    let c = and_parts (not (loses e)) (not (comes_late w e)) b.0 in
    (not_true (loses e) c.0, not_true (comes_late w e) c.1, λ next reply ok. none_late next es (subst (λ r. all_in_time (world_after w r) es ≡ true) ok b.1))

-- ---- the run

abbrev first_world : World
first_world = record { params = long_bus; now = 0; trace = []; taps = map (stopped_tap long_bus) two_masters; limit = trace_limit }

abbrev last_world : World
last_world = replay first_world long_silence

pub bound_is_reached : IsReached long_bus two_masters long_silence 1 833 1843
bound_is_reached = record {
  new = first_world;
  w = last_world;
  t = _;
  fits = record { slot = omega arith; idle = omega arith; idle_order = omega arith; take = omega arith; highest = omega arith };
  run = record {
    fit = (omega arith, (omega arith, tt));
    are = (tt, (tt, (tt, (tt, (tt, (tt, (tt, (tt, (tt, (tt, tt))))))))));
    made = (trace_limit, refl);
    runs = runs_to first_world long_silence refl;
  };
  none = none_late first_world long_silence refl;
  here = record { here = refl; running = refl; master = refl; on = λ h. cc };
  since = omega arith;
  within = omega arith;
  silent = refl;
  reached = refl;
}
