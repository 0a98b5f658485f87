-- Worked captures, and whom they name: each part computes.
use Rattle.std.proofs.Common.{◌≡◌, ℕ, ◌≤◌, ◌==◌, inl, inr, Bool, true, false, if◌then◌else◌, not, ◌||◌, List, [], ◌∷◌, map, refl, sym, ap, ◌∙◌, subst, arith}
use Rattle.std.specs.Prelude.{nat_le, take}
use Rattle.std.specs.List.{list_all}
use Rattle.std.proofs.lemmas.Bool.{and_parts, eq-eqb, leb-true}
use Rattle.pb_timers.specs.Timers.{Params}
use Rattle.law_model.specs.Trace as trace
use Rattle.law_model.specs.Trace.{Entry, Sent}
use Rattle.law_model.specs.Medium.{Tap, reaches_taps}
use Rattle.law_model.specs.World.{trace_limit, World, Event, Turn, Pass, Damage, Start, Stop, Queue, Noise, Unheard, stopped_tap}
use Rattle.law_model.specs.Scenarios.{example_bus}
use Rattle.law_model.specs.Step.{replay}
use Rattle.law_model.specs.Laws.{IsEvent, AreEvents}
use Rattle.law_runs.specs.JudgedScenarios.{bus_with_delay}
use Rattle.law_runs.specs.Traces.{token, question, answer}
use Rattle.law_token.specs.Places.{LeavesTime}
use Rattle.law_token.proofs.quiet.Reached.{runs_to}
use Rattle.pb_monitor.specs.declared.holders.Holder.TheVariants.{One, OfferedTo}
use Rattle.pb_monitor.specs.Examples.{at, disturbed}
use Rattle.pb_monitor.specs.Captures.{Burst, All, IsClear, AllClear}
use Rattle.law_monitor.specs.Captures.{HearsSince}
use Rattle.law_monitor.specs.Taps.{IsOfOthers, HearsARun, bursts_heard}
use Rattle.law_monitor.proofs.hearing.NoneRaised.{taps_raise_none}
use Rattle.law_monitor.specs.Anywhere.{as_heard}
use Rattle.law_monitor.proofs.anywhere.OneByOne.{heard_as_said}
use Rattle.law_monitor.specs.Examples.{IsCaptured, IsHeardThere, IsNamed, beside_second, with_passive, heard_with_delay, heard_amid, damaged_at}

-- ---- lists that are judged by computation

abbrev asks_none : Event → Bool
asks_none (Turn tap) = true
asks_none (Pass bits) = true
asks_none (Damage tap speaker place) = true
asks_none (Start tap) = true
asks_none (Stop tap) = true
asks_none (Queue tap request) = false
asks_none (Noise bits) = true
asks_none (Unheard tap speaker) = true

none_asks : (e : Event) → asks_none e ≡ true → IsEvent e
none_asks (Turn tap) h = tt
none_asks (Pass bits) h = tt
none_asks (Damage tap speaker place) h = tt
none_asks (Start tap) h = tt
none_asks (Stop tap) h = tt
none_asks (Queue tap request) h = absurd (let w : false ≡ true = h in cc)
none_asks (Noise bits) h = tt
none_asks (Unheard tap speaker) h = tt

are_events : (es : List Event) → list_all asks_none es ≡ true → AreEvents es
are_events [] h = tt
are_events (e ∷ es) h = let b = and_parts (asks_none e) (list_all asks_none es) h in (none_asks e b.0, are_events es b.1)

abbrev is_of_others : ℕ → Entry → Bool
is_of_others tap (trace.Noise span) = true
is_of_others tap (Sent r) = not (r.tap == tap)

of_others : (delay tap since : ℕ) (e : Entry) → is_of_others tap e ≡ true → IsOfOthers delay tap since e
of_others delay tap since (trace.Noise span) h = tt
of_others delay tap since (Sent r) h = λ own. absurd (let w : false ≡ true = sym (ap not (eq-eqb r.tap tap own)) ∙ h in cc)

all_of_others : (delay tap since : ℕ) (es : List Entry) → list_all (is_of_others tap) es ≡ true → All (IsOfOthers delay tap since) es
all_of_others delay tap since [] h = tt
all_of_others delay tap since (e ∷ es) h =
    let b = and_parts (is_of_others tap e) (list_all (is_of_others tap) es) h in (of_others delay tap since e b.0, all_of_others delay tap since es b.1)

-- ---- the runs

abbrev new_on : Params → World
new_on p = record { params = p; now = 0; trace = []; taps = map (stopped_tap p) with_passive; limit = trace_limit }

pub captured_with_delay : IsCaptured bus_with_delay with_passive heard_with_delay 2 0
    (at 815 (token 1 1) ∷ at 885 (token 1 1) ∷ at 955 (question 2 1) ∷ at 1047 (answer 1 2) ∷ at 1165 (token 2 1) ∷ at 1250 (question 3 2) ∷ at 1416 (token 1 2) ∷ [])
captured_with_delay = record {
  new = new_on bus_with_delay;
  w = replay (new_on bus_with_delay) heard_with_delay;
  t = _;
  hears = record {
    time = record { slot = omega arith; idle = omega arith; idle_order = omega arith; take = omega arith; highest = omega arith };
    run = record { fit = (omega arith, (omega arith, (omega arith, tt))); are = are_events heard_with_delay refl; made = (trace_limit, refl); runs = runs_to (new_on bus_with_delay) heard_with_delay refl };
    keeps = refl;
    here = refl;
    running = refl;
    others = all_of_others 15 2 0 (replay (new_on bus_with_delay) heard_with_delay).trace refl;
  };
  begins = refl;
  captured = refl;
  raises_none = refl;
}

pub captured_amid : IsCaptured example_bus with_passive heard_amid 2 1130
    (disturbed 1130 1153 ∷ damaged_at 1190 (question 3 2) ∷ at 1356 (token 1 2) ∷ disturbed 1389 1409 ∷ [])
captured_amid = record {
  new = new_on example_bus;
  w = replay (new_on example_bus) heard_amid;
  t = _;
  hears = record {
    time = record { slot = omega arith; idle = omega arith; idle_order = omega arith; take = omega arith; highest = omega arith };
    run = record { fit = (omega arith, (omega arith, (omega arith, tt))); are = are_events heard_amid refl; made = (trace_limit, refl); runs = runs_to (new_on example_bus) heard_amid refl };
    keeps = refl;
    here = refl;
    running = refl;
    others = all_of_others 0 2 1130 (replay (new_on example_bus) heard_amid).trace refl;
  };
  begins = refl;
  captured = refl;
  raises_none = refl;
}

-- every delay is the cable delay at most
beside_near : (tap : ℕ) → beside_second tap ≤ 15
beside_near tap = by (tap == 1)
  where
    by : (b : Bool) → (if b then 0 else 15) ≤ 15
    by true = omega arith
    by false = omega arith

pub heard_beside : IsHeardThere bus_with_delay with_passive heard_with_delay beside_second 0
    (at 815 (token 1 1) ∷ at 885 (token 1 1) ∷ at 955 (question 2 1) ∷ at 1032 (answer 1 2) ∷ at 1165 (token 2 1) ∷ at 1235 (question 3 2) ∷ at 1401 (token 1 2) ∷ [])
heard_beside = record {
  new = new_on bus_with_delay;
  w = replay (new_on bus_with_delay) heard_with_delay;
  hears = record {
    valid = record {
      slot_long = omega arith;
      slot_short = omega arith;
      idle = omega arith;
      idle_order = omega arith;
      reply = omega arith;
      rotation_long = omega arith;
      rotation_short = omega arith;
      gap_some = omega arith;
      gap_bound = omega arith;
      highest_some = omega arith;
      highest_station = omega arith;
      retries_bound = omega arith;
      take_in_time = omega arith;
      reply_in_time = omega arith;
    };
    run = record { fit = (omega arith, (omega arith, (omega arith, tt))); are = are_events heard_with_delay refl; made = (trace_limit, refl); runs = runs_to (new_on bus_with_delay) heard_with_delay refl };
    near = beside_near;
    hears = inl (heard_as_said 0 (map (as_heard beside_second) (replay (new_on bus_with_delay) heard_with_delay).trace) refl);
  };
  keeps = refl;
  raises_none = refl;
}

-- ---- whom a listener names

abbrev is_clear : (delay u v : ℕ) → Entry → Bool
is_clear delay u v e = nat_le (reaches_taps delay e).end u || nat_le v (reaches_taps delay e).begin

all_clear : (delay u v : ℕ) (es : List Entry) → list_all (is_clear delay u v) es ≡ true → AllClear delay u v es
all_clear delay u v [] h = tt
all_clear delay u v (e ∷ es) h = let b = and_parts (is_clear delay u v e) (list_all (is_clear delay u v) es) h in (one (nat_le (reaches_taps delay e).end u) refl b.0, all_clear delay u v es b.1)
  where
    one : (c : Bool) → nat_le (reaches_taps delay e).end u ≡ c → (c || nat_le v (reaches_taps delay e).begin) ≡ true → IsClear u v (reaches_taps delay e)
    one true f g = inl (leb-true (reaches_taps delay e).end u f)
    one false f g = inr (leb-true v (reaches_taps delay e).begin g)

-- what the passive tap of the run with a delay hears of its beginning
heard_first : (events : List Event) (later : World) (t : Tap) (bs : List Burst) → HearsARun bus_with_delay with_passive events (new_on bus_with_delay) later 2 t → t.since ≡ 0 → bursts_heard 2 (new_on bus_with_delay) events ≡ bs → HearsSince 15 0 later.trace bs
heard_first events later t bs hears begins is =
    subst (HearsSince 15 0 later.trace) is (subst (λ n. HearsSince 15 n later.trace (bursts_heard 2 (new_on bus_with_delay) events)) begins (taps_raise_none bus_with_delay with_passive events (new_on bus_with_delay) later 2 t hears).0)

long_time : LeavesTime bus_with_delay
long_time = record { slot = omega arith; idle = omega arith; idle_order = omega arith; take = omega arith; highest = omega arith }

pub claimer_named : IsNamed bus_with_delay with_passive (take 14 heard_with_delay) (Pass 22 ∷ []) 0 0 (at 815 (token 1 1) ∷ []) (One 1)
claimer_named = record {
  new = new_on bus_with_delay;
  w = replay (new_on bus_with_delay) (take 14 heard_with_delay);
  later = replay (new_on bus_with_delay) (take 15 heard_with_delay);
  hears = record {
    time = long_time;
    run = record { fit = (omega arith, (omega arith, (omega arith, tt))); are = are_events (take 14 heard_with_delay) refl; made = (trace_limit, refl); runs = runs_to (new_on bus_with_delay) (take 14 heard_with_delay) refl };
    are = (tt, tt);
    goes_on = runs_to (replay (new_on bus_with_delay) (take 14 heard_with_delay)) (Pass 22 ∷ []) refl;
    hears = heard_first (take 15 heard_with_delay) (replay (new_on bus_with_delay) (take 15 heard_with_delay)) _ (at 815 (token 1 1) ∷ []) (record {
      time = long_time;
      run = record { fit = (omega arith, (omega arith, (omega arith, tt))); are = are_events (take 15 heard_with_delay) refl; made = (trace_limit, refl); runs = runs_to (new_on bus_with_delay) (take 15 heard_with_delay) refl };
      keeps = refl;
      here = refl;
      running = refl;
      others = all_of_others 15 2 0 (replay (new_on bus_with_delay) (take 15 heard_with_delay)).trace refl;
    }) refl refl;
    over = omega arith;
    nothing = all_clear 15 848 864 (replay (new_on bus_with_delay) (take 15 heard_with_delay)).trace refl;
  };
  keeps = refl;
  may = (_, refl, refl);
  says = refl;
}

pub taker_named : IsNamed bus_with_delay with_passive (take 58 heard_with_delay) (Pass 37 ∷ []) 1 0
    (at 815 (token 1 1) ∷ at 885 (token 1 1) ∷ at 955 (question 2 1) ∷ at 1047 (answer 1 2) ∷ at 1165 (token 2 1) ∷ []) (OfferedTo 2)
taker_named = record {
  new = new_on bus_with_delay;
  w = replay (new_on bus_with_delay) (take 58 heard_with_delay);
  later = replay (new_on bus_with_delay) (take 59 heard_with_delay);
  hears = record {
    time = long_time;
    run = record { fit = (omega arith, (omega arith, (omega arith, tt))); are = are_events (take 58 heard_with_delay) refl; made = (trace_limit, refl); runs = runs_to (new_on bus_with_delay) (take 58 heard_with_delay) refl };
    are = (tt, tt);
    goes_on = runs_to (replay (new_on bus_with_delay) (take 58 heard_with_delay)) (Pass 37 ∷ []) refl;
    hears = heard_first (take 59 heard_with_delay) (replay (new_on bus_with_delay) (take 59 heard_with_delay)) _ (at 815 (token 1 1) ∷ at 885 (token 1 1) ∷ at 955 (question 2 1) ∷ at 1047 (answer 1 2) ∷ at 1165 (token 2 1) ∷ []) (record {
      time = long_time;
      run = record { fit = (omega arith, (omega arith, (omega arith, tt))); are = are_events (take 59 heard_with_delay) refl; made = (trace_limit, refl); runs = runs_to (new_on bus_with_delay) (take 59 heard_with_delay) refl };
      keeps = refl;
      here = refl;
      running = refl;
      others = all_of_others 15 2 0 (replay (new_on bus_with_delay) (take 59 heard_with_delay)).trace refl;
    }) refl refl;
    over = omega arith;
    nothing = all_clear 15 1198 1214 (replay (new_on bus_with_delay) (take 59 heard_with_delay)).trace refl;
  };
  keeps = refl;
  may = (_, refl, refl);
  says = refl;
}
