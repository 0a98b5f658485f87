-- The longest stretch of a tap, event by event.
use Rattle.std.proofs.Common.{◌≡◌, ◌∙◌, ap, sym, subst, refl, arith, ℕ, zero, suc, ◌+◌, ◌-◌, ◌<◌, ◌≤◌, ◌&&◌, ◌⊎◌, inl, inr, ⊎_elim, nat_lt, not, max, List, [], ◌∷◌, ◌++◌, length, Bool, true, false, if◌then◌else◌, Option, Some, None, Result, Ok}
use Rattle.std.specs.Prelude.{slice_get, slice_set, get_or, take, drop, replicate, ◌==◌, IfSome, Err, OnOk}
use Rattle.std.specs.List.{list_any}
use Rattle.std.specs.Option.{option_map}
use Rattle.std.proofs.lemmas.Bool.{ltb-true, ltb-false, lt-ltb, le-ltb, eqb-true, eqb-false}
use Rattle.std.proofs.lemmas.Bool.Decides.{nat_tests}
use Rattle.std.proofs.lemmas.List.{take-append-drop, get_or-set_same, get_or-set_other}
use Rattle.std.proofs.lemmas.Option.{none-some, same_Some, slice_get-map, slice_get_past}
use Rattle.pb_timers.specs.Timers.{Params}
use Rattle.law_turn.specs.Phases.{is_offline}
use Rattle.law_model.specs.Medium.{TapSpec, Tap}
use Rattle.law_model.specs.World.{World, Event, Pass, Reply, Fault, new_world}
use Rattle.law_model.specs.Step.{step, RunsTo, world_after}
use Rattle.law_model.specs.Laws.{IsEvent, AreEvents}
use Rattle.law_model.proofs.Worlds.{later-replay}
use Rattle.law_runs.specs.Premises.{first_broken}
use Rattle.law_token.specs.Runs.{SameBus}
use Rattle.law_token.proofs.whole.JoinedRuns.{runs_part, runs_same, unbroken_before}
use Rattle.law_live.specs.NeverDead.{longest_without}
use Rattle.law_live.specs.Promises.{LeadTo}
use Rattle.law_live.proofs.Promising.{kept_promises, run_leads_on}
use Rattle.pb_world.specs.Buses.{world_of, Does, IsKept}
use Rattle.pb_taps.specs.declared.faults.WorldFault.{WorldFault}
use Rattle.pb_world.specs.declared.buses.Bus.{Bus}
use Rattle.pb_world.specs.Premises.{time_in}
use Rattle.pb_world.specs.declared.stretches.LongestSoFar.{LongestSoFar}
use Rattle.pb_world.specs.declared.longest.LongestStretches.{LongestStretches}
use Rattle.pb_world.specs.declared.stretches.Stretch.{Stretch}
use Rattle.pb_world.specs.Liveness.{AreLonger, AreStretches, KeepsBounds, longest_at, IsStretch, HasStretch, IsLongestOf, calm_after, ends_within, stretch_of, longer}
use Rattle.pb_world.proofs.Stretching.{Stays, stays, stretch-back, calm-stays, Measures, measures, stretch-since, since-stretch}

-- ---- runs

-- an event leads to one world
step-one : (w : World) (r : Result (World × Reply) Fault) (a b : World × Reply) → r ≡ Ok a → r ≡ Ok b → a.0 ≡ b.0
step-one w r a b one two = let same : a ≡ b = cc in ap (λ (x : World × Reply). x.0) same

-- and events do
runs-one : (events : List Event) (w a b : World) → RunsTo w events a → RunsTo w events b → a ≡ b
runs-one [] w a b one two = sym one ∙ two
runs-one (e ∷ es) w a b (x, r, goes, one) (y, s, also, two) =
    runs-one es y a b (subst (λ z. RunsTo z es a) (step-one w (step w e) (x, r) (y, s) goes also) one) two

later-step : (w next : World) (e : Event) (reply : Reply) → step w e ≡ Ok (next, reply) → w.now ≤ next.now
later-step w next e reply ok = subst (λ (r : Result (World × Reply) Fault). w.now ≤ (world_after w r).now) ok (later-replay w (e ∷ []))

runs-later : (events : List Event) (w next : World) → RunsTo w events next → w.now ≤ next.now
runs-later [] w next runs = subst (λ (z : World). w.now ≤ z.now) runs (omega arith)
runs-later (e ∷ es) w next (x, r, goes, runs) = omega (arith, later-step w x e r goes, runs-later es x next runs)

-- the first of some events are events
events-first : (count : ℕ) (events : List Event) → AreEvents events → AreEvents (take count events)
events-first zero events are = tt
events-first (suc count) [] are = tt
events-first (suc count) (e ∷ es) are = (are.0, events-first count es are.1)

-- the first of some events and one more: of those, or all of them
take-one : (count : ℕ) (events : List Event) (e : Event)
    → ((count ≤ length events) × (take count (events ++ e ∷ []) ≡ take count events)) ⊎ (take count (events ++ e ∷ []) ≡ events ++ e ∷ [])
take-one zero [] e = inl (omega arith, refl)
take-one (suc count) [] e = inr (none count)
  where
    none : (count : ℕ) → e ∷ take count [] ≡ e ∷ []
    none zero = refl
    none (suc count) = refl
take-one zero (x ∷ xs) e = inl (omega arith, refl)
take-one (suc count) (x ∷ xs) e =
    ⊎_elim
    (λ (few : (count ≤ length xs) × (take count (xs ++ e ∷ []) ≡ take count xs)). inl (omega (arith, few.0), ap (λ ys. x ∷ ys) few.1))
    (λ (all : take count (xs ++ e ∷ []) ≡ xs ++ e ∷ []). inr (ap (λ ys. x ∷ ys) all))
    (take-one count xs e)

-- as many first ones that there are
take-there : (count : ℕ) (events : List Event) → (n : ℕ) × (n ≤ length events) × (take n events ≡ take count events)
take-there zero events = (0, omega arith, refl)
take-there (suc count) [] = (0, omega arith, refl)
take-there (suc count) (x ∷ xs) = let rest = take-there count xs in (suc rest.0, omega (arith, rest.1), ap (λ ys. x ∷ ys) rest.2)

take-front : (n : ℕ) (events : List Event) (e : Event) → n ≤ length events → take n (events ++ e ∷ []) ≡ take n events
take-front zero events e there = refl
take-front (suc n) [] e there = absurd (omega (arith, there))
take-front (suc n) (x ∷ xs) e there = ap (λ ys. x ∷ ys) (take-front n xs e (omega (arith, there)))

-- ---- stretches of runs

-- one at the end of some events with one more was there before, or is one at their end
one-more : (start next : World) (events : List Event) (e : Event) (tap begin length : ℕ) → RunsTo start (events ++ e ∷ []) next → HasStretch start (events ++ e ∷ []) tap begin length
    → HasStretch start events tap begin length ⊎ (IsStretch next tap begin × (begin + length ≡ next.now))
one-more start next events e tap begin length runs has =
    ⊎_elim
    (λ few. inl (record { count = has.count; w = has.w; runs = subst (λ es. RunsTo start es has.w) few.1 has.runs; is = has.is; ends = has.ends }))
    (λ (all : take has.count (events ++ e ∷ []) ≡ events ++ e ∷ []).
    let same = runs-one (events ++ e ∷ []) start has.w next (subst (λ es. RunsTo start es has.w) all has.runs) runs in
    inr (subst (λ z. IsStretch z tap begin) same has.is, has.ends ∙ ap (λ (z : World). z.now) same))
    (take-one has.count events e)

-- one that was there is there
one-kept : (start : World) (events : List Event) (e : Event) (tap begin length : ℕ) → HasStretch start events tap begin length → HasStretch start (events ++ e ∷ []) tap begin length
one-kept start events e tap begin length has =
    let few = take-there has.count events in
    record {
      count = few.0;
      w = has.w;
      runs = subst (λ es. RunsTo start es has.w) (sym few.2 ∙ sym (take-front few.0 events e few.1)) has.runs;
      is = has.is;
      ends = has.ends;
    }

-- one that is there in the end
one-last : (start next : World) (events : List Event) (tap begin length : ℕ) → RunsTo start events next → IsStretch next tap begin → begin + length ≡ next.now → HasStretch start events tap begin length
one-last start next events tap begin length runs is ends =
    let all = take-all events in
    record { count = all.0; w = next; runs = subst (λ es. RunsTo start es next) (sym all.1) runs; is = is; ends = ends }
  where
    take-all : (events : List Event) → (n : ℕ) × (take n events ≡ events)
    take-all [] = (0, refl)
    take-all (x ∷ xs) = let rest = take-all xs in (suc rest.0, ap (λ ys. x ∷ ys) rest.1)

-- all have ended by the clock
one-ended : (start w : World) (events : List Event) (tap begin length : ℕ) → RunsTo start events w → HasStretch start events tap begin length → begin + length ≤ w.now
one-ended start w events tap begin length runs has =
    let parts = runs_part (take has.count events) (drop has.count events) start w (subst (λ es. RunsTo start es w) (sym (take-append-drop has.count events)) runs) in
    let same = runs-one (take has.count events) start has.w parts.0 has.runs parts.1 in
    let now : has.w.now ≡ parts.0.now = ap (λ (z : World). z.now) same in
    omega (arith, has.ends, now, runs-later (drop has.count events) parts.0 w parts.2)

-- ---- the longest

-- an event by which there is no new one
pub longest-same : (start next : World) (events : List Event) (e : Event) (tap : ℕ) (o : Option Stretch) → RunsTo start (events ++ e ∷ []) next
    → ((begin length : ℕ) → IsStretch next tap begin → begin + length ≡ next.now → HasStretch start events tap begin length)
    → IsLongestOf start events tap o → IsLongestOf start (events ++ e ∷ []) tap o
longest-same start next events e tap o runs back = by o
  where
    before : (begin length : ℕ) → HasStretch start (events ++ e ∷ []) tap begin length → HasStretch start events tap begin length
    before begin length has = ⊎_elim (λ (old : HasStretch start events tap begin length). old) (λ new. back begin length new.0 new.1) (one-more start next events e tap begin length runs has)

    by : (o : Option Stretch) → IsLongestOf start events tap o → IsLongestOf start (events ++ e ∷ []) tap o
    by None none = λ begin length has. none begin length (before begin length has)
    by (Some s) is = record {
      is = one-kept start events e tap s.begin s.length is.is;
      longest = λ begin length has. is.longest begin length (before begin length has);
      first = λ begin has. is.first begin (before begin s.length has);
      bound = is.bound;
    }

-- an event in which no time passes
pub longest-stays : (start w next : World) (events : List Event) (e : Event) (tap : ℕ) (o : Option Stretch) → RunsTo start events w → RunsTo start (events ++ e ∷ []) next → Stays w next
    → IsLongestOf start events tap o → IsLongestOf start (events ++ e ∷ []) tap o
longest-stays start w next events e tap o before runs stays =
    longest-same start next events e tap o runs (λ begin length is ends. one-last start w events tap begin length before (stretch-back w next tap begin stays is) (ends ∙ stays.now))

-- ---- a pass

-- the stretch at the clock is the longest one at it
record IsNow (start w : World) (tap : ℕ) (s : Stretch) : Type 0 where
  pub is : IsStretch w tap s.begin
  pub ends : s.begin + s.length ≡ w.now
  pub longest : (begin : ℕ) → IsStretch w tap begin → s.begin ≤ begin
  pub bound : (t : Tap) → slice_get start.taps tap ≡ Some t → s.bound ≡ longest_without start.params t.spec.address

abbrev IsNowOf : World → World → ℕ → Option Stretch → Type 0
IsNowOf start w tap None = (begin : ℕ) → IsStretch w tap begin → ⊥
IsNowOf start w tap (Some s) = IsNow start w tap s

same-address : (start w : World) (tap : ℕ) (t u : Tap) → SameBus start w → slice_get w.taps tap ≡ Some t → slice_get start.taps tap ≡ Some u → longest_without w.params t.spec.address ≡ longest_without start.params u.spec.address
same-address start w tap t u same here there =
    let of = λ (x : Tap). x.spec in
    let spec : t.spec ≡ u.spec = same_Some t.spec u.spec
    (sym (ap (option_map of) here) ∙ sym (slice_get-map of w.taps tap) ∙ ap (λ (xs : List TapSpec). slice_get xs tap) same.specs ∙ slice_get-map of start.taps tap ∙ ap (option_map of) there) in
    ap (λ (p : Params). longest_without p t.spec.address) same.params ∙ ap (λ (x : TapSpec). longest_without start.params x.address) spec

now-is : (start w : World) (tap calm : ℕ) (o : Option Tap) → SameBus start w → Measures w calm → slice_get w.taps tap ≡ o → IsNowOf start w tap (stretch_of w calm o)
now-is start w tap calm None same measured here = λ begin is. none-some is.t (sym here ∙ is.master.here)
now-is start w tap calm (Some t) same measured here = by t.running t.spec.master (is_offline t.station.phase) (nat_lt (max t.since calm) w.now) refl refl refl refl
  where
    found : (begin : ℕ) → (is : IsStretch w tap begin) → is.t ≡ t
    found begin is = same_Some is.t t (sym is.master.here ∙ here)

    at : Stretch
    at = record { begin = max t.since calm; length = w.now - max t.since calm; bound = longest_without w.params t.spec.address }

    by : (a b c d : Bool) → t.running ≡ a → t.spec.master ≡ b → is_offline t.station.phase ≡ c → nat_lt (max t.since calm) w.now ≡ d
        → IsNowOf start w tap (if a && b && not c && d then Some at else None)
    by true true false true runs master on early =
        let before = ltb-true (max t.since calm) w.now early in
        record {
          is = since-stretch w tap (max t.since calm) calm t measured (record { here = here; running = runs; master = master; on = λ off. absurd (let wrong : false ≡ true = sym on ∙ off in cc) })
              (omega arith) (omega arith) before;
          ends = omega (arith, before);
          longest = λ begin is.
              let ran : t.since ≤ begin = subst (λ (x : Tap). x.since ≤ begin) (found begin is) is.ran in
              omega (arith, ran, stretch-since w tap begin calm measured is);
          bound = λ u there. same-address start w tap t u same here there;
        }
    by true true false false runs master on late = λ begin is.
        let ran : t.since ≤ begin = subst (λ (x : Tap). x.since ≤ begin) (found begin is) is.ran in
        omega (arith, ltb-false (max t.since calm) w.now late, is.lasts, ran, stretch-since w tap begin calm measured is)
    by true true true d runs master off early = λ begin is. is.master.on (ap (λ (x : Tap). is_offline x.station.phase) (found begin is) ∙ off)
    by true false c d runs master off early = λ begin is. absurd (let wrong : false ≡ true = sym master ∙ ap (λ (x : Tap). x.spec.master) (sym (found begin is)) ∙ is.master.master in cc)
    by false b c d runs master off early = λ begin is. absurd (let wrong : false ≡ true = sym runs ∙ ap (λ (x : Tap). x.running) (sym (found begin is)) ∙ is.master.running in cc)

-- the longest one before the event, and the one at the clock after it
longest-two : (start w next : World) (events : List Event) (e : Event) (tap : ℕ) (old now : Option Stretch) → RunsTo start events w → RunsTo start (events ++ e ∷ []) next → w.now ≤ next.now
    → IsLongestOf start events tap old → IsNowOf start next tap now → IsLongestOf start (events ++ e ∷ []) tap (longer old now)
longest-two start w next events e tap old None before runs goes was is =
    longest-same start next events e tap old runs (λ begin length stretch ends. absurd (is begin stretch)) was
longest-two start w next events e tap None (Some s) before runs goes none is = record {
  is = one-last start next (events ++ e ∷ []) tap s.begin s.length runs is.is is.ends;
  longest = λ begin length has. ⊎_elim
      (λ (old : HasStretch start events tap begin length). absurd (none begin length old))
      (λ (new : IsStretch next tap begin × (begin + length ≡ next.now)). omega (arith, new.1, is.ends, is.longest begin new.0))
      (one-more start next events e tap begin length runs has);
  first = λ begin has. ⊎_elim
      (λ (old : HasStretch start events tap begin s.length). absurd (none begin s.length old))
      (λ (new : IsStretch next tap begin × (begin + s.length ≡ next.now)). is.longest begin new.0)
      (one-more start next events e tap begin s.length runs has);
  bound = is.bound;
}
longest-two start w next events e tap (Some old) (Some s) before runs goes was is =
    by (nat_lt old.length s.length) refl
  where
    by : (b : Bool) → nat_lt old.length s.length ≡ b → IsLongestOf start (events ++ e ∷ []) tap (if b then Some s else Some old)
    by true more =
        let less = ltb-true old.length s.length more in
        record {
          is = one-last start next (events ++ e ∷ []) tap s.begin s.length runs is.is is.ends;
          longest = λ begin length has. ⊎_elim
              (λ (had : HasStretch start events tap begin length). omega (arith, less, was.longest begin length had))
              (λ (new : IsStretch next tap begin × (begin + length ≡ next.now)). omega (arith, new.1, is.ends, is.longest begin new.0))
              (one-more start next events e tap begin length runs has);
          first = λ begin has. ⊎_elim
              (λ (had : HasStretch start events tap begin s.length). absurd (omega (arith, less, was.longest begin s.length had)))
              (λ (new : IsStretch next tap begin × (begin + s.length ≡ next.now)). is.longest begin new.0)
              (one-more start next events e tap begin s.length runs has);
          bound = is.bound;
        }
    by false less =
        let short = ltb-false old.length s.length less in
        record {
          is = one-kept start events e tap old.begin old.length was.is;
          longest = λ begin length has. ⊎_elim
              (λ (had : HasStretch start events tap begin length). was.longest begin length had)
              (λ (new : IsStretch next tap begin × (begin + length ≡ next.now)). omega (arith, short, new.1, is.ends, is.longest begin new.0))
              (one-more start next events e tap begin length runs has);
          first = λ begin has. ⊎_elim
              (λ (had : HasStretch start events tap begin old.length). was.first begin had)
              (λ (new : IsStretch next tap begin × (begin + old.length ≡ next.now)). omega (arith, new.1, goes, one-ended start w events tap old.begin old.length before was.is))
              (one-more start next events e tap begin old.length runs has);
          bound = was.bound;
        }

pub longest-grows : (start w next : World) (events : List Event) (e : Event) (tap calm : ℕ) (old : Option Stretch) → RunsTo start events w → RunsTo start (events ++ e ∷ []) next → w.now ≤ next.now
    → Measures next calm → IsLongestOf start events tap old → IsLongestOf start (events ++ e ∷ []) tap (longer old (stretch_of next calm (slice_get next.taps tap)))
longest-grows start w next events e tap calm old before runs goes measured was =
    longest-two start w next events e tap old (stretch_of next calm (slice_get next.taps tap)) before runs goes was
    (now-is start next tap calm (slice_get next.taps tap) (runs_same (events ++ e ∷ []) start next runs) measured refl)

-- ---- the bound

lead-first : (start w : World) (events : List Event) (count : ℕ) (x : World) → LeadTo start events w → RunsTo start (take count events) x → LeadTo start (take count events) x
lead-first start w events count x lead runs = record {
  p = lead.p;
  specs = lead.specs;
  valid = lead.valid;
  run = record { fit = lead.run.fit; are = events-first count events lead.run.are; made = lead.run.made; runs = runs };
}

-- where no premise is broken, the longest is not longer than its bound: no bus is dead
longest-bounded : (start w : World) (events : List Event) (tap : ℕ) (o : Option Stretch) → LeadTo start events w → first_broken start events ≡ None → IsLongestOf start events tap o
    → IfSome o (λ s. s.length ≤ s.bound)
longest-bounded start w events tap None lead kept none = tt
longest-bounded start w events tap (Some s) lead kept is =
    let has = is.is in
    let x = has.w in
    let t = has.is.t in
    let unbroken = unbroken_before start (take has.count events) (drop has.count events) (ap (first_broken start) (take-append-drop has.count events) ∙ kept) in
    let live = (kept_promises start x (take has.count events) (lead-first start w events has.count x lead has.runs)).live unbroken in
    let same = runs_same (take has.count events) start x has.runs in
    let first = at-start start x tap t same has.is.master.here in
    let bound : s.bound ≡ longest_without x.params t.spec.address = is.bound first.0 first.1 ∙ sym (same-address start x tap t first.0 same has.is.master.here first.1) in
    not-longer s.begin s.length s.bound (longest_without x.params t.spec.address) x.now bound has.ends
    (λ long. let wrong : false ≡ true = sym has.is.no_token ∙ live tap s.begin t has.is.master has.is.ran long has.is.no_noise in cc)
  where
    not-longer : (begin length bound limit now : ℕ) → bound ≡ limit → begin + length ≡ now → (begin + limit < now → ⊥) → length ≤ bound
    not-longer begin length bound limit now same ends short = by (nat_lt (begin + limit) now) refl
      where
        by : (b : Bool) → nat_lt (begin + limit) now ≡ b → length ≤ bound
        by true is = absurd (short (ltb-true (begin + limit) now is))
        by false is = omega (arith, ltb-false (begin + limit) now is, same, ends)

    at-start : (start x : World) (tap : ℕ) (t : Tap) → SameBus start x → slice_get x.taps tap ≡ Some t → (u : Tap) × (slice_get start.taps tap ≡ Some u)
    at-start start x tap t same here = by (slice_get start.taps tap) refl
      where
        of : Tap → TapSpec
        of z = z.spec

        by : (o : Option Tap) → slice_get start.taps tap ≡ o → (u : Tap) × (slice_get start.taps tap ≡ Some u)
        by (Some u) is = (u, is)
        by None is = absurd (none-some t.spec (sym (ap (option_map of) is) ∙ sym (slice_get-map of start.taps tap) ∙ ap (λ (xs : List TapSpec). slice_get xs tap) (sym same.specs) ∙ slice_get-map of x.taps tap ∙ ap (option_map of) here))

-- ---- a bus that is followed

pub goes-still : (s : LongestSoFar) (bus next : Bus) (e : Event) (reply : Reply) → IsKept next → IsEvent e → time_in e ≡ None → step (world_of bus) e ≡ Ok (world_of next, reply)
    → (start : World) (events : List Event) → AreStretches s bus start events → AreStretches s next start (events ++ e ∷ [])
goes-still s bus next e reply kept is none goes start events are =
    let stays = stays (world_of bus) (world_of next) e reply none goes in
    let lead = (run_leads_on (world_of bus) (world_of next) (e ∷ []) (is, tt) (world_of next, reply, goes, refl) start events are.lead).0 in
    record {
      kept = kept;
      lead = lead;
      calm = calm-stays (world_of bus) (world_of next) s.calm stays are.calm;
      longest = λ tap. longest-stays start (world_of bus) (world_of next) events e tap (get_or s.longest tap None) are.lead.run.runs lead.run.runs stays (are.longest tap);
    }

-- the same, where it is not refused
pub goes-as : (s : LongestSoFar) (bus next : Bus) (e : Event) (r : Result (Unit {0}) WorldFault) → Does bus e r next → IsKept next → IsEvent e → time_in e ≡ None
    → OnOk r ((start : World) (events : List Event) → AreStretches s bus start events → AreStretches s next start (events ++ e ∷ []))
goes-as s bus next e (Ok done) goes kept is none = goes-still s bus next e (record { now = next.now; spoke = next.sent }) kept is none goes
goes-as s bus next e (Err fault) refused kept is none = tt

pub goes-later : (s after : LongestSoFar) (bus next : Bus) (e : Event) (bits : ℕ) (heard : Bool) (reply : Reply) → IsKept bus → IsKept next → IsEvent e → e ≡ Pass bits
    → step (world_of bus) e ≡ Ok (world_of next, reply) → heard ≡ list_any (ends_within bus.now (bus.now + bits)) (world_of bus).trace → after.calm ≡ calm_after heard next.now s.calm
    → AreLonger (world_of next) after.calm s.longest after.longest
    → (start : World) (events : List Event) → AreStretches s bus start events → AreStretches after next start (events ++ e ∷ [])
goes-later s after bus next e bits heard reply was kept is passes goes hears calm longer start events are =
    let lead = (run_leads_on (world_of bus) (world_of next) (e ∷ []) (is, tt) (world_of next, reply, goes, refl) start events are.lead).0 in
    let passed : step (world_of bus) (Pass bits) ≡ Ok (world_of next, reply) = subst (λ (x : Event). step (world_of bus) x ≡ Ok (world_of next, reply)) passes goes in
    let (later, measured) = measures (world_of bus) (world_of next) bits reply s.calm heard was.sound passed are.calm hears in
    let of : Measures (world_of next) after.calm = subst (Measures (world_of next)) (sym calm) measured in
    record {
      kept = kept;
      lead = lead;
      calm = of.calm_is;
      longest = λ tap. subst (IsLongestOf start (events ++ e ∷ []) tap) (sym (longer tap))
          (longest-grows start (world_of bus) (world_of next) events e tap after.calm (get_or s.longest tap None) are.lead.run.runs lead.run.runs (omega (arith, later)) of (are.longest tap));
    }

-- no stretch yet
abbrev none-yet : Option Stretch
none-yet = None

take-none : (count : ℕ) → take {A = Event} count [] ≡ []
take-none zero = refl
take-none (suc count) = refl

none-there : (n k : ℕ) → get_or (replicate n none-yet) k none-yet ≡ none-yet
none-there zero k = refl
none-there (suc n) zero = refl
none-there (suc n) (suc k) = none-there n k

-- to a new bus nothing has happened
pub begins-none : (s : LongestSoFar) (bus : Bus) → IsKept bus → LeadTo (world_of bus) [] (world_of bus) → bus.now ≡ 0 → s.calm ≡ 0 → s.longest ≡ replicate 127 None → AreStretches s bus (world_of bus) []
begins-none s bus kept lead now calm none = record {
  kept = kept;
  lead = lead;
  calm = record { past = omega (arith, calm); since = λ m before. absurd (omega (arith, before, now)) };
  longest = λ tap. subst (IsLongestOf (world_of bus) [] tap) (sym (ap (λ xs. get_or xs tap None) none ∙ none-there 127 tap)) (nothing tap);
}
  where
    nothing : (tap begin length : ℕ) → HasStretch (world_of bus) [] tap begin length → ⊥
    nothing tap begin length has =
        let runs : RunsTo (world_of bus) [] has.w = subst (λ es. RunsTo (world_of bus) es has.w) (take-none has.count) has.runs in
        let still : has.w.now ≡ bus.now = ap (λ (w : World). w.now) (sym runs) in
        omega (arith, has.is.lasts, still, now)

-- ---- each tap's stretch renewed

pub renewed-one : (f : ℕ → Option Stretch) (xs before : List (Option Stretch)) (tap : ℕ) (v : Option Stretch) → tap < length xs → v ≡ f tap
    → ((k : ℕ) → get_or xs k None ≡ (if nat_lt k tap then f k else get_or before k None))
    → (k : ℕ) → get_or (slice_set xs tap v) k None ≡ (if nat_lt k (tap + 1) then f k else get_or before k None)
renewed-one f xs before tap v there is so_far k = by (k == tap) refl
  where
    by : (b : Bool) → (k == tap) ≡ b → get_or (slice_set xs tap v) k None ≡ (if nat_lt k (tap + 1) then f k else get_or before k None)
    by true here =
        let same : k ≡ tap = eqb-true k tap here in
        ap (λ n. get_or (slice_set xs tap v) n None) same ∙ get_or-set_same xs tap v None there ∙ is ∙ ap f (sym same)
        ∙ sym (ap (λ (b : Bool). if b then f k else get_or before k None) (lt-ltb k (tap + 1) (omega (arith, same))))
    by false other =
        let apart = eqb-false k tap other in
        let same : nat_lt k (tap + 1) ≡ nat_lt k tap = grind (arith, apart, nat_tests) in
        get_or-set_other xs tap k v None apart ∙ so_far k ∙ ap (λ (b : Bool). if b then f k else get_or before k None) (sym same)

-- the first that is not renewed yet is as it was
pub not-renewed : (f : ℕ → Option Stretch) (xs before : List (Option Stretch)) (tap : ℕ) → ((k : ℕ) → get_or xs k None ≡ (if nat_lt k tap then f k else get_or before k None))
    → get_or xs tap None ≡ get_or before tap None
not-renewed f xs before tap so_far = so_far tap ∙ ap (λ (b : Bool). if b then f tap else get_or before tap None) (le-ltb tap tap (omega arith))

-- behind all taps there is none
pub all-longer : (w : World) (calm count : ℕ) (before after : List (Option Stretch)) → length w.taps ≤ count
    → ((k : ℕ) → get_or after k None ≡ (if nat_lt k count then longer (get_or before k None) (stretch_of w calm (slice_get w.taps k)) else get_or before k None))
    → AreLonger w calm before after
all-longer w calm count before after all so_far tap = so_far tap ∙ by (nat_lt tap count) refl
  where
    by : (b : Bool) → nat_lt tap count ≡ b → (if b then longer (get_or before tap None) (stretch_of w calm (slice_get w.taps tap)) else get_or before tap None)
        ≡ longer (get_or before tap None) (stretch_of w calm (slice_get w.taps tap))
    by true is = refl
    by false is = sym (ap (λ o. longer (get_or before tap None) (stretch_of w calm o)) (slice_get_past w.taps tap (omega (arith, all, ltb-false tap count is))))

-- all longest stretches of a run keep their bounds
pub bounded-all : (p : Params) (specs : List TapSpec) (events : List Event) (start w : World) (found : LongestStretches) → new_world p specs ≡ Ok start → LeadTo start events w
    → ((tap : ℕ) → IsLongestOf start events tap (longest_at found tap)) → KeepsBounds p specs events found
bounded-all p specs events start w found made lead are new also kept tap =
    let same : new ≡ start = cc in
    longest-bounded start w events tap (longest_at found tap) lead (subst (λ (x : World). first_broken x events ≡ None) same kept) (are tap)
