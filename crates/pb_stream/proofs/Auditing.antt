-- What an instant of an audit leaves to be found.
use Rattle.std.proofs.Common.{◌≡◌, ◌∙◌, ap, append-nil, refl, sym, subst, arith, ℕ, suc, ◌+◌, List, [], ◌∷◌, ◌++◌, length, map, Option, Some, None, Result, Ok, Err}
use Rattle.std.specs.Prelude.{IfSome}
use Rattle.std.specs.Option.{option_map}
use Rattle.std.proofs.lemmas.List.{length-map}
use Rattle.std.proofs.lemmas.Option.{none-some}
use Rattle.pb_timers.specs.Timers.{Params}
use Rattle.law_model.specs.Medium.{TapSpec}
use Rattle.law_model.specs.Trace.{Entry, entry_begin}
use Rattle.law_model.specs.World.{World, Event, Fault, new_faults, new_world_within, stopped_tap}
use Rattle.law_model.proofs.Worlds.{unless-Ok}
use Rattle.law_runs.specs.Headline.{specs_of}
use Rattle.law_runs.specs.Judging.{IsOrdered, IsOrderedFrom, Stands}
use Rattle.law_runs.specs.Legality.{first_illegal}
use Rattle.law_runs.specs.Premises.{Course}
use Rattle.law_runs.specs.Runs.{run, with_front}
use Rattle.law_runs.specs.Scenarios.{RunFault, At}
use Rattle.law_streams.specs.Audits.{Audited, audited_from, audited_of, audited_within, illegal_in, no_events, watched_bus}
use Rattle.law_streams.specs.Judgement.{kept_of, nothing_kept}
use Rattle.law_streams.specs.Streams.{stream_limit}
use Rattle.law_streams.proofs.Followed.{made}
use Rattle.law_streams.proofs.Judgement.{hears-on, judged-as-heard}
use Rattle.pb_medium.specs.LettingGo.{past_of}
use Rattle.pb_taps.specs.declared.faults.WorldFault.{WorldFault}
use Rattle.pb_scenario.specs.Faults.{model_fault}
use Rattle.pb_scenario.specs.Repeats.{StreamView, unrolled}
use Rattle.pb_scenario.specs.Walks.{WalkView, new_walk, plan_in}
use Rattle.pb_world.specs.Judges.{HasHeard}
use Rattle.pb_world.specs.Auditing.{broken_at}
use Rattle.pb_world.specs.Watched.{world_in, IsAtEnd, IsFollowed, IsOfRun, LetsGoOf}
use Rattle.pb_world.proofs.Coming.{run-legal}
use Rattle.pb_world.proofs.Lasting.{params-within, specs-within}
use Rattle.pb_world.specs.declared.findings.Audit.{Audit}
use Rattle.pb_world.specs.declared.judge.Judge.{Judge}
use Rattle.pb_world.specs.declared.watched.Watched.{Watched}
use Rattle.pb_stream.specs.Audits.{IsAuditOf, IsFoundBy, StaysFound, found_with, premise_of}
use Rattle.pb_stream.specs.Audits as audits
use Rattle.pb_stream.specs.Courses.{Reaches}
use Rattle.pb_stream.specs.Plays.{GoesOn, IsNext, StopsIn}
use Rattle.pb_stream.specs.Stages.{IsAt, watched_view}
use Rattle.pb_stream.specs.declared.audits.AuditStream.{AuditStream}
use Rattle.pb_stream.proofs.AnyInstants.{more-instants}
use Rattle.pb_stream.proofs.Courses.{broken-stays, illegal-stays, over-in-order, reached-same, reached-stands}
use Rattle.pb_stream.proofs.Playing.{stops-so}

-- ---- a new audit

pub begins : (s : StreamView) (until : ℕ) (a : AuditStream) → new_world_within stream_limit s.once.scenario.params s.once.scenario.taps ≡ Ok (world_in a.watched)
    → IsFollowed a.watched → IsAtEnd a.watched [] (no_events (world_in a.watched)) → IsOfRun (no_events (world_in a.watched)) → HasHeard s.once.scenario.params s.once.scenario.taps [] a.judge
    → a.walk ≡ new_walk (unrolled until s).steps (length s.once.scenario.taps) until → a.found ≡ record { premise = None; illegal = None }
    → IsAuditOf (audited_within stream_limit (unrolled until s)) a
begins s until a new followed at came heard walk nothing =
    let p = s.once.scenario.params in
    let specs = s.once.scenario.taps in
    let w = world_in a.watched in
    let is : made stream_limit p specs ≡ w = (unless-Ok (new_faults p specs) (made stream_limit p specs) w new).1 in
    let params : p ≡ w.params = sym (params-within stream_limit p specs w new) in
    let taps : specs ≡ specs_of w = sym (specs-within stream_limit p specs w new) in
    record {
      gone = [];
      course = no_events w;
      from = record { at = record { kept = followed.kept; past = at.past; here = at.here; found = (at.stands, came) }; knows = at.knows };
      followed = followed;
      stands = subst Stands is tt;
      heard = subst (λ q. HasHeard q (specs_of w) [] a.judge) params (subst (λ ts. HasHeard p ts [] a.judge) taps heard);
      premise = ap premise_of nothing;
      illegal = ap (λ (f : Audit). f.illegal) nothing;
      in_time = let clock = ap (λ (v : WalkView). v.clock) walk in omega (arith, clock);
      taps = sym (ap (λ (w : World). length w.taps) is) ∙ length-map specs (stopped_tap p) ∙ sym (ap (λ (v : WalkView). v.taps) walk);
      rest = ap (audited_from (unrolled until s)) new ∙ ap (λ (v : WalkView). audited_of (run (v.until + 1) watched_bus (plan_in v) v.clock (no_events w))) (sym walk);
    }

-- ---- what is found

-- the first of some entries in order
front-in-order : (from : ℕ) (xs ys : List Entry) → IsOrderedFrom from (xs ++ ys) → IsOrderedFrom from xs
front-in-order from [] ys ordered = tt
front-in-order from (x ∷ xs) ys ordered = (ordered.0, ordered.1, front-in-order (entry_begin x) xs ys ordered.2)

-- none of the first of some entries is illegal if none of all is
front-legal : (p : Params) (specs : List TapSpec) (xs ys : List Entry) → IsOrdered (xs ++ ys) → first_illegal p specs (xs ++ ys) ≡ None → (kept_of p specs xs).illegal ≡ None
front-legal p specs xs ys ordered none = by (kept_of p specs xs).illegal refl
  where
    by : (o : Option ℕ) → (kept_of p specs xs).illegal ≡ o → o ≡ None
    by None is = refl
    by (Some place) is =
        let later : first_illegal p specs (xs ++ ys) ≡ Some place =
        sym (judged-as-heard p specs (xs ++ ys) ordered) ∙ ap (λ k. k.illegal) (hears-on p specs (nothing_kept specs) xs ys) ∙ illegal-stays p specs place (kept_of p specs xs) ys is in
        let wrong : None ≡ Some place = sym none ∙ later in
        absurd (none-some place wrong)

-- the trace of a course that has led to a stage is in order
in-order : (w : Watched) (old : List Entry) (c : Course) → IsAt (watched_view w) old c → Stands c.world → IsOrdered (old ++ (world_in w).trace)
in-order w old c at stands =
    let (m, begun, over, rest) = at.past in
    over-in-order (world_in w).params.ttd m 0 (world_in w).now old (world_in w).trace (subst Stands at.here stands) over at.kept.sound.begun

-- from an audit, a course is reached, and more entries are heard
module _ (whole : Option Audited) (s : AuditStream) (i : IsAuditOf whole s) (w : Watched) (judge : Judge) (found : Audit) (after : Course) (more : List Entry)
    (reached : Reaches i.course after)
    (heard : HasHeard i.course.world.params (specs_of i.course.world) (i.gone ++ more) judge)
    (by : IsFoundBy w judge found) where
  same-params : after.world.params ≡ i.course.world.params
  same-params = (reached-same i.course after reached).params

  same-taps : specs_of after.world ≡ specs_of i.course.world
  same-taps = (reached-same i.course after reached).specs

  pub still-heard : HasHeard after.world.params (specs_of after.world) (i.gone ++ more) judge
  still-heard = subst (λ q. HasHeard q (specs_of after.world) (i.gone ++ more) judge) (sym same-params) (subst (λ ts. HasHeard i.course.world.params ts (i.gone ++ more) judge) (sym same-taps) heard)

  pub found-illegal : IsOrdered (i.gone ++ more) → found.illegal ≡ (kept_of after.world.params (specs_of after.world) (i.gone ++ more)).illegal
  found-illegal ordered =
      by.illegal after.world.params (specs_of after.world) (i.gone ++ more) still-heard ordered
      ∙ sym (judged-as-heard after.world.params (specs_of after.world) (i.gone ++ more) ordered)

  pub stays : (rest : List Entry) → premise_of found ≡ after.broken → IsOrdered ((i.gone ++ more) ++ rest) → after.world.trace ≡ (i.gone ++ more) ++ rest → IsOfRun after → StaysFound s.found found
  stays rest premise whole_ordered trace run =
      let ordered = front-in-order 0 (i.gone ++ more) rest whole_ordered in
      record {
        premise = λ b is. premise ∙ broken-stays b i.course after reached (sym i.premise ∙ is);
        illegal = λ place is.
            found-illegal ordered
            ∙ ap (λ q. (kept_of q (specs_of after.world) (i.gone ++ more)).illegal) same-params
            ∙ ap (λ ts. (kept_of i.course.world.params ts (i.gone ++ more)).illegal) same-taps
            ∙ ap (λ k. k.illegal) (hears-on i.course.world.params (specs_of i.course.world) (nothing_kept (specs_of i.course.world)) i.gone more)
            ∙ illegal-stays i.course.world.params (specs_of i.course.world) place (kept_of i.course.world.params (specs_of i.course.world) i.gone) more (sym i.illegal ∙ is);
        legal = λ none.
            found-illegal ordered
            ∙ front-legal after.world.params (specs_of after.world) (i.gone ++ more) rest whole_ordered
            (ap (first_illegal after.world.params (specs_of after.world)) (sym trace) ∙ run-legal after run (sym premise ∙ ap (option_map broken_at) none));
      }

  -- where all entries of the course are heard
  pub all-found : IsAt (watched_view w) i.gone after → more ≡ (world_in w).trace → (fault : Option RunFault)
      → (record { premise = after.broken; illegal = illegal_in after.world; fault = fault } ≡ found_with found fault) × StaysFound s.found found
  all-found at all fault =
      let stands = reached-stands i.course after reached i.stands in
      let ordered : IsOrdered (i.gone ++ more) = subst (λ es. IsOrdered (i.gone ++ es)) (sym all) (in-order w i.gone after at stands) in
      let premise = by.premise after at.found.0 in
      let trace : i.gone ++ more ≡ after.world.trace = ap (λ es. i.gone ++ es) all ∙ sym (ap (λ (w : World). w.trace) at.here) in
      let none = append-nil (i.gone ++ more) in
      let illegal : found.illegal ≡ illegal_in after.world =
      by.illegal after.world.params (specs_of after.world) (i.gone ++ more) still-heard ordered ∙ ap (first_illegal after.world.params (specs_of after.world)) trace in (
        ap (λ b. record { premise = b; illegal = illegal_in after.world; fault = fault }) (sym premise)
            ∙ ap (λ n. record { premise = premise_of found; illegal = n; fault = fault }) (sym illegal),
        stays [] premise (subst IsOrdered (sym none) ordered) (sym trace ∙ sym none) at.found.1,
      )

-- ---- an instant

front-audits : (events : List Event) (o : Option (Result (Course × List Event) (ℕ × (Course × Fault)))) → audited_of (with_front events o) ≡ audited_of o
front-audits events None = refl
front-audits events (Some (Ok end)) = refl
front-audits events (Some (Err stop)) = refl

-- what an instant leaves of the run
instant-rest : (walk : WalkView) (c : Course) (k : ℕ) → k ≡ walk.until + 1 → audited_of (run k watched_bus (plan_in walk) walk.clock c) ≡ audited_of (run (suc walk.until) watched_bus (plan_in walk) walk.clock c)
instant-rest walk c k is = let one : k ≡ suc walk.until = omega (arith, is) in ap (λ n. audited_of (run n watched_bus (plan_in walk) walk.clock c)) one

pub goes : (whole : Option Audited) (s new : AuditStream) (i : IsAuditOf whole s) (mid : Watched) (at : ℕ)
    → GoesOn s.walk i.gone i.course (Some at) (watched_view mid) → IsNext s.walk at
    → length (world_in mid).taps ≡ length (world_in s.watched).taps
    → HasHeard i.course.world.params (specs_of i.course.world) (i.gone ++ past_of mid.bus.trace) new.judge
    → IsFollowed new.watched → LetsGoOf (past_of mid.bus.trace) mid new.watched → new.walk ≡ record s.walk { clock = at } → IsFoundBy new.watched new.judge new.found
    → audits.GoesOn whole s new × StaysFound s.found new.found
goes whole s new i mid at g next taps heard followed lets moved by =
    let walk = s.walk in
    let p = plan_in walk in
    let after = g.after in
    let gone = past_of mid.bus.trace in
    let f = g.from.at in
    let end : IsAtEnd new.watched (i.gone ++ gone) after = lets i.gone after (record { past = f.past; here = f.here; knows = g.from.knows; stands = f.found.0 }) in
    let here : IsAt (watched_view new.watched) (i.gone ++ gone) after = record { kept = followed.kept; past = end.past; here = end.here; found = (end.stands, f.found.1) } in
    let stands = reached-stands i.course after g.reached i.stands in
    let rest = (world_in new.watched).trace in
    let whole_ordered = in-order new.watched (i.gone ++ gone) after here stands in
    let ordered = front-in-order 0 (i.gone ++ gone) rest whole_ordered in
    let premise = by.premise after end.stands in
    let clock = ap (λ (v : WalkView). v.clock) moved in
    let until = ap (λ (v : WalkView). v.until) moved in (
      record {
        audit = record {
          gone = i.gone ++ gone;
          course = after;
          from = record { at = here; knows = end.knows };
          followed = followed;
          stands = stands;
          heard = still-heard whole s i new.watched new.judge new.found after gone g.reached heard by;
          premise = premise;
          illegal = found-illegal whole s i new.watched new.judge new.found after gone g.reached heard by ordered;
          in_time = omega (arith, clock, until, next.in_time);
          taps = sym (ap (λ (w : World). length w.taps) end.here) ∙ ap (λ (w : World). length w.taps) f.here ∙ taps ∙ i.taps ∙ sym (ap (λ (v : WalkView). v.taps) moved);
          rest = i.rest ∙ instant-rest walk i.course (walk.until + 1) refl ∙ ap audited_of (g.rest walk.until) ∙ front-audits g.events (run walk.until watched_bus p at after)
              ∙ ap audited_of (sym (more-instants watched_bus walk.until p at after next.in_time (omega (arith, next.later))))
              ∙ sym (instant-rest (record walk { clock = at }) after (walk.until + 1) refl)
              ∙ ap (λ (v : WalkView). audited_of (run (v.until + 1) watched_bus (plan_in v) v.clock after)) (sym moved);
        };
        until = until;
        later = omega (arith, clock, next.later);
      },
      stays whole s i new.watched new.judge new.found after gone g.reached heard by rest premise whole_ordered (ap (λ (w : World). w.trace) end.here) f.found.1,
    )

pub ends : (whole : Option Audited) (s : AuditStream) (i : IsAuditOf whole s) (mid : Watched) (judge : Judge) (found : Audit)
    → GoesOn s.walk i.gone i.course None (watched_view mid) → HasHeard i.course.world.params (specs_of i.course.world) (i.gone ++ (world_in mid).trace) judge
    → IsFoundBy mid judge found → (whole ≡ Some (found_with found None)) × StaysFound s.found found
ends whole s i mid judge found g heard by =
    let both = all-found whole s i mid judge found g.after (world_in mid).trace g.reached heard by g.from.at refl None in (
      i.rest ∙ instant-rest s.walk i.course (s.walk.until + 1) refl ∙ ap audited_of (g.rest s.walk.until) ∙ ap (λ (a : Audited). Some a) both.0,
      both.1,
    )

pub stops : (whole : Option Audited) (s : AuditStream) (i : IsAuditOf whole s) (mid : Watched) (judge : Judge) (found : Audit) (fault : WorldFault) (clock : ℕ) → clock ≡ s.walk.clock
    → IfSome (model_fault fault) (λ f. StopsIn s.walk i.gone i.course f (watched_view mid)) → HasHeard i.course.world.params (specs_of i.course.world) (i.gone ++ (world_in mid).trace) judge
    → IsFoundBy mid judge found
    → IfSome (model_fault fault) (λ f. (whole ≡ Some (found_with found (Some (At clock f)))) × StaysFound s.found found)
stops whole s i mid judge found fault clock now is heard by =
    stops-so fault (λ f. StopsIn s.walk i.gone i.course f (watched_view mid)) (λ f. (whole ≡ Some (found_with found (Some (At clock f)))) × StaysFound s.found found)
    (λ f g. let both = all-found whole s i mid judge found g.after (world_in mid).trace g.reached heard by g.at refl (Some (At s.walk.clock f)) in (
      i.rest ∙ instant-rest s.walk i.course (s.walk.until + 1) refl ∙ ap audited_of (g.rest s.walk.until) ∙ ap (λ (a : Audited). Some a) both.0
          ∙ ap (λ m. Some (found_with found (Some (At m f)))) (sym now),
      both.1,
    )) is
