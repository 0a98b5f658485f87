-- A watched bus comes on by actions.
use Rattle.std.proofs.Common.{◌≡◌, ◌∙◌, ℕ, ◌<◌, ◌≤◌, ap, sym, subst, refl, List, [], ◌∷◌, ◌++◌, length, Option, Some, None, Result, Ok}
use Rattle.std.specs.Prelude.{IfSome, slice_get, slice_set}
use Rattle.std.specs.List.{list_any}
use Rattle.std.specs.Option.{option_map}
use Rattle.std.proofs.lemmas.List.{length-set}
use Rattle.pb_timers.specs.Timers.{Params}
use Rattle.law_model.specs.Behind.{behind, IsPast}
use Rattle.law_model.specs.Medium.{Tap}
use Rattle.law_model.specs.Trace.{Entry}
use Rattle.law_model.specs.World.{World, Fault}
use Rattle.law_model.specs.Step.{world_after}
use Rattle.law_runs.specs.Headline.{specs_of}
use Rattle.law_runs.specs.Judging.{Stands, StandsFrom}
use Rattle.law_runs.specs.Legality.{address_at}
use Rattle.law_runs.specs.Premises.{Course, meets}
use Rattle.law_runs.specs.Watching as runs
use Rattle.law_runs.specs.Watching.{StandsFor, meets_last}
use Rattle.law_runs.proofs.Ordered.{stands-step}
use Rattle.law_streams.specs.Audits.{no_events}
use Rattle.law_token.specs.Actions.{Action, Happens, Sets, IsAction, ActsTo, LeadsTo, with_world, acted, course_by}
use Rattle.law_token.specs.Data.{tap_with, set_data_at, set_data}
use Rattle.law_token.proofs.replies.Addresses.{SameAddresses, namesakes_same, set_addresses}
use Rattle.law_token.proofs.whole.Stays.{same_bus}
use Rattle.law_live.specs.Actions.{ActedTo}
use Rattle.law_live.proofs.Acting.{actions_lead_on}
use Rattle.pb_world.specs.Acted.{FindsActed, HasActed, ActsOnBy, course_from}
use Rattle.pb_world.specs.Auditing.{broken_at, IsLegalIfKept}
use Rattle.pb_world.specs.Premises.{Knows, watched_of}
use Rattle.pb_world.specs.Watched.{IsAtEnd, IsFollowed, world_in}
use Rattle.pb_world.specs.declared.findings.Audit.{Audit}
use Rattle.pb_world.specs.declared.premises.Watch.{Watch}
use Rattle.pb_world.specs.declared.watched.Watched.{Watched}
use Rattle.pb_world.proofs.Behind.{behind-none, steps-behind}

-- ---- other data

-- they leave the clock and the parameters
same-clock : (w next : World) (tap : ℕ) (unit : List ℕ) → set_data w tap unit ≡ Ok next → (next.now ≡ w.now) × (next.params ≡ w.params) × (next.trace ≡ w.trace)
same-clock w next tap unit ok = by (slice_get w.taps tap) ok
  where
    by : (o : Option Tap) → set_data_at w tap unit o ≡ Ok next → (next.now ≡ w.now) × (next.params ≡ w.params) × (next.trace ≡ w.trace)
    by None ok = absurd cc
    by (Some t) ok =
        let made : World = record w { taps = slice_set w.taps tap (tap_with t unit) } in
        let same : made ≡ next = cc in
        (sym (ap (λ (z : World). z.now) same), sym (ap (λ (z : World). z.params) same), sym (ap (λ (z : World). z.trace) same))

-- and the address of each tap
set-addresses : (w next : World) (tap : ℕ) (unit : List ℕ) → set_data w tap unit ≡ Ok next → SameAddresses (specs_of next) (specs_of w)
set-addresses w next tap unit ok = by (slice_get w.taps tap) refl ok
  where
    by : (o : Option Tap) → slice_get w.taps tap ≡ o → set_data_at w tap unit o ≡ Ok next → SameAddresses (specs_of next) (specs_of w)
    by None at ok = absurd cc
    by (Some t) at ok =
        let made : World = record w { taps = slice_set w.taps tap (tap_with t unit) } in
        let same : made ≡ next = cc in
        subst (λ (x : World). SameAddresses (specs_of x) (specs_of w)) same (set_addresses w.taps tap t (tap_with t unit) at refl)

-- they change behind what was let go
pub sets-behind : (gone : List Entry) (w next : World) (tap : ℕ) (unit : List ℕ) → set_data w tap unit ≡ Ok next → set_data (behind gone w) tap unit ≡ Ok (behind gone next)
sets-behind gone w next tap unit ok = by (slice_get w.taps tap) ok
  where
    by : (o : Option Tap) → set_data_at w tap unit o ≡ Ok next → set_data_at (behind gone w) tap unit o ≡ Ok (behind gone next)
    by None ok = absurd cc
    by (Some t) ok =
        let made : World = record w { taps = slice_set w.taps tap (tap_with t unit) } in
        let same : made ≡ next = cc in
        ap (λ (z : World). Ok (behind gone z)) same

-- and leave what was let go past
pub sets-past : (gone : List Entry) (w next : World) (tap : ℕ) (unit : List ℕ) → set_data w tap unit ≡ Ok next → IsPast gone w → IsPast gone next
sets-past gone w next tap unit ok past = by (slice_get w.taps tap) ok
  where
    by : (o : Option Tap) → set_data_at w tap unit o ≡ Ok next → IsPast gone next
    by None ok = absurd cc
    by (Some t) ok =
        let made : World = record w { taps = slice_set w.taps tap (tap_with t unit) } in
        let same : made ≡ next = cc in
        subst (IsPast gone) same past

-- a watch represents them as it is
pub stands-set : (v : runs.Watched) (c : Course) (w next : World) (tap : ℕ) (unit : List ℕ) → c.world ≡ w → set_data w tap unit ≡ Ok next → StandsFor v c → StandsFor v (acted c (Sets tap unit))
stands-set v c w next tap unit at ok s =
    let done : set_data c.world tap unit ≡ Ok next = ap (λ (x : World). set_data x tap unit) at ∙ ok in
    let same = same-clock c.world next tap unit done in
    let after : StandsFor v (record c { world = next }) = record {
      broken = s.broken;
      before = subst (λ (n : ℕ). IfSome v.waited (λ last. last.moment ≤ n)) (sym same.0) s.before;
      decides = λ none one le.
          subst (λ (q : Params). list_any (meets q.ttd one) c.waited ≡ meets_last q.ttd one v.waited) (sym same.1)
          (s.decides none one (subst (λ (n : ℕ). n ≤ one.moment) same.0 le));
    } in
    subst (λ r. StandsFor v (with_world c r)) (sym done) after

pub knows-set : (v : Watch) (w next : World) (tap : ℕ) (unit : List ℕ) → set_data w tap unit ≡ Ok next → Knows v w → Knows v next
knows-set v w next tap unit ok k = by (slice_get w.taps tap) refl ok
  where
    by : (o : Option Tap) → slice_get w.taps tap ≡ o → set_data_at w tap unit o ≡ Ok next → Knows v next
    by None at ok = absurd cc
    by (Some t) at ok =
        let taps = slice_set w.taps tap (tap_with t unit) in
        let made : World = record w { taps = taps } in
        let same : made ≡ next = cc in
        let many : length taps ≡ length w.taps = length-set w.taps tap (tap_with t unit) in
        subst (Knows v) same (record {
          silent = λ i there. k.silent i (subst (λ n. i < n) many there);
          oldest = λ i there. k.oldest i (subst (λ n. i < n) many there);
          namesakes = k.namesakes ∙ sym (namesakes_same w.taps tap t (tap_with t unit) at refl refl);
        })

pub at-end-set : (w next : Watched) (tap : ℕ) (unit : List ℕ) → next.watch ≡ w.watch → set_data (world_in w) tap unit ≡ Ok (world_in next)
    → (gone : List Entry) (c : Course) → IsAtEnd w gone c → IsAtEnd next gone (acted c (Sets tap unit))
at-end-set w next tap unit watch ok gone c at =
    let before = behind gone (world_in w) in
    let after = behind gone (world_in next) in
    let sets : set_data before tap unit ≡ Ok after = sets-behind gone (world_in w) (world_in next) tap unit ok in
    record {
      past = sets-past gone (world_in w) (world_in next) tap unit ok at.past;
      here = ap (λ (r : Result World Fault). (with_world c r).world) (ap (λ (x : World). set_data x tap unit) at.here ∙ sets);
      knows = subst (λ (v : Watch). Knows v after) (sym watch) (knows-set w.watch before after tap unit sets at.knows);
      stands = subst (λ (v : Watch). StandsFor (watched_of v) (acted c (Sets tap unit))) (sym watch) (stands-set (watched_of w.watch) c before after tap unit at.here sets at.stands);
    }

-- ---- one action more

course-acted : (c : Course) (actions : List Action) (a : Action) → course_by c (actions ++ a ∷ []) ≡ acted (course_by c actions) a
course-acted c [] a = refl
course-acted c (x ∷ actions) a = course-acted (acted c x) actions a

-- it leads on behind what was let go
acts-behind : (gone : List Entry) (w next : World) (a : Action) → IsPast gone w → ActsTo w a next → ActsTo (behind gone w) a (behind gone next)
acts-behind gone w next (Happens e) past acts = (acts.0, steps-behind gone w next e acts.0 past acts.1)
acts-behind gone w next (Sets tap unit) past acts = sets-behind gone w next tap unit acts

pub acts-by : (w next : Watched) (a : Action) → IsFollowed next → IsAction a → ActsTo (world_in w) a (world_in next)
    → ((gone : List Entry) (c : Course) → IsAtEnd w gone c → IsAtEnd next gone (acted c a)) → ActsOnBy w a next
acts-by w next a followed is acts on gone start actions came =
    let course = course_from start actions in
    let more : course_from start (actions ++ a ∷ []) ≡ acted course a = course-acted (course_from start []) actions a in
    let before = behind gone (world_in w) in
    let after = behind gone (world_in next) in
    record {
      followed = followed;
      lead = (actions_lead_on before after (a ∷ []) (is, tt) (after, acts-behind gone (world_in w) (world_in next) a came.at.past acts, refl) start actions came.lead).0;
      at = subst (IsAtEnd next gone) (sym more) (on gone course came.at);
    }

-- to a new one nothing has happened
pub acts-new : (w : Watched) → IsFollowed w → ActedTo (world_in w) [] (world_in w) → IsAtEnd w [] (no_events (world_in w)) → HasActed w [] (world_in w) []
acts-new w followed lead at = record { followed = followed; lead = subst (ActedTo (world_in w) []) (sym (behind-none (world_in w))) lead; at = at }

-- ---- what actions leave

-- they leave the parameters, and the address of each tap
pub acted-same : (actions : List Action) (w next : World) → LeadsTo w actions next → (next.params ≡ w.params) × SameAddresses (specs_of next) (specs_of w)
acted-same [] w next leads = (ap (λ (x : World). x.params) (sym leads), λ tap. ap (λ (x : World). address_at (specs_of x) tap) (sym leads))
acted-same (Happens e ∷ more) w next (between, acts, leads) =
    let one = same_bus w between e acts.0 acts.1 in
    let (params, addresses) = acted-same more between next leads in
    (params ∙ one.params, λ tap. addresses tap ∙ ap (λ specs. address_at specs tap) one.specs)
acted-same (Sets tap unit ∷ more) w next (between, acts, leads) =
    let (params, addresses) = acted-same more between next leads in
    (params ∙ (same-clock w between tap unit acts).1, λ k. addresses k ∙ set-addresses w between tap unit acts k)

-- ---- the trace

-- it stands by begin
pub acts-in-order : (actions : List Action) (w next : World) → LeadsTo w actions next → Stands w → Stands next
acts-in-order [] w next leads stands = subst Stands leads stands
acts-in-order (Happens e ∷ more) w next (between, acts, leads) stands =
    acts-in-order more between next leads (subst Stands (ap (world_after w) acts.1) (stands-step w e stands))
acts-in-order (Sets tap unit ∷ more) w next (between, acts, leads) stands =
    acts-in-order more between next leads (subst (StandsFrom 0) (sym (same-clock w between tap unit acts).2) stands)

pub legal-by-actions : (start : World) (actions : List Action) (found : Audit) → FindsActed start actions found → IsLegalIfKept found
legal-by-actions start actions found finds none = finds.3 ∙ (finds.4.token (sym finds.2 ∙ ap (option_map broken_at) none)).legal
