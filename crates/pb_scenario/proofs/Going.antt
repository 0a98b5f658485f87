-- An instant that was read is one of a run.
use Rattle.std.proofs.Common.{◌≡◌, ◌∙◌, ℕ, suc, ◌+◌, ◌-◌, ◌<◌, List, [], ◌++◌, length, map, drop, slice_get, Option, Some, None, ap, subst, arith}
use Rattle.std.proofs.Math.Seq.{drop-length}
use Rattle.law_model.specs.World.{Event, Turn}
use Rattle.law_runs.specs.Runs.{Plan, wanted, next, passing}
use Rattle.law_runs.specs.Histories.{Picks, EndsOr, IsRun}
use Rattle.law_runs.specs.Bus.{bus}
use Rattle.law_runs.specs.Laws.{Look, Shows}
use Rattle.pb_scenario.specs.Walks.{WalkView}
use Rattle.pb_scenario.specs.declared.reports.Look as declared
use Rattle.pb_scenario.specs.Looks.{look_of}
use Rattle.pb_scenario.specs.Reading.{Reads, IsCut, Goes}
use Rattle.pb_scenario.proofs.Joined.{reads-join}

pub goes : (p : Plan Event) (looks : List Look) (all : List Event) (now place a b c d : ℕ) (taps : List ℕ) (dues dues_after : List (Option ℕ)) (change change_after moment : Option ℕ)
    → Reads all place (p.early now) a → Shows looks a dues change → Picks (wanted p now 0 dues) taps → Reads all a (map Turn taps) b
    → Reads all b (p.late now) c → Shows looks c dues_after change_after → moment ≡ next p now dues_after change_after → Reads all c (passing bus p now moment) d
    → (left : ℕ) → EndsOr moment d (drop d all) (IsRun left bus p (Shows looks)) → IsRun (suc left) bus p (Shows looks) now place (drop place all)
unfolding IsRun
goes p looks all now place a b c d taps dues dues_after change change_after moment one before picks two three after same four left ends =
    let early = p.early now in
    let turns : List Event = map Turn taps in
    let late = p.late now in
    let t = next p now dues_after change_after in
    let pass = passing bus p now t in
    let last : Reads all c pass d = subst (λ at. Reads all c (passing bus p now at) d) same four in
    let inner : Reads all a (turns ++ late) c = reads-join all turns late a b c two three in
    let done : Reads all place (early ++ (turns ++ late)) c = reads-join all early (turns ++ late) place a c one inner in
    let tail : Reads all b (late ++ pass) d = reads-join all late pass b c d three last in
    let whole : Reads all place (early ++ (turns ++ (late ++ pass))) d = reads-join all early (turns ++ (late ++ pass)) place a d one (reads-join all turns (late ++ pass) a b d two tail) in
    record {
      taps = taps;
      dues = dues;
      change = change;
      dues_after = dues_after;
      change_after = change_after;
      rest = drop d all;
      cut = one.cut ∙ ap (λ es. early ++ es) (two.cut ∙ ap (λ es. turns ++ es) (three.cut ∙ ap (λ es. late ++ es) last.cut));
      known = subst (λ at. Shows looks at dues change) one.count before;
      turned = picks;
      known_after = subst (λ at. Shows looks at dues_after change_after) done.count after;
      goes_on = subst (λ at. EndsOr t at (drop d all) (IsRun left bus p (Shows looks))) whole.count (subst (λ at. EndsOr at d (drop d all) (IsRun left bus p (Shows looks))) same ends);
    }

-- where the rest of a history is a run, all of it is: so the loop has it in mind
pub goes-on : (X : Type 0) (walk : WalkView) (looks : List Look) (all : List Event) (n round now place at next : ℕ) → round < n → (IsCut walk looks all (n - round) now place → X)
    → Goes walk looks all now place (Some at) next → IsCut walk looks all (n - (round + 1)) at next → X
goes-on X walk looks all n round now place at next less so_far one rest =
    let same : suc (n - (round + 1)) ≡ n - round = omega (arith, less) in
    so_far (subst (λ k. IsCut walk looks all k now place) same (one (n - (round + 1)) rest))

pub goes-end : (X : Type 0) (walk : WalkView) (looks : List Look) (all : List Event) (n round now place next : ℕ) → round < n → (IsCut walk looks all (n - round) now place → X)
    → Goes walk looks all now place None next → next ≡ length all → X
goes-end X walk looks all n round now place next less so_far one whole =
    let same : suc (n - (round + 1)) ≡ n - round = omega (arith, less) in
    let none : drop next all ≡ [] = ap (λ k. drop k all) whole ∙ drop-length all in
    so_far (subst (λ k. IsCut walk looks all k now place) same (one (n - (round + 1)) none))

-- an outlook shows what it does at its place
pub shown : (looks : List Look) (k : ℕ) (l : declared.Look) (place : ℕ) → slice_get looks k ≡ Some (look_of l) → l.place ≡ place → Shows looks place l.dues.now l.change
shown looks k l place at here = (k, subst (λ n. slice_get looks k ≡ Some (record { place = n; dues = l.dues.now; change = l.change })) here at)
