-- A report whose history is cut into the instants of a scenario tells of its run on one thread.
use Rattle.std.proofs.Common.{◌≡◌, ◌∙◌, ℕ, zero, suc, List, [], ◌∷◌, take, Some, Ok, refl, sym, ap, subst}
use Rattle.std.specs.Prelude.{All, slice_get}
use Rattle.std.proofs.lemmas.List.{take-map}
use Rattle.std.proofs.lemmas.Option.{none-some, same_Some, slice_get_within, get_or_from_slice_get}
use Rattle.pb_timers.specs.Timers.{Params}
use Rattle.law_model.specs.Medium.{TapSpec}
use Rattle.law_model.specs.Trace.{Entry}
use Rattle.law_model.specs.World.{World, Event, new_world}
use Rattle.law_runs.specs.Headline.{specs_of}
use Rattle.law_runs.specs.Bus.{bus}
use Rattle.law_runs.specs.Histories.{Leads, IsSoAfter}
use Rattle.law_runs.specs.Laws.{Look, AreLooks, IsRunOf}
use Rattle.law_runs.specs.Scenarios.{Scenario, trace_of}
use Rattle.law_runs.proofs.OnTheBus.{history-is-run}
use Rattle.pb_segment.specs.Histories.{Happened, Replays, events_in}
use Rattle.pb_segment.specs.Origins.{Origin, IsMadeOf, origin_of}
use Rattle.pb_segment.specs.Outlooks.{IsOutlookOf}
use Rattle.pb_segment.specs.Reports.{ReportView, IsReport}
use Rattle.pb_segment.specs.declared.outlooks.Outlook.{Outlook}
use Rattle.pb_segment.proofs.NewWorlds.{new_is, made_specs}
use Rattle.pb_fleet.specs.Played.{IsPlayed, begins, looks_of}

-- ---- histories

leads : (h : List Happened) (w v : World) → Replays w h v → Leads bus w (events_in h) v
unfolding Replays Leads
leads [] w v same = same
leads (e ∷ h) w v (u, one, rest) = (u, e.reply, one, leads h u v rest)

first_events : (place : ℕ) (h : List Happened) → events_in (take place h) ≡ take place (events_in h)
first_events place h = sym (take-map (λ (e : Happened). e.event) place h)

-- ---- outlooks

abbrev look_of : Outlook → Look
look_of o = record { place = o.place; dues = o.due; change = o.next_change }

is_so : (first : World) (h : List Happened) (o : Outlook) → IsOutlookOf first h o → IsSoAfter bus first (events_in h) o.place o.due o.next_change
is_so first h o is =
    let front = leads (take o.place h) first is.world is.replays in
    (is.world, subst (λ (es : List Event). Leads bus first es is.world) (first_events o.place h) front, is.shows.due, is.shows.next_change)

outlook_at : (os : List Outlook) (k : ℕ) (look : Look) → slice_get (looks_of os) k ≡ Some look → (o : Outlook) × (slice_get os k ≡ Some o) × (look_of o ≡ look)
outlook_at [] k look at = absurd (none-some look at)
outlook_at (o ∷ os) zero look at = (o, refl, same_Some (look_of o) look at)
outlook_at (o ∷ os) (suc k) look at = outlook_at os k look at

look_at : (first : World) (h : List Happened) (os : List Outlook) (k : ℕ) (look : Look) → All (IsOutlookOf first h) os → slice_get (looks_of os) k ≡ Some look
    → IsSoAfter bus first (events_in h) look.place look.dues look.change
look_at first h os k look all at =
    let found = outlook_at os k look at in
    let one = subst (IsOutlookOf first h) (get_or_from_slice_get os k found.0 found.0 found.1) (all k found.0 (slice_get_within os k found.0 found.1)) in
    subst (λ (l : Look). IsSoAfter bus first (events_in h) l.place l.dues l.change) found.2 (is_so first h found.0 one)

-- ---- reports

made_of : (s : Scenario) (o : Origin) (w : World) → o ≡ begins s → IsMadeOf o w → new_world s.params s.taps ≡ Ok w
made_of s o w same made = subst (λ (x : Origin). IsMadeOf x w) same made

pub is_the_run : (s : Scenario) (r : ReportView) → r.origin ≡ begins s → IsReport r → IsRunOf s (looks_of r.outlooks) (events_in r.history)
    → trace_of s ≡ Some (Ok r.trace)
is_the_run s r origin is run =
    let looks = looks_of r.outlooks in
    let known : AreLooks is.first (events_in r.history) looks = λ k look at. look_at is.first r.history r.outlooks k look is.outlooks at in
    let end = history-is-run s looks is.first is.last (events_in r.history) (made_of s r.origin is.first origin is.made)
    (leads r.history is.first is.last is.replays) known run in
    end ∙ ap (λ (t : List Entry). Some (Ok t)) (sym is.trace)

pub is_played : (s : Scenario) (r : ReportView) → r.origin ≡ begins s → IsReport r → IsPlayed s r
is_played s r origin is = record {
  first = is.first;
  last = is.last;
  made = made_of s r.origin is.first origin is.made;
  replays = is.replays;
  trace = is.trace;
  lead = is.lead;
  promises = is.promises;
}

-- ---- of what a scenario's new world is made

pub begins_so : (s : Scenario) (w : World) → new_world s.params s.taps ≡ Ok w → origin_of w ≡ begins s
begins_so s w new =
    let params : w.params ≡ s.params = ap (λ (z : World). z.params) (sym (new_is s.params s.taps w new)) in
    let specs : specs_of w ≡ s.taps = made_specs (begins s) w new in
    ap (λ (p : Params). record { params = p; specs = specs_of w }) params ∙ ap (λ (l : List TapSpec). record { params = s.params; specs = l }) specs
