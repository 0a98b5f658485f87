-- In every run, each token and request has its speaker's address as its source.
use Rattle.std.proofs.Common.{◌≡◌, ℕ, zero, suc, ◌<◌, ◌==◌, Bool, true, false, List, [], ◌∷◌, map, refl, sym, ap, ◌∙◌, subst, Option, Some, None, Ok}
use Rattle.std.specs.Prelude.{slice_get, slice_set, IfSome}
use Rattle.std.proofs.lemmas.Option.{none-some, same_Some}
use Rattle.pb_telegram.specs.Faults.{octets, fault_of}
use Rattle.pb_telegram.specs.declared.chars.RxChar.TheVariants.{Good}
use Rattle.pb_telegram.specs.declared.faults.TelegramFault.{TelegramFault}
use Rattle.pb_timers.specs.Timers.{Params}
use Rattle.law_turn.specs.Arrivals.{arrival_unless}
use Rattle.law_turn.specs.Laws.{are_initiator, Fits}
use Rattle.law_turn.specs.Turns.{turn_of}
use Rattle.law_model.specs.Trace.{Hit, Record, Entry, Sent, Noise, cut_at, cut_end, unheard_at}
use Rattle.law_model.specs.Medium.{TapSpec, Tap, ends_between, heard_by, entry_at, reaches}
use Rattle.law_model.specs.World as world
use Rattle.law_model.specs.World.{World, Event, Turn, Pass, Damage, Start, Stop, Queue, Unheard, Reply, stopped_tap, new_faults, IsNewWorld}
use Rattle.law_model.specs.Step.{sending, with_hit, step}
use Rattle.law_model.specs.Laws.{AllFit, IsEvent}
use Rattle.law_model.proofs.Cases.{by_test}
use Rattle.law_model.proofs.Worlds.{unless-Ok}
use Rattle.law_runs.specs.Headline.{specs_of}
use Rattle.law_runs.specs.Initiators.{telegram_of, initiates, is_initiator}
use Rattle.law_runs.specs.Legality.{address_at}
use Rattle.law_token.specs.Actions.{Action, Happens, Sets, AreActions, LeadsTo, HasActed}
use Rattle.law_token.specs.Data.{tap_with, set_data}
use Rattle.law_token.specs.Invariant.{Settled}
use Rattle.law_token.specs.Lists.{Each, EachTap}
use Rattle.law_token.proofs.bus.Lists.{each_map, at_set}
use Rattle.law_token.proofs.replies.Actions.{data_stations, same_stations}
use Rattle.law_token.proofs.replies.Addresses.{SameAddresses, set_addresses}
use Rattle.law_token.proofs.replies.Kept.{is_set, data_settled}
use Rattle.law_token.proofs.turn.Meaning.{arrival_spelled, reply_means}
use Rattle.law_token.proofs.turn.Records.{address_there}
use Rattle.law_token.proofs.whole.Stays.{Stable, step_after, same_bus, settled_new, settled_step, new_params}
use Rattle.pb_monitor.specs.Captures as captures
use Rattle.pb_monitor.specs.Meanings.{source_of}
use Rattle.pb_monitor.specs.Promises.{IsBySource}
use Rattle.law_monitor.proofs.sources.Opened.{Names, names-turn}
use Rattle.law_monitor.proofs.sources.Said.{Sources, turn-source}
use Rattle.law_monitor.proofs.sources.Entries.{Lasting, step_entries}

-- ---- one telegram

-- the source that octets have is the source that is heard
source_said : (n : ℕ) (x : Record) → Sources n x.octets → is_initiator x ≡ true → source_of (telegram_of x) ≡ n
source_said n x from init = by (fault_of (map Good x.octets)) refl
  where
    asks : fault_of (map Good x.octets) ≡ None → (b : Bool) → are_initiator x.octets ≡ b → are_initiator x.octets ≡ true
    asks good true e = e
    asks good false e = absurd (let w : false ≡ true = sym (reply_means x e good) ∙ init in cc)

    by : (o : Option TelegramFault) → fault_of (map Good x.octets) ≡ o → source_of (telegram_of x) ≡ n
    by (Some fault) e = absurd (let w : false ≡ true = sym (ap (λ o. initiates (arrival_unless o (octets (map Good x.octets)))) e) ∙ init in cc)
    by None e = ap source_of (arrival_spelled x.octets e) ∙ from (asks e (are_initiator x.octets) refl)

-- whatever is done to a telegram, its octets and its speaker stay
lasting_sources : (specs : List TapSpec) → Lasting (IsBySource specs)
lasting_sources specs = record { noise = λ span. tt; hit = λ h e. hit h e; cut = λ now tap e. cut now tap e; told = λ delay taps trace from to e. told delay taps trace from to e; lost = λ tap e. lost tap e }
  where
    hit : (h : Hit) (e : Entry) → IsBySource specs e → IsBySource specs (with_hit h e)
    hit h (Noise span) by = tt
    hit h (Sent r) by = by

    cut : (now tap : ℕ) (e : Entry) → IsBySource specs e → IsBySource specs (cut_at now tap e)
    cut now tap (Noise span) by = tt
    cut now tap (Sent r) by = by_test (λ (x : Record). IsBySource specs (Sent x)) (r.tap == tap) (record r { end = cut_end now r }) r (λ _. by) (λ _. by)

    told : (delay : ℕ) (taps : List Tap) (trace : List Entry) (from to : ℕ) (e : Entry) → IsBySource specs e → IsBySource specs (entry_at delay taps trace from to e)
    told delay taps trace from to (Noise span) by = tt
    told delay taps trace from to (Sent r) by =
        by_test (IsBySource specs) (ends_between from to (reaches delay r)) (Sent (record r { heard = heard_by delay trace r 0 taps r.heard })) (Sent r) (λ _. by) (λ _. by)

    lost : (tap : ℕ) (e : Entry) → IsBySource specs e → IsBySource specs (unheard_at tap e)
    lost tap (Noise span) by = tt
    lost tap (Sent r) by = by

-- ---- worlds

abbrev NamesTap : Tap → Type 0
NamesTap t = Names t.spec.address t.station

names_stable : (p : Params) → Stable p (λ r. Unit {0}) NamesTap
names_stable p = record {
  marks = λ t ms h. h;
  turn = λ t now run h. names-turn t.spec.address p t.station t.marks now h;
  start = λ w k t same h. (h.0, tt);
  stop = λ t h. h;
  queue = λ t r is h. h;
}

names_step : (w next : World) (e : Event) (reply : Reply) → step w e ≡ Ok (next, reply) → EachTap NamesTap w.taps → EachTap NamesTap next.taps
names_step w next (Turn tap) reply ok all = (step_after (λ r. Unit {0}) NamesTap w next (names_stable w.params) (Turn tap) reply tt ok all).1
names_step w next (Pass bits) reply ok all = (step_after (λ r. Unit {0}) NamesTap w next (names_stable w.params) (Pass bits) reply tt ok all).1
names_step w next (Damage tap speaker place) reply ok all = (step_after (λ r. Unit {0}) NamesTap w next (names_stable w.params) (Damage tap speaker place) reply tt ok all).1
names_step w next (Start tap) reply ok all = (step_after (λ r. Unit {0}) NamesTap w next (names_stable w.params) (Start tap) reply tt ok all).1
names_step w next (Stop tap) reply ok all = (step_after (λ r. Unit {0}) NamesTap w next (names_stable w.params) (Stop tap) reply tt ok all).1
names_step w next (Queue tap r) reply ok all = (step_after (λ r. Unit {0}) NamesTap w next (names_stable w.params) (Queue tap r) reply tt ok all).1
names_step w next (world.Noise bits) reply ok all = (step_after (λ r. Unit {0}) NamesTap w next (names_stable w.params) (world.Noise bits) reply tt ok all).1
names_step w next (Unheard tap speaker) reply ok all = (step_after (λ r. Unit {0}) NamesTap w next (names_stable w.params) (Unheard tap speaker) reply tt ok all).1

record Sourced (w : World) : Type 0 where
  settled : Settled w
  names : EachTap NamesTap w.taps
  entries : Each (IsBySource (specs_of w)) w.trace

step_sourced : (w next : World) (e : Event) (reply : Reply) → w.params.hsa < 127 → IsEvent e → step w e ≡ Ok (next, reply) → Sourced w → Sourced next
step_sourced w next e reply highest is ok s = record {
  settled = settled_step w next e reply highest is ok s.settled;
  names = names_step w next e reply ok s.names;
  entries = subst (λ specs. Each (IsBySource specs) next.trace) (sym (same_bus w next e reply ok).specs)
      (step_entries (IsBySource (specs_of w)) (lasting_sources (specs_of w)) w next e reply ok (λ tap t at run. said tap t at (turn_of w.params t.station t.marks w.now).1 (turn tap t at)) s.entries);
}
  where
    turn : (tap : ℕ) (t : Tap) → slice_get w.taps tap ≡ Some t → IfSome (turn_of w.params t.station t.marks w.now).1 (λ octets. Sources t.spec.address octets)
    turn tap t at =
        let stays = s.settled.stays tap t at in
        turn-source t.spec.address w.params t.station t.marks w.now (subst (λ n. n < 127) stays.address stays.below) (s.names tap t at) stays.sayable.0 stays.sayable.1

    said : (tap : ℕ) (t : Tap) → slice_get w.taps tap ≡ Some t → (o : Option (List ℕ)) → IfSome o (λ octets. Sources t.spec.address octets) → IfSome o (λ octets. IsBySource (specs_of w) (Sent (sending tap octets w.now w.taps)))
    said tap t at None from = tt
    said tap t at (Some octets) from = λ init. source_said t.spec.address (sending tap octets w.now w.taps) from init ∙ sym (address_there w.taps tap t at)

-- other data leave its octets and its addresses
entries_same : (a b : List TapSpec) → SameAddresses a b → (e : Entry) → IsBySource a e → IsBySource b e
entries_same a b same (Noise span) by = tt
entries_same a b same (Sent r) by = λ init. by init ∙ same r.tap

data_sourced : (w next : World) (tap : ℕ) (unit : List ℕ) → Fits unit → set_data w tap unit ≡ Ok next → Sourced w → Sourced next
data_sourced w next tap unit fits ok s =
    let d = is_set w next tap unit ok in
    let x = tap_with d.t unit in
    let made : World = record w { taps = slice_set w.taps tap x } in
    record {
      settled = data_settled w next tap unit fits ok s.settled;
      names = subst (λ (z : World). EachTap NamesTap z.taps) d.is (at_set (λ k u. NamesTap u) w.taps tap x (s.names tap d.t d.here) (λ k u ne h. s.names k u h));
      entries = subst (λ (z : World). Each (IsBySource (specs_of z)) z.trace) d.is
          (each_map (IsBySource (specs_of w)) (IsBySource (specs_of made)) w.trace (entries_same (specs_of w) (specs_of made) (λ k. sym (set_addresses w.taps tap d.t x d.here refl k))) s.entries);
    }

acts_sourced : (actions : List Action) (w next : World) → w.params.hsa < 127 → AreActions actions → LeadsTo w actions next → Sourced w → Sourced next
acts_sourced [] w next highest are leads s = subst Sourced leads s
acts_sourced (Happens e ∷ more) w next highest are leads s =
    let one = same_bus w leads.0 e leads.1.0 leads.1.1 in
    acts_sourced more leads.0 next (subst (λ (z : Params). z.hsa < 127) (sym one.params) highest) are.1 leads.2 (step_sourced w leads.0 e leads.1.0 highest are.0 leads.1.1 s)
acts_sourced (Sets tap unit ∷ more) w next highest are leads s =
    let one = data_stations w leads.0 tap unit leads.1 in
    acts_sourced more leads.0 next (subst (λ (z : Params). z.hsa < 127) (sym one.params) highest) are.1 leads.2 (data_sourced w leads.0 tap unit are.0 leads.1 s)

-- ---- runs

new_names : (p : Params) (specs : List TapSpec) → EachTap NamesTap (map (stopped_tap p) specs)
new_names p [] k t at = absurd (none-some t at)
new_names p (spec ∷ specs) zero t at = subst NamesTap (same_Some (stopped_tap p spec) t at) (refl, tt)
new_names p (spec ∷ specs) (suc k) t at = new_names p specs k t at

new_sourced : (p : Params) (specs : List TapSpec) (w : World) → p.hsa < 127 → AllFit specs → IsNewWorld p specs w → Sourced w
new_sourced p specs w highest fit made =
    let new : World = record { params = p; now = 0; trace = []; taps = map (stopped_tap p) specs; limit = made.0 } in
    let is : new ≡ w = (unless-Ok (new_faults p specs) new w made.1).1 in
    record {
      settled = settled_new p specs w highest fit made;
      names = subst (λ (z : World). EachTap NamesTap z.taps) is (new_names p specs);
      entries = subst (λ (z : World). Each (IsBySource (specs_of z)) z.trace) is tt;
    }

specs_stopped : (p : Params) (specs : List TapSpec) → map (λ (t : Tap). t.spec) (map (stopped_tap p) specs) ≡ specs
specs_stopped p [] = refl
specs_stopped p (spec ∷ specs) = ap (λ l. spec ∷ l) (specs_stopped p specs)

-- actions leave the taps of the bus their addresses
pub addresses_by : (p : Params) (specs : List TapSpec) (actions : List Action) (new w : World) → HasActed p specs actions new w → SameAddresses (specs_of w) specs
addresses_by p specs actions new w has tap =
    let made : World = record { params = p; now = 0; trace = []; taps = map (stopped_tap p) specs; limit = has.made.0 } in
    (same_stations actions new w has.leads).addresses tap
    ∙ ap (λ s. address_at s tap) (sym (ap specs_of (unless-Ok (new_faults p specs) made new has.made.1).1) ∙ specs_stopped p specs)

all_each : (P : Entry → Type 0) (es : List Entry) → Each P es → captures.All P es
all_each P [] all = tt
all_each P (e ∷ es) all = (all.0, all_each P es all.1)

pub sources_by : (p : Params) (specs : List TapSpec) (actions : List Action) (new w : World) → p.hsa < 127 → HasActed p specs actions new w → captures.All (IsBySource specs) w.trace
sources_by p specs actions new w highest has =
    let low : new.params.hsa < 127 = subst (λ (z : Params). z.hsa < 127) (sym (new_params p specs new has.made)) highest in
    let s = acts_sourced actions new w low has.are has.leads (new_sourced p specs new highest has.fit has.made) in
    all_each (IsBySource specs) w.trace (each_map (IsBySource (specs_of w)) (IsBySource specs) w.trace (entries_same (specs_of w) specs (addresses_by p specs actions new w has)) s.entries)
