-- What holds of each initiator telegram, after the one before it, in a run that keeps the premises: each comes in time.
use Rattle.std.proofs.Common.{◌≡◌, ℕ, ◌+◌, ◌<◌, ◌≤◌, ◌⊎◌, inl, inr, ⊎_elim, Bool, true, false, not, ◌==◌, ◌&&◌, ◌||◌, List, [], ◌∷◌, ◌++◌, length, map, refl, sym, ap, ◌∙◌, subst, arith, Option, Some, None, Ok}
use Rattle.std.specs.Prelude.{slice_get, slice_set, nat_le, find, is_some, is_none, IfSome}
use Rattle.std.specs.List.{list_any}
use Rattle.pb_timers.specs.Timers.{Params}
use Rattle.pb_cycles.specs.RequestFields.{RequestFields}
use Rattle.law_turn.specs.Stations.{pushed, list_for}
use Rattle.law_turn.specs.Turns.{turn_of}
use Rattle.law_model.specs.Trace as trace
use Rattle.law_model.specs.Trace.{Hit, Record, Entry, Sent, goes_before, with_entry, cut_at, begins_from, unheard_at}
use Rattle.law_model.specs.Medium.{TapSpec, Tap, entry_at}
use Rattle.law_model.specs.World as world
use Rattle.law_model.specs.World.{World, Event, Turn, Pass, Damage, Start, Stop, Queue, Noise, Unheard, Reply, Fault, NoSuchTap, Running, NotRunning, NothingInAir, ZeroTime, QueueFull, TraceFull, queue_limit, is_in_air_by, stopped_tap, new_faults, IsNewWorld}
use Rattle.law_model.specs.Step.{sending, with_said, step_turn, told, pass_faults, with_hit, change_first, has_place, started_tap, step_start, halted, step_stop, step_queue, with_noise, is_noisy, step}
use Rattle.law_model.proofs.Worlds.{unless-Ok}
use Rattle.law_runs.specs.Headline.{specs_of}
use Rattle.law_model.proofs.Cases.{by_test}
use Rattle.law_runs.specs.Initiators.{is_initiator, offered_to, last_initiator}
use Rattle.law_runs.specs.Judging.{Stands}
use Rattle.law_runs.specs.Premises.{Waited, Course, waited_by, broken_by, broken_or, followed}
use Rattle.law_token.specs.Actions.{Action, Happens, Sets, AreActions, LeadsTo, HasActed, with_world, course_by, first_broken_by}
use Rattle.law_token.specs.Data.{tap_with, set_data}
use Rattle.law_token.specs.Entries.{ComesBefore, EntryHolds, IsAnother, AllOthers}
use Rattle.law_token.specs.Invariant.{InvariantHolds, Invariant, Settled, Keeps}
use Rattle.law_token.specs.Lists.{Each, In}
use Rattle.law_token.specs.Places.{LeavesTime}
use Rattle.law_token.proofs.bus.Legal.{Begun}
use Rattle.law_token.proofs.bus.Lists.{each_in, each_map, each_both, each_without}
use Rattle.law_token.proofs.bus.NewWorlds.{new_invariant}
use Rattle.law_token.proofs.replies.Actions.{unbroken_by, params_by}
use Rattle.law_token.proofs.replies.Addresses.{SameAddresses, set_addresses, claim_same}
use Rattle.law_token.proofs.replies.Happen.{happen, acted_happen, kept_happen}
use Rattle.law_token.proofs.replies.Kept.{is_set, data_invariant}
use Rattle.law_token.proofs.turn.Records.{begun_each}
use Rattle.law_token.proofs.turn.Trace.{InitBefore, Apart, by_begin, behind}
use Rattle.law_token.proofs.whole.Stays.{runs_then, same_bus}
use Rattle.law_monitor.specs.Actions.{RunsAreTimelyByActions}
use Rattle.law_monitor.specs.Timely.{IsTimely, Successive, RunsAreTimely}
use Rattle.law_monitor.proofs.sources.Worlds.{addresses_by}
use Rattle.law_monitor.proofs.timely.Alike.{Stable, all_alike, timely_stable, alike_hit, alike_noisy, alike_cut, alike_told, alike_lost}
use Rattle.law_monitor.proofs.timely.Folds.{successive_by, successive_map, successive_with_other, successive_with}
use Rattle.law_monitor.proofs.timely.Spoken.{SaidTimely, turn_timely}
use Rattle.law_token.proofs.whole.Induction.{event_invariant}

-- ---- a new telegram is the last

-- where one begins now, the other telegrams of its tap have not
others_without : (x : Record) (es : List Entry) → AllOthers (with_entry (Sent x) es) → Each (Apart x) es
others_without x [] others = tt
others_without x (e ∷ es) others =
    by_test (λ ys. AllOthers ys → Each (Apart x) (e ∷ es)) (goes_before (Sent x) e) (Sent x ∷ e ∷ es) (e ∷ with_entry (Sent x) es)
    (λ _ o. each_map (IsAnother (Sent x)) (Apart x) (e ∷ es) new o.0) (λ _ o. (old e (each_without (IsAnother e) (Sent x) es o.0).0, others_without x es o.1)) others
  where
    new : (e : Entry) → IsAnother (Sent x) e → Apart x e
    new (trace.Noise span) h = tt
    new (Sent r) h = λ tap begin. h (sym tap) (sym begin)

    old : (e : Entry) → IsAnother e (Sent x) → Apart x e
    old (trace.Noise span) h = tt
    old (Sent r) h = h

-- it is a telegram that was over before another began, and had reached its tap
abbrev pub Passed : ℕ → Record → Entry → Type 0
Passed delay x (trace.Noise span) = Unit {0}
Passed delay x (Sent y) = is_initiator y ≡ true → (y.begin < x.begin) × (y.end ≤ x.begin) × ((y.tap ≡ x.tap) ⊎ (y.end + delay ≤ x.begin))

before_one : (p : Params) (now : ℕ) (taps : List Tap) (es : List Entry) (waited : List Waited) (last : Option Record) (x : Record) → x.begin ≡ now → x.begin < x.end → IfSome last (λ r. r.begin ≤ now) → ComesBefore p.ttd last x
    → (e : Entry) → Apart x e → EntryHolds p now taps es waited last e → Passed p.ttd x e
before_one p now taps es waited None x at some begun mine e apart o = absurd mine
before_one p now taps es waited (Some r) x at some begun mine (trace.Noise span) apart o = tt
before_one p now taps es waited (Some r) x at some begun mine (Sent y) apart o = λ init.
    let long = o.some in
    ⊎_elim
    (λ (a : (x.tap ≡ r.tap) × (x.begin ≡ r.begin)).
    let new = a.1 in
    ⊎_elim (λ (b : (y.tap ≡ r.tap) × (y.begin ≡ r.begin)). absurd (apart (b.0 ∙ sym a.0) (b.1 ∙ sym new)))
    (λ (b : (y.end ≤ r.begin) × ((y.end + p.ttd ≤ r.begin) ⊎ ((y.tap ≡ r.tap) × (offered_to y ≡ None)))). let before = b.0 in (
      omega (arith, before, long, new, at),
      omega (arith, before, new),
      ⊎_elim (λ (c : y.end + p.ttd ≤ r.begin). inr (omega (arith, c, new))) (λ (c : (y.tap ≡ r.tap) × (offered_to y ≡ None)). inl (c.0 ∙ sym a.0)) b.1,
    )) (o.order init))
    (λ (a : (x.end ≤ r.begin) × ((x.end + p.ttd ≤ r.begin) ⊎ ((x.tap ≡ r.tap) × (offered_to x ≡ None)))). absurd (let after = a.0 in omega (arith, after, some, at, begun))) mine

last_begun : (p : Params) (now : ℕ) (taps : List Tap) (trace : List Entry) (waited : List Waited) (last : Option Record) → Each (EntryHolds p now taps trace waited last) trace → (l : Option Record) → IfSome l (λ r. In (Sent r) trace) → IfSome l (λ r. r.begin ≤ now)
last_begun p now taps trace waited last all None i = tt
last_begun p now taps trace waited last all (Some r) i = (each_in (EntryHolds p now taps trace waited last) (Sent r) trace all i).begun

-- so all initiator telegrams before it are over
all_before : (w : World) (waited : List Waited) (x : Record) (es : List Entry) → w.trace ≡ with_entry (Sent x) es → x.begin ≡ w.now → is_initiator x ≡ true → InvariantHolds w waited → Each (Passed w.params.ttd x) es
all_before w waited x es is at init inv =
    let all = subst (Each (EntryHolds w.params w.now w.taps w.trace waited inv.last)) is inv.entries in
    let each = each_without (EntryHolds w.params w.now w.taps w.trace waited inv.last) (Sent x) es all in
    each_both (Apart x) (EntryHolds w.params w.now w.taps w.trace waited inv.last) (Passed w.params.ttd x) es
    (before_one w.params w.now w.taps w.trace waited inv.last x at each.0.some (last_begun w.params w.now w.taps w.trace waited inv.last inv.entries inv.last inv.last_in) (each.0.order init))
    (others_without x es (subst AllOthers is inv.others)) each.1

-- ---- an event

-- a property of a telegram on a bus, in a trace, after the one before it
abbrev pub Property : Type 1
Property = Params → List TapSpec → List Entry → Option Record → Record → Type 0

-- each initiator telegram of a trace has it
abbrev pub AllHave : Property → Params → List TapSpec → List Entry → Type 0
AllHave P p specs trace = Successive (P p specs trace) None trace

-- Actions keep such a property, with an invariant of worlds: it stays once it holds, also of other taps with the same
-- addresses, and each initiator telegram that a station says has it.
pub record IsKept (P : Property) (Also : World → Type 0) : Type 0 where
  pub stable : (p : Params) (specs : List TapSpec) → Stable (P p specs)
  pub same : (p : Params) (a b : List TapSpec) (trace : List Entry) (l : Option Record) (r : Record) → SameAddresses a b → P p a trace l r → P p b trace l r
  pub also : (w next : World) (waited all : List Waited) (e : Event) (reply : Reply) → step w e ≡ Ok (next, reply) → Invariant w waited → Invariant next all → Also w → Also next
  pub also_data : (w next : World) (tap : ℕ) (unit : List ℕ) → set_data w tap unit ≡ Ok next → Also w → Also next
  pub said : (w : World) (waited : List Waited) (k : ℕ) (t : Tap) → (kept : Keeps w waited) → slice_get w.taps k ≡ Some t → t.running ≡ true → Settled w → Also w
      → (octets : List ℕ) → (turn_of w.params t.station t.marks w.now).1 ≡ Some octets → is_initiator (sending k octets w.now w.taps) ≡ true → Each (Passed w.params.ttd (sending k octets w.now w.taps)) w.trace
      → P w.params (specs_of w) (with_entry (Sent (sending k octets w.now w.taps)) w.trace) kept.inv.last (sending k octets w.now w.taps)

made : (P : Property) (p : Params) (specs : List TapSpec) (tests : List (Bool × Fault)) (made next : World) (say reply : Reply) → world.unless {X = World × Reply} tests (made, say) ≡ Ok (next, reply) → AllHave P p specs made.trace → AllHave P p specs next.trace
made P p specs tests m next say reply ok t = subst (λ (z : World). AllHave P p specs z.trace) (ap (λ (z : World × Reply). z.0) (unless-Ok tests (m, say) (next, reply) ok).1) t

-- the initiator telegram that a tap says now has it
abbrev SaidHas : Property → World → ℕ → Option Record → List ℕ → Type 0
SaidHas P w k last octets =
    let x = sending k octets w.now w.taps in is_initiator x ≡ true → Each (Passed w.params.ttd x) w.trace → P w.params (specs_of w) (with_entry (Sent x) w.trace) last x

said_kept : (P : Property) → ((p : Params) (specs : List TapSpec) → Stable (P p specs)) → (w : World) (k : ℕ) (ts : List Tap) (last : Option Record) (all : List Waited) (o : Option (List ℕ)) → Stands w → Each (Begun w.now) w.trace → last_initiator w.now w.trace ≡ last
    → IfSome o (SaidHas P w k last) → InvariantHolds (record w { trace = with_said k o w.now w.taps w.trace; taps = ts }) all → AllHave P w.params (specs_of w) w.trace → AllHave P w.params (specs_of w) (with_said k o w.now w.taps w.trace)
said_kept P stable w k ts last all None stands begun is said inv have = have
said_kept P stable w k ts last all (Some octets) stands begun is said inv have = by (is_initiator x) refl
  where
    x : Record
    x = sending k octets w.now w.taps

    Q : Option Record → Record → Type 0
    Q = P w.params (specs_of w) (with_entry (Sent x) w.trace)

    older : Successive Q None w.trace
    older = successive_map (P w.params (specs_of w) w.trace) Q w.now None w.trace ((stable w.params (specs_of w)).inserted w.now (Sent x) w.trace (omega arith)) begun have

    by : (b : Bool) → is_initiator x ≡ b → Successive Q None (with_entry (Sent x) w.trace)
    by false none = successive_with_other Q None (Sent x) w.trace none older
    by true init =
        let before = all_before (record w { trace = with_entry (Sent x) w.trace; taps = ts }) all x w.trace refl refl init inv in
        successive_with Q w.now None x w.trace init begun (behind x w.trace (each_map (Passed w.params.ttd x) (InitBefore w.now) w.trace begins_before before) (by_begin w.trace stands))
        (subst (λ l. Q l x) (sym is) (said init before)) older
      where
        begins_before : (e : Entry) → Passed w.params.ttd x e → InitBefore w.now e
        begins_before (trace.Noise span) h = tt
        begins_before (Sent y) h = λ i. (h i).0

noise_kept : (P : Property) → ((p : Params) (specs : List TapSpec) → Stable (P p specs)) → (p : Params) (specs : List TapSpec) (now m : ℕ) (noisy : Bool) (es : List Entry) → Each (Begun now) es → AllHave P p specs es → AllHave P p specs (with_noise now m noisy es)
noise_kept P stable p specs now m true es begun have = all_alike (P p specs) (stable p specs) now es _ begun (alike_noisy now m es) have
noise_kept P stable p specs now m false es begun have =
    let e = trace.Noise (record { begin = now; end = m }) in
    successive_with_other (P p specs (with_entry e es)) None e es tt
    (successive_map (P p specs es) (P p specs (with_entry e es)) now None es ((stable p specs).inserted now e es (omega arith)) begun have)

step_kept : (P : Property) (Also : World → Type 0) → IsKept P Also → (w next : World) (waited all : List Waited) (e : Event) (reply : Reply) → step w e ≡ Ok (next, reply) → Invariant w waited → Invariant next all → Also w
    → AllHave P w.params (specs_of w) w.trace → AllHave P w.params (specs_of w) next.trace
step_kept P Also keeps w next waited all e reply ok i j more have = on e ok
  where
    p : Params
    p = w.params

    specs : List TapSpec
    specs = specs_of w

    begun : Each (Begun w.now) w.trace
    begun = begun_each p w.now w.taps w.trace waited i.keeps.inv.last w.trace i.keeps.inv.entries

    turn : (k : ℕ) (o : Option Tap) → slice_get w.taps k ≡ o → step_turn w k o ≡ Ok (next, reply) → AllHave P p specs next.trace
    turn k None at ok = absurd cc
    turn k (Some t) at ok =
        let say = turn_of p t.station t.marks w.now in
        let tests : List (Bool × Fault) = (not t.running, NotRunning) ∷ (is_some say.1 && nat_le w.limit (length w.trace), TraceFull) ∷ [] in
        let ts = slice_set w.taps k (record t { station = say.0; marks = [] }) in
        let after : World = record w { trace = with_said k say.1 w.now w.taps w.trace; taps = ts } in
        let answer : Reply = record { now = w.now; spoke = say.1 } in
        let done = unless-Ok tests (after, answer) (next, reply) ok in
        let is : after ≡ next = ap (λ (z : World × Reply). z.0) done.1 in
        let running = runs_then t.running done.0.0 in
        subst (λ (z : World). AllHave P p specs z.trace) is
        (said_kept P keeps.stable w k ts i.keeps.inv.last all say.1 i.settled.stands begun i.keeps.inv.is_last (by say.1 refl)
        (subst (λ z. InvariantHolds z all) (sym is) j.keeps.inv) have)
      where
        by : (o : Option (List ℕ)) → (turn_of p t.station t.marks w.now).1 ≡ o → IfSome o (SaidHas P w k i.keeps.inv.last)
        by None e = tt
        by (Some octets) e = keeps.said w waited k t i.keeps at (runs_then t.running (unless-Ok ((not t.running, NotRunning) ∷ (is_some (turn_of p t.station t.marks w.now).1 && nat_le w.limit (length w.trace), TraceFull) ∷ []) (record w { trace = with_said k (turn_of p t.station t.marks w.now).1 w.now w.taps w.trace; taps = slice_set w.taps k (record t { station = (turn_of p t.station t.marks w.now).0; marks = [] }) }, record { now = w.now; spoke = (turn_of p t.station t.marks w.now).1 }) (next, reply) ok).0.0) i.settled more octets e

    starts : (k : ℕ) (o : Option Tap) → step_start w k o ≡ Ok (next, reply) → AllHave P p specs next.trace
    starts k None ok = absurd cc
    starts k (Some t) ok =
        made P p specs ((t.running || list_any (is_in_air_by p.ttd w.now k) w.trace, Running) ∷ []) (record w { taps = slice_set w.taps k (started_tap w k t) }) next (record { now = w.now; spoke = None }) reply ok have

    stops : (k : ℕ) (o : Option Tap) → step_stop w k o ≡ Ok (next, reply) → AllHave P p specs next.trace
    stops k None ok = absurd cc
    stops k (Some t) ok =
        made P p specs ((not t.running, NotRunning) ∷ []) (record w { trace = map (cut_at w.now k) w.trace; taps = slice_set w.taps k (halted t) }) next (record { now = w.now; spoke = None }) reply ok
        (all_alike (P p specs) (keeps.stable p specs) w.now w.trace (map (cut_at w.now k) w.trace) begun (alike_cut w.now k w.trace) have)

    queues : (k : ℕ) (r : RequestFields) (o : Option Tap) → step_queue w k r o ≡ Ok (next, reply) → AllHave P p specs next.trace
    queues k r None ok = absurd cc
    queues k r (Some t) ok =
        made P p specs ((not (t.running && t.spec.master), NotRunning) ∷ (nat_le queue_limit (length (list_for t.station.cycles.queue r)), QueueFull) ∷ [])
        (record w { taps = slice_set w.taps k (record t { station = pushed t.station r }) }) next (record { now = w.now; spoke = None }) reply ok have

    on : (e : Event) → step w e ≡ Ok (next, reply) → AllHave P p specs next.trace
    on (Turn k) ok = turn k (slice_get w.taps k) refl ok
    on (Pass bits) ok =
        let to = w.now + bits in
        let taps = told p.ttd w.trace w.now to 0 w.taps in
        let es = map (entry_at p.ttd w.taps w.trace w.now to) w.trace in
        made P p specs (pass_faults w bits taps) (record w { now = to; taps = taps; trace = es }) next (record { now = to; spoke = None }) reply ok
        (all_alike (P p specs) (keeps.stable p specs) w.now w.trace es begun (alike_told w.now p.ttd w.taps w.trace w.now to w.trace) have)
    on (Damage k speaker place) ok =
        let in_air = is_in_air_by p.ttd w.now speaker in
        let hit : Hit = record { tap = k; place = place } in
        let es = change_first in_air (with_hit hit) w.trace in
        made P p specs ((is_none (slice_get w.taps k) || is_none (slice_get w.taps speaker), NoSuchTap) ∷ (k == speaker || not (has_place (find in_air w.trace) place), NothingInAir) ∷ [])
        (record w { trace = es }) next (record { now = w.now; spoke = None }) reply ok (all_alike (P p specs) (keeps.stable p specs) w.now w.trace es begun (alike_hit w.now in_air hit w.trace) have)
    on (Start k) ok = starts k (slice_get w.taps k) ok
    on (Stop k) ok = stops k (slice_get w.taps k) ok
    on (Queue k r) ok = queues k r (slice_get w.taps k) ok
    on (Noise bits) ok =
        made P p specs ((bits == 0, ZeroTime) ∷ (not (is_noisy w) && nat_le w.limit (length w.trace), TraceFull) ∷ []) (record w { trace = with_noise w.now (w.now + bits) (is_noisy w) w.trace }) next (record { now = w.now; spoke = None }) reply ok
        (noise_kept P keeps.stable p specs w.now (w.now + bits) (is_noisy w) w.trace begun have)
    on (Unheard k speaker) ok =
        let begins = begins_from w.now speaker in
        let es = change_first begins (unheard_at k) w.trace in
        made P p specs ((is_none (slice_get w.taps k) || is_none (slice_get w.taps speaker), NoSuchTap) ∷ (k == speaker || not (list_any begins w.trace), NothingInAir) ∷ [])
        (record w { trace = es }) next (record { now = w.now; spoke = None }) reply ok (all_alike (P p specs) (keeps.stable p specs) w.now w.trace es begun (alike_lost w.now speaker k w.trace) have)

data_kept : (P : Property) (Also : World → Type 0) → IsKept P Also → (w next : World) (tap : ℕ) (unit : List ℕ) → set_data w tap unit ≡ Ok next → AllHave P w.params (specs_of w) w.trace → AllHave P next.params (specs_of next) next.trace
data_kept P Also keeps w next tap unit ok have =
    let d = is_set w next tap unit ok in
    let x = tap_with d.t unit in
    let made : World = record w { taps = slice_set w.taps tap x } in
    subst (λ (z : World). AllHave P z.params (specs_of z) z.trace) d.is
    (successive_by (P w.params (specs_of w) w.trace) (P w.params (specs_of made) w.trace) None w.trace
    (λ l r. keeps.same w.params (specs_of w) (specs_of made) w.trace l r (λ k. sym (set_addresses w.taps tap d.t x d.here refl k))) have)

-- ---- along a list

acts_kept : (P : Property) (Also : World → Type 0) → IsKept P Also → (actions : List Action) (w next : World) (waited : List Waited) → AreActions actions → LeadsTo w actions next
    → (course_by (record { world = w; waited = waited; broken = None }) actions).broken ≡ None → Invariant w waited → Also w → AllHave P w.params (specs_of w) w.trace → AllHave P next.params (specs_of next) next.trace
acts_kept P Also keeps [] w next waited are leads none i more have = subst (λ z. AllHave P z.params (specs_of z) z.trace) leads have
acts_kept P Also keeps (Happens e ∷ rest) w next waited are leads none i more have =
    let between = leads.0 in
    let reply = leads.1.0 in
    let ok = leads.1.1 in
    let new = waited_by between 0 between.taps in
    let all = new ++ waited in
    let go : (course_by (record { world = between; waited = all; broken = broken_or None between.now (broken_by w e between new all) }) rest).broken ≡ None =
    subst (λ r. (course_by (followed (record { world = w; waited = waited; broken = None }) e r) rest).broken ≡ None) ok none in
    let breaks = unbroken_by between all between.now rest (broken_by w e between new all) go in
    let j = event_invariant w e waited between reply ok are.0 breaks i in
    let same = same_bus w between e reply ok in
    let step = step_kept P Also keeps w between waited all e reply ok i j more have in
    acts_kept P Also keeps rest between next all are.1 leads.2
    (subst (λ o. (course_by (record { world = between; waited = all; broken = broken_or None between.now o }) rest).broken ≡ None) breaks go) j (keeps.also w between waited all e reply ok i j more)
    (subst (λ s. AllHave P between.params s between.trace) (sym same.specs) (subst (λ q. AllHave P q (specs_of w) between.trace) (sym same.params) step))
acts_kept P Also keeps (Sets tap unit ∷ rest) w next waited are leads none i more have =
    let between = leads.0 in
    let c : Course = record { world = w; waited = waited; broken = None } in
    acts_kept P Also keeps rest between next waited are.1 leads.2 (subst (λ r. (course_by (with_world c r) rest).broken ≡ None) leads.1 none)
    (data_invariant w between waited tap unit are.0 leads.1 i) (keeps.also_data w between tap unit leads.1 more) (data_kept P Also keeps w between tap unit leads.1 have)

new_have : (P : Property) (p : Params) (specs : List TapSpec) (w : World) → IsNewWorld p specs w → AllHave P w.params (specs_of w) w.trace
new_have P p specs w ok =
    let new : World = record { params = p; now = 0; trace = []; taps = map (stopped_tap p) specs; limit = ok.0 } in
    subst (λ (z : World). AllHave P z.params (specs_of z) z.trace) (unless-Ok (new_faults p specs) new w ok.1).1 tt

-- so each initiator telegram has it, where the events keep the premises
pub acts_have : (P : Property) (Also : World → Type 0) → IsKept P Also → (p : Params) (specs : List TapSpec) (actions : List Action) (new w : World) → LeavesTime p → HasActed p specs actions new w → first_broken_by new actions ≡ None → Also new
    → AllHave P p specs w.trace
acts_have P Also keeps p specs actions new w time has none more =
    let have = acts_kept P Also keeps actions new w [] has.are has.leads none (new_invariant p specs new time has.fit has.made) more (new_have P p specs new has.made) in
    successive_by (P p (specs_of w) w.trace) (P p specs w.trace) None w.trace (λ l r. keeps.same p (specs_of w) specs w.trace l r (addresses_by p specs actions new w has))
    (subst (λ q. AllHave P q (specs_of w) w.trace) (params_by p specs actions new w has) have)

-- ---- each comes in time

timely_same : (p : Params) (a b : List TapSpec) (trace : List Entry) (l : Option Record) (r : Record) → SameAddresses a b → IsTimely p a trace l r → IsTimely p b trace l r
timely_same p a b trace l r same (inl c) = inl (sym (claim_same p a b trace r same) ∙ c)
timely_same p a b trace l r same (inr t) = inr t

timely_kept : IsKept IsTimely (λ w. Unit {0})
timely_kept = record {
  stable = timely_stable;
  same = timely_same;
  also = λ w next waited all e reply ok i j more. tt;
  also_data = λ w next tap unit ok more. tt;
  said = λ w waited k t kept here running set more octets says init before. subst (λ o. IfSome o (SaidTimely w k kept.inv.last)) says (turn_timely w waited k t kept here running set) init;
}

pub timely_by : RunsAreTimelyByActions
timely_by p specs actions new w time has none = acts_have IsTimely (λ w. Unit {0}) timely_kept p specs actions new w time has none tt

pub runs_are_timely : RunsAreTimely
runs_are_timely p specs events new w time run none = timely_by p specs (happen events) new w time (acted_happen p specs events new w run) (kept_happen new events none)
