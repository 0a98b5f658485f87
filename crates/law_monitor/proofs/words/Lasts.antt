-- The last initiator telegram that had begun by a moment stays it, whatever comes later.
use Rattle.std.proofs.Common.{◌≡◌, ℕ, ◌+◌, ◌<◌, ◌≤◌, inl, inr, ⊎_elim, Bool, true, false, if◌then◌else◌, not, ◌==◌, ◌&&◌, ◌||◌, List, [], ◌∷◌, length, map, refl, sym, ap, ◌∙◌, subst, arith, Option, Some, None, Ok}
use Rattle.std.specs.Prelude.{slice_get, slice_set, nat_le, find, is_some, is_none}
use Rattle.std.specs.List.{list_any}
use Rattle.std.proofs.lemmas.Bool.{lt-leb, cases_lt}
use Rattle.pb_telegram.specs.declared.chars.RxChar.TheVariants.{Good}
use Rattle.law_turn.specs.Arrivals.{arrival_of}
use Rattle.law_turn.specs.Stations.{pushed, list_for}
use Rattle.law_turn.specs.Turns.{turn_of}
use Rattle.law_model.specs.Trace as trace
use Rattle.law_model.specs.Trace.{Hit, Record, Entry, Sent, entry_begin, goes_before, with_entry, cut_at, begins_from, unheard_at}
use Rattle.law_model.specs.Medium.{Tap, entry_at}
use Rattle.law_model.specs.World as world
use Rattle.law_model.specs.World.{World, Event, Turn, Pass, Damage, Start, Stop, Queue, Noise, Unheard, Reply, Fault, NoSuchTap, Running, NotRunning, NothingInAir, ZeroTime, QueueFull, TraceFull, queue_limit, is_in_air_by}
use Rattle.law_model.specs.Step.{sending, with_said, step_turn, told, pass_faults, with_hit, change_first, has_place, started_tap, step_start, halted, step_stop, step_queue, with_noise, is_noisy, step}
use Rattle.law_model.proofs.Cases.{by_test}
use Rattle.law_model.proofs.Worlds.{unless-Ok}
use Rattle.law_runs.specs.Initiators.{initiates, is_initiator, later_record, last_from}
use Rattle.law_token.specs.Actions.{Action, Happens, Sets, ActsTo, LeadsTo}
use Rattle.law_token.specs.Lists.{Each}
use Rattle.law_token.proofs.bus.Lists.{each_without}
use Rattle.law_token.proofs.replies.Kept.{is_set}
use Rattle.law_monitor.proofs.hearing.Ears.{Pairs, pairs_back}
use Rattle.law_monitor.proofs.timely.Alike.{AlikeRecord, Alike, alike_hit, alike_noisy, alike_cut, alike_told, alike_lost}
use Rattle.law_monitor.proofs.timely.Folds.{Both}
use Rattle.law_runs.proofs.Watching.{later-world}

-- no telegram begins at a moment
abbrev pub NotAt : ℕ → Entry → Type 0
NotAt t (trace.Noise span) = Unit {0}
NotAt t (Sent r) = r.begin ≡ t → ⊥

abbrev pub SameLast : ℕ → List Entry → List Entry → Type 0
SameLast t es ys = (l k : Option Record) → Both (AlikeRecord t) l k → Both (AlikeRecord t) (last_from l t es) (last_from k t ys)

-- from one trace to another, in which none begins then
abbrev pub Leads : ℕ → List Entry → List Entry → Type 0
Leads t es ys = Each (NotAt t) ys → Each (NotAt t) es × SameLast t es ys

-- ---- entries that are alike

sooner : (now t : ℕ) (r y : Record) → t ≤ now → AlikeRecord now r y → AlikeRecord t r y
sooner now t r y le h = record {
  tap = h.tap;
  octets = h.octets;
  begin = h.begin;
  end = ⊎_elim (λ (a : y.end ≡ r.end). inl a) (λ (b : (now < r.end) × (now < y.end)). inr (omega (arith, le, b.0), omega (arith, le, b.1))) h.end;
}

later_both : (t : ℕ) (l k : Option Record) (r y : Record) → Both (AlikeRecord t) l k → AlikeRecord t r y → Both (AlikeRecord t) (later_record l r) (later_record k y)
later_both t l k r y both h =
    subst (λ b. Both (AlikeRecord t) (later_record l r) (if b then Some y else k)) (sym (ap (λ o. initiates (arrival_of (map Good o))) h.octets)) (by (is_initiator r))
  where
    by : (b : Bool) → Both (AlikeRecord t) (if b then Some r else l) (if b then Some y else k)
    by true = h
    by false = both

last_alike : (now t : ℕ) (es ys : List Entry) → t ≤ now → Pairs (Alike now) es ys → SameLast t es ys
last_alike now t [] [] le a l k both = both
last_alike now t [] (y ∷ ys) le a l k both = absurd a
last_alike now t (e ∷ es) [] le a l k both = absurd a
last_alike now t (trace.Noise u ∷ es) (trace.Noise v ∷ ys) le a l k both = last_alike now t es ys le a.1 l k both
last_alike now t (trace.Noise u ∷ es) (Sent y ∷ ys) le a l k both = absurd a.0
last_alike now t (Sent r ∷ es) (trace.Noise v ∷ ys) le a l k both = absurd a.0
last_alike now t (Sent r ∷ es) (Sent y ∷ ys) le a l k both =
    last_alike now t es ys le a.1 (if nat_le r.begin t then later_record l r else l) (if nat_le y.begin t then later_record k y else k)
    (subst (λ n. Both (AlikeRecord t) (if nat_le r.begin t then later_record l r else l) (if nat_le n t then later_record k y else k)) (sym a.0.begin) (by (nat_le r.begin t)))
  where
    by : (b : Bool) → Both (AlikeRecord t) (if b then later_record l r else l) (if b then later_record k y else k)
    by true = later_both t l k r y both (sooner now t r y le a.0)
    by false = both

leads_alike : (now t : ℕ) (es ys : List Entry) → t ≤ now → Pairs (Alike now) es ys → Leads t es ys
leads_alike now t es ys le a none = (pairs_back (Alike now) (NotAt t) (NotAt t) es ys back a none, last_alike now t es ys le a)
  where
    back : (e y : Entry) → Alike now e y → NotAt t y → NotAt t e
    back (trace.Noise u) (trace.Noise v) h n = tt
    back (trace.Noise u) (Sent y) h n = absurd h
    back (Sent r) (trace.Noise v) h n = absurd h
    back (Sent r) (Sent y) h n = λ at. n (h.begin ∙ at)

-- ---- one entry more

-- noise, or a telegram that begins later
abbrev IsLater : ℕ → Entry → Type 0
IsLater t (trace.Noise span) = Unit {0}
IsLater t (Sent r) = t < r.begin

both_self : (t : ℕ) (o : Option Record) → Both (AlikeRecord t) o o
both_self t None = tt
both_self t (Some r) = record { tap = refl; octets = refl; begin = refl; end = inl refl }

skipped : (t : ℕ) (e : Entry) (es : List Entry) (l : Option Record) → IsLater t e → last_from l t (e ∷ es) ≡ last_from l t es
skipped t (trace.Noise span) es l later = refl
skipped t (Sent r) es l later = ap (λ b. last_from (if b then later_record l r else l) t es) (lt-leb r.begin t later)

last_with : (t : ℕ) (e : Entry) (es : List Entry) (l : Option Record) → IsLater t e → last_from l t (with_entry e es) ≡ last_from l t es
last_with t e [] l later = skipped t e [] l later
last_with t e (trace.Noise span ∷ es) l later =
    by_test (λ ys. last_from l t ys ≡ last_from l t es) (goes_before e (trace.Noise span)) (e ∷ trace.Noise span ∷ es) (trace.Noise span ∷ with_entry e es)
    (λ _. skipped t e (trace.Noise span ∷ es) l later) (λ _. last_with t e es l later)
last_with t e (Sent r ∷ es) l later =
    by_test (λ ys. last_from l t ys ≡ last_from l t (Sent r ∷ es)) (goes_before e (Sent r)) (e ∷ Sent r ∷ es) (Sent r ∷ with_entry e es)
    (λ _. skipped t e (Sent r ∷ es) l later) (λ _. last_with t e es (if nat_le r.begin t then later_record l r else l) later)

same_self : (t : ℕ) (es : List Entry) → SameLast t es es
same_self t [] l k both = both
same_self t (trace.Noise span ∷ es) l k both = same_self t es l k both
same_self t (Sent r ∷ es) l k both = same_self t es (if nat_le r.begin t then later_record l r else l) (if nat_le r.begin t then later_record k r else k) (by (nat_le r.begin t))
  where
    by : (b : Bool) → Both (AlikeRecord t) (if b then later_record l r else l) (if b then later_record k r else k)
    by true = later_both t l k r r both (record { tap = refl; octets = refl; begin = refl; end = inl refl })
    by false = both

leads_self : (t : ℕ) (es : List Entry) → Leads t es es
leads_self t es none = (none, same_self t es)

-- that begins no earlier
leads_with : (t : ℕ) (e : Entry) (es : List Entry) → t ≤ entry_begin e → Leads t es (with_entry e es)
leads_with t e es le none =
    let n = each_without (NotAt t) e es none in
    (n.1, λ l k both. subst (Both (AlikeRecord t) (last_from l t es)) (sym (last_with t e es k (later e le n.0))) (same_self t es l k both))
  where
    later : (e : Entry) → t ≤ entry_begin e → NotAt t e → IsLater t e
    later (trace.Noise span) le n = tt
    later (Sent r) le n = ⊎_elim (λ (a : t < r.begin). a) (λ (b : r.begin ≤ t). absurd (n (let z : r.begin ≡ t = omega (arith, le, b) in z))) (cases_lt t r.begin)

-- ---- events

made : (t : ℕ) (es : List Entry) (tests : List (Bool × Fault)) (made next : World) (say reply : Reply) → world.unless {X = World × Reply} tests (made, say) ≡ Ok (next, reply) → Leads t es made.trace → Leads t es next.trace
made t es tests m next say reply ok h = subst (λ (z : World). Leads t es z.trace) (ap (λ (z : World × Reply). z.0) (unless-Ok tests (m, say) (next, reply) ok).1) h

leads_said : (t : ℕ) (w : World) (k : ℕ) (o : Option (List ℕ)) → t ≤ w.now → Leads t w.trace (with_said k o w.now w.taps w.trace)
leads_said t w k None le = leads_self t w.trace
leads_said t w k (Some octets) le = leads_with t (Sent (sending k octets w.now w.taps)) w.trace le

leads_noise : (t now m : ℕ) (noisy : Bool) (es : List Entry) → t ≤ now → Leads t es (with_noise now m noisy es)
leads_noise t now m true es le = leads_alike now t es _ le (alike_noisy now m es)
leads_noise t now m false es le = leads_with t (trace.Noise (record { begin = now; end = m })) es le

leads_step : (t : ℕ) (w next : World) (e : Event) (reply : Reply) → t ≤ w.now → step w e ≡ Ok (next, reply) → Leads t w.trace next.trace
leads_step t w next (Turn k) reply le ok = by (slice_get w.taps k) ok
  where
    by : (o : Option Tap) → step_turn w k o ≡ Ok (next, reply) → Leads t w.trace next.trace
    by None ok = absurd cc
    by (Some u) ok =
        let say = turn_of w.params u.station u.marks w.now in
        made t w.trace ((not u.running, NotRunning) ∷ (is_some say.1 && nat_le w.limit (length w.trace), TraceFull) ∷ [])
        (record w { trace = with_said k say.1 w.now w.taps w.trace; taps = slice_set w.taps k (record u { station = say.0; marks = [] }) }) next (record { now = w.now; spoke = say.1 }) reply ok (leads_said t w k say.1 le)
leads_step t w next (Pass bits) reply le ok =
    let to = w.now + bits in
    let taps = told w.params.ttd w.trace w.now to 0 w.taps in
    made t w.trace (pass_faults w bits taps) (record w { now = to; taps = taps; trace = map (entry_at w.params.ttd w.taps w.trace w.now to) w.trace }) next (record { now = to; spoke = None }) reply ok
    (leads_alike w.now t w.trace _ le (alike_told w.now w.params.ttd w.taps w.trace w.now to w.trace))
leads_step t w next (Damage k speaker place) reply le ok =
    let in_air = is_in_air_by w.params.ttd w.now speaker in
    let hit : Hit = record { tap = k; place = place } in
    made t w.trace ((is_none (slice_get w.taps k) || is_none (slice_get w.taps speaker), NoSuchTap) ∷ (k == speaker || not (has_place (find in_air w.trace) place), NothingInAir) ∷ [])
    (record w { trace = change_first in_air (with_hit hit) w.trace }) next (record { now = w.now; spoke = None }) reply ok (leads_alike w.now t w.trace _ le (alike_hit w.now in_air hit w.trace))
leads_step t w next (Start k) reply le ok = by (slice_get w.taps k) ok
  where
    by : (o : Option Tap) → step_start w k o ≡ Ok (next, reply) → Leads t w.trace next.trace
    by None ok = absurd cc
    by (Some u) ok =
        made t w.trace ((u.running || list_any (is_in_air_by w.params.ttd w.now k) w.trace, Running) ∷ []) (record w { taps = slice_set w.taps k (started_tap w k u) }) next (record { now = w.now; spoke = None }) reply ok (leads_self t w.trace)
leads_step t w next (Stop k) reply le ok = by (slice_get w.taps k) ok
  where
    by : (o : Option Tap) → step_stop w k o ≡ Ok (next, reply) → Leads t w.trace next.trace
    by None ok = absurd cc
    by (Some u) ok =
        made t w.trace ((not u.running, NotRunning) ∷ []) (record w { trace = map (cut_at w.now k) w.trace; taps = slice_set w.taps k (halted u) }) next (record { now = w.now; spoke = None }) reply ok
        (leads_alike w.now t w.trace _ le (alike_cut w.now k w.trace))
leads_step t w next (Queue k r) reply le ok = by (slice_get w.taps k) ok
  where
    by : (o : Option Tap) → step_queue w k r o ≡ Ok (next, reply) → Leads t w.trace next.trace
    by None ok = absurd cc
    by (Some u) ok =
        made t w.trace ((not (u.running && u.spec.master), NotRunning) ∷ (nat_le queue_limit (length (list_for u.station.cycles.queue r)), QueueFull) ∷ [])
        (record w { taps = slice_set w.taps k (record u { station = pushed u.station r }) }) next (record { now = w.now; spoke = None }) reply ok (leads_self t w.trace)
leads_step t w next (Noise bits) reply le ok =
    made t w.trace ((bits == 0, ZeroTime) ∷ (not (is_noisy w) && nat_le w.limit (length w.trace), TraceFull) ∷ []) (record w { trace = with_noise w.now (w.now + bits) (is_noisy w) w.trace }) next (record { now = w.now; spoke = None }) reply ok
    (leads_noise t w.now (w.now + bits) (is_noisy w) w.trace le)
leads_step t w next (Unheard k speaker) reply le ok =
    let begins = begins_from w.now speaker in
    made t w.trace ((is_none (slice_get w.taps k) || is_none (slice_get w.taps speaker), NoSuchTap) ∷ (k == speaker || not (list_any begins w.trace), NothingInAir) ∷ [])
    (record w { trace = change_first begins (unheard_at k) w.trace }) next (record { now = w.now; spoke = None }) reply ok (leads_alike w.now t w.trace _ le (alike_lost w.now speaker k w.trace))

both_both : (t : ℕ) (a b c : Option Record) → Both (AlikeRecord t) a b → Both (AlikeRecord t) b c → Both (AlikeRecord t) a c
both_both t None None None f g = tt
both_both t None None (Some z) f g = absurd g
both_both t None (Some y) c f g = absurd f
both_both t (Some x) None c f g = absurd f
both_both t (Some x) (Some y) None f g = absurd g
both_both t (Some x) (Some y) (Some z) f g = record {
  tap = g.tap ∙ f.tap;
  octets = g.octets ∙ f.octets;
  begin = g.begin ∙ f.begin;
  end = ⊎_elim (λ (a : y.end ≡ x.end). ⊎_elim (λ (b : z.end ≡ y.end). inl (b ∙ a)) (λ (b : (t < y.end) × (t < z.end)). inr (omega (arith, a, b.0), b.1)) g.end)
      (λ (a : (t < x.end) × (t < y.end)). ⊎_elim (λ (b : z.end ≡ y.end). inr (a.0, omega (arith, a.1, b))) (λ (b : (t < y.end) × (t < z.end)). inr (a.0, b.1)) g.end) f.end;
}

-- ---- actions

leads_act : (t : ℕ) (w next : World) (a : Action) → t ≤ w.now → ActsTo w a next → (w.now ≤ next.now) × Leads t w.trace next.trace
leads_act t w next (Happens e) le acts = (later-world w next e acts.0 acts.1, leads_step t w next e acts.0 le acts.1)
leads_act t w next (Sets tap unit) le acts =
    subst (λ (z : World). (w.now ≤ z.now) × Leads t w.trace z.trace) (is_set w next tap unit acts).is (omega arith, leads_self t w.trace)

-- the last initiator telegram that had begun by a moment, where no telegram begins then
pub last_stays : (actions : List Action) (w next : World) (t : ℕ) → t ≤ w.now → LeadsTo w actions next → Each (NotAt t) next.trace
    → Each (NotAt t) w.trace × Both (AlikeRecord t) (last_from None t w.trace) (last_from None t next.trace)
last_stays [] w next t le leads none = subst (λ (z : World). Each (NotAt t) z.trace → Each (NotAt t) w.trace × Both (AlikeRecord t) (last_from None t w.trace) (last_from None t z.trace)) leads (λ n. (n, both_self t (last_from None t w.trace))) none
last_stays (a ∷ more) w next t le leads none =
    let between = leads.0 in
    let one = leads_act t w between a le leads.1 in
    let later = one.0 in
    let rest = last_stays more between next t (omega (arith, le, later)) leads.2 none in
    let back = one.1 rest.0 in
    (back.0, both_both t (last_from None t w.trace) (last_from None t between.trace) (last_from None t next.trace) (back.1 None None tt) rest.1)
