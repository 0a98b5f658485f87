-- The station that a listener names is the one that may initiate, or nobody may.
use Rattle.std.proofs.Common.{◌≡◌, ℕ, ◌+◌, ◌<◌, ◌≤◌, ⊎_elim, if◌then◌else◌, ◌||◌, List, [], ◌∷◌, ◌++◌, map, refl, sym, ap, ◌∙◌, subst, arith, Option, Some, None}
use Rattle.std.specs.Prelude.{nat_lt, IfSome}
use Rattle.std.proofs.lemmas.Bool.{ltb-false, and_parts}
use Rattle.pb_telegram.specs.declared.chars.RxChar.TheVariants.{Good}
use Rattle.pb_timers.specs.Timers.{Params}
use Rattle.law_turn.specs.Arrivals.{Token, arrival_of}
use Rattle.law_turn.specs.Phases.{may_initiate}
use Rattle.law_turn.specs.Turns.{token_octets}
use Rattle.law_model.specs.Trace.{Record, Entry, Sent, Noise, entry_begin, entry_end}
use Rattle.law_model.specs.Medium.{TapSpec, Tap, reaches_taps}
use Rattle.law_model.specs.Laws.{AllBegun}
use Rattle.law_model.proofs.Cases.{by_test}
use Rattle.law_runs.specs.Initiators.{initiates, telegram_of, offered_by, last_from}
use Rattle.law_runs.specs.Judging.{IsOrdered, IsOrderedFrom}
use Rattle.law_runs.specs.Legality.{address_at}
use Rattle.law_runs.specs.Premises.{Waited}
use Rattle.law_token.specs.Actions.{HasActed}
use Rattle.law_token.specs.Invariant.{Invariant}
use Rattle.law_token.specs.Lists.{Each}
use Rattle.law_token.specs.Places.{LeavesTime}
use Rattle.law_token.specs.Views.{place}
use Rattle.law_token.proofs.bus.Live.{holding}
use Rattle.law_token.proofs.bus.NewWorlds.{new_invariant}
use Rattle.law_token.proofs.bus.Pairs.{Holding, Keeps, Has}
use Rattle.law_token.proofs.bus.Spelling.{token_spelled}
use Rattle.law_token.proofs.turn.Meaning.{arrival_spelled}
use Rattle.law_token.proofs.turn.Records.{address_there}
use Rattle.law_token.proofs.replies.Actions.{acts_keep, params_by}
use Rattle.law_token.proofs.replies.Happen.{happen, are_happen, leads_happen, acted_happen, kept_happen}
use Rattle.law_token.proofs.replies.Sound.{sound_by, ordered_by}
use Rattle.law_live.proofs.Acting.{actions_join, leads_join}
use Rattle.pb_monitor.specs.declared.holders.Holder.{Holder}
use Rattle.pb_monitor.specs.declared.holders.Holder.TheVariants.{One, OfferedTo, Nobody, Unknown}
use Rattle.pb_monitor.specs.declared.states.LastHeard.{LastHeard}
use Rattle.pb_monitor.specs.declared.states.State.{State}
use Rattle.pb_monitor.specs.Captures.{All, IsClear, AllClear}
use Rattle.pb_monitor.specs.Holders.{holder_by_offer, holder_by_last}
use Rattle.pb_monitor.specs.Judge.{live}
use Rattle.pb_monitor.specs.Meanings.{source_of}
use Rattle.pb_monitor.specs.Promises.{IsBySource}
use Rattle.pb_monitor.proofs.Follows.{IsLast}
use Rattle.pb_monitor.proofs.Legal.{Knows}
use Rattle.pb_monitor.proofs.NoneRaised.{LinkedLast, Linked}
use Rattle.law_monitor.specs.Actions.{NamedOrNobodyByActions}
use Rattle.law_monitor.specs.Naming.{Allows, kept, NamedOrNobody}
use Rattle.law_monitor.proofs.words.Known.{linked_after, all_append, ordered_more, since_more, last_known, OfSent, last_stands}
use Rattle.law_monitor.proofs.words.Lasts.{NotAt, last_stays}
use Rattle.law_monitor.proofs.sources.Worlds.{addresses_by, sources_by}
use Rattle.law_monitor.proofs.timely.Alike.{AlikeRecord}
use Rattle.law_monitor.proofs.timely.Folds.{Both}

-- ---- what the listener says, by the last telegram

-- a tap that holds the token by the last telegram, which the listener knows
allowed : (p : Params) (slack : ℕ) (specs : List TapSpec) (trace : List Entry) (last : Option Record) (r : Record) (l : LastHeard) (now tap : ℕ) (t : Tap) → LeavesTime p → Knows p specs trace r l → Both (AlikeRecord now) last (Some r) → address_at specs tap ≡ t.spec.address
    → Holding (place p now tap t) last → Allows (holder_by_offer p slack l l.offered (now + p.ttd)) (address_at specs tap)
allowed p slack specs trace last r l now tap t fits k both here (Keeps own h) =
    let like : AlikeRecord now h.r r = subst (λ o. Both (AlikeRecord now) o (Some r)) h.is both in
    let none : l.offered ≡ None = k.offered ∙ ap (λ o. offered_by (arrival_of (map Good o))) like.octets ∙ h.no_offer in
    subst (λ o. Allows (holder_by_offer p slack l o (now + p.ttd)) (address_at specs tap)) (sym none)
    (ap (λ n. address_at specs n) (sym (like.tap ∙ h.by)) ∙ sym k.source)
allowed p slack specs trace last r l now tap t fits k both here (Has at g late) =
    let like : AlikeRecord now g.r r = subst (λ o. Both (AlikeRecord now) o (Some r)) g.is both in
    let offers : l.offered ≡ Some t.spec.address = k.offered ∙ ap (λ o. offered_by (arrival_of (map Good o))) like.octets ∙ g.offers in
    subst (λ o. Allows (holder_by_offer p slack l o (now + p.ttd)) (address_at specs tap)) (sym offers)
    (by_test (λ (z : Holder). Allows z (address_at specs tap)) (nat_lt (now + p.ttd + slack) (l.end + p.tsl)) (OfferedTo t.spec.address)
    (if nat_lt (now + p.ttd) (l.end + (p.tsl + slack)) then Unknown else if l.touched then Nobody else One l.source) (λ _. here)
    (λ _. by_test (λ (z : Holder). Allows z (address_at specs tap)) (nat_lt (now + p.ttd) (l.end + (p.tsl + slack))) Unknown (if l.touched then Nobody else One l.source) (λ _. tt)
    (λ past. absurd (in_time like (ltb-false (now + p.ttd) (l.end + (p.tsl + slack)) past)))))
  where
    -- it has taken the token within its slot
    in_time : AlikeRecord now g.r r → l.end + (p.tsl + slack) ≤ now + p.ttd → ⊥
    in_time like past =
        let end = k.end in
        let heard = g.heard_at in
        let take = fits.take in
        let idle = fits.idle_order in
        ⊎_elim (λ (same : r.end ≡ g.r.end). omega (arith, past, end, heard, late, take, idle, same)) (λ (later : (now < g.r.end) × (now < r.end)). let z = later.1 in omega (arith, past, end, z)) like.end

-- ---- nothing has begun at the listener

not_at : (delay q now n : ℕ) (es : List Entry) → q ≤ now + delay → IsOrderedFrom n es → AllClear delay q (now + delay + 1) es → Each (NotAt now) es
not_at delay q now n [] late order clear = tt
not_at delay q now n (e ∷ es) late order clear = (one e order.1 clear.0, not_at delay q now (entry_begin e) es late order.2 clear.1)
  where
    one : (e : Entry) → entry_begin e < entry_end e → IsClear q (now + delay + 1) (reaches_taps delay e) → NotAt now e
    one (Noise span) some c = tt
    one (Sent r) some c = λ at. ⊎_elim (λ (a : r.end + delay ≤ q). omega (arith, a, at, some, late)) (λ (b : now + delay + 1 ≤ r.begin + delay). omega (arith, b, at)) c

-- a telegram that has begun by now has reached it
has_reached : (delay q now n : ℕ) (es : List Entry) → IsOrderedFrom n es → AllClear delay q (now + delay + 1) es → All (λ e. OfSent (λ r. q ≤ r.begin + delay → ⊥) now e) es
has_reached delay q now n [] order clear = tt
has_reached delay q now n (e ∷ es) order clear = (one e order.1 clear.0, has_reached delay q now (entry_begin e) es order.2 clear.1)
  where
    one : (e : Entry) → entry_begin e < entry_end e → IsClear q (now + delay + 1) (reaches_taps delay e) → OfSent (λ r. q ≤ r.begin + delay → ⊥) now e
    one (Noise span) some c = tt
    one (Sent r) some c = λ begun after. ⊎_elim (λ (a : r.end + delay ≤ q). omega (arith, a, after, some)) (λ (b : now + delay + 1 ≤ r.begin + delay). omega (arith, b, begun)) c

all_begun : (now n : ℕ) (es : List Entry) → now ≤ n → AllBegun now es → All (λ e. entry_begin e ≤ n) es
all_begun now n [] le begun = tt
all_begun now n (e ∷ es) le begun = (let b = begun.0 in omega (arith, b, le), all_begun now n es le begun.2)

-- ---- the listener

pub named_by : NamedOrNobodyByActions
named_by p specs actions more new w later slack since bs is none tap may = by_test (λ (z : Holder). Allows z a) (j.lost || nat_lt (j.quiet + live p slack) (w.now + p.ttd)) Unknown (holder_by_last p slack j.last (w.now + p.ttd)) (λ _. tt) (λ _. by j.last linked.last)
  where
    j : State
    j = kept p slack since bs

    a : ℕ
    a = address_at specs tap

    t : Tap
    t = may.0

    has : HasActed p specs actions new w
    has = is.acted

    whole : HasActed p specs (actions ++ more) new later
    whole = record { fit = has.fit; are = actions_join actions more has.are is.are; made = has.made; leads = leads_join actions more new w later has.leads is.goes_on }

    order : IsOrdered later.trace
    order = ordered_by p specs (actions ++ more) new later whole

    invariant : (all : List Waited) × Invariant w all
    invariant = acts_keep actions new w [] has.are has.leads none (new_invariant p specs new is.time has.fit has.made)

    here : a ≡ t.spec.address
    here = sym (addresses_by p specs actions new w has tap) ∙ address_there w.taps tap t may.1

    low : a < 127
    low = let s = invariant.1.settled.stays tap t may.1 in subst (λ n. n < 127) (s.address ∙ sym here) s.below

    holds : Holding (place p w.now tap t) invariant.1.keeps.inv.last
    holds = let b = and_parts t.running (may_initiate t.station.phase) may.2 in
        subst (λ q. Holding (place q w.now tap t) invariant.1.keeps.inv.last) (params_by p specs actions new w has)
        (holding w.params w.now w.trace invariant.1.keeps.inv.last tap t (invariant.1.keeps.inv.taps tap t may.1 b.0) b.1)

    -- a token of the station to itself, later than all
    end : ℕ
    end = later.now + (w.now + p.ttd) + 1

    x : Record
    x = record { tap = tap; octets = token_octets a a; begin = end; end = end + 33; hits = []; heard = [] }

    spelled : telegram_of x ≡ Token a a
    spelled = arrival_spelled (token_octets a a) (token_spelled a a low low)

    begun : All (λ e. entry_begin e ≤ x.begin) later.trace
    begun = all_begun later.now end later.trace (omega arith) (sound_by p specs (actions ++ more) new later whole).begun

    linked : Linked p specs since (later.trace ++ Sent x ∷ []) j
    linked = let over = is.over in
        linked_after p slack specs since (later.trace ++ Sent x ∷ []) bs (ordered_more 0 later.trace x order begun (omega arith) (omega arith))
        (all_append (IsBySource specs) later.trace (Sent x) (sources_by p specs (actions ++ more) new later is.time.highest whole) (λ init. ap source_of spelled))
        (since_more p slack since later.trace x bs (omega (arith, over)) is.hears)

    by : (o : Option LastHeard) → LinkedLast p specs since (later.trace ++ Sent x ∷ []) j.quiet o → Allows (holder_by_last p slack o (w.now + p.ttd)) a
    by None last = tt
    by (Some l) last =
        on (last_from None w.now later.trace) refl
        (last_known p.ttd j.quiet w.now 0 (λ r. Knows p specs (later.trace ++ Sent x ∷ []) r l) None later.trace x is.over (omega arith) (ap initiates spelled) order last.2)
        (subst (λ o. Both (AlikeRecord w.now) o (last_from None w.now later.trace)) invariant.1.keeps.inv.is_last (last_stays more w later w.now (omega arith) is.goes_on (not_at p.ttd j.quiet w.now 0 later.trace is.over order is.nothing)).1)
      where
        on : (o : Option Record) → last_from None w.now later.trace ≡ o → IsLast p.ttd j.quiet (λ r. Knows p specs (later.trace ++ Sent x ∷ []) r l) o → Both (AlikeRecord w.now) invariant.1.keeps.inv.last o
            → Allows (holder_by_offer p slack l l.offered (w.now + p.ttd)) a
        on None e known both = absurd known
        on (Some r) e known both =
            ⊎_elim (λ (k : Knows p specs (later.trace ++ Sent x ∷ []) r l). allowed p slack specs (later.trace ++ Sent x ∷ []) invariant.1.keeps.inv.last r l w.now tap t is.time k both here holds)
            (λ (after : j.quiet ≤ r.begin + p.ttd).
            absurd (subst (λ o. IfSome o (λ r. j.quiet ≤ r.begin + p.ttd → ⊥)) e
            (last_stands w.now (λ r. j.quiet ≤ r.begin + p.ttd → ⊥) None later.trace tt (has_reached p.ttd j.quiet w.now 0 later.trace order is.nothing)) after)) known

-- events are actions
pub named_or_nobody : NamedOrNobody
named_or_nobody p specs events more new w later slack since bs is none =
    named_by p specs (happen events) (happen more) new w later slack since bs (record {
      time = is.time;
      acted = acted_happen p specs events new w is.run;
      are = are_happen more is.are;
      goes_on = leads_happen more w later is.goes_on;
      hears = is.hears;
      over = is.over;
      nothing = is.nothing;
    }) (kept_happen new events none)
