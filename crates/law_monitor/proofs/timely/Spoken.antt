-- What a station says as an initiator comes in time, while the premises are kept.
use Rattle.std.proofs.Common.{◌≡◌, ℕ, ◌+◌, ◌-◌, ◌<◌, ◌≤◌, ◌⊎◌, inl, inr, ⊎_elim, Bool, true, false, if◌then◌else◌, not, ◌==◌, ◌&&◌, ◌||◌, List, map, refl, sym, ap, ◌∙◌, subst, arith, Option, Some, None}
use Rattle.std.specs.Prelude.{slice_get, nat_le, IfSome}
use Rattle.std.specs.List.{list_any}
use Rattle.std.specs.Option.{option_and_then}
use Rattle.std.proofs.lemmas.Bool.{eq-eqb, leb-true, or_parts, cases_lt}
use Rattle.std.proofs.lemmas.Option.{none-some, same_Some}
use Rattle.pb_telegram.specs.Faults.{fault_of}
use Rattle.pb_telegram.specs.declared.chars.RxChar.TheVariants.{Good}
use Rattle.pb_timers.specs.Timers.{Params, tto}
use Rattle.law_turn.specs.Hearing.{after_timer}
use Rattle.law_turn.specs.Phases.{Phase, Offline, PassiveIdle, Listening, Idle, Claim, Use, AwaitData, AwaitStatus, Pass, Checking, may_initiate}
use Rattle.law_turn.specs.Spans.{Span}
use Rattle.law_turn.specs.Stations.{Station, Reply, speaks_at}
use Rattle.law_turn.specs.Turns.{token_octets, phase_says, speech, turn_of}
use Rattle.law_turn.proofs.Addresses.{marks}
use Rattle.law_turn.proofs.Initiating.{reply-after_marks}
use Rattle.law_turn.proofs.Retrying.{left-after_marks}
use Rattle.law_model.specs.Trace.{Record, Entry, Sent, Noise, with_entry}
use Rattle.law_model.specs.Medium.{Tap, is_unheard, reaches, part_after}
use Rattle.law_model.specs.World.{World}
use Rattle.law_model.specs.Step.{sending}
use Rattle.law_model.proofs.Cases.{by_test}
use Rattle.law_runs.specs.Activity.{active_at, is_within, is_silent}
use Rattle.law_runs.specs.Headline.{specs_of}
use Rattle.law_runs.specs.Initiators.{is_initiator, offered_to, telegram_of, claims_for}
use Rattle.law_runs.specs.Legality.{address_at}
use Rattle.law_runs.specs.Premises.{Waited}
use Rattle.law_token.specs.Invariant.{Settled, Keeps}
use Rattle.law_token.specs.Lists.{Each}
use Rattle.law_token.specs.Places.{Place, heard_span, IsOver, InitEnds, Spares}
use Rattle.law_token.specs.Tokens.{Held, Taken, Offers, Doomed}
use Rattle.law_token.specs.Views.{Knows, ViewOf, view, place, TapHolds}
use Rattle.law_token.proofs.bus.Hearers.{IsChecking}
use Rattle.law_token.proofs.bus.Legal.{same_silence}
use Rattle.law_token.proofs.bus.Lists.{each_all, each_map, each_both}
use Rattle.law_token.proofs.bus.Live.{lives, initiates_live, holding_view}
use Rattle.law_token.proofs.bus.Pairs.{Lives, Holding, Keeps as KeepsIt, Has, held_offer, over_clip}
use Rattle.law_token.proofs.pass.Taps.{knows_on}
use Rattle.law_token.proofs.turn.Actions.{Acts, Rests, Replies, Initiates, Grounds, ByToken, BySlot, BySilence, acts}
use Rattle.law_token.proofs.turn.Afterwards.{grounds_on}
use Rattle.law_token.proofs.turn.Initiator.{checking_live}
use Rattle.law_token.proofs.turn.Meaning.{Means, means, reply_means}
use Rattle.law_token.proofs.turn.Records.{OwnPast, own_past, reaches_each, address_there}
use Rattle.law_token.proofs.turn.Warrants.{Warrant, Waits, public_known, legal_said}
use Rattle.law_monitor.specs.Timely.{EndsNoLoss, TakesInTime, IsTimely}
use Rattle.law_monitor.proofs.hearing.Filled.{apart}
use Rattle.law_monitor.proofs.hearing.Spelled.{SpellsOne, said_spells}
use Rattle.law_token.proofs.quiet.Bound.{none_of}
use Rattle.law_token.proofs.turn.Last.{reply_of, asks_of}

-- ---- silence, as a tap hears it

pub outside : (from to : ℕ) (s : Span) → is_within from to s ≡ false → (to ≤ s.begin) ⊎ (s.end ≤ from)
outside from to s h = ⊎_elim (λ (a : s.end ≤ from). inr a) (λ (b : to ≤ s.begin). inl b) (apart s (record { begin = from; end = to }) h)

over_silent : (c : Place) (from : ℕ) (e : Entry) → is_within from c.now (active_at c.p.ttd c.tap e) ≡ false → IsOver c.now from (heard_span c.p.ttd c.tap c.since e)
over_silent c from (Noise span) h = over_clip c.now from c.since span (outside from c.now span h)
over_silent c from (Sent r) h =
    by_test (λ (o : Option Span). IsOver c.now from (option_and_then (part_after c.since) o)) (r.tap == c.tap || is_unheard (slice_get r.heard c.tap)) None (Some (reaches c.p.ttd r))
    (λ _. tt)
    (λ other. over_clip c.now from c.since (reaches c.p.ttd r) (outside from c.now (reaches c.p.ttd r)
    (subst (λ b. is_within from c.now (if b then record { begin = r.begin; end = r.end } else reaches c.p.ttd r) ≡ false) (or_parts (r.tap == c.tap) (is_unheard (slice_get r.heard c.tap)) other).0 h)))

inits_silent : (c : Place) (from : ℕ) (e : Entry) → OwnPast c.tap c.now e → is_within from c.now (active_at c.p.ttd c.tap e) ≡ false → InitEnds c.tap from e
inits_silent c from (Noise span) own h = tt
inits_silent c from (Sent r) own h = λ mine init.
    ⊎_elim (λ (a : c.now ≤ r.begin). absurd (let b = (own mine).0 in omega (arith, a, b))) (λ (b : r.end ≤ from). b)
    (outside from c.now (record { begin = r.begin; end = r.end })
    (subst (λ b. is_within from c.now (if b then record { begin = r.begin; end = r.end } else reaches c.p.ttd r) ≡ false) (eq-eqb r.tap c.tap mine) h))

-- one that lives speaks no later than a slot and the lag after the last activity
lives_no_loss : (c : Place) (trace : List Entry) → Lives c trace → Each (OwnPast c.tap c.now) trace → (from : ℕ) → from + (c.p.tsl + c.p.lag) < c.now → is_silent c.p.ttd c.tap trace from c.now ≡ false
lives_no_loss c trace lives own from late = by (list_any (λ e. is_within from c.now (active_at c.p.ttd c.tap e)) trace) refl
  where
    by : (b : Bool) → list_any (λ e. is_within from c.now (active_at c.p.ttd c.tap e)) trace ≡ b → not b ≡ false
    by true e = refl
    by false e =
        let none = none_of (λ e. is_within from c.now (active_at c.p.ttd c.tap e)) trace e in
        let over = each_map (λ e. is_within from c.now (active_at c.p.ttd c.tap e) ≡ false) (λ e. IsOver c.now from (heard_span c.p.ttd c.tap c.since e)) trace (over_silent c from) none in
        let inits = each_both (OwnPast c.tap c.now) (λ e. is_within from c.now (active_at c.p.ttd c.tap e) ≡ false) (InitEnds c.tap from) trace (inits_silent c from) own none in
        absurd (let l = lives from over inits in omega (arith, l, late))

-- ---- one that takes the token

-- the moment at which a station uses the token has come
abbrev DueBy : ℕ → Phase → Type 0
DueBy now Offline = Unit {0}
DueBy now PassiveIdle = Unit {0}
DueBy now (Listening doubled) = Unit {0}
DueBy now (Idle refused) = Unit {0}
DueBy now (Claim sent ready) = Unit {0}
DueBy now (Use asked ready) = ready ≤ now
DueBy now (AwaitData asked retry slot) = Unit {0}
DueBy now (AwaitStatus of slot) = Unit {0}
DueBy now (Pass tries ready) = Unit {0}
DueBy now (Checking tries) = Unit {0}

use_due : (p : Params) (v : Station) (now : ℕ) (asked : Bool) (ready : ℕ) (octets : List ℕ) (busy : Bool)
    → (let z = record v { phase = Use asked ready; busy = busy } in (speech p (after_timer p (now + 1) z) (speaks_at (after_timer p (now + 1) z)) now).1 ≡ Some octets) → ready ≤ now
use_due p v now asked ready octets true h = by (nat_le ready now) refl h
  where
    z : Station
    z = record v { phase = Use asked ready; busy = true }

    by : (b : Bool) → nat_le ready now ≡ b → (if b then phase_says p z (Use asked ready) now else (z, None)).1 ≡ Some octets → ready ≤ now
    by true e g = leb-true ready now e
    by false e g = absurd (none-some octets g)
use_due p v now asked ready octets false h = by (nat_le ready now) refl h
  where
    z : Station
    z = record v { phase = Use asked ready; busy = false }

    by : (b : Bool) → nat_le ready now ≡ b → (if b then phase_says p z (Use asked ready) now else (z, None)).1 ≡ Some octets → ready ≤ now
    by true e g = leb-true ready now e
    by false e g = absurd (none-some octets g)

due_by : (p : Params) (v : Station) (now : ℕ) (octets : List ℕ) (ph : Phase) → v.phase ≡ ph → (speech p (after_timer p (now + 1) v) (speaks_at (after_timer p (now + 1) v)) now).1 ≡ Some octets → DueBy now ph
due_by p v now octets Offline e h = tt
due_by p v now octets PassiveIdle e h = tt
due_by p v now octets (Listening doubled) e h = tt
due_by p v now octets (Idle refused) e h = tt
due_by p v now octets (Claim sent ready) e h = tt
due_by p v now octets (Use asked ready) e h =
    use_due p v now asked ready octets v.busy (subst (λ q. (speech p (after_timer p (now + 1) (record v { phase = q })) (speaks_at (after_timer p (now + 1) (record v { phase = q }))) now).1 ≡ Some octets) e h)
due_by p v now octets (AwaitData asked retry slot) e h = tt
due_by p v now octets (AwaitStatus of slot) e h = tt
due_by p v now octets (Pass tries ready) e h = tt
due_by p v now octets (Checking tries) e h = tt

-- so one that was offered the token has waited its idle time
has_waited_idle : (c : Place) (trace : List Entry) (last : Option Record) (ph : Phase) (busy : Bool) (quiet : ℕ) (own : Span) (reply : Option Reply) → ViewOf c trace last ph busy quiet own reply → may_initiate ph ≡ true → DueBy c.now ph
    → (l : Record) (to : ℕ) → last ≡ Some l → offered_to l ≡ Some to → l.end + (c.p.ttd + c.p.tid1) ≤ c.now
has_waited_idle c trace last (Claim sent ready) busy quiet own reply v may due l to is offers = absurd (held_offer last c.tap own l to v.3 is offers)
has_waited_idle c trace last (Use asked ready) busy quiet own reply v may due l to is offers =
    ⊎_elim (λ (h : Held last c.tap own). absurd (held_offer last c.tap own l to h is offers))
    (λ (h : Taken c.p.ttd last c.tap c.address quiet × (ready ≡ quiet + c.p.tid1)).
    let same : h.0.r.end ≡ l.end = ap (λ (r : Record). r.end) (same_Some h.0.r l (sym h.0.is ∙ is)) in
    let at = h.0.heard_at in
    let when = h.1 in
    omega (arith, same, at, when, due)) v.4
has_waited_idle c trace last (AwaitData asked retry slot) busy quiet own reply v may due l to is offers = absurd (held_offer last c.tap own l to v.1 is offers)
has_waited_idle c trace last (AwaitStatus of slot) busy quiet own reply v may due l to is offers = absurd (held_offer last c.tap own l to v.1 is offers)
has_waited_idle c trace last (Pass tries ready) busy quiet own reply v may due l to is offers = absurd v
has_waited_idle c trace last Offline busy quiet own reply v may due l to is offers = absurd cc
has_waited_idle c trace last PassiveIdle busy quiet own reply v may due l to is offers = absurd cc
has_waited_idle c trace last (Listening doubled) busy quiet own reply v may due l to is offers = absurd cc
has_waited_idle c trace last (Idle refused) busy quiet own reply v may due l to is offers = absurd cc
has_waited_idle c trace last (Checking tries) busy quiet own reply v may due l to is offers = absurd cc

-- and is late by the lag at most
late_by_lag : (c : Place) (last : Option Record) (l : Record) (to : ℕ) → Holding c last → last ≡ Some l → offered_to l ≡ Some to → c.now ≤ l.end + (c.p.ttd + c.p.tid1 + c.p.lag)
late_by_lag c last l to (KeepsIt own h) is offers = absurd (held_offer last c.tap own l to h is offers)
late_by_lag c last l to (Has at h late) is offers =
    let same : h.r.end ≡ l.end = ap (λ (r : Record). r.end) (same_Some h.r l (sym h.is ∙ is)) in let heard = h.heard_at in omega (arith, same, heard, late)

-- a check that is over is not doomed: so it is the station's own token
spared : (now limit : ℕ) (o : Option Span) → limit ≤ now → Spares now limit o
spared now limit None le = tt
spared now limit (Some s) le = ⊎_elim (λ (a : s.begin < now). inl a) (λ (b : now ≤ s.begin). inr (omega (arith, b, le))) (cases_lt s.begin now)

own_offer : (c : Place) (trace : List Entry) (last : Option Record) (ph : Phase) (busy : Bool) (quiet : ℕ) (own : Span) (reply : Option Reply) → IsChecking ph → own.end + c.p.tsl ≤ c.now → ViewOf c trace last ph busy quiet own reply
    → Offers last c.tap own
own_offer c trace last (Checking tries) busy quiet own reply is over v =
    ⊎_elim (λ (h : Offers last c.tap own). h)
    (λ (d : Doomed c trace own). absurd (d (each_all (λ e. Spares c.now (own.end + c.p.tsl) (heard_span c.p.ttd c.tap c.since e)) trace (λ e. spared c.now (own.end + c.p.tsl) (heard_span c.p.ttd c.tap c.since e) over)))) v.3
own_offer c trace last Offline busy quiet own reply is over v = absurd is
own_offer c trace last PassiveIdle busy quiet own reply is over v = absurd is
own_offer c trace last (Listening doubled) busy quiet own reply is over v = absurd is
own_offer c trace last (Idle refused) busy quiet own reply is over v = absurd is
own_offer c trace last (Claim sent ready) busy quiet own reply is over v = absurd is
own_offer c trace last (Use asked ready) busy quiet own reply is over v = absurd is
own_offer c trace last (AwaitData asked retry slot) busy quiet own reply is over v = absurd is
own_offer c trace last (AwaitStatus of slot) busy quiet own reply is over v = absurd is
own_offer c trace last (Pass tries ready) busy quiet own reply is over v = absurd is

own_token : (c : Place) (trace : List Entry) (last : Option Record) (ph : Phase) (busy : Bool) (quiet : ℕ) (own : Span) (reply : Option Reply) → IsChecking ph → own.end + c.p.tsl ≤ c.now → ViewOf c trace last ph busy quiet own reply
    → (l : Record) → last ≡ Some l → l.tap ≡ c.tap
own_token c trace last ph busy quiet own reply is over v l e =
    let h = own_offer c trace last ph busy quiet own reply is over v in sym (ap (λ (r : Record). r.tap) (same_Some h.r l (sym h.is ∙ e))) ∙ h.by

-- one that holds the token has said or taken it
held_last : (c : Place) (last : Option Record) → last ≡ None → Holding c last → ⊥
held_last c last none (KeepsIt own h) = none-some h.r (sym none ∙ h.is)
held_last c last none (Has at h late) = none-some h.r (sym none ∙ h.is)

-- ---- a turn

-- if it is an initiator's, it is timely after the last one
abbrev pub SaidTimely : World → ℕ → Option Record → List ℕ → Type 0
SaidTimely w k last octets =
    let x = sending k octets w.now w.taps in is_initiator x ≡ true → IsTimely w.params (specs_of w) (with_entry (Sent x) w.trace) last x

takes_by : (p : Params) (x : Record) (last : Option Record) → ((l : Record) (to : ℕ) → last ≡ Some l → offered_to l ≡ Some to → (l.tap ≡ x.tap → ⊥) → (l.end + (p.ttd + p.tid1) ≤ x.begin) × (x.begin ≤ l.end + (p.ttd + p.tid1 + p.lag))) → TakesInTime p last x
takes_by p x None f = tt
takes_by p x (Some l) f = λ to offers another. f l to refl offers another

pub turn_timely : (w : World) (waited : List Waited) (k : ℕ) (t : Tap) → (kept : Keeps w waited) → slice_get w.taps k ≡ Some t → t.running ≡ true → Settled w → IfSome (turn_of w.params t.station t.marks w.now).1 (SaidTimely w k kept.inv.last)
turn_timely w waited k t kept here running set =
    by (acts c w.trace kept.inv.last v kept.fits (left-after_marks p t.station t.marks ((set.stays k t here).opened))
    (asks_of v.cycles.initiator.pending (reply-after_marks p t.station t.marks ((set.stays k t here).sayable)).1.pending) o.view_ok)
  where
    p : Params
    p = w.params

    c : Place
    c = place p w.now k t

    v : Station
    v = view p t

    o : TapHolds p w.now w.trace kept.inv.last k t
    o = kept.inv.taps k t here running

    spelled : (octets : List ℕ) → (turn_of p t.station t.marks w.now).1 ≡ Some octets → fault_of (map Good octets) ≡ None
    spelled octets e = subst (λ z. IfSome z (λ octets. SpellsOne (Sent (sending k octets w.now w.taps)))) e (said_spells w set k t here running)

    by : Acts c v (turn_of p t.station t.marks w.now) → IfSome (turn_of p t.station t.marks w.now).1 (SaidTimely w k kept.inv.last)
    by (Rests e) = subst (λ (z : Station × Option (List ℕ)). IfSome z.1 (SaidTimely w k kept.inv.last)) (sym e) tt
    by (Replies r is said still past waiting replied) =
        subst (λ z. IfSome z (SaidTimely w k kept.inv.last)) (sym said)
        (λ init. absurd (let none = reply_means (sending k r.octets w.now w.taps) (reply_of v.reply r (reply-after_marks p t.station t.marks ((set.stays k t here).sayable)).0 is).no_initiator (spelled r.octets said) in
        let z : true ≡ false = sym init ∙ none in cc))
    by (Initiates said still past grounds) = subst (λ z. IfSome z (SaidTimely w k kept.inv.last)) (sym said.1) (λ init. on grounds)
      where
        x : Record
        x = sending k said.0 w.now w.taps

        knows : Knows c w.trace false v.quiet v.own
        knows = subst (λ z. Knows c w.trace z v.quiet v.own) still (knows_on c w.trace v.phase v.busy v.quiet v.own (grounds_on c v.address v.quiet v.own v.phase said.0 grounds) o.knows)

        own : Each (OwnPast k w.now) w.trace
        own = own_past p w.now k v.own w.taps w.trace waited kept.inv.last knows.order (let a = knows.ended in omega (arith, a, past)) w.trace knows.owns kept.inv.entries

        no_loss : Lives c w.trace → EndsNoLoss p (with_entry (Sent x) w.trace) x
        no_loss live from late = same_silence p w.now x w.trace (omega arith) k from w.now (omega arith) ∙ lives_no_loss c w.trace live own from late

        address : v.address ≡ t.spec.address
        address = marks p t.station t.marks ∙ o.address

        on : Grounds c v.address v.quiet v.own v.phase said.0 → IsTimely p (specs_of w) (with_entry (Sent x) w.trace) kept.inv.last x
        on (ByToken may) =
            inr (
              no_loss (lives p w.now w.trace kept.inv.last k t t.marks kept.fits o (inl (initiates_live v.phase may))),
              takes_by p x kept.inv.last (λ l to is offers another. (
                has_waited_idle c w.trace kept.inv.last v.phase v.busy v.quiet v.own v.reply o.view_ok may (due_by p v w.now said.0 v.phase refl said.1) l to is offers,
                late_by_lag c kept.inv.last l to (holding_view p w.now w.trace kept.inv.last k t t.marks o may) is offers,
              )),
            )
        on (BySlot checks at_end over) =
            inr (
              no_loss (lives p w.now w.trace kept.inv.last k t t.marks kept.fits o (inl (checking_live v.phase checks))),
              takes_by p x kept.inv.last (λ l to is offers another. absurd (another (own_token c w.trace kept.inv.last v.phase v.busy v.quiet v.own v.reply checks over o.view_ok l is))),
            )
        on (BySilence may over claim) =
            let a = t.spec.address in
            let over' : v.quiet + tto p a ≤ w.now = subst (λ n. v.quiet + tto p n ≤ w.now) address over in
            let from : t.since ≤ v.quiet = (let a = knows.started in let b = knows.order in let d = knows.ended in omega (arith, a, b, d)) in
            let reached = reaches_each p w.now k w.taps w.trace waited kept.inv.last w.trace kept.inv.entries in
            let public = public_known c w.trace v.quiet v.own (let s = kept.fits.slot in omega (arith, over', s)) knows reached in
            let why : Warrant p w.now k a t.since true w.trace None said.0 = Waits v.quiet (from, refl) over' public (subst (λ n. said.0 ≡ token_octets n n) address claim) in
            let m = subst (λ n. Means n said.2.offered x) address (means v.address said.2.offered x said.2.meant (spelled said.0 said.1)) in
            let legal = legal_said p (specs_of w) w.now k a t.since true w.trace None said.0 x kept.fits refl refl (address_there w.taps k t here) m.claims tt why in
            inl (ap (λ b. claims_for (address_at (specs_of w) k) (telegram_of x) && b) (same_silence p w.now x w.trace (omega arith) k (w.now - tto p (address_at (specs_of w) k)) w.now (omega arith)) ∙ legal)

-- where no initiator telegram came before, its speaker has waited out its time-out
pub turn_waits : (w : World) (waited : List Waited) (k : ℕ) (t : Tap) → (kept : Keeps w waited) → slice_get w.taps k ≡ Some t → t.running ≡ true → Settled w → kept.inv.last ≡ None
    → (octets : List ℕ) → (turn_of w.params t.station t.marks w.now).1 ≡ Some octets → is_initiator (sending k octets w.now w.taps) ≡ true → tto w.params t.spec.address ≤ w.now
turn_waits w waited k t kept here running set none octets says =
    subst (λ z. IfSome z Comes) says
    (by (acts c w.trace kept.inv.last v kept.fits (left-after_marks p t.station t.marks ((set.stays k t here).opened))
    (asks_of v.cycles.initiator.pending (reply-after_marks p t.station t.marks ((set.stays k t here).sayable)).1.pending) o.view_ok))
  where
    p : Params
    p = w.params

    c : Place
    c = place p w.now k t

    v : Station
    v = view p t

    o : TapHolds p w.now w.trace kept.inv.last k t
    o = kept.inv.taps k t here running

    Comes : List ℕ → Type 0
    Comes octets = is_initiator (sending k octets w.now w.taps) ≡ true → tto p t.spec.address ≤ w.now

    spelled : (octets : List ℕ) → (turn_of p t.station t.marks w.now).1 ≡ Some octets → fault_of (map Good octets) ≡ None
    spelled octets e = subst (λ z. IfSome z (λ octets. SpellsOne (Sent (sending k octets w.now w.taps)))) e (said_spells w set k t here running)

    on : (octets : List ℕ) → Grounds c v.address v.quiet v.own v.phase octets → tto p t.spec.address ≤ w.now
    on octets (ByToken may) = absurd (held_last c kept.inv.last none (holding_view p w.now w.trace kept.inv.last k t t.marks o may))
    on octets (BySlot checks at_end over) = absurd (let h = own_offer c w.trace kept.inv.last v.phase v.busy v.quiet v.own v.reply checks over o.view_ok in none-some h.r (sym none ∙ h.is))
    on octets (BySilence may over claim) = subst (λ n. tto p n ≤ w.now) (marks p t.station t.marks ∙ o.address) (at_once (tto p v.address) over)
      where
        at_once : (n : ℕ) → v.quiet + n ≤ w.now → n ≤ w.now
        at_once n over = omega (arith, over)

    by : Acts c v (turn_of p t.station t.marks w.now) → IfSome (turn_of p t.station t.marks w.now).1 Comes
    by (Rests e) = subst (λ (z : Station × Option (List ℕ)). IfSome z.1 Comes) (sym e) tt
    by (Replies r is said still past waiting replied) =
        subst (λ z. IfSome z Comes) (sym said)
        (λ init. absurd (let none = reply_means (sending k r.octets w.now w.taps) (reply_of v.reply r (reply-after_marks p t.station t.marks ((set.stays k t here).sayable)).0 is).no_initiator (spelled r.octets said) in
        let z : true ≡ false = sym init ∙ none in cc))
    by (Initiates said still past grounds) = subst (λ z. IfSome z Comes) (sym said.1) (λ init. on said.0 grounds)
