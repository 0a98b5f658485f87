-- A turn of a tap keeps what is kept.
use Rattle.std.proofs.Common.{◌≡◌, ℕ, zero, suc, ◌+◌, ◌-◌, ◌<◌, ◌≤◌, inl, Bool, true, false, not, ◌==◌, ◌&&◌, ◌||◌, List, [], ◌∷◌, ◌++◌, length, map, refl, sym, ap, ◌∙◌, subst, arith, Option, Some, None, Ok}
use Rattle.std.specs.Prelude.{slice_get, slice_set, nat_le, is_some, IfSome}
use Rattle.std.specs.List.{list_any}
use Rattle.std.proofs.lemmas.Bool.{eq-eqb, le-leb}
use Rattle.std.proofs.lemmas.Option.{none-some}
use Rattle.pb_telegram.specs.Faults.{fault_of}
use Rattle.pb_telegram.specs.declared.chars.RxChar.TheVariants.{Good}
use Rattle.pb_timers.specs.Timers.{tto}
use Rattle.pb_cycles.specs.declared.initiators.OpenRequest.{OpenRequest}
use Rattle.law_turn.specs.Phases.{Phase}
use Rattle.law_turn.specs.Stations.{Station, Reply}
use Rattle.law_turn.specs.Laws.{IsReply, IsOpenRequest}
use Rattle.law_turn.specs.Turns.{turn_of}
use Rattle.law_turn.proofs.Addresses.{turn-address}
use Rattle.law_turn.proofs.Initiating.{reply-after_marks, fits-turn_of}
use Rattle.law_turn.proofs.Retrying.{left-after_marks}
use Rattle.law_model.specs.Trace.{Record, Entry, Sent, Noise, with_entry}
use Rattle.law_model.specs.Medium.{Tap}
use Rattle.law_model.specs.World.{World, Turn, Fault}
use Rattle.law_model.specs.World as world
use Rattle.law_model.specs.Step.{step_turn, sending}
use Rattle.law_model.proofs.Worlds.{unless-Ok}
use Rattle.law_runs.specs.Activity.{is_silent}
use Rattle.law_runs.specs.Premises.{Waited, has_namesakes, has_waited, waited_by, two_have_waited, first_number}
use Rattle.law_token.specs.Lists.{Each}
use Rattle.law_token.specs.Places.{Place}
use Rattle.law_token.specs.Views.{view, place, TapHolds}
use Rattle.law_token.specs.Entries.{Origin}
use Rattle.law_token.specs.Stations.{IsActive}
use Rattle.law_token.specs.Invariant.{Settled, Keeps}
use Rattle.law_token.proofs.bus.Lists.{each_map}
use Rattle.law_token.proofs.bus.Pairs.{Public}
use Rattle.law_token.proofs.bus.Live.{lives, initiates_live}
use Rattle.law_token.proofs.turn.Initiator.{SaidPhase, SaidClaim, SaidOwn, SaidLast, SaidData, SaidStatus, SaidToken, checking_live}
use Rattle.law_token.proofs.bus.Waits.{waits_in, alone}
use Rattle.law_token.proofs.bus.Legal.{same_silence}
use Rattle.law_token.proofs.whole.Keeping.{Kept}
use Rattle.law_token.proofs.turn.Inactive.{active_before}
use Rattle.law_token.proofs.turn.Actions.{Acts, Rests, Replies, Initiates, Asks, Grounds, ByToken, BySlot, BySilence, acts}
use Rattle.law_token.proofs.turn.Afterwards.{Begins, says_of, tap_rests, tap_initiates, tap_replied, waiting_on, grounds_on}
use Rattle.law_token.proofs.turn.Meaning.{Means, means, reply_means}
use Rattle.law_token.proofs.turn.Warrants.{OwnOver, public_known, silent_by, warrant, speaks_of, origin_lives}
use Rattle.law_token.proofs.turn.Trace.{by_begin}
use Rattle.law_token.proofs.turn.Records.{reaches_each, OwnPast, own_past}
use Rattle.law_token.proofs.turn.Kept.{turned, rest_keeps, reply_keeps, said_keeps}
use Rattle.law_token.proofs.whole.Stays.{runs_then}

-- ---- what a turn needs beside the invariant

-- what a running tap says now is the spelling of a telegram
abbrev pub SaysSpelled : World → ℕ → Type 0
SaysSpelled w k = (t : Tap) → slice_get w.taps k ≡ Some t → t.running ≡ true → IfSome (turn_of w.params t.station t.marks w.now).1 (λ octets. fault_of (map Good octets) ≡ None)

said_active : (c : Place) (x : Record) (ph : Phase) → SaidPhase c x ph → IsActive ph
said_active c x ph (SaidClaim none) = tt
said_active c x ph (SaidOwn none) = tt
said_active c x ph (SaidLast none) = tt
said_active c x ph (SaidData none) = tt
said_active c x ph (SaidStatus none) = tt
said_active c x ph (SaidToken to offers) = tt

pub asks_of : (o : Option OpenRequest) → IfSome o IsOpenRequest → Asks o
asks_of None h = tt
asks_of (Some o) h = h.request

pub reply_of : (o : Option Reply) (r : Reply) → IfSome o (λ r. IsReply r.octets) → o ≡ Some r → IsReply r.octets
reply_of o r h e = subst (λ z. IfSome z (λ r. IsReply r.octets)) e h

-- ---- the waits of the new world

pub set_here : (ts : List Tap) (k : ℕ) (t u : Tap) → slice_get ts k ≡ Some t → slice_get (slice_set ts k u) k ≡ Some u
set_here [] k t u here = absurd (none-some t here)
set_here (x ∷ xs) zero t u here = refl
set_here (x ∷ xs) (suc k) t u here = set_here xs k t u here

all_four : (a b c d : Bool) → a ≡ true → b ≡ true → c ≡ true → d ≡ true → (a && b && c && d) ≡ true
all_four a b c d ea eb ec ed = ap (λ z. z && b && c && d) ea ∙ ap (λ z. true && z && c && d) eb ∙ ap (λ z. true && true && z && d) ec ∙ ed

any_first : (test : Waited → Bool) (xs ys : List Waited) → list_any test xs ≡ true → list_any test (xs ++ ys) ≡ true
any_first test [] ys h = absurd (let w : false ≡ true = h in cc)
any_first test (x ∷ xs) ys h = go (test x) (list_any test xs) (list_any test (xs ++ ys)) (λ g. any_first test xs ys g) h
  where
    go : (a b c : Bool) → (b ≡ true → c ≡ true) → (a || b) ≡ true → (a || c) ≡ true
    go true b c f h = refl
    go false b c f h = f h

has_claimed : (w : World) (k : ℕ) (t : Tap) (s' : Station) (octets : List ℕ) (q : ℕ) → t.running ≡ true → (t.since ≤ q) × (t.spec.master ≡ true) → q + tto w.params t.spec.address ≤ w.now → Each (Public w.params.ttd k w.now q) w.trace
    → has_waited (turned w k t s' (Some octets)) k (record t { station = s'; marks = [] }) ≡ true
has_claimed w k t s' octets q running from over public =
    let x = sending k octets w.now w.taps in
    let timeout = tto w.params t.spec.address in
    let early = from.0 in
    all_four t.running t.spec.master (nat_le (t.since + timeout) w.now) (is_silent w.params.ttd k (with_entry (Sent x) w.trace) (w.now - timeout) w.now) running from.1
    (le-leb (t.since + timeout) w.now (omega (arith, early, over)))
    (same_silence w.params w.now x w.trace (omega arith) k (w.now - timeout) w.now (omega arith) ∙ silent_by w.params.ttd k w.now q (w.now - timeout) w.now w.trace (omega (arith, over)) (omega arith) public)

claim_in : (w : World) (k : ℕ) (t : Tap) (s' : Station) (octets : List ℕ) (waited : List Waited) → slice_get w.taps k ≡ Some t → has_waited (turned w k t s' (Some octets)) k (record t { station = s'; marks = [] }) ≡ true
    → (let next = turned w k t s' (Some octets) in list_any (λ z. (z.tap == k) && nat_le w.now z.moment) (waited_by next 0 next.taps ++ waited) ≡ true)
claim_in w k t s' octets waited here has =
    let next = turned w k t s' (Some octets) in
    let test : Waited → Bool = λ z. (z.tap == k) && nat_le w.now z.moment in
    any_first test (waited_by next 0 next.taps) waited
    (waits_in next test 0 k k next.taps (record t { station = s'; marks = [] }) (omega arith) (set_here w.taps k t (record t { station = s'; marks = [] }) here) has
    (ap (λ b. b && nat_le w.now w.now) (eq-eqb k k refl) ∙ le-leb w.now w.now (omega arith)))

-- ---- the turn

own_over : (k now : ℕ) (e : Entry) → OwnPast k now e → OwnOver k now e
own_over k now (Noise span) h = tt
own_over k now (Sent r) h = λ mine. (h mine).0

-- where what is said comes from: its speaker had waited, or something was there shortly before
origin_of : (w : World) (k : ℕ) (t : Tap) (octets : List ℕ) (v : Station) {waited : List Waited} (kept : Keeps w waited) (all : List Waited) → TapHolds w.params w.now w.trace kept.inv.last k t → v ≡ view w.params t → Each (OwnOver k w.now) w.trace
    → ((view w.params t).quiet + tto w.params (view w.params t).address ≤ w.now → list_any (λ z. (z.tap == k) && nat_le w.now z.moment) all ≡ true)
    → Grounds (place w.params w.now k t) (view w.params t).address (view w.params t).quiet (view w.params t).own (view w.params t).phase octets
    → Origin w.params (with_entry (Sent (sending k octets w.now w.taps)) w.trace) all (sending k octets w.now w.taps)
origin_of w k t octets v kept all o same over claim (ByToken may) =
    origin_lives (place w.params w.now k t) w.trace all (sending k octets w.now w.taps) refl refl over (lives w.params w.now w.trace kept.inv.last k t t.marks kept.fits o (inl (initiates_live (view w.params t).phase may)))
origin_of w k t octets v kept all o same over claim (BySlot is still late) =
    origin_lives (place w.params w.now k t) w.trace all (sending k octets w.now w.taps) refl refl over (lives w.params w.now w.trace kept.inv.last k t t.marks kept.fits o (inl (checking_live (view w.params t).phase is)))
origin_of w k t octets v kept all o same over claim (BySilence may late said) = inl (claim late)

-- what the world is after a turn, by what was said
abbrev pub KeepsAfter : World → List Waited → ℕ → Tap → Station → Option (List ℕ) → Type 0
KeepsAfter w waited k t s' o = let next = turned w k t s' o in
    has_namesakes next.taps ≡ false → two_have_waited next.params.ttd (waited_by next 0 next.taps) (waited_by next 0 next.taps ++ waited) ≡ false → Keeps next (waited_by next 0 next.taps ++ waited)

pub acted_keeps : (w : World) (waited : List Waited) (k : ℕ) (t : Tap) → (kept : Keeps w waited) → slice_get w.taps k ≡ Some t → t.running ≡ true → Settled w → IfSome (turn_of w.params t.station t.marks w.now).1 (λ octets. fault_of (map Good octets) ≡ None)
    → Acts (place w.params w.now k t) (view w.params t) (turn_of w.params t.station t.marks w.now) → KeepsAfter w waited k t (turn_of w.params t.station t.marks w.now).0 (turn_of w.params t.station t.marks w.now).1
acted_keeps w waited k t kept here running set spelled (Rests e) =
    let p = w.params in
    let turn = turn_of p t.station t.marks w.now in
    let next = turned w k t turn.0 None in
    subst (KeepsAfter w waited k t turn.0) (sym (ap (λ (z : Station × Option (List ℕ)). z.1) e))
    (λ distinct two. rest_keeps w waited (waited_by next 0 next.taps) k t turn.0 kept here running refl (tap_rests p w.now w.trace kept.inv.last k t e (kept.inv.taps k t here running)) distinct)
acted_keeps w waited k t kept here running set spelled (Replies r is said still past waiting replied) =
    let p = w.params in
    let turn = turn_of p t.station t.marks w.now in
    let v = view p t in
    let o = kept.inv.taps k t here running in
    let octets = r.octets in
    let next = turned w k t turn.0 (Some octets) in
    let x = sending k octets w.now w.taps in
    let sayable = (set.stays k t here).sayable in
    let good : fault_of (map Good octets) ≡ None = subst (λ z. IfSome z (λ octets. fault_of (map Good octets) ≡ None)) said spelled in
    let some : 0 < length octets = (subst (λ z. IfSome z (λ octets. (0 < length octets) × (length octets ≤ 255))) said (fits-turn_of p t.station t.marks w.now sayable)).0 in
    let b : Begins p w.now k t octets x = record { mine = refl; begin = refl; end = refl; some = omega (arith, some); still = still; past = past; on = waiting_on v.phase waiting } in
    let knows = (says_of p w.now w.trace kept.inv.last k t octets x b o).knows in
    let none = reply_means x (reply_of v.reply r (reply-after_marks p t.station t.marks sayable).0 is).no_initiator good in
    let own = own_past p w.now k v.own w.taps w.trace waited kept.inv.last knows.order (let a = knows.ended in omega (arith, a, past)) w.trace knows.owns kept.inv.entries in
    subst (KeepsAfter w waited k t turn.0) (sym said)
    (λ distinct two. reply_keeps w waited (waited_by next 0 next.taps) k t turn.0 octets kept here running refl (tap_replied p w.now w.trace kept.inv.last k t octets x kept.fits b o replied) distinct some good none own)
acted_keeps w waited k t kept here running set spelled (Initiates said still past grounds) =
    let p = w.params in
    let turn = turn_of p t.station t.marks w.now in
    let v = view p t in
    let c = place p w.now k t in
    let o = kept.inv.taps k t here running in
    let octets = said.0 in
    let uttered = said.2 in
    let next = turned w k t turn.0 (Some octets) in
    let t' : Tap = record t { station = turn.0; marks = [] } in
    let x = sending k octets w.now w.taps in
    let sayable = (set.stays k t here).sayable in
    let good : fault_of (map Good octets) ≡ None = subst (λ z. IfSome z (λ octets. fault_of (map Good octets) ≡ None)) said.1 spelled in
    let some : 0 < length octets = (subst (λ z. IfSome z (λ octets. (0 < length octets) × (length octets ≤ 255))) said.1 (fits-turn_of p t.station t.marks w.now sayable)).0 in
    let b : Begins p w.now k t octets x = record { mine = refl; begin = refl; end = refl; some = omega (arith, some); still = still; past = past; on = grounds_on c v.address v.quiet v.own v.phase octets grounds } in
    let knows = (says_of p w.now w.trace kept.inv.last k t octets x b o).knows in
    let m = means v.address uttered.offered x uttered.meant good in
    let st = uttered.stands x refl refl m.offers in
    let addr : v.address ≡ t.spec.address = sym st.address_is ∙ turn-address p t.station t.marks w.now ∙ o.address in
    let own = own_past p w.now k v.own w.taps w.trace waited kept.inv.last knows.order (let a = knows.ended in omega (arith, a, past)) w.trace knows.owns kept.inv.entries in
    let rank : t.spec.master ≡ true = (set.stays k t here).ranked (active_before p t.station t.marks w.now (said_active c x turn.0.phase st.phase_is)) in
    let why = warrant p w.now w.trace kept.inv.last k t octets kept.fits o (reaches_each p w.now k w.taps w.trace waited kept.inv.last w.trace kept.inv.entries) knows addr (λ _. rank) grounds in
    let over = each_map (OwnPast k w.now) (OwnOver k w.now) w.trace (own_over k w.now) own in
    subst (KeepsAfter w waited k t turn.0) (sym said.1)
    (λ distinct two.
    let speaks = speaks_of p w.now k t.spec.address t.since t.spec.master w.trace waited kept.inv.last octets why
    (λ q from late public. alone next waited k t' p.ttd (set_here w.taps k t t' here) (has_claimed w k t turn.0 octets q running from late public) two) in
    said_keeps w waited (waited_by next 0 next.taps) k t turn.0 octets uttered.offered kept here running refl (by_begin w.trace set.stands)
    (tap_initiates p w.now w.trace kept.inv.last k t octets x kept.fits b o m.init st)
    distinct some good (subst (λ a. Means a uttered.offered x) addr m) own why speaks
    (origin_of w k t octets v kept (waited_by next 0 next.taps ++ waited) o refl over
    (λ late. let q = v.quiet in
    let late' : q + tto p t.spec.address ≤ w.now = subst (λ n. q + tto p n ≤ w.now) addr late in
    claim_in w k t turn.0 octets waited here (has_claimed w k t turn.0 octets q running (let a = knows.started in let d = knows.order in let e = knows.ended in omega (arith, a, d, e), rank) late'
    (public_known c w.trace q v.own (let a = kept.fits.slot in omega (arith, late', a)) knows (reaches_each p w.now k w.taps w.trace waited kept.inv.last w.trace kept.inv.entries))))
    grounds))

-- a running tap acts as its view says
tap_acts : (w : World) (waited : List Waited) (k : ℕ) (t : Tap) → (kept : Keeps w waited) → slice_get w.taps k ≡ Some t → t.running ≡ true → Settled w → Acts (place w.params w.now k t) (view w.params t) (turn_of w.params t.station t.marks w.now)
tap_acts w waited k t kept here running set =
    acts (place w.params w.now k t) w.trace kept.inv.last (view w.params t) kept.fits (left-after_marks w.params t.station t.marks ((set.stays k t here).opened))
    (asks_of (view w.params t).cycles.initiator.pending (reply-after_marks w.params t.station t.marks ((set.stays k t here).sayable)).1.pending)
    (kept.inv.taps k t here running).view_ok

numbers : (a b c d : Bool) → first_number a b c d ≡ None → (a ≡ false) × (d ≡ false)
numbers true b c d e = absurd (none-some 1 (sym e))
numbers false true c d e = absurd (none-some 2 (sym e))
numbers false false true d e = absurd (none-some 3 (sym e))
numbers false false false true e = absurd (none-some 4 (sym e))
numbers false false false false e = (refl, refl)

-- a turn keeps what is kept
pub turn_keeps_by : (w : World) (k : ℕ) → SaysSpelled w k → Kept w (Turn k)
turn_keeps_by w k spelled waited next reply ok event unbroken set kept = by (slice_get w.taps k) refl ok
  where
    by : (o : Option Tap) → slice_get w.taps k ≡ o → step_turn w k o ≡ Ok (next, reply) → Keeps next (waited_by next 0 next.taps ++ waited)
    by None here ok = absurd cc
    by (Some t) here ok =
        let turn = turn_of w.params t.station t.marks w.now in
        let done = unless-Ok ((not t.running, world.NotRunning) ∷ (is_some turn.1 && nat_le w.limit (length w.trace), world.TraceFull) ∷ []) (turned w k t turn.0 turn.1, record { now = w.now; spoke = turn.1 }) (next, reply) ok in
        let running = runs_then t.running done.0.0 in
        let is : turned w k t turn.0 turn.1 ≡ next = ap (λ (z : World × world.Reply). z.0) done.1 in
        let both = numbers (has_namesakes next.taps) false false (two_have_waited next.params.ttd (waited_by next 0 next.taps) (waited_by next 0 next.taps ++ waited)) unbroken in
        subst (λ z. has_namesakes z.taps ≡ false → two_have_waited z.params.ttd (waited_by z 0 z.taps) (waited_by z 0 z.taps ++ waited) ≡ false → Keeps z (waited_by z 0 z.taps ++ waited)) is
        (acted_keeps w waited k t kept here running set (spelled t here running) (tap_acts w waited k t kept here running set)) both.0 both.1
