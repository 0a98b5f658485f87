-- What a listener anywhere hears, if each initiator telegram is good by what it hears, raises no alarm.
use Rattle.std.proofs.Common.{◌≡◌, ℕ, ◌+◌, ◌-◌, ◌*◌, ◌<◌, ◌≤◌, ◌⊎◌, inl, inr, ⊎_elim, Bool, true, false, if◌then◌else◌, not, ◌==◌, ◌&&◌, ◌||◌, List, [], ◌∷◌, map, refl, sym, ap, ◌∙◌, subst, arith, Option, Some, None}
use Rattle.std.specs.Prelude.{nat_lt}
use Rattle.std.proofs.lemmas.Bool.{le-ltb, lt-ltb, eq-eqb, eqb-true, ltb-true, cases_lt}
use Rattle.pb_timers.specs.Timers.{Params, tto}
use Rattle.law_turn.specs.Arrivals.{Arrival, arrival_of}
use Rattle.law_model.specs.Trace.{Record, Entry, Sent, Noise}
use Rattle.law_model.specs.Medium.{TapSpec, reaches_taps}
use Rattle.law_model.proofs.Cases.{by_test}
use Rattle.law_runs.specs.Initiators.{telegram_of, initiates, is_initiator, offered_to, offered_by}
use Rattle.law_runs.specs.Judging.{IsOrderedFrom}
use Rattle.law_runs.specs.Legality.{address_at}
use Rattle.pb_monitor.specs.declared.alarms.Alarm.{Alarm}
use Rattle.pb_monitor.specs.declared.alarms.Alarm.TheVariants.{PassedAgainTooEarly, PassedAgainThoughHeard, TookAfterSlot, SpokeOutOfTurn, SpokeWithoutToken, TookLate, TookTooSoon}
use Rattle.pb_monitor.specs.declared.alarms.Classes.{Classes}
use Rattle.pb_monitor.specs.declared.meanings.InitiatorTelegram.{InitiatorTelegram}
use Rattle.pb_monitor.specs.declared.states.LastHeard.{LastHeard}
use Rattle.pb_monitor.specs.declared.states.State.{State}
use Rattle.pb_monitor.specs.Captures.{Burst, All, Has, Fills, IsTold, IsOf, BeginsAt, AllClear, HearsFrom, Hears}
use Rattle.pb_monitor.specs.Judge.{listening, live, may_claim, or_alarm, or_claim, judged, judged_last, judged_offer, judged_passing, judged_taking, taking_offer, taking_last, chosen, lost_alarm, silence_before, last_behind, touch, behind, alarms, with_alarm}
use Rattle.pb_monitor.specs.Meanings.{source_of, is_claim_like, is_none, initiator_of}
use Rattle.pb_monitor.specs.Promises.{IsBySource}
use Rattle.pb_monitor.proofs.Claims.{Silences, EndsSolid, claim_fits, so_far, silences_before, silences_behind, burst_ends_solid, start_is_solid, nothing_yet}
use Rattle.pb_monitor.proofs.Follows.{Follows, Knowing, follows_it}
use Rattle.pb_monitor.proofs.Heard.{Facts, follows_on}
use Rattle.pb_monitor.proofs.NoneRaised.{claim_like, another_by, facts_of, spelled_by, spelled_some, least_timeout}
use Rattle.law_monitor.specs.Captures.{HearsAmid, HearsSince}
use Rattle.law_monitor.specs.Timely.{Successive}
use Rattle.law_monitor.specs.Anywhere.{as_heard}
use Rattle.law_monitor.proofs.Blind.{blind_alarm, blind_last}
use Rattle.law_monitor.proofs.anywhere.Here.{ClaimHere, NoLossHere, Untouched, PassedHere, TakenHere, FollowsHere, GoodHere, inits, all_inits, has_inits}
use Rattle.law_monitor.proofs.timely.Fillers.{filler_has, known_before, same_last}
use Rattle.pb_monitor.proofs.Legal.{untouched}
use Rattle.law_token.proofs.whole.Stays.{not_true_false}

-- ---- claims

-- a stretch that is clear is so from a later moment on
clear_later : (delay u s v : ℕ) (es : List Entry) → u ≤ s → AllClear delay u v es → AllClear delay s v es
clear_later delay u s v [] le clear = tt
clear_later delay u s v (e ∷ es) le clear =
    (⊎_elim (λ (a : (reaches_taps delay e).end ≤ u). inl (omega (arith, a, le))) (λ (b : v ≤ (reaches_taps delay e).begin). inr b) clear.0, clear_later delay u s v es le clear.1)

claim_here : (p : Params) (slack since : ℕ) (heard : List Entry) (j : State) (begin sent : ℕ) (a : Arrival) → 2 * p.ttd < p.tsl → 6 * p.tsl ≤ tto p (source_of a) → Silences p 0 since heard j begin → is_claim_like a ≡ true
    → sent ≤ begin → begin ≤ sent + p.ttd → AllClear 0 (begin - tto p (source_of a)) sent heard → may_claim p slack since j begin (initiator_of a) ≡ true
claim_here p slack since heard j begin sent a short least s claims before near silent = by (tto p (source_of a)) least silent (claim_fits p slack since j begin a claims)
  where
    by : (n : ℕ) → 6 * p.tsl ≤ n → AllClear 0 (begin - n) sent heard
        → (begin ≤ j.silent_to + p.ttd → ((j.silent_from ≤ since) × (begin < since + (p.ttd + n))) ⊎ (j.silent_from + n ≤ begin) → may_claim p slack since j begin (initiator_of a) ≡ true)
        → may_claim p slack since j begin (initiator_of a) ≡ true
    by n least clear fits = ⊎_elim
        (λ (early : begin < since + n).
        let h = so_far p 0 since heard j sent begin s before near (λ _. clear_later 0 (begin - n) since sent heard (omega (arith, early)) clear) in
        let t = h.0 in
        fits (omega (arith, t, near)) (inl (h.1, omega (arith, early))))
        (λ (room : since + n ≤ begin).
        let h = s.long (begin - n) sent (omega (arith, room)) (omega (arith, least, room, near, short)) (omega (arith, least, room, near)) before clear in
        let t = h.0 in
        let f = h.1 near in
        fits (omega (arith, t, near)) (inr (omega (arith, f, room)))) (cases_lt begin (since + n))

-- ---- the last telegram

-- what the listener knows of it
record KnowsHere (p : Params) (specs : List TapSpec) (heard : List Entry) (x : Record) (l : LastHeard) : Type 0 where
  source : l.source ≡ address_at specs x.tap
  offered : l.offered ≡ offered_to x
  end : l.end ≡ x.end
  touched : l.touched ≡ true → Untouched p heard x → ⊥
  another : (to : ℕ) → offered_to x ≡ Some to → to ≡ l.source → ⊥

filler_known : (p : Params) (specs : List TapSpec) (heard : List Entry) (b : Burst) (x : Record) → initiates (arrival_of b.chars) ≡ true → IsBySource specs (Sent x) → Fills 0 b (Sent x)
    → KnowsHere p specs heard x (record { source = source_of (arrival_of b.chars); offered = offered_by (arrival_of b.chars); end = b.end; touched = false })
filler_known p specs heard b x init by f = let e = f.1 in record {
  source = ap source_of f.2 ∙ by (ap initiates (sym f.2) ∙ init);
  offered = ap offered_by f.2;
  end = omega (arith, e);
  touched = λ t _. cc;
  another = λ to o same. another_by (telegram_of x) to o (same ∙ ap source_of f.2);
}

touched_known : (p : Params) (slack : ℕ) (specs : List TapSpec) (heard : List Entry) (l : LastHeard) (x : Record) (m : ℕ) → l.end ≤ m → Has (BeginsAt 0 m) heard → KnowsHere p specs heard x l
    → KnowsHere p specs heard x (record l { touched = l.touched || nat_lt (m + (2 * p.ttd + slack)) (l.end + p.tsl) })
touched_known p slack specs heard l x m late begins k = record {
  source = k.source;
  offered = k.offered;
  end = k.end;
  another = k.another;
  touched = λ t none. by l.touched refl (nat_lt (m + (2 * p.ttd + slack)) (l.end + p.tsl)) refl t none;
}
  where
    by : (a : Bool) → l.touched ≡ a → (c : Bool) → nat_lt (m + (2 * p.ttd + slack)) (l.end + p.tsl) ≡ c → (a || c) ≡ true → Untouched p heard x → ⊥
    by true e c f t none = k.touched e none
    by false e true f t none =
        let z = ltb-true (m + (2 * p.ttd + slack)) (l.end + p.tsl) f in
        let q = k.end in none m (omega (arith, q, late)) (omega (arith, q, z)) begins
    by false e false f t none = absurd cc

-- what follows it raises no alarm
follows_none : (p : Params) (slack : ℕ) (specs : List TapSpec) (heard : List Entry) (w r : Record) (l : LastHeard) (a : Arrival) (o : Option ℕ) → KnowsHere p specs heard w l → source_of a ≡ address_at specs r.tap → offered_to w ≡ o → FollowsHere p specs heard w o r
    → (judged_offer p slack l o r.begin (initiator_of a) ≡ None) × (taking_offer p slack l o r.begin (initiator_of a) ≡ None)
follows_none p slack specs heard w r l a None k from offers same = (
  ap (λ b. if b then None else or_claim (is_claim_like a) SpokeWithoutToken) (eq-eqb (source_of a) l.source (from ∙ ap (λ n. address_at specs n) (sym same) ∙ sym k.source)),
  refl,
)
follows_none p slack specs heard w r l a (Some to) k from offers follows =
    ⊎_elim (λ (h : PassedHere p heard w r). again h) (λ (h : TakenHere p specs w to r). taken h) follows
  where
    otherwise : Option Alarm
    otherwise = if source_of a == to then (if nat_lt r.begin (l.end + (p.tsl + p.ttd + slack)) then None else or_claim (is_claim_like a) TookAfterSlot) else or_claim (is_claim_like a) SpokeOutOfTurn

    end : l.end ≡ w.end
    end = k.end

    again : PassedHere p heard w r → (judged_offer p slack l (Some to) r.begin (initiator_of a) ≡ None) × (taking_offer p slack l (Some to) r.begin (initiator_of a) ≡ None)
    again h =
        let same = eq-eqb (source_of a) l.source (from ∙ ap (λ n. address_at specs n) (sym h.same) ∙ sym k.source) in
        let late = h.late in (
          ap (λ b. if b then judged_passing p slack l r.begin else otherwise) same
              ∙ ap (λ b. if b then Some PassedAgainTooEarly else or_alarm (not l.touched) PassedAgainThoughHeard) (le-ltb (r.begin + slack) (l.end + p.tsl) (omega (arith, end, late)))
              ∙ untouched l.touched (λ t. k.touched t h.untouched),
          ap (λ b. if not b && source_of a == to then judged_taking p slack l r.begin else None) same,
        )

    taken : TakenHere p specs w to r → (judged_offer p slack l (Some to) r.begin (initiator_of a) ≡ None) × (taking_offer p slack l (Some to) r.begin (initiator_of a) ≡ None)
    taken h =
        let soon = h.in_slot in
        let low = h.idle in
        let high = h.lag in (
          by_test (λ (z : Option Alarm). z ≡ None) (source_of a == l.source) (judged_passing p slack l r.begin) otherwise
              (λ e. absurd (k.another to offers (h.taker ∙ sym from ∙ eqb-true (source_of a) l.source e)))
              (λ _. ap (λ b. if b then (if nat_lt r.begin (l.end + (p.tsl + p.ttd + slack)) then None else or_claim (is_claim_like a) TookAfterSlot) else or_claim (is_claim_like a) SpokeOutOfTurn) (eq-eqb (source_of a) to (from ∙ sym h.taker))
              ∙ ap (λ b. if b then None else or_claim (is_claim_like a) TookAfterSlot) (lt-ltb r.begin (l.end + (p.tsl + p.ttd + slack)) (omega (arith, end, soon)))),
          by_test (λ (z : Option Alarm). z ≡ None) (not (source_of a == l.source) && source_of a == to) (judged_taking p slack l r.begin) None
              (λ _. ap (λ b. if b then Some TookLate else or_alarm (not (nat_lt (r.begin + slack) (l.end + p.tid1))) TookTooSoon) (le-ltb (l.end + (p.tid1 + p.lag + 2 * p.ttd + slack)) r.begin (omega (arith, end, high)))
              ∙ ap (λ b. or_alarm (not b) TookTooSoon) (le-ltb (r.begin + slack) (l.end + p.tid1) (omega (arith, end, low)))) (λ _. refl),
        )

-- ---- an initiator telegram

abbrev LastHere : Params → List TapSpec → (since : ℕ) → (heard told : List Entry) → ℕ → Option LastHeard → Type 0
LastHere p specs since heard told q None = Unit {0}
LastHere p specs since heard told q (Some l) = (since < l.end) × (l.end ≤ q) × Follows 0 q (λ w. KnowsHere p specs heard w l) None told

record LinkedHere (p : Params) (specs : List TapSpec) (since : ℕ) (heard told : List Entry) (j : State) : Type 0 where
  from : since ≤ j.quiet
  solid : EndsSolid 0 since heard j.quiet
  silences : Silences p 0 since heard j j.quiet
  last : LastHere p specs since heard told j.quiet j.last

-- what is known when a burst is judged
record JudgingHere (p : Params) (specs : List TapSpec) (delays : ℕ → ℕ) (since : ℕ) (heard told : List Entry) (j : State) (b : Burst) : Type 0 where
  short : 2 * p.ttd < p.tsl
  linked : LinkedHere p specs since heard told j
  order : IsOrderedFrom 0 told
  late : j.quiet ≤ b.begin
  some : b.begin < b.end
  clear : AllClear 0 j.quiet b.begin heard
  here : Has (Fills 0 b) told
  facts : All (Facts specs 0 j.quiet b) told
  sources : All (IsBySource specs) told
  init : initiates (arrival_of b.chars) ≡ true
  good : Successive (GoodHere p specs delays heard) None told

-- at its own moments
at_its : (b : Burst) (r : Record) → Fills 0 b (Sent r) → b.begin ≡ r.begin
at_its b r f = let e = f.0 in omega (arith, e)

claim_told : (p : Params) (slack : ℕ) (specs : List TapSpec) (delays : ℕ → ℕ) (since : ℕ) (heard told : List Entry) (j : State) (b : Burst) → JudgingHere p specs delays since heard told j b → (r : Record) → Fills 0 b (Sent r) → IsBySource specs (Sent r) → is_initiator r ≡ true
    → ClaimHere p specs delays heard r → may_claim p slack since (silence_before p slack j b.begin) b.begin (initiator_of (arrival_of b.chars)) ≡ true
claim_told p slack specs delays since heard told j b k r fill source initiator c =
    let a = arrival_of b.chars in
    let i = silence_before p slack j b.begin in
    let at = at_its b r fill in
    let from : address_at specs r.tap ≡ source_of a = sym (ap source_of fill.2 ∙ source initiator) in
    let near = c.near in
    let silences : Silences p 0 since heard i b.begin = silences_before p slack 0 since heard j b.begin k.linked.from k.late k.linked.solid k.linked.silences in
    subst (λ m. may_claim p slack since i m (initiator_of a) ≡ true) (sym at)
    (claim_here p slack since heard i r.begin (r.begin - delays r.tap) a k.short (least_timeout p (source_of a)) (subst (λ m. Silences p 0 since heard i m) at silences)
    (ap is_claim_like fill.2 ∙ claim_like (address_at specs r.tap) (telegram_of r) c.claims) (omega arith) (omega (arith, near))
    (subst (λ n. AllClear 0 (r.begin - tto p n) (r.begin - delays r.tap) heard) from c.silent))

none_lost : (p : Params) (slack : ℕ) (specs : List TapSpec) (delays : ℕ → ℕ) (since : ℕ) (heard told : List Entry) (j : State) (b : Burst) → JudgingHere p specs delays since heard told j b
    → may_claim p slack since (silence_before p slack j b.begin) b.begin (initiator_of (arrival_of b.chars)) ≡ false → nat_lt (j.quiet + live p slack) b.begin ≡ false
none_lost p slack specs delays since heard told j b k unfit =
    filler_has (nat_lt (j.quiet + live p slack) b.begin ≡ false) (GoodHere p specs delays heard) specs 0 b None told k.init good k.sources k.here k.good
  where
    Fit : Bool
    Fit = may_claim p slack since (silence_before p slack j b.begin) b.begin (initiator_of (arrival_of b.chars))

    by : (r : Record) → b.begin ≡ r.begin → NoLossHere p heard r → (z : Bool) → nat_lt (j.quiet + live p slack) b.begin ≡ z → z ≡ false
    by r at no_loss false e = refl
    by r at no_loss true e = let lost = ltb-true (j.quiet + live p slack) b.begin e in absurd (no_loss j.quiet (omega (arith, lost, at)) (subst (λ m. AllClear 0 j.quiet m heard) at k.clear))

    good : (l : Option Record) (r : Record) → Fills 0 b (Sent r) → IsBySource specs (Sent r) → is_initiator r ≡ true → GoodHere p specs delays heard l r → nat_lt (j.quiet + live p slack) b.begin ≡ false
    good None r fill source init c = absurd (not_true_false Fit (claim_told p slack specs delays since heard told j b k r fill source init c) unfit)
    good (Some w) r fill source init h =
        ⊎_elim (λ (c : ClaimHere p specs delays heard r). absurd (not_true_false Fit (claim_told p slack specs delays since heard told j b k r fill source init c) unfit))
        (λ (t : NoLossHere p heard r × FollowsHere p specs heard w (offered_to w) r). by r (at_its b r fill) t.0 (nat_lt (j.quiet + live p slack) b.begin) refl) h.1

none_wrong : (p : Params) (slack : ℕ) (specs : List TapSpec) (delays : ℕ → ℕ) (since : ℕ) (heard told : List Entry) (j : State) (b : Burst) → JudgingHere p specs delays since heard told j b
    → may_claim p slack since (silence_before p slack j b.begin) b.begin (initiator_of (arrival_of b.chars)) ≡ false
    → (judged_last p slack j.last b.begin (initiator_of (arrival_of b.chars)) ≡ None) × (taking_last p slack j.last b.begin (initiator_of (arrival_of b.chars)) ≡ None)
none_wrong p slack specs delays since heard told j b k unfit = by j.last k.linked.last
  where
    a : Arrival
    a = arrival_of b.chars

    by : (o : Option LastHeard) → LastHere p specs since heard told j.quiet o → (judged_last p slack o b.begin (initiator_of a) ≡ None) × (taking_last p slack o b.begin (initiator_of a) ≡ None)
    by None last = (refl, refl)
    by (Some l) last =
        known_before ((judged_offer p slack l l.offered b.begin (initiator_of a) ≡ None) × (taking_offer p slack l l.offered b.begin (initiator_of a) ≡ None)) (GoodHere p specs delays heard) specs 0 j.quiet 0 b (λ w. KnowsHere p specs heard w l) None told
        (λ w r h. h.0) good k.init k.late k.some tt k.order k.facts last.2 k.here k.good
      where
        good : (w r : Record) → KnowsHere p specs heard w l → Fills 0 b (Sent r) → IsBySource specs (Sent r) → is_initiator r ≡ true → GoodHere p specs delays heard (Some w) r
            → (judged_offer p slack l l.offered b.begin (initiator_of a) ≡ None) × (taking_offer p slack l l.offered b.begin (initiator_of a) ≡ None)
        good w r knows fill source init h =
            ⊎_elim (λ (c : ClaimHere p specs delays heard r). absurd (not_true_false (may_claim p slack since (silence_before p slack j b.begin) b.begin (initiator_of a)) (claim_told p slack specs delays since heard told j b k r fill source init c) unfit))
            (λ (t : NoLossHere p heard r × FollowsHere p specs heard w (offered_to w) r).
            subst (λ m. (judged_offer p slack l l.offered m (initiator_of a) ≡ None) × (taking_offer p slack l l.offered m (initiator_of a) ≡ None)) (sym (at_its b r fill))
            (follows_none p slack specs heard w r l a l.offered knows (ap source_of fill.2 ∙ source init) (sym knows.offered) (subst (λ o. FollowsHere p specs heard w o r) (sym knows.offered) t.1))) h.1

none_judged : (p : Params) (slack : ℕ) (c : Classes) (specs : List TapSpec) (delays : ℕ → ℕ) (since : ℕ) (heard told : List Entry) (j : State) (b : Burst) → JudgingHere p specs delays since heard told j b
    → judged p slack c since (silence_before p slack j b.begin) b.begin (initiator_of (arrival_of b.chars)) ≡ None
none_judged p slack c specs delays since heard told j b k = by (may_claim p slack since i b.begin t) refl
  where
    i : State
    i = silence_before p slack j b.begin

    t : InitiatorTelegram
    t = initiator_of (arrival_of b.chars)

    never : (z : Bool) → (z && false) ≡ false
    never true = refl
    never false = refl

    either : (z : Bool) (o : Option Alarm) → o ≡ None → (if z then o else None) ≡ None
    either true o e = e
    either false o e = refl

    by : (z : Bool) → may_claim p slack since i b.begin t ≡ z
        → (if z then None else if c.loss && nat_lt (i.quiet + live p slack) b.begin then Some (lost_alarm t) else chosen c (judged_last p slack i.last b.begin t) (taking_last p slack i.last b.begin t)) ≡ None
    by true e = refl
    by false e =
        let same = same_last p slack j b.begin in
        let none = none_wrong p slack specs delays since heard told j b k e in
        ap (λ n. if c.loss && nat_lt (n + live p slack) b.begin then Some (lost_alarm t) else chosen c (judged_last p slack i.last b.begin t) (taking_last p slack i.last b.begin t)) same.1
        ∙ ap (λ z. if c.loss && z then Some (lost_alarm t) else chosen c (judged_last p slack i.last b.begin t) (taking_last p slack i.last b.begin t)) (none_lost p slack specs delays since heard told j b k e)
        ∙ ap (λ z. if z then Some (lost_alarm t) else chosen c (judged_last p slack i.last b.begin t) (taking_last p slack i.last b.begin t)) (never c.loss)
        ∙ ap (λ o. chosen c o (taking_last p slack i.last b.begin t)) (ap (λ o. judged_last p slack o b.begin t) same.0 ∙ none.0)
        ∙ either c.timing (taking_last p slack i.last b.begin t) (ap (λ o. taking_last p slack o b.begin t) same.0 ∙ none.1)

-- ---- what a burst leaves

knowing_of : (p : Params) (specs : List TapSpec) (heard : List Entry) (b : Burst) (es : List Entry) → initiates (arrival_of b.chars) ≡ true → All (IsBySource specs) es
    → All (Knowing 0 b (λ w. KnowsHere p specs heard w (record { source = source_of (arrival_of b.chars); offered = offered_by (arrival_of b.chars); end = b.end; touched = false }))) es
knowing_of p specs heard b [] init s = tt
knowing_of p specs heard b (Noise span ∷ es) init s = (tt, knowing_of p specs heard b es init s.1)
knowing_of p specs heard b (Sent x ∷ es) init s = (λ f. filler_known p specs heard b x init s.0 f, knowing_of p specs heard b es init s.1)

-- what holds of the listener's entries and of its initiator telegrams
record Entries (p : Params) (specs : List TapSpec) (delays : ℕ → ℕ) (trace : List Entry) : Type 0 where
  short : 2 * p.ttd < p.tsl
  order : IsOrderedFrom 0 (inits delays trace)
  sources : All (IsBySource specs) (inits delays trace)
  good : Successive (GoodHere p specs delays (map (as_heard delays) trace)) None (inits delays trace)

last_left : (p : Params) (slack : ℕ) (specs : List TapSpec) (delays : ℕ → ℕ) (since : ℕ) (trace : List Entry) (j : State) (b : Burst) → Entries p specs delays trace → LinkedHere p specs since (map (as_heard delays) trace) (inits delays trace) j
    → j.quiet ≤ b.begin → b.begin < b.end → AllClear 0 j.quiet b.begin (map (as_heard delays) trace) → IsOf 0 since (map (as_heard delays) trace) b
    → LastHere p specs since (map (as_heard delays) trace) (inits delays trace) b.end (last_behind p slack j b (arrival_of b.chars))
last_left p slack specs delays since trace j b k linked late some clear is_of = by (initiates (arrival_of b.chars)) refl (is_none (arrival_of b.chars)) refl
  where
    heard : List Entry
    heard = map (as_heard delays) trace

    by : (c : Bool) → initiates (arrival_of b.chars) ≡ c → (d : Bool) → is_none (arrival_of b.chars) ≡ d
        → LastHere p specs since heard (inits delays trace) b.end (if c then Some (record { source = source_of (arrival_of b.chars); offered = offered_by (arrival_of b.chars); end = b.end; touched = false }) else if d then None else touch p slack b.begin j.last)
    by true init d e =
        let told = is_of.told (spelled_by (arrival_of b.chars) init) in
        let from = linked.from in (
          omega (arith, from, late, some),
          omega arith,
          follows_it 0 0 b (λ w. KnowsHere p specs heard w (record { source = source_of (arrival_of b.chars); offered = offered_by (arrival_of b.chars); end = b.end; touched = false })) None (inits delays trace)
              (knowing_of p specs heard b (inits delays trace) init k.sources) init some k.order (all_inits (IsTold 0 b) delays trace told.1) (has_inits delays b trace init told.0),
        )
    by false init true e = tt
    by false init false e = on j.last linked.last
      where
        on : (o : Option LastHeard) → LastHere p specs since heard (inits delays trace) j.quiet o → LastHere p specs since heard (inits delays trace) b.end (touch p slack b.begin o)
        on None last = tt
        on (Some l) last =
            let told = is_of.told (spelled_some (arrival_of b.chars) e) in
            let before = last.1 in
            let begins : Has (BeginsAt 0 b.begin) heard = ⊎_elim (λ (z : b.begin ≡ since). let y = last.0 in absurd (omega (arith, z, y, before, late))) (λ (h : Has (BeginsAt 0 b.begin) heard). h) is_of.begins in (
              last.0,
              omega (arith, before, late, some),
              follows_on specs 0 j.quiet 0 b (λ w. KnowsHere p specs heard w l) (λ w. KnowsHere p specs heard w (record l { touched = l.touched || nat_lt (b.begin + (2 * p.ttd + slack)) (l.end + p.tsl) })) None (inits delays trace)
                  (λ w known. touched_known p slack specs heard l w b.begin (omega (arith, before, late)) begins known) init late some tt k.order
                  (facts_of specs 0 j.quiet b (inits delays trace) (all_inits _ delays trace clear) (all_inits (IsTold 0 b) delays trace told.1) k.sources) last.2,
            )

-- ---- all bursts

all_quiet : (p : Params) (slack : ℕ) (c : Classes) (specs : List TapSpec) (delays : ℕ → ℕ) (since : ℕ) (trace : List Entry) (j : State) (bs : List Burst) → Entries p specs delays trace
    → LinkedHere p specs since (map (as_heard delays) trace) (inits delays trace) j → HearsFrom 0 since (map (as_heard delays) trace) j.quiet bs → alarms p slack c since j bs ≡ []
all_quiet p slack c specs delays since trace j [] k linked hears = refl
all_quiet p slack c specs delays since trace j (b ∷ bs) k linked hears =
    let is_of = hears.3 in
    ap (λ o. with_alarm b.begin o (alarms p slack c since (behind p slack j b) bs)) (by (initiates (arrival_of b.chars)) refl)
    ∙ all_quiet p slack c specs delays since trace (behind p slack j b) bs k (record {
      from = let f = linked.from in let l = hears.0 in let s = hears.1 in omega (arith, f, l, s);
      solid = burst_ends_solid 0 since heard b hears.1 is_of.solid;
      silences = silences_behind p slack 0 since heard j b linked.from hears.0 hears.1 linked.solid is_of.solid linked.silences;
      last = last_left p slack specs delays since trace j b k linked hears.0 hears.1 hears.2 is_of;
    }) hears.4
  where
    heard : List Entry
    heard = map (as_heard delays) trace

    by : (d : Bool) → initiates (arrival_of b.chars) ≡ d → (if d then judged p slack c since (silence_before p slack j b.begin) b.begin (initiator_of (arrival_of b.chars)) else None) ≡ None
    by true init =
        let told = hears.3.told (spelled_by (arrival_of b.chars) init) in
        none_judged p slack c specs delays since heard (inits delays trace) j b (record {
          short = k.short;
          linked = linked;
          order = k.order;
          late = hears.0;
          some = hears.1;
          clear = hears.2;
          here = has_inits delays b trace init told.0;
          facts = facts_of specs 0 j.quiet b (inits delays trace) (all_inits _ delays trace hears.2) (all_inits (IsTold 0 b) delays trace told.1) k.sources;
          sources = k.sources;
          init = init;
          good = k.good;
        })
    by false init = refl

pub heard_raises_none : (p : Params) (slack : ℕ) (c : Classes) (specs : List TapSpec) (delays : ℕ → ℕ) (since : ℕ) (trace : List Entry) (bs : List Burst) → 2 * p.ttd < p.tsl → IsOrderedFrom 0 (inits delays trace)
    → All (IsBySource specs) (inits delays trace) → Successive (GoodHere p specs delays (map (as_heard delays) trace)) None (inits delays trace) → HearsSince 0 since (map (as_heard delays) trace) bs → alarms p slack c since (listening since) bs ≡ []
heard_raises_none p slack c specs delays since trace bs short order sources good hears =
    ⊎_elim (λ (h : Hears 0 since heard bs). all_quiet p slack c specs delays since trace (listening since) bs k (record { from = omega arith; solid = start_is_solid 0 since heard; silences = nothing_yet p 0 since heard; last = tt }) h)
    (λ (h : HearsAmid 0 since heard bs). amid bs h) hears
  where
    heard : List Entry
    heard = map (as_heard delays) trace

    k : Entries p specs delays trace
    k = record { short = short; order = order; sources = sources; good = good }

    amid : (bs : List Burst) → HearsAmid 0 since heard bs → alarms p slack c since (listening since) bs ≡ []
    amid [] h = absurd h
    amid (b ∷ bs) h =
        let some : b.begin < b.end = (let a = h.0 in let d = h.1 in omega (arith, a, d)) in
        let late : since ≤ b.begin = (let a = h.0 in omega (arith, a)) in
        ap (λ o. with_alarm b.begin o (alarms p slack c since (behind p slack (listening since) b) bs)) (blind_alarm p slack c since b h.2)
        ∙ all_quiet p slack c specs delays since trace (behind p slack (listening since) b) bs k (record {
          from = omega (arith, late, some);
          solid = burst_ends_solid 0 since heard b some h.3;
          silences = silences_behind p slack 0 since heard (listening since) b (omega arith) late some (start_is_solid 0 since heard) h.3 (nothing_yet p 0 since heard);
          last = subst (LastHere p specs since heard (inits delays trace) b.end) (sym (blind_last p slack since b h.2)) tt;
        }) h.4
