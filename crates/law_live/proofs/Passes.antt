-- A tap as time passes: what it reads keeps its station within its time.
use Rattle.std.proofs.Common.{◌≡◌, ℕ, ◌+◌, ◌-◌, ◌*◌, ◌<◌, ◌≤◌, ◌⊎◌, inl, inr, ⊎_elim, Bool, true, false, if◌then◌else◌, ◌==◌, ◌||◌, List, [], ◌++◌, refl, sym, ap, ◌∙◌, subst, arith, Option, Some, None}
use Rattle.std.specs.Prelude.{slice_get, nat_lt, max, find}
use Rattle.std.specs.Option.{option_and_then}
use Rattle.std.proofs.lemmas.Bool.{cases_lt}
use Rattle.pb_telegram.specs.declared.chars.RxChar.{RxChar}
use Rattle.pb_timers.specs.Timers.{Params}
use Rattle.law_turn.specs.Spans.{Span}
use Rattle.law_turn.specs.Arrivals.{Arrival, Token, Framed, Acknowledgement, NoTelegram, arrival_of}
use Rattle.law_turn.specs.Marks.{Mark, Begin, End}
use Rattle.law_turn.specs.Phases.{Phase, Offline, PassiveIdle, Listening, Idle, Claim, Use, AwaitData, AwaitStatus, Pass, Checking}
use Rattle.law_turn.specs.Stations.{Station, Reply}
use Rattle.law_turn.specs.Hearing.{after_timer, after_mark}
use Rattle.law_turn.specs.Turns.{after_marks}
use Rattle.law_model.specs.Trace.{Record, Entry, Sent, Noise}
use Rattle.law_model.specs.Medium.{Tap, part_after, reaches, is_unheard, sensed, begins_in, ends_in, begin_mark, end_mark, burst_characters, marks_between, new_marks}
use Rattle.law_model.proofs.Cases.{by_test}
use Rattle.law_model.proofs.Window.{EachSpan, Solid, WindowOf, window}
use Rattle.law_runs.specs.Initiators.{is_initiator, offered_to}
use Rattle.law_token.specs.Lists.{Each}
use Rattle.law_token.specs.Places.{heard_span, IsOver, IsOwn, Place, Over}
use Rattle.law_token.specs.Tokens.{Held}
use Rattle.law_token.specs.Entries.{ComesBefore}
use Rattle.law_token.specs.Views.{TapHolds, ViewOf, view, place, IsOn}
use Rattle.law_token.proofs.bus.Lists.{each_both}
use Rattle.law_token.proofs.bus.Live.{on_or_off}
use Rattle.law_token.proofs.pass.Marks.{later}
use Rattle.law_token.proofs.pass.Taps.{over_of, knows_on, append_marks, senses_of, offline_after}
use Rattle.law_live.specs.NeverDead.{longest}
use Rattle.law_live.specs.Holding.{Spends, IfToken, EndsInTime}
use Rattle.law_live.proofs.HoldersRead.{spends-after_timer, spends-after_mark}
use Rattle.law_live.specs.Flow.{IsCalmBy, OwnTokensBy, IsCalmFor, EndsBy, IsShort, RepliesBy, FlowTap}
use Rattle.law_live.proofs.Arriving.{IsSound, token_by, request_by}
use Rattle.law_live.proofs.NoToken.{each_pair}
use Rattle.law_live.proofs.ChangedEntries.{due_weaker}
use Rattle.law_live.proofs.Awaiting.{IsAwaiting, if_awaited, AwaitedBefore, was-after_timer, was-begin}
use Rattle.law_live.proofs.DueReplies.{DueBy, IfRequest, due-after_timer, due-begin, due-end}

-- ---- marks

-- a station that reads a Begin, an End, or both
spends-begin : (p : Params) (d : ℕ) (s : Station) (at seen : ℕ) → Spends p d d s → Spends p d d (after_mark p (after_timer p at s) (Begin at seen))
spends-begin p d s at seen o = spends-after_mark p d d (after_timer p at s) (Begin at seen) tt (spends-after_timer p d d at s o)

-- an End that comes in time keeps a station within its time, its timer before it
spends-end : (p : Params) (d : ℕ) (s y : Station) (at seen : ℕ) (chars : List RxChar) → AwaitedBefore s y → IfToken (arrival_of chars) ((at ≤ d) × (d ≤ d)) → (IsAwaiting s.phase → EndsInTime p d s.own.begin at) → Spends p d d y
    → Spends p d d (after_mark p (after_timer p at y) (End at seen chars))
spends-end p d s y at seen chars was token time o =
    let x = after_timer p at y in
    let w = was-after_timer p at y in
    spends-after_mark p d d x (End at seen chars)
    (token, if_awaited x.phase (EndsInTime p d x.own.begin at) (λ a. subst (λ (b : Span). EndsInTime p d b.begin at) (sym (w.1 ∙ was.1)) (time (was.0 (w.0 a)))))
    (spends-after_timer p d d at y o)

-- a token that ends by a moment, which is both of the moments
by_both : (a : Arrival) (at d : ℕ) → IfToken a (at ≤ d) → IfToken a ((at ≤ d) × (d ≤ d))
by_both (Token da sa) at d h = (h, omega arith)
by_both (Framed f) at d h = tt
by_both Acknowledgement at d h = tt
by_both NoTelegram at d h = tt

-- the marks of a pass
spends-window : (c : Place) (to d : ℕ) (trace : List Entry) (s : Station) (busy : Bool) (t : Tap) (b e : Option Span) → s.busy ≡ busy → WindowOf c.now to (sensed c.p.ttd c.tap c.since trace) busy b e
    → IfToken (arrival_of (burst_characters c.p.ttd c.tap t trace to)) (to ≤ d)
    → (((q : ℕ) → Over (later c to) trace q → to ≤ q) → IsAwaiting s.phase → EndsInTime c.p d s.own.begin to) → Spends c.p d d s
    → Spends c.p d d (after_marks c.p s (begin_mark to b ++ end_mark c.p.ttd c.tap t trace to e))
spends-window c to d trace s false t None None eb w token time o = o
spends-window c to d trace s false t (Some x) None eb w token time o = spends-begin c.p d s x.begin to o
spends-window c to d trace s false t None (Some y) eb w token time o = absurd w
spends-window c to d trace s false t (Some x) (Some y) eb w token time o =
    let u = after_mark c.p (after_timer c.p x.begin s) (Begin x.begin to) in
    let a = was-after_timer c.p x.begin s in
    let b = was-begin c.p (after_timer c.p x.begin s) x.begin to in
    subst (λ m. Spends c.p d d (after_mark c.p (after_timer c.p m u) (End m to (burst_characters c.p.ttd c.tap t trace m)))) (sym w.2)
    (spends-end c.p d s u to to (burst_characters c.p.ttd c.tap t trace to) (λ h. a.0 (b.0 h), b.1 ∙ a.1) (by_both (arrival_of (burst_characters c.p.ttd c.tap t trace to)) to d token) (time (λ q over. w.3.1 q (over_of (later c to) trace q over))) (spends-begin c.p d s x.begin to o))
spends-window c to d trace s true t None None eb w token time o = o
spends-window c to d trace s true t (Some x) e eb w token time o = absurd w
spends-window c to d trace s true t None (Some y) eb w token time o =
    subst (λ m. Spends c.p d d (after_mark c.p (after_timer c.p m s) (End m to (burst_characters c.p.ttd c.tap t trace m)))) (sym w.0)
    (spends-end c.p d s s to to (burst_characters c.p.ttd c.tap t trace to) (λ h. h, refl) (by_both (arrival_of (burst_characters c.p.ttd c.tap t trace to)) to d token) (time (λ q over. w.1.1 q (over_of (later c to) trace q over))) o)

-- and the reply that is kept
due-window : (c : Place) (to b' : ℕ) (trace : List Entry) (s : Station) (busy : Bool) (t : Tap) (b e : Option Span) → WindowOf c.now to (sensed c.p.ttd c.tap c.since trace) busy b e
    → IfRequest (arrival_of (burst_characters c.p.ttd c.tap t trace to)) (to + c.p.tsdr ≤ b') → DueBy b' s
    → DueBy b' (after_marks c.p s (begin_mark to b ++ end_mark c.p.ttd c.tap t trace to e))
due-window c to b' trace s false t None None w by o = o
due-window c to b' trace s false t (Some x) None w by o = due-begin c.p b' (after_timer c.p x.begin s) x.begin to (due-after_timer c.p b' x.begin s o)
due-window c to b' trace s false t None (Some y) w by o = absurd w
due-window c to b' trace s false t (Some x) (Some y) w by o =
    let u = after_mark c.p (after_timer c.p x.begin s) (Begin x.begin to) in
    subst (λ m. DueBy b' (after_mark c.p (after_timer c.p m u) (End m to (burst_characters c.p.ttd c.tap t trace m)))) (sym w.2)
    (due-end c.p b' (after_timer c.p to u) to to (burst_characters c.p.ttd c.tap t trace to) by (due-after_timer c.p b' to u (due-begin c.p b' (after_timer c.p x.begin s) x.begin to (due-after_timer c.p b' x.begin s o))))
due-window c to b' trace s true t None None w by o = o
due-window c to b' trace s true t (Some x) e w by o = absurd w
due-window c to b' trace s true t None (Some y) w by o =
    subst (λ m. DueBy b' (after_mark c.p (after_timer c.p m s) (End m to (burst_characters c.p.ttd c.tap t trace m)))) (sym w.0)
    (due-end c.p b' (after_timer c.p to s) to to (burst_characters c.p.ttd c.tap t trace to) by (due-after_timer c.p b' to s o))

-- ---- in time

-- one that awaits a reply has sent the last initiator telegram
held_of : (c : Place) (trace : List Entry) (last : Option Record) (ph : Phase) (busy : Bool) (quiet : ℕ) (own : Span) (reply : Option Reply) → IsAwaiting ph → ViewOf c trace last ph busy quiet own reply → Held last c.tap own
held_of c trace last Offline busy quiet own reply a v = absurd a
held_of c trace last PassiveIdle busy quiet own reply a v = absurd a
held_of c trace last (Listening doubled) busy quiet own reply a v = absurd a
held_of c trace last (Idle refused) busy quiet own reply a v = absurd a
held_of c trace last (Claim sent ready) busy quiet own reply a v = absurd a
held_of c trace last (Use asked ready) busy quiet own reply a v = absurd a
held_of c trace last (AwaitData asked retry slot) busy quiet own reply a v = v.1
held_of c trace last (AwaitStatus of slot) busy quiet own reply a v = v.1
held_of c trace last (Pass tries ready) busy quiet own reply a v = absurd a
held_of c trace last (Checking tries) busy quiet own reply a v = absurd a

-- the initiator telegrams come before the last one
abbrev pub IsOrdered : ℕ → Option Record → Entry → Type 0
IsOrdered delay last (Noise span) = Unit {0}
IsOrdered delay last (Sent x) = is_initiator x ≡ true → ComesBefore delay last x

-- so no other ends later than its own telegram
inits_end : (delay : ℕ) (last : Option Record) (k : ℕ) (own : Span) (e : Entry) → own.begin ≤ own.end → Held last k own → IsOrdered delay last e → IsOwn k own e → EndsBy own.end e
inits_end delay last k own (Noise span) le h o w = tt
inits_end delay last k own (Sent x) le h o w = λ init.
    ⊎_elim
    (λ (same : (x.tap ≡ h.r.tap) × (x.begin ≡ h.r.begin)).
    ⊎_elim (λ (a : (x.begin ≡ own.begin) × (x.end ≡ own.end)). omega (arith, a.1)) (λ (a : x.end ≤ own.begin). omega (arith, a, le)) (w (same.0 ∙ h.by)))
    (λ (before : (x.end ≤ h.r.begin) × ((x.end + delay ≤ h.r.begin) ⊎ ((x.tap ≡ h.r.tap) × (offered_to x ≡ None)))). let a = before.0 in let b = h.begin in omega (arith, a, b, le))
    (subst (λ l. ComesBefore delay l x) h.is (o init))

-- a part of what is over by a moment is over by it
over_part : (now q since : ℕ) (span : Span) → span.end ≤ q → IsOver now q (part_after since span)
over_part now q since span le = by_test (IsOver now q) (nat_lt since span.end) (Some (record { begin = max span.begin since; end = span.end })) None (λ _. inr le) (λ _. tt)

-- by the end of the longest reply within the slot all that a tap hears is over
over_entry : (c : Place) (q : ℕ) (own : Span) (e : Entry) → c.p.tsdr + c.p.lag + 2 * c.p.ttd < c.p.tsl → own.end ≤ own.begin + longest → IsCalmBy q e × IsShort e → EndsBy own.end e × RepliesBy (own.end + c.p.ttd + c.p.tsdr + c.p.lag) e
    → IsOver c.now (max q (own.begin + 2 * longest + (c.p.tsl - 1))) (heard_span c.p.ttd c.tap c.since e)
over_entry c q own (Noise span) fits short a b = over_part c.now (max q (own.begin + 2 * longest + (c.p.tsl - 1))) c.since span (let h = a.0 in omega (arith, h))
over_entry c q own (Sent r) fits short a b =
    by_test (λ o. IsOver c.now (max q (own.begin + 2 * longest + (c.p.tsl - 1))) (option_and_then (part_after c.since) o)) (r.tap == c.tap || is_unheard (slice_get r.heard c.tap)) None (Some (reaches c.p.ttd r))
    (λ _. tt) (λ _. over_part c.now (max q (own.begin + 2 * longest + (c.p.tsl - 1))) c.since (reaches c.p.ttd r) (by (is_initiator r) refl))
  where
    by : (i : Bool) → is_initiator r ≡ i → r.end + c.p.ttd ≤ max q (own.begin + 2 * longest + (c.p.tsl - 1))
    by true e = let h = b.0 e in omega (arith, h, short, fits)
    by false e = let h = b.1 e in let s = a.1 in omega (arith, h, s, short, fits)

-- so what ends then ends in the time of an attempt, or by the moment by which noise is over
ends_in_time : (p : Params) (q begin to : ℕ) → to ≤ max q (begin + 2 * longest + (p.tsl - 1)) → EndsInTime p (q + p.ttd) begin to
ends_in_time p q begin to le = ⊎_elim (λ (a : q < to). inr (omega (arith, a, le))) (λ (a : to ≤ q). inl (omega (arith, a))) (cases_lt q to)

-- ---- the tap

-- what is over by a moment was so when the clock was earlier
pub calm_earlier : (now to k q : ℕ) (trace : List Entry) → now ≤ to → IsCalmFor to k q trace → IsCalmFor now k q trace
calm_earlier now to k q trace le calm =
    ⊎_elim (λ (all : Each (IsCalmBy q) trace). inl all) (λ (own : (to ≤ q) × Each (OwnTokensBy k q) trace). let by = own.0 in inr (omega (arith, le, by), own.1)) calm

-- what holds anyway holds where a token comes
if_token : (a : Arrival) (X : Type 0) → X → IfToken a X
if_token (Token da sa) X h = h
if_token (Framed f) X h = tt
if_token Acknowledgement X h = tt
if_token NoTelegram X h = tt

-- and where a request comes
if_request : (a : Arrival) (X : Type 0) → X → IfRequest a X
if_request (Token da sa) X h = tt
if_request (Framed f) X h = λ _. h
if_request Acknowledgement X h = tt
if_request NoTelegram X h = tt

-- what follows from what holds where a request comes
map_request : (a : Arrival) (X Y : Type 0) → (X → Y) → IfRequest a X → IfRequest a Y
map_request (Token da sa) X Y f h = tt
map_request (Framed f') X Y f h = λ e. f (h e)
map_request Acknowledgement X Y f h = tt
map_request NoTelegram X Y f h = tt

-- a tap as time passes: its station keeps within its time, and its reply is due in time
pub pass_flow : (p : Params) (now to : ℕ) (trace : List Entry) (last : Option Record) (k : ℕ) (t : Tap) → p.tsdr + p.lag + 2 * p.ttd < p.tsl → now < to → t.running ≡ true → EachSpan (Solid now to) (sensed p.ttd k t.since trace)
    → Each IsSound trace → Each (IsOrdered p.ttd last) trace → Each IsShort trace → ((z : ℕ) → Each (EndsBy z) trace → Each (RepliesBy (z + p.ttd + p.tsdr + p.lag)) trace)
    → TapHolds p now trace last k t → FlowTap p now trace k t → FlowTap p to trace k (record t { marks = t.marks ++ new_marks p.ttd k t trace now to })
pass_flow p now to trace last k t fits lt running solid sound ordered short replies o f =
    subst (λ ms. FlowTap p to trace k (record t { marks = t.marks ++ ms })) (sym (ap (λ b. if b then ns else []) running)) (record {
      spends = λ q calm. subst (λ z. Spends p (q + p.ttd) (q + p.ttd) z) (sym (append_marks p t.station t.marks ns)) (spends q calm (f.spends q (calm_earlier now to k q trace (omega (arith, lt)) calm)));
      waits = subst (λ z. DueBy (to + p.tsdr) z) (sym (append_marks p t.station t.marks ns))
          (due (to + p.tsdr) (if_request (arrival_of (burst_characters p.ttd k t trace to)) (to + p.tsdr ≤ to + p.tsdr) (omega arith)) (due_weaker (view p t).reply (now + p.tsdr) (to + p.tsdr) (omega (arith, lt)) f.waits));
      prompt = λ z ends. subst (λ y. DueBy (z + p.ttd + p.tsdr) y) (sym (append_marks p t.station t.marks ns))
          (due (z + p.ttd + p.tsdr) (map_request (arrival_of (burst_characters p.ttd k t trace to)) (to ≤ z + p.ttd) (to + p.tsdr ≤ z + p.ttd + p.tsdr) (λ le. omega (arith, le)) (request_by p.ttd k t trace to z sound ends)) (f.prompt z ends));
    })
  where
    c : Place
    c = place p now k t

    xs : List Span
    xs = sensed p.ttd k t.since trace

    b : Option Span
    b = find (begins_in xs now to) xs

    e : Option Span
    e = find (ends_in xs now to) xs

    ns : List Mark
    ns = marks_between p.ttd k t trace now to

    v : Station
    v = view p t

    opens : IsOn v.phase → WindowOf now to xs v.busy b e
    opens on = window now to xs v.busy b e lt solid (senses_of c trace v.busy v.quiet (knows_on c trace v.phase v.busy v.quiet v.own on o.knows).senses) refl refl

    time_if_calm : (q : ℕ) → Each (IsCalmBy q) trace → Spends p (q + p.ttd) (q + p.ttd) v → IsOn v.phase → ((r : ℕ) → Over (later c to) trace r → to ≤ r) → IsAwaiting v.phase → EndsInTime p (q + p.ttd) v.own.begin to
    time_if_calm q calm s on closes a =
        let kn = knows_on c trace v.phase v.busy v.quiet v.own on o.knows in
        let held = held_of c trace last v.phase v.busy v.quiet v.own v.reply a o.view_ok in
        let ends = each_both (IsOrdered p.ttd last) (IsOwn k v.own) (EndsBy v.own.end) trace (λ x g w. inits_end p.ttd last k v.own x kn.order held g w) ordered kn.owns in
        ends_in_time p q v.own.begin to
        (closes (max q (v.own.begin + 2 * longest + (p.tsl - 1)))
        (each_both (λ x. IsCalmBy q x × IsShort x) (λ x. EndsBy v.own.end x × RepliesBy (v.own.end + p.ttd + p.tsdr + p.lag) x) (λ x. IsOver to (max q (v.own.begin + 2 * longest + (p.tsl - 1))) (heard_span p.ttd k t.since x)) trace
        (λ x g w. over_entry (later c to) q v.own x fits s.short g w) (each_pair (IsCalmBy q) IsShort trace calm short) (each_pair (EndsBy v.own.end) (RepliesBy (v.own.end + p.ttd + p.tsdr + p.lag)) trace ends (replies v.own.end ends))))

    time : (q : ℕ) → IsCalmFor to k q trace → Spends p (q + p.ttd) (q + p.ttd) v → IsOn v.phase → ((r : ℕ) → Over (later c to) trace r → to ≤ r) → IsAwaiting v.phase → EndsInTime p (q + p.ttd) v.own.begin to
    time q calm s on closes a =
        ⊎_elim (λ (all : Each (IsCalmBy q) trace). time_if_calm q all s on closes a) (λ (own : (to ≤ q) × Each (OwnTokensBy k q) trace). let le = own.0 in inl (omega (arith, le))) calm

    token : (q : ℕ) → IsCalmFor to k q trace → IfToken (arrival_of (burst_characters p.ttd k t trace to)) (to ≤ q + p.ttd)
    token q calm =
        ⊎_elim (λ (all : Each (IsCalmBy q) trace). token_by p.ttd k t trace to q sound all)
        (λ (own : (to ≤ q) × Each (OwnTokensBy k q) trace). let le = own.0 in if_token (arrival_of (burst_characters p.ttd k t trace to)) (to ≤ q + p.ttd) (omega (arith, le))) calm

    spends : (q : ℕ) → IsCalmFor to k q trace → Spends p (q + p.ttd) (q + p.ttd) v → Spends p (q + p.ttd) (q + p.ttd) (after_marks p v ns)
    spends q calm s =
        ⊎_elim (λ (off : v.phase ≡ Offline). subst (λ z. Spends p (q + p.ttd) (q + p.ttd) z) (sym (offline_after p v ns off)) s)
        (λ (on : IsOn v.phase). spends-window c to (q + p.ttd) trace v v.busy t b e refl (opens on) (token q calm) (time q calm s on) s)
        (on_or_off v.phase)

    due : (y : ℕ) → IfRequest (arrival_of (burst_characters p.ttd k t trace to)) (to + p.tsdr ≤ y) → DueBy y v → DueBy y (after_marks p v ns)
    due y by h =
        ⊎_elim (λ (off : v.phase ≡ Offline). subst (λ z. DueBy y z) (sym (offline_after p v ns off)) h)
        (λ (on : IsOn v.phase). due-window c to y trace v v.busy t b e (opens on) by h)
        (on_or_off v.phase)
