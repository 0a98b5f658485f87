-- What ends at a tap of an undisturbed ring: a telegram as it was sent; and the last initiator telegram is whole at
-- every other tap.
use Rattle.std.proofs.Common.{◌≡◌, ℕ, zero, suc, ◌+◌, ◌<◌, ◌≤◌, ◌⊎◌, inl, inr, ⊎_elim, Bool, true, false, if◌then◌else◌, cond, not, ◌==◌, ◌&&◌, ◌||◌, List, [], ◌∷◌, length, map, refl, sym, ap, ◌∙◌, subst, arith, Option, Some, None}
use Rattle.std.specs.Prelude.{◌-◌, ◌/◌, slice_get, find, max, nat_lt, take, count_by}
use Rattle.std.specs.List.{cons_option}
use Rattle.std.specs.Option.{option_and_then}
use Rattle.std.proofs.lemmas.List.Sums.{sum_by-cons}
use Rattle.std.proofs.lemmas.Bool.{cases_eq, eq-eqb, eqb-true, lt-ltb, le-ltb}
use Rattle.pb_telegram.specs.declared.chars.RxChar.TheVariants.{Good}
use Rattle.pb_timers.specs.Timers.{bits}
use Rattle.law_turn.specs.Spans.{Span}
use Rattle.law_turn.specs.Arrivals.{Arrival, NoTelegram, arrival_of}
use Rattle.law_model.specs.Trace.{Record, Entry, Sent, Noise, characters_from, characters_at}
use Rattle.law_model.specs.Medium.{Tap, part_after, reaches, is_unheard, overlaps, sensed, sends_during, fills_burst, fills_burst_to, entry_characters, burst_characters}
use Rattle.law_model.specs.World.{World}
use Rattle.law_model.proofs.Cases.{by_test}
use Rattle.law_model.proofs.WholeTelegrams.{fills_burst-alone}
use Rattle.law_runs.specs.Initiators.{telegram_of, is_initiator}
use Rattle.law_token.specs.Lists.{Each, In}
use Rattle.law_token.specs.Places.{heard_span}
use Rattle.law_token.specs.Entries.{IsAnother, AllOthers}
use Rattle.law_token.proofs.bus.Lists.{each_in, each_map, each_both}
use Rattle.law_token.proofs.pass.Brings.{filling, one_sending, not_mine}
use Rattle.law_token.proofs.bus.Pairs.{hears_other}
use Rattle.law_rings.specs.Ring.{Call, OnItsWay, IsPastReply, brought_by}
use Rattle.law_rings.proofs.Calls.{order_call, call_brings}
use Rattle.law_rings.proofs.Reaching.{Undisturbed, last_call, Known, known, CallStands, call_stands}
use Rattle.law_live.proofs.NoToken.{any_none}

-- ---- characters

-- characters without damage are the octets as they were sent
undamaged : (tap place : ℕ) (os : List ℕ) → characters_from tap [] place os ≡ map Good os
undamaged tap place [] = refl
undamaged tap place (o ∷ os) = ap (λ cs. Good o ∷ cs) (undamaged tap (place + 1) os)

-- all octets
take_all : (n : ℕ) (os : List ℕ) → n ≡ length os → take n os ≡ os
take_all zero [] e = refl
take_all (suc n) [] e = refl
take_all zero (o ∷ os) e = absurd (omega (arith, e))
take_all (suc n) (o ∷ os) e = ap (λ (xs : List ℕ). o ∷ xs) (take_all n os (omega (arith, e)))

-- a telegram that is neither damaged nor cut is received as it was sent
pub received_so : (tap : ℕ) (x : Record) → x.hits ≡ [] → x.end ≡ x.begin + bits (length x.octets) → characters_at tap x ≡ map Good x.octets
received_so tap x none full =
    ap (λ hs. characters_from tap hs 0 (take ((x.end - x.begin) / bits 1) x.octets)) none
    ∙ ap (λ os. characters_from tap [] 0 os) (take_all ((x.end - x.begin) / bits 1) x.octets (omega (arith, full)))
    ∙ undamaged tap 0 x.octets

-- ---- what ends

-- what an End brings: no telegram, or one of another tap, as it was sent
pub data ArrivesAs (w : World) (base : ℕ) (members : List ℕ) (u : Undisturbed w base members) (k to : ℕ) (a : Arrival) : Type 0 where
  ComesNothing : a ≡ NoTelegram → ArrivesAs w base members u k to a
  ComesAs : (x : Record) → Known w base members u (Sent x) → x.end + w.params.ttd ≡ to → (x.tap ≡ k → ⊥) → OnItsWay w.params base w.now members w.trace u.ring.call x → a ≡ telegram_of x → ArrivesAs w base members u k to a

-- by what reaches the tap
pub arrives : (w : World) (base : ℕ) (members : List ℕ) (u : Undisturbed w base members) (k to : ℕ) (t : Tap) → w.now < to → ArrivesAs w base members u k to (arrival_of (burst_characters w.params.ttd k t w.trace to))
arrives w base members u k to t later = by (find (fills_burst_to w.params.ttd k t w.trace to) w.trace) refl
  where
    by : (o : Option Entry) → find (fills_burst_to w.params.ttd k t w.trace to) w.trace ≡ o → ArrivesAs w base members u k to (arrival_of (entry_characters k o))
    by None e = ComesNothing refl
    by (Some (Noise span)) e = ComesNothing refl
    by (Some (Sent x)) e =
        let f = filling w.params.ttd k t w.trace to x e in
        let h = each_in (Known w base members u) (Sent x) w.trace (known w base members u) f.inside in
        let way = h.ring (let ends = f.ends in omega (arith, ends, later)) in
        ComesAs x h f.ends (not_mine w.params.ttd k t w.trace x f.fills) way (ap arrival_of (received_so k x way.undamaged way.full))

-- ---- the call is whole at every tap

-- a stretch that does not overlap another
abbrev pub KeepsOff : Span → Option Span → Type 0
KeepsOff span None = Unit {0}
KeepsOff span (Some y) = overlaps span y ≡ false

-- one more, that passes a test or does not
abbrev one_if : Bool → ℕ
one_if b = cond b 1 0

-- one that fails a test
counts_not : (test : Span → Bool) (y : Span) (ys : List Span) (n : ℕ) → test y ≡ false → count_by test ys ≡ n → count_by test (y ∷ ys) ≡ n
counts_not test y ys n e f =
    sum_by-cons (λ (x : Span). one_if (test x)) y ys ∙ (let none : one_if (test y) ≡ 0 = ap one_if e in let total : one_if (test y) + count_by test ys ≡ n = omega (arith, f, none) in total)

-- one that passes it, and no other
counts_it : (test : Span → Bool) (y : Span) (ys : List Span) → test y ≡ true → count_by test ys ≡ 0 → count_by test (y ∷ ys) ≡ 1
counts_it test y ys e f =
    sum_by-cons (λ (x : Span). one_if (test x)) y ys ∙ (let one : one_if (test y) ≡ 1 = ap one_if e in let total : one_if (test y) + count_by test ys ≡ 1 = omega (arith, f, one) in total)

-- one more that a tap senses, or does not
count_off : (span : Span) (o : Option Span) (ys : List Span) (n : ℕ) → KeepsOff span o → count_by (overlaps span) ys ≡ n → count_by (overlaps span) (cons_option o ys) ≡ n
count_off span None ys n h e = e
count_off span (Some y) ys n h e = counts_not (overlaps span) y ys n h e

-- none of them overlaps
none_overlaps : (span : Span) (delay tap since : ℕ) (es : List Entry) → Each (λ e. KeepsOff span (heard_span delay tap since e)) es → count_by (overlaps span) (sensed delay tap since es) ≡ 0
none_overlaps span delay tap since [] all = refl
none_overlaps span delay tap since (e ∷ es) all = count_off span (heard_span delay tap since e) (sensed delay tap since es) 0 all.0 (none_overlaps span delay tap since es all.1)

-- another entry than a telegram
abbrev pub IsApart : Record → Entry → Type 0
IsApart r (Noise span) = Unit {0}
IsApart r (Sent x) = x.tap ≡ r.tap → x.begin ≡ r.begin → ⊥

-- what is after a telegram is another
apart_after : (r : Record) (e x : Entry) → e ≡ Sent r → IsAnother e x → IsApart r x
apart_after r e (Noise span) same h = tt
apart_after r e (Sent x) same h = λ t b. subst (λ z. IsAnother z (Sent x)) same h (sym t) (sym b)

-- and what is before it
apart_before : (r : Record) (e : Entry) (es : List Entry) → Each (IsAnother e) es → In (Sent r) es → IsApart r e
apart_before r (Noise span) es all i = tt
apart_before r (Sent x) es all i = λ t b. each_in (IsAnother (Sent x)) (Sent r) es all i t b

-- a telegram that a tap hears, where all others keep off it
count_one : (span : Span) (delay tap since : ℕ) (r : Record) (y : Span) (es : List Entry) → In (Sent r) es → AllOthers es → Each (λ e. IsApart r e → KeepsOff span (heard_span delay tap since e)) es
    → heard_span delay tap since (Sent r) ≡ Some y → overlaps span y ≡ true → count_by (overlaps span) (sensed delay tap since es) ≡ 1
count_one span delay tap since r y [] i others all is here = absurd i
count_one span delay tap since r y (e ∷ es) (inl same) others all is here =
    ap (λ o. count_by (overlaps span) (cons_option o (sensed delay tap since es))) (ap (heard_span delay tap since) same ∙ is)
    ∙ counts_it (overlaps span) y (sensed delay tap since es) here (none_overlaps span delay tap since es
    (each_both (IsAnother e) (λ x. IsApart r x → KeepsOff span (heard_span delay tap since x)) (λ x. KeepsOff span (heard_span delay tap since x)) es (λ x a b. b (apart_after r e x same a)) others.0 all.1))
count_one span delay tap since r y (e ∷ es) (inr i) others all is here =
    count_off span (heard_span delay tap since e) (sensed delay tap since es) 1 (all.0 (apart_before r e es others.0 i)) (count_one span delay tap since r y es i others.1 all.1 is here)

-- a search that finds nothing
finds_in : (test : Entry → Bool) (es : List Entry) (e : Entry) → In e es → test e ≡ true → find test es ≡ None → ⊥
finds_in test [] e i passes = absurd i
finds_in test (x ∷ xs) e i passes =
    by_test (λ (o : Option Entry). o ≡ None → ⊥) (test x) (Some x) (find test xs) (λ _ none. cc)
    (λ fails none. ⊎_elim (λ (same : x ≡ e). let w : true ≡ false = sym passes ∙ ap test (sym same) ∙ fails in absurd cc) (λ (j : In e xs). finds_in test xs e j passes none) i)

-- what a search finds passes
found_passes : (test : Entry → Bool) (es : List Entry) (e : Entry) → find test es ≡ Some e → test e ≡ true
found_passes test [] e f = absurd cc
found_passes test (x ∷ xs) e f =
    by_test (λ (o : Option Entry). o ≡ Some e → test e ≡ true) (test x) (Some x) (find test xs) (λ passes g. let same : x ≡ e = cc in ap test (sym same) ∙ passes) (λ _ g. found_passes test xs e g) f

-- ---- the last initiator telegram, at a tap

-- a stretch that ends before another begins
keeps_before : (span y : Span) → y.end ≤ span.begin → overlaps span y ≡ false
keeps_before span y le = by (nat_lt span.begin y.end) (le-ltb span.begin y.end le)
  where
    by : (b : Bool) → b ≡ false → (b && nat_lt y.begin span.end) ≡ false
    by true e = absurd cc
    by false e = refl

-- and so its part from a moment on
part_before : (span y : Span) (since : ℕ) → y.end ≤ span.begin → KeepsOff span (part_after since y)
part_before span y since le =
    by_test (KeepsOff span) (nat_lt since y.end) (Some (record { begin = max y.begin since; end = y.end })) None (λ _. keeps_before span (record { begin = max y.begin since; end = y.end }) le) (λ _. tt)

-- a telegram that a tap does not hear, or that was over before
heard_before : (span : Span) (delay tap since : ℕ) (x : Record) → x.end + delay ≤ span.begin → KeepsOff span (heard_span delay tap since (Sent x))
heard_before span delay tap since x le =
    by_test (λ (o : Option Span). KeepsOff span (option_and_then (part_after since) o)) (x.tap == tap || is_unheard (slice_get x.heard tap)) None (Some (reaches delay x)) (λ _. tt) (λ _. part_before span (reaches delay x) since le)

-- another entry was over at its speaker before the call began, and at others before it reached them
pub record IsBehind (delay : ℕ) (call : Call) (e : Entry) : Type 0 where
  pub noise : (span : Span) → e ≡ Noise span → span.end ≤ call.begin
  pub sent : (x : Record) → e ≡ Sent x → (x.end ≤ call.begin) × ((x.tap ≡ call.tap → ⊥) → x.end + delay ≤ call.begin)

-- while the call is on its way, every other entry is behind
pub behind_call : (w : World) (base : ℕ) (members : List ℕ) (u : Undisturbed w base members) → w.now < u.ring.call.end + w.params.ttd → base ≤ u.ring.call.begin
    → Each (λ e. IsApart (call_stands w base members u).r e → IsBehind w.params.ttd u.ring.call e) w.trace
behind_call w base members u air from =
    each_both (Known w base members u) (IsPastReply w.params.ttd w.now u.ring.call) (λ e. IsApart c.r e → IsBehind w.params.ttd u.ring.call e) w.trace behind (known w base members u) u.ring.replies
  where
    c : CallStands w base members u
    c = call_stands w base members u

    same_sent : (x y : Record) → Sent x ≡ Sent y → x ≡ y
    same_sent x y e = cc

    same_noise : (x y : Span) → Noise x ≡ Noise y → x ≡ y
    same_noise x y e = cc

    one : (x : Record) → Known w base members u (Sent x) → IsPastReply w.params.ttd w.now u.ring.call (Sent x) → IsApart c.r (Sent x) → (x.end ≤ u.ring.call.begin) × ((x.tap ≡ u.ring.call.tap → ⊥) → x.end + w.params.ttd ≤ u.ring.call.begin)
    one x h past apart = by (is_initiator x) refl
      where
        by : (b : Bool) → is_initiator x ≡ b → (x.end ≤ u.ring.call.begin) × ((x.tap ≡ u.ring.call.tap → ⊥) → x.end + w.params.ttd ≤ u.ring.call.begin)
        by false none = let p = past air none in (omega (arith, p), λ _. p)
        by true init =
            ⊎_elim (λ (same : (x.tap ≡ u.ring.call.tap) × (x.begin ≡ u.ring.call.begin)). absurd (apart (same.0 ∙ sym c.tap) (same.1 ∙ sym c.begin)))
            (λ (before : (x.end ≤ u.ring.call.begin) × ((x.end + w.params.ttd ≤ u.ring.call.begin) ⊎ ((x.tap ≡ u.ring.call.tap) × _))).
            (before.0, λ ne. ⊎_elim (λ (over : x.end + w.params.ttd ≤ u.ring.call.begin). over) (λ (own : (x.tap ≡ u.ring.call.tap) × _). absurd (ne own.0)) before.1))
            (order_call w.params.ttd u.invariant.keeps.inv.last u.ring.call x (last_call w base members u) (h.holds.order init))

    behind : (e : Entry) → Known w base members u e → IsPastReply w.params.ttd w.now u.ring.call e → IsApart c.r e → IsBehind w.params.ttd u.ring.call e
    behind (Noise span) h past apart = record { noise = λ z same. let o = h.ring in let i = same_noise span z same in subst (λ (q : Span). q.end ≤ u.ring.call.begin) i (omega (arith, o, from)); sent = λ x same. absurd cc }
    behind (Sent x) h past apart = record { noise = λ z same. absurd cc; sent = λ y same. subst (λ (q : Record). (q.end ≤ u.ring.call.begin) × ((q.tap ≡ u.ring.call.tap → ⊥) → q.end + w.params.ttd ≤ u.ring.call.begin)) (same_sent x y same) (one x h past apart) }

-- so it fills a burst of each other tap
pub call_fills : (w : World) (base : ℕ) (members : List ℕ) (u : Undisturbed w base members) (k : ℕ) (t : Tap) → w.now < u.ring.call.end + w.params.ttd → base ≤ u.ring.call.begin → (u.ring.call.tap ≡ k → ⊥) → t.since < base
    → fills_burst w.params.ttd k t w.trace (call_stands w base members u).r ≡ true
call_fills w base members u k t air from another early =
    fills_burst-alone d k t w.trace c.r (record {
      another = other;
      reached = reached;
      ran = ap (λ b. b || (t.since == c.r.begin + d && not t.amid)) (lt-ltb t.since (c.r.begin + d) (let b = c.begin in omega (arith, b, from, early)));
      alone = count_one span d k t.since c.r y w.trace c.inside u.invariant.keeps.inv.others
          (each_map (λ e. IsApart c.r e → IsBehind d u.ring.call e) (λ e. IsApart c.r e → KeepsOff span (heard_span d k t.since e)) w.trace (λ e f apart. off e (f apart)) (behind_call w base members u air from)) heard_as here;
      silent = any_none (sends_during k span) w.trace (each_map (λ e. IsApart c.r e → IsBehind d u.ring.call e) (λ e. sends_during k span e ≡ false) w.trace (λ e f. silent e f) (behind_call w base members u air from));
    })
  where
    c : CallStands w base members u
    c = call_stands w base members u

    d : ℕ
    d = w.params.ttd

    span : Span
    span = reaches d c.r

    y : Span
    y = record { begin = max (c.r.begin + d) t.since; end = c.r.end + d }

    other : c.r.tap ≡ k → ⊥
    other = λ e. another (sym c.tap ∙ e)

    reached : is_unheard (slice_get c.r.heard k) ≡ false
    reached = (each_in (Known w base members u) (Sent c.r) w.trace (known w base members u) c.inside).holds.reaches_all k

    long : c.r.begin < c.r.end
    long = let a = c.begin in let b = c.end in let s = c.some in omega (arith, a, b, s)

    heard_as : heard_span d k t.since (Sent c.r) ≡ Some y
    heard_as = ap (option_and_then (part_after t.since)) (hears_other d k c.r other reached)
        ∙ ap (λ b. if b then Some y else None) (lt-ltb t.since (c.r.end + d) (let b = c.begin in omega (arith, b, from, early, long)))

    here : overlaps span y ≡ true
    here = ap (λ b. b && nat_lt (max (c.r.begin + d) t.since) (c.r.end + d)) (lt-ltb (c.r.begin + d) (c.r.end + d) (omega (arith, long)))
        ∙ lt-ltb (max (c.r.begin + d) t.since) (c.r.end + d) (let b = c.begin in omega (arith, b, from, early, long))

    off : (e : Entry) → IsBehind d u.ring.call e → KeepsOff span (heard_span d k t.since e)
    off (Noise n) h = part_before span n t.since (let a = h.noise n refl in let b = c.begin in omega (arith, a, b))
    off (Sent x) h = by (cases_eq x.tap u.ring.call.tap)
      where
        by : (x.tap ≡ u.ring.call.tap) ⊎ (x.tap ≡ u.ring.call.tap → ⊥) → KeepsOff span (heard_span d k t.since (Sent x))
        by (inl same) = heard_before span d k t.since x (let a = (h.sent x refl).0 in let b = c.begin in omega (arith, a, b))
        by (inr ne) = heard_before span d k t.since x (let a = (h.sent x refl).1 ne in let b = c.begin in omega (arith, a, b))

    silent : (e : Entry) → (IsApart c.r e → IsBehind d u.ring.call e) → sends_during k span e ≡ false
    silent (Noise n) h = refl
    silent (Sent x) h = by (x.tap == k) refl
      where
        by : (b : Bool) → (x.tap == k) ≡ b → (b && overlaps (record { begin = x.begin; end = x.end }) span) ≡ false
        by false e = refl
        by true e =
            let mine = eqb-true x.tap k e in
            let a = ((h (λ t b. other (sym t ∙ mine))).sent x refl).0 in
            let b = c.begin in
            both_false (nat_lt x.begin span.end) (nat_lt span.begin x.end) (le-ltb span.begin x.end (omega (arith, a, b)))
          where
            both_false : (a b : Bool) → b ≡ false → (a && b) ≡ false
            both_false true b e = e
            both_false false b e = refl

-- and what ends at another tap when it ends there is the call
pub call_arrives : (w : World) (base : ℕ) (members : List ℕ) (u : Undisturbed w base members) (k : ℕ) (t : Tap) → w.now < u.ring.call.end + w.params.ttd → base ≤ u.ring.call.begin → (u.ring.call.tap ≡ k → ⊥) → t.since < base
    → arrival_of (burst_characters w.params.ttd k t w.trace (u.ring.call.end + w.params.ttd)) ≡ brought_by u.ring.call.octets
call_arrives w base members u k t air from another early = by (find test w.trace) refl
  where
    c : CallStands w base members u
    c = call_stands w base members u

    to : ℕ
    to = u.ring.call.end + w.params.ttd

    test : Entry → Bool
    test = fills_burst_to w.params.ttd k t w.trace to

    passes : test (Sent c.r) ≡ true
    passes = ap (λ b. b && fills_burst w.params.ttd k t w.trace c.r) (eq-eqb (c.r.end + w.params.ttd) to (ap (λ n. n + w.params.ttd) c.end)) ∙ call_fills w base members u k t air from another early

    by : (o : Option Entry) → find test w.trace ≡ o → arrival_of (entry_characters k o) ≡ brought_by u.ring.call.octets
    by None e = absurd (finds_in test w.trace (Sent c.r) c.inside passes e)
    by (Some (Noise span)) e = absurd (let wrong : false ≡ true = found_passes test w.trace (Noise span) e in cc)
    by (Some (Sent x)) e =
        let f = filling w.params.ttd k t w.trace to x e in
        let h = each_in (Known w base members u) (Sent x) w.trace (known w base members u) f.inside in
        let same : x ≡ c.r = is_call x h (each_in (IsPastReply w.params.ttd w.now u.ring.call) (Sent x) w.trace u.ring.replies f.inside) f.inside f.ends (is_initiator x) refl in
        let way = (each_in (Known w base members u) (Sent c.r) w.trace (known w base members u) c.inside).ring (let b = c.end in omega (arith, air, b)) in
        ap (λ z. arrival_of (characters_at k z)) same ∙ ap arrival_of (received_so k c.r way.undamaged way.full) ∙ call_brings u.ring.call c.r c.octets
      where
        is_call : (x : Record) → Known w base members u (Sent x) → IsPastReply w.params.ttd w.now u.ring.call (Sent x) → In (Sent x) w.trace → x.end + w.params.ttd ≡ to → (b : Bool) → is_initiator x ≡ b → x ≡ c.r
        is_call x h past i ends false none = absurd (let p = past air none in let s = c.some in omega (arith, p, ends, s))
        is_call x h past i ends true init =
            ⊎_elim (λ (same : (x.tap ≡ u.ring.call.tap) × (x.begin ≡ u.ring.call.begin)). one_sending w.trace x c.r u.invariant.keeps.inv.others i c.inside (same.0 ∙ sym c.tap) (same.1 ∙ sym c.begin))
            (λ (before : (x.end ≤ u.ring.call.begin) × ((x.end + w.params.ttd ≤ u.ring.call.begin) ⊎ ((x.tap ≡ u.ring.call.tap) × _))). absurd (let s = c.some in omega (arith, before.0, ends, s)))
            (order_call w.params.ttd u.invariant.keeps.inv.last u.ring.call x (last_call w base members u) (h.holds.order init))
