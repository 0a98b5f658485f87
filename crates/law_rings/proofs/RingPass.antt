-- What a pass leaves of the entries of an undisturbed ring, and of replies that are not sent yet.
use Rattle.std.proofs.Common.{◌≡◌, ℕ, ◌+◌, ◌<◌, ◌≤◌, ◌⊎◌, inl, inr, Bool, true, false, ◌&&◌, List, [], map, refl, sym, ap, ◌∙◌, subst, arith, Option, Some, None}
use Rattle.std.specs.Prelude.{IfSome}
use Rattle.std.specs.Option.{option_map}
use Rattle.pb_cycles.specs.Fields.{Fields}
use Rattle.law_turn.specs.Spans.{Span}
use Rattle.law_turn.specs.Arrivals.{Framed, NoTelegram}
use Rattle.law_turn.specs.Stations.{Station, Reply}
use Rattle.law_model.specs.Trace.{Record, Entry, Sent, Noise}
use Rattle.law_model.specs.Medium.{Tap, reaches, entry_at, ends_between}
use Rattle.law_model.specs.World.{World}
use Rattle.law_model.specs.Step.{told}
use Rattle.law_model.proofs.Cases.{by_test}
use Rattle.law_runs.specs.Initiators.{telegram_of, is_initiator, last_initiator}
use Rattle.law_token.specs.Lists.{Each}
use Rattle.law_token.specs.Views.{view}
use Rattle.law_token.specs.Entries.{Origin, EndedBefore}
use Rattle.law_token.proofs.bus.Lists.{each_map, each_both, each_mapped, each_unmapped}
use Rattle.law_token.proofs.pass.Brings.{relabel, relabelled, one_sending}
use Rattle.law_token.proofs.pass.PassedLegal.{last_pass}
use Rattle.law_token.proofs.turn.Records.{begun_each}
use Rattle.law_live.specs.Flow.{BeganBefore}
use Rattle.law_rings.specs.Ring.{Call, IsCall, Answers, OnItsWay, InRing, IsPastReply, ArmedAt, IsDue, IsAwaited, wants_reply, is_question, goes_to, brought_by}
use Rattle.law_rings.proofs.Calls.{call_brings}
use Rattle.law_rings.proofs.HearInRing.{IsAnswer}
use Rattle.law_rings.proofs.Reaching.{Undisturbed, Known, known, CallStands, call_stands}
use Rattle.law_rings.proofs.Whole.{ArrivesAs, ComesNothing, ComesAs, arrives}
use Rattle.law_rings.proofs.TapsPass.{Passes, RunsAt, then_view, then_arrival, ring_at, view_address, NoReplyBefore, armed_after}

-- ---- entries

-- the trace after a pass
abbrev pub then_trace : World → ℕ → List Entry
then_trace w to = map (entry_at w.params.ttd w.taps w.trace w.now to) w.trace

-- what holds of each telegram whatever it was to the taps
each_passed : (P Q : Entry → Type 0) (w : World) (to : ℕ) → ((span : Span) → P (Noise span) → Q (Noise span)) → ((x : Record) → P (Sent x) → Q (Sent x) × Q (Sent (relabelled w.params.ttd w.taps w.trace x))) → Each P w.trace → Each Q (then_trace w to)
each_passed P Q w to noise sent all = each_mapped Q (entry_at w.params.ttd w.taps w.trace w.now to) w.trace (each_map P (λ e. Q (entry_at w.params.ttd w.taps w.trace w.now to e)) w.trace one all)
  where
    one : (e : Entry) → P e → Q (entry_at w.params.ttd w.taps w.trace w.now to e)
    one (Noise span) h = noise span h
    one (Sent x) h = by_test Q (ends_between w.now to (reaches w.params.ttd x)) (Sent (relabelled w.params.ttd w.taps w.trace x)) (Sent x) (λ _. (sent x h).1) (λ _. (sent x h).0)

-- where a telegram came from outlasts a pass
origin_passed : (w : World) (to : ℕ) (x : Record) → Origin w.params w.trace [] x → Origin w.params (then_trace w to) [] x
origin_passed w to x (inl none) = inl none
origin_passed w to x (inr f) = inr (λ q all. f q (each_map (λ e. EndedBefore w.params.ttd x.tap x.begin q (entry_at w.params.ttd w.taps w.trace w.now to e)) (EndedBefore w.params.ttd x.tap x.begin q) w.trace (back q)
    (each_unmapped (EndedBefore w.params.ttd x.tap x.begin q) (entry_at w.params.ttd w.taps w.trace w.now to) w.trace all)))
  where
    back : (q : ℕ) (e : Entry) → EndedBefore w.params.ttd x.tap x.begin q (entry_at w.params.ttd w.taps w.trace w.now to e) → EndedBefore w.params.ttd x.tap x.begin q e
    back q (Noise span) h = h
    back q (Sent r) h = by_test (λ e. EndedBefore w.params.ttd x.tap x.begin q e → EndedBefore w.params.ttd x.tap x.begin q (Sent r)) (ends_between w.now to (reaches w.params.ttd r)) (Sent (relabelled w.params.ttd w.taps w.trace r)) (Sent r) (λ _ g. g) (λ _ g. g) h

-- each entry
pub entries_passed : (w : World) (base : ℕ) (members : List ℕ) (call : Call) (to : ℕ) → w.now < to → Each (InRing w.params base w.now members w.trace call) w.trace → Each (InRing w.params base to members (then_trace w to) call) (then_trace w to)
entries_passed w base members call to later all = each_passed (InRing w.params base w.now members w.trace call) (InRing w.params base to members (then_trace w to) call) w to (λ span h. h) (λ x h. (λ air. one x (h (omega (arith, air, later))), λ air. two x (h (omega (arith, air, later))))) all
  where
    answers_ : (x : Record) → Answers w.params base call x → Answers w.params base call (relabelled w.params.ttd w.taps w.trace x)
    answers_ x a = record { since = a.since; another = a.another; after = a.after; soon = a.soon; at = a.at; wanted = a.wanted; told = a.told }

    one : (x : Record) → OnItsWay w.params base w.now members w.trace call x → OnItsWay w.params base to members (then_trace w to) call x
    one x o = record { since = o.since; undamaged = o.undamaged; full = o.full; passes = o.passes; origin = λ init late. origin_passed w to x (o.origin init (omega (arith, late, later))); single = o.single; answers = o.answers }

    two : (x : Record) → OnItsWay w.params base w.now members w.trace call x → OnItsWay w.params base to members (then_trace w to) call (relabelled w.params.ttd w.taps w.trace x)
    two x o = let h = one x o in record { since = o.since; undamaged = o.undamaged; full = o.full; passes = o.passes; origin = h.origin; single = o.single; answers = λ none. answers_ x (o.answers none) }

-- replies that are over
pub past_passed : (w : World) (call : Call) (to : ℕ) → w.now < to → Each (IsPastReply w.params.ttd w.now call) w.trace → Each (IsPastReply w.params.ttd to call) (then_trace w to)
past_passed w call to later all = each_passed (IsPastReply w.params.ttd w.now call) (IsPastReply w.params.ttd to call) w to (λ span h. tt) (λ x h. (λ air none. h (omega (arith, air, later)) none, λ air none. h (omega (arith, air, later)) none)) all

-- the call
pub call_passed : (w : World) (base : ℕ) (members : List ℕ) (u : Undisturbed w base members) (to : ℕ) → w.now < to → IsCall (last_initiator to (then_trace w to)) u.ring.call
call_passed w base members u to later =
    let begun = begun_each w.params w.now w.taps w.trace u.waited u.invariant.keeps.inv.last w.trace u.invariant.keeps.inv.entries in
    subst (λ o. IsCall o u.ring.call) (sym (last_pass w.params.ttd w.taps w.trace w.now to None w.trace (omega (arith, later)) begun)) (by (last_initiator w.now w.trace) u.ring.is_call)
  where
    by : (o : Option Record) → IsCall o u.ring.call → IsCall (option_map (relabel w.params.ttd w.taps w.trace w.now to) o) u.ring.call
    by None h = h
    by (Some r) h = by_test (λ z. IsCall (Some z) u.ring.call) (ends_between w.now to (reaches w.params.ttd r)) (relabelled w.params.ttd w.taps w.trace r) r (λ _. h) (λ _. h)

-- ---- who waits for a reply

-- while the call is on its way, no reply is
pub none_in_air : (w : World) (base : ℕ) (members : List ℕ) (to : ℕ) (q : Passes w base members to) → w.now < q.u.ring.call.end + w.params.ttd → Each (NoReplyBefore w.params.ttd w.now to) w.trace
none_in_air w base members to q air = each_map (Known w base members q.u) (NoReplyBefore w.params.ttd w.now to) w.trace one (known w base members q.u)
  where
    one : (e : Entry) → Known w base members q.u e → NoReplyBefore w.params.ttd w.now to e
    one (Noise span) h = tt
    one (Sent x) h = λ none late.
        let begun = h.holds.begun in
        let some = h.holds.some in
        let after = ((h.ring (omega (arith, late, some))).answers none).after in
        absurd (omega (arith, after, begun, air))

-- where all began before the call had reached the taps, no reply is on its way
none_since : (w : World) (base : ℕ) (members : List ℕ) (to : ℕ) (q : Passes w base members to) → Each (BeganBefore (q.u.ring.call.end + w.params.ttd)) w.trace → Each (NoReplyBefore w.params.ttd w.now to) w.trace
none_since w base members to q last = each_both (Known w base members q.u) (BeganBefore (q.u.ring.call.end + w.params.ttd)) (NoReplyBefore w.params.ttd w.now to) w.trace one (known w base members q.u) last
  where
    one : (e : Entry) → Known w base members q.u e → BeganBefore (q.u.ring.call.end + w.params.ttd) e → NoReplyBefore w.params.ttd w.now to e
    one (Noise span) h b = tt
    one (Sent x) h b = λ none late. let some = h.holds.some in let after = ((h.ring (omega (arith, late, some))).answers none).after in absurd (omega (arith, after, b))

-- where a reply has not come yet, none has: there is only one
none_yet : (w : World) (base : ℕ) (members : List ℕ) (to : ℕ) (q : Passes w base members to) (x : Record) → Known w base members q.u (Sent x) → is_initiator x ≡ false → to ≤ x.begin + w.params.ttd → Each (NoReplyBefore w.params.ttd w.now to) w.trace
none_yet w base members to q x h none far = each_map (Known w base members q.u) (NoReplyBefore w.params.ttd w.now to) w.trace one (known w base members q.u)
  where
    at : x.begin ≡ q.u.ring.call.answered
    at = ((h.ring (let some = h.holds.some in let later = q.later in omega (arith, some, far, later))).answers none).at

    one : (e : Entry) → Known w base members q.u e → NoReplyBefore w.params.ttd w.now to e
    one (Noise span) g = tt
    one (Sent y) g = λ rep late. let some = g.holds.some in let same = ((g.ring (omega (arith, late, some))).answers rep).at in omega (arith, same, at, far)

-- entries on their way are awaited as before
pub awaited_passed : (w : World) (base : ℕ) (members : List ℕ) (to : ℕ) (q : Passes w base members to) → Each (IsAwaited w.params to (told w.params.ttd w.trace w.now to 0 w.taps) q.u.ring.call) (then_trace w to)
awaited_passed w base members to q =
    each_passed (Known w base members q.u) (IsAwaited w.params to (told w.params.ttd w.trace w.now to 0 w.taps) q.u.ring.call) w to (λ span h. tt)
    (λ x h. (λ none far. armed x h none far, λ none far. armed x h none far)) (known w base members q.u)
  where
    armed : (x : Record) → Known w base members q.u (Sent x) → is_initiator x ≡ false → to ≤ x.begin + w.params.ttd → ArmedAt w.params (told w.params.ttd w.trace w.now to 0 w.taps) q.u.ring.call.tap
    armed x h none far = armed_after w base members to q (h.awaited none (let later = q.later in omega (arith, far, later))) (none_yet w base members to q x h none far)

-- ---- a reply that a tap makes

-- replies that wait are due as before
pub replies_passed : (w : World) (base : ℕ) (members : List ℕ) (to : ℕ) (q : Passes w base members to) (k : ℕ) (t : Tap) (x : Tap) → RunsAt w k t → x.spec ≡ t.spec → view w.params x ≡ then_view w k to t → (r : Reply)
    → (then_view w k to t ≡ view w.params t) ⊎ ((f : Fields) × (then_arrival w k to t ≡ Framed f) × IsAnswer w.params (view w.params t).address to f r) → (view w.params x).reply ≡ Some r
    → IsDue w.params base (told w.params.ttd w.trace w.now to 0 w.taps) (then_trace w to) q.u.ring.call k x r
replies_passed w base members to q k t x at spec is r (inl same) e =
    let o : IsDue w.params base w.taps w.trace q.u.ring.call k t r = subst (λ z. IfSome z (λ a. IsDue w.params base w.taps w.trace q.u.ring.call k t a)) (ap (λ (z : Station). z.reply) (sym (is ∙ same)) ∙ e) (ring_at w base members q.u k t at).replies in
    record {
      since = o.since;
      another = o.another;
      asked = o.asked ∙ ap (λ n. Some n) (ap (λ s. s.address) (sym spec));
      wanted = o.wanted;
      ready = o.ready;
      told = o.told;
      last = each_passed (BeganBefore (q.u.ring.call.end + w.params.ttd)) (BeganBefore (q.u.ring.call.end + w.params.ttd)) w to (λ span h. h) (λ y h. (h, h)) o.last;
      armed = armed_after w base members to q o.armed (none_since w base members to q o.last);
    }
replies_passed w base members to q k t x at spec is r (inr made) e = by (arrives w base members q.u k to t q.later)
  where
    f : Fields
    f = made.0

    answer : IsAnswer w.params (view w.params t).address to f r
    answer = made.2

    bit : (a b : Bool) → (a && b) ≡ true → a ≡ true
    bit true b e = refl
    bit false b e = e

    by : ArrivesAs w base members q.u k to (then_arrival w k to t) → IsDue w.params base (told w.params.ttd w.trace w.now to 0 w.taps) (then_trace w to) q.u.ring.call k x r
    by (ComesNothing none) = absurd (let wrong : NoTelegram ≡ Framed f = sym none ∙ made.1 in cc)
    by (ComesAs y h ends another way brings) = record {
      since = let s = way.since in let g = single.1 in omega (arith, s, g);
      another = λ mine. another (single.0 ∙ mine);
      asked = ap goes_to here ∙ ap (λ n. Some n) (answer.to_it ∙ view_address w base members q.u k t at ∙ ap (λ s. s.address) (sym spec));
      wanted = wanted;
      ready = answer.ready ∙ ap (λ n. n + w.params.tsdr) (sym over);
      told = λ question. answer.told (ap is_question (sym here) ∙ question);
      last = each_passed (Known w base members q.u) (BeganBefore (q.u.ring.call.end + w.params.ttd)) w to (λ span g. let b = g.holds.0 in let later = q.later in omega (arith, b, later, over))
          (λ z g. let b = g.holds.begun in let later = q.later in (omega (arith, b, later, over), omega (arith, b, later, over))) (known w base members q.u);
      armed = armed_after w base members to q (q.u.ring.request wanted air) (none_in_air w base members to q air);
    }
      where
        is_framed : telegram_of y ≡ Framed f
        is_framed = sym brings ∙ made.1

        single : (y.tap ≡ q.u.ring.call.tap) × (y.begin ≡ q.u.ring.call.begin)
        single = way.single (ap wants_reply is_framed ∙ answer.wanted)

        c : CallStands w base members q.u
        c = call_stands w base members q.u

        same : y ≡ c.r
        same = one_sending w.trace y c.r q.u.invariant.keeps.inv.others h.inside c.inside (single.0 ∙ sym c.tap) (single.1 ∙ sym c.begin)

        here : brought_by q.u.ring.call.octets ≡ Framed f
        here = sym (call_brings q.u.ring.call c.r c.octets) ∙ ap telegram_of (sym same) ∙ is_framed

        wanted : wants_reply (brought_by q.u.ring.call.octets) ≡ true
        wanted = ap wants_reply here ∙ answer.wanted

        over : q.u.ring.call.end + w.params.ttd ≡ to
        over = ap (λ n. n + w.params.ttd) (sym c.end ∙ ap (λ (z : Record). z.end) (sym same)) ∙ ends

        air : w.now < q.u.ring.call.end + w.params.ttd
        air = let later = q.later in omega (arith, later, over)
