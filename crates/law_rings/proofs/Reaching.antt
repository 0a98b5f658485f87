-- What reaches a tap of an undisturbed ring: the call, if another speaks, or the reply for which the tap waits. So what
-- begins at a tap begins before its timer is over, and never while it uses the token.
use Rattle.std.proofs.Common.{◌≡◌, ℕ, ◌+◌, ◌<◌, ◌≤◌, ◌⊎◌, ⊎_elim, Bool, true, false, if◌then◌else◌, ◌==◌, ◌||◌, List, refl, sym, ap, ◌∙◌, subst, arith, Option, Some, None}
use Rattle.std.specs.Prelude.{slice_get, max, nat_lt, IfSome}
use Rattle.std.specs.Option.{option_and_then}
use Rattle.std.proofs.lemmas.Bool.{eq-eqb, or_parts}
use Rattle.pb_timers.specs.Timers.{Params}
use Rattle.law_turn.specs.Spans.{Span}
use Rattle.law_model.specs.Trace.{Record, Entry, Sent, Noise}
use Rattle.law_model.specs.Medium.{part_after, reaches, is_unheard}
use Rattle.law_model.specs.World.{World}
use Rattle.law_model.proofs.Cases.{by_test}
use Rattle.law_runs.specs.Initiators.{is_initiator}
use Rattle.law_runs.specs.Premises.{Waited}
use Rattle.law_token.specs.Lists.{Each, In}
use Rattle.law_token.specs.Places.{heard_span}
use Rattle.law_token.specs.Entries.{EntryHolds}
use Rattle.law_token.specs.Invariant.{Invariant}
use Rattle.law_token.proofs.bus.Lists.{each_in, each_both, each_inside}
use Rattle.law_token.proofs.pass.Brings.{HasLength}
use Rattle.law_live.specs.Flow.{Flow}
use Rattle.law_rings.specs.Ring.{Call, IsCall, OnItsWay, InRing, IsAwaited, Ring}
use Rattle.law_rings.proofs.Calls.{order_call}

-- ---- what reaches a tap

-- the part of a stretch is the stretch from a moment on
part_is : (since : ℕ) (span y : Span) → part_after since span ≡ Some y → (y.begin ≡ max span.begin since) × (y.end ≡ span.end)
part_is since span y =
    by_test (λ (o : Option Span). o ≡ Some y → (y.begin ≡ max span.begin since) × (y.end ≡ span.end)) (nat_lt since span.end) (Some (record { begin = max span.begin since; end = span.end })) None
    (λ _ e. let same : record { begin = max span.begin since; end = span.end } ≡ y = cc in (ap (λ (z : Span). z.begin) (sym same), ap (λ (z : Span). z.end) (sym same))) (λ _ e. absurd cc)

-- a telegram of another that has not reached the tap yet
pub record ReachesAs (p : Params) (base now : ℕ) (members : List ℕ) (trace : List Entry) (call : Call) (k : ℕ) (e : Entry) (y : Span) : Type 0 where
  pub x : Record
  pub is : e ≡ Sent x
  pub another : x.tap ≡ k → ⊥
  pub late : now ≤ x.begin + p.ttd
  pub at : y.begin ≡ x.begin + p.ttd
  pub way : OnItsWay p base now members trace call x

-- what begins at a tap now or later is such a telegram
pub reaches_as : (p : Params) (base now k since : ℕ) (members : List ℕ) (trace : List Entry) (call : Call) (e : Entry) → base ≤ now → since < base → HasLength e → InRing p base now members trace call e
    → (y : Span) → heard_span p.ttd k since e ≡ Some y → now ≤ y.begin → ReachesAs p base now members trace call k e y
reaches_as p base now k since members trace call (Noise span) from early some o y e late = let h = part_is since span y e in absurd (omega (arith, h.0, some, o, late))
reaches_as p base now k since members trace call (Sent x) from early some o y e late = by (x.tap == k || is_unheard (slice_get x.heard k)) refl e
  where
    by : (b : Bool) → (x.tap == k || is_unheard (slice_get x.heard k)) ≡ b → option_and_then (part_after since) (if b then None else Some (reaches p.ttd x)) ≡ Some y → ReachesAs p base now members trace call k (Sent x) y
    by true q e = absurd cc
    by false q e =
        let h = part_is since (reaches p.ttd x) y e in
        let out = or_parts (x.tap == k) (is_unheard (slice_get x.heard k)) q in
        record {
          x = x;
          is = refl;
          another = λ same. let w : true ≡ false = sym (eq-eqb x.tap k same) ∙ out.0 in cc;
          late = omega (arith, h.0, late, early, from);
          at = omega (arith, h.0, late, early, from);
          way = o (omega (arith, h.0, late, early, from, some));
        }

-- ---- a world of an undisturbed ring

-- it keeps what the token theorem and the bound of silence keep, and is a ring since a moment
pub record Undisturbed (w : World) (base : ℕ) (members : List ℕ) : Type 0 where
  pub waited : List Waited
  pub invariant : Invariant w waited
  pub flow : Flow w
  pub ring : Ring w base members

-- the last initiator telegram is the call
pub last_call : (w : World) (base : ℕ) (members : List ℕ) (u : Undisturbed w base members) → IsCall u.invariant.keeps.inv.last u.ring.call
last_call w base members u = subst (λ o. IsCall o u.ring.call) u.invariant.keeps.inv.is_last u.ring.is_call

-- all that is known of an entry
pub record Known (w : World) (base : ℕ) (members : List ℕ) (u : Undisturbed w base members) (e : Entry) : Type 0 where
  pub holds : EntryHolds w.params w.now w.taps w.trace u.waited u.invariant.keeps.inv.last e
  pub ring : InRing w.params base w.now members w.trace u.ring.call e
  pub awaited : IsAwaited w.params w.now w.taps u.ring.call e
  pub inside : In e w.trace

-- of every entry
pub known : (w : World) (base : ℕ) (members : List ℕ) (u : Undisturbed w base members) → Each (Known w base members u) w.trace
known w base members u =
    let inv = u.invariant.keeps.inv in
    let holds = EntryHolds w.params w.now w.taps w.trace u.waited inv.last in
    let rings = InRing w.params base w.now members w.trace u.ring.call in
    let awaits = IsAwaited w.params w.now w.taps u.ring.call in
    each_inside (λ e. holds e × rings e × awaits e) (Known w base members u) w.trace (λ e i h. record { holds = h.0; ring = h.1; awaited = h.2; inside = i })
    (each_both holds (λ e. rings e × awaits e) (λ e. holds e × rings e × awaits e) w.trace (λ e a b. (a, b.0, b.1)) inv.entries
    (each_both rings awaits (λ e. rings e × awaits e) w.trace (λ e a b. (a, b)) u.ring.entries u.ring.awaited))

-- the call stands in the trace, and has some length
pub record CallStands (w : World) (base : ℕ) (members : List ℕ) (u : Undisturbed w base members) : Type 0 where
  pub r : Record
  pub last : u.invariant.keeps.inv.last ≡ Some r
  pub inside : In (Sent r) w.trace
  pub tap : r.tap ≡ u.ring.call.tap
  pub octets : r.octets ≡ u.ring.call.octets
  pub begin : r.begin ≡ u.ring.call.begin
  pub end : r.end ≡ u.ring.call.end
  pub some : u.ring.call.begin < u.ring.call.end
  pub begun : u.ring.call.begin ≤ w.now

-- it is in the trace
pub call_stands : (w : World) (base : ℕ) (members : List ℕ) (u : Undisturbed w base members) → CallStands w base members u
call_stands w base members u = by u.invariant.keeps.inv.last refl (last_call w base members u) u.invariant.keeps.inv.last_in
  where
    by : (o : Option Record) → u.invariant.keeps.inv.last ≡ o → IsCall o u.ring.call → IfSome o (λ r. In (Sent r) w.trace) → CallStands w base members u
    by None e is i = absurd is
    by (Some r) e is i =
        let h = (each_in (Known w base members u) (Sent r) w.trace (known w base members u) i).holds in
        record {
          r = r;
          last = e;
          inside = i;
          tap = is.0;
          octets = is.1;
          begin = is.2;
          end = is.3;
          some = let a = h.some in omega (arith, a, is.2, is.3);
          begun = let a = h.begun in omega (arith, a, is.2);
        }

-- an initiator telegram on its way is by the speaker of the call
pub by_caller : (w : World) (base : ℕ) (members : List ℕ) (u : Undisturbed w base members) (x : Record) → Known w base members u (Sent x) → is_initiator x ≡ true → w.now < x.end + w.params.ttd → x.tap ≡ u.ring.call.tap
by_caller w base members u x h init late =
    let c = call_stands w base members u in
    ⊎_elim (λ (same : (x.tap ≡ u.ring.call.tap) × (x.begin ≡ u.ring.call.begin)). same.0)
    (λ (before : (x.end ≤ u.ring.call.begin) × ((x.end + w.params.ttd ≤ u.ring.call.begin) ⊎ ((x.tap ≡ u.ring.call.tap) × _))).
    ⊎_elim (λ (over : x.end + w.params.ttd ≤ u.ring.call.begin). absurd (let b = c.begun in omega (arith, over, late, b))) (λ (own : (x.tap ≡ u.ring.call.tap) × _). own.0) before.1)
    (order_call w.params.ttd u.invariant.keeps.inv.last u.ring.call x (last_call w base members u) (h.holds.order init))
