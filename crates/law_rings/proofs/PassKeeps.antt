-- A pass keeps a ring undisturbed.
use Rattle.std.proofs.Common.{◌≡◌, ℕ, zero, suc, ◌+◌, ◌<◌, ◌≤◌, ◌⊎◌, inl, inr, ⊎_elim, true, if◌then◌else◌, ◌++◌, List, [], ◌∷◌, refl, sym, ap, ◌∙◌, subst, arith, Option, Some, None}
use Rattle.std.specs.Prelude.{slice_get, IfSome}
use Rattle.std.proofs.lemmas.Bool.{cases_lt}
use Rattle.std.proofs.lemmas.Option.{none-some, same_Some}
use Rattle.law_turn.specs.Phases.{may_initiate}
use Rattle.law_turn.specs.Stations.{Station, Reply}
use Rattle.law_turn.specs.Turns.{after_marks}
use Rattle.law_turn.specs.Arrivals.{Framed}
use Rattle.pb_cycles.specs.Fields.{Fields}
use Rattle.law_rings.proofs.HearInRing.{IsAnswer}
use Rattle.law_model.specs.Trace.{Entry}
use Rattle.law_model.specs.Medium.{Tap, new_marks, marks_between}
use Rattle.law_model.specs.World.{World}
use Rattle.law_model.specs.Step.{told}
use Rattle.law_runs.specs.Initiators.{offered_by}
use Rattle.law_token.specs.Views.{view}
use Rattle.law_token.proofs.pass.Taps.{append_marks}
use Rattle.law_rings.specs.Ring.{IsUndisturbed, TakesPart, IsMember, HasAskedFor, IsDue, RingTap, Bearer, Ring, is_question, brought_by}
use Rattle.law_rings.proofs.TapPass.{TapAfter}
use Rattle.law_rings.proofs.TapsPass.{Passes, RunsAt, then_view, then_arrival, ring_at, tap_after, WasAt, was_at, armed_after}
use Rattle.law_rings.proofs.RingPass.{then_trace, entries_passed, past_passed, call_passed, none_in_air, awaited_passed, replies_passed}
use Rattle.law_rings.proofs.Taking.{OnItsWayTo, pass_by_end, takes}

-- ---- a tap that stands before a pass stands after it

-- a pass tells each tap its own
told_here : (delay : ℕ) (trace : List Entry) (from to k n i : ℕ) (ts : List Tap) (t : Tap) → n ≡ k + i → slice_get ts i ≡ Some t → slice_get (told delay trace from to k ts) i ≡ Some (record t { marks = t.marks ++ new_marks delay n t trace from to })
told_here delay trace from to k n i [] t e h = absurd (none-some t h)
told_here delay trace from to k n zero (x ∷ xs) t e h =
    let same = same_Some x t h in
    ap (λ (z : Tap). Some (record z { marks = z.marks ++ new_marks delay k z trace from to })) same ∙ ap (λ (m : ℕ). Some (record t { marks = t.marks ++ new_marks delay m t trace from to })) (let z : k ≡ n = omega (arith, e) in z)
told_here delay trace from to k n (suc i) (x ∷ xs) t e h = told_here delay trace from to (k + 1) n i xs t (omega (arith, e)) h

pub record IsAt (w : World) (k to : ℕ) (t : Tap) : Type 0 where
  pub x : Tap
  pub here : slice_get (told w.params.ttd w.trace w.now to 0 w.taps) k ≡ Some x
  pub running : x.running ≡ true
  pub view_is : view w.params x ≡ then_view w k to t
  pub address : x.spec.address ≡ t.spec.address

-- a tap after a pass
pub is_at : (w : World) (k to : ℕ) (t : Tap) → RunsAt w k t → IsAt w k to t
is_at w k to t at = record {
  x = record t { marks = t.marks ++ new_marks w.params.ttd k t w.trace w.now to };
  here = told_here w.params.ttd w.trace w.now to 0 k k w.taps t (omega arith) at.here;
  running = at.running;
  view_is = append_marks w.params t.station t.marks (new_marks w.params.ttd k t w.trace w.now to)
      ∙ ap (λ c. after_marks w.params (view w.params t) (if c then marks_between w.params.ttd k t w.trace w.now to else [])) at.running;
  address = refl;
}

-- ---- who has the token

-- who bears the token goes on, or the next one takes it
bearer_passed : (w : World) (base : ℕ) (members : List ℕ) (to : ℕ) (q : Passes w base members to) → Bearer w.params to (told w.params.ttd w.trace w.now to 0 w.taps) q.u.ring.call
bearer_passed w base members to q = record {
  tap = b.tap;
  t = x.x;
  here = x.here;
  running = x.running;
  part = subst (λ (z : Station). TakesPart z.phase) (sym x.view_is) (after.forth b.part);
  bears = ⊎_elim (λ (i : may_initiate (view w.params b.t).phase ≡ true). inl (subst (λ (z : Station). may_initiate z.phase ≡ true) (sym x.view_is) (after.initiates i))) coming b.bears;
}
  where
    b : Bearer w.params w.now w.taps q.u.ring.call
    b = q.u.ring.bearer

    at : RunsAt w b.tap b.t
    at = record { here = b.here; running = b.running }

    x : IsAt w b.tap to b.t
    x = is_at w b.tap to b.t at

    after : TapAfter w.params members b.t.spec.address to (then_arrival w b.tap to b.t) (view w.params b.t) (then_view w b.tap to b.t)
    after = tap_after w base members to q b.tap b.t at

    coming : (offered_by (brought_by q.u.ring.call.octets) ≡ Some b.t.spec.address) × (w.now < q.u.ring.call.end + w.params.ttd) × (q.u.ring.call.tap ≡ b.tap → ⊥)
        → (may_initiate (view w.params x.x).phase ≡ true) ⊎ ((offered_by (brought_by q.u.ring.call.octets) ≡ Some x.x.spec.address) × (to < q.u.ring.call.end + w.params.ttd) × (q.u.ring.call.tap ≡ b.tap → ⊥))
    coming c =
        let o : OnItsWayTo w base members q.u b.tap b.t = record { at = at; another = c.2; air = c.1 } in
        let le = pass_by_end w base members to q b.tap b.t o in
        ⊎_elim (λ (still : to < q.u.ring.call.end + w.params.ttd). inr (c.0 ∙ ap (λ n. Some n) (sym x.address), still, c.2))
        (λ (over : q.u.ring.call.end + w.params.ttd ≤ to).
        let h = takes w base members to q b.tap b.t o (omega (arith, le, over)) b.part c.0 in
        inl (subst (λ (z : Station). may_initiate z.phase ≡ true) (sym x.view_is) (ap may_initiate h.phase)))
        (cases_lt to (q.u.ring.call.end + w.params.ttd))

-- ---- each tap

-- each tap
tap_passed : (w : World) (base : ℕ) (members : List ℕ) (to : ℕ) (q : Passes w base members to) (k : ℕ) (x : Tap) → slice_get (told w.params.ttd w.trace w.now to 0 w.taps) k ≡ Some x → x.running ≡ true
    → RingTap w.params base members (told w.params.ttd w.trace w.now to 0 w.taps) (then_trace w to) q.u.ring.call k x
tap_passed w base members to q k x here running = record {
  undisturbed = subst (λ (z : Station). IsUndisturbed z.phase) (sym b.view_is) a.undisturbed;
  since = subst (λ n. n < base) (sym b.since) r.since;
  active = λ master passive. r.active (ap (λ s. s.master) (sym b.spec) ∙ master) (a.passive (ap (λ (z : Station). z.phase) (sym b.view_is) ∙ passive));
  master = λ part. ap (λ s. s.master) b.spec ∙ r.master (a.back (subst (λ (z : Station). TakesPart z.phase) b.view_is part));
  member = λ part. subst (λ (z : Station). IsMember members x.spec.address z.las) (sym b.view_is)
      (subst (λ n. IsMember members n (then_view w k to b.t).las) (ap (λ s. s.address) (sym b.spec)) (a.member (subst (λ (z : Station). TakesPart z.phase) b.view_is part)));
  replies = made (view w.params x).reply refl;
  asked = λ from mine. subst (λ (z : Station). HasAskedFor z.phase (is_question (brought_by q.u.ring.call.octets))) (sym b.view_is) (a.asked (is_question (brought_by q.u.ring.call.octets)) (r.asked from mine));
}
  where
    b : WasAt w k to x
    b = was_at w k to x here running

    r : RingTap w.params base members w.taps w.trace q.u.ring.call k b.t
    r = ring_at w base members q.u k b.t b.at

    a : TapAfter w.params members b.t.spec.address to (then_arrival w k to b.t) (view w.params b.t) (then_view w k to b.t)
    a = tap_after w base members to q k b.t b.at

    made : (o : Option Reply) → (view w.params x).reply ≡ o → IfSome o (λ r. IsDue w.params base (told w.params.ttd w.trace w.now to 0 w.taps) (then_trace w to) q.u.ring.call k x r)
    made None e = tt
    made (Some y) e =
        replies_passed w base members to q k b.t x b.at b.spec b.view_is y
        (subst (λ z. IfSome z (λ y. (then_view w k to b.t ≡ view w.params b.t) ⊎ ((f : Fields) × (then_arrival w k to b.t ≡ Framed f) × IsAnswer w.params (view w.params b.t).address to f y))) (ap (λ (z : Station). z.reply) (sym b.view_is) ∙ e) a.reply) e

-- ---- the ring

-- all of it
pub ring_passed : (w : World) (base : ℕ) (members : List ℕ) (to : ℕ) (q : Passes w base members to) → Ring (record w { now = to; taps = told w.params.ttd w.trace w.now to 0 w.taps; trace = then_trace w to }) base members
ring_passed w base members to q =
    let g = q.u.ring in
    let later = q.later in
    record {
      call = g.call;
      is_call = call_passed w base members q.u to later;
      from = let from = g.from in omega (arith, from, later);
      ascends = g.ascends;
      all = λ a in_it. let m = g.all a in_it in
          let at : RunsAt w m.tap m.t = record { here = m.here; running = m.running } in
          let x = is_at w m.tap to m.t at in
          record {
            tap = m.tap;
            t = x.x;
            here = x.here;
            running = x.running;
            part = subst (λ (z : Station). TakesPart z.phase) (sym x.view_is) ((tap_after w base members to q m.tap m.t at).forth m.part);
            address = x.address ∙ m.address;
          };
      bearer = bearer_passed w base members to q;
      taps = λ k x here running. tap_passed w base members to q k x here running;
      entries = entries_passed w base members g.call to later g.entries;
      replies = past_passed w g.call to later g.replies;
      awaited = awaited_passed w base members to q;
      request = λ wants air. let before : w.now < g.call.end + w.params.ttd = omega (arith, air, later) in armed_after w base members to q (g.request wants before) (none_in_air w base members to q before);
    }

-- its call is the same
pub ring_passed_call : (w : World) (base : ℕ) (members : List ℕ) (to : ℕ) (q : Passes w base members to) → (ring_passed w base members to q).call ≡ q.u.ring.call
unfolding ring_passed
ring_passed_call w base members to q = refl
