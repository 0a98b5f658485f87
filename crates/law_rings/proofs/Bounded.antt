-- A settled ring stays as it is, and its rotation is bounded.
use Rattle.std.proofs.Common.{◌≡◌, ℕ, ◌+◌, ◌*◌, ◌<◌, Bool, true, false, not, ◌==◌, ◌&&◌, List, [], ◌∷◌, ◌++◌, length, refl, sym, ap, subst, ◌∙◌, arith, Option, Some, None}
use Rattle.std.specs.Prelude.{max, slice_get}
use Rattle.std.specs.List.{list_all}
use Rattle.std.proofs.lemmas.Bool.{and_parts, and_from, eq-eqb}
use Rattle.std.proofs.lemmas.List.{map-append}
use Rattle.std.proofs.lemmas.Option.{none-some, same_Some}
use Rattle.pb_timers.specs.Timers.{Params, bits}
use Rattle.pb_ring.specs.AddressSets.{is_member, is_same}
use Rattle.pb_ring.proofs.SetLemmas.{is_same-refl}
use Rattle.pb_rotation.specs.Rotation.{Receipt}
use Rattle.law_turn.specs.Phases.{Phase, Offline, PassiveIdle, Listening, Idle, Claim, Use, AwaitData, AwaitStatus, Pass, Checking, is_offline}
use Rattle.law_model.specs.Medium.{Tap}
use Rattle.law_model.specs.World.{World, Event}
use Rattle.law_token.specs.Actions.{Happens, first_broken_by}
use Rattle.law_token.specs.Views.{view}
use Rattle.law_token.proofs.bus.NewWorlds.{new_invariant}
use Rattle.law_token.proofs.replies.Actions.{same_stations, params_by}
use Rattle.law_token.proofs.replies.Happen.{happen, are_happen, leads_happen, acted_happen, kept_happen}
use Rattle.law_token.proofs.whole.Keeping.{fits_valid}
use Rattle.law_live.specs.NeverDead.{cycle}
use Rattle.law_live.proofs.Events.{new_flow}
use Rattle.law_rings.specs.Receipts.{Log, times, Rotates}
use Rattle.law_rings.specs.Ring.{IsUndisturbed, TakesPart, RingTap, MemberAt}
use Rattle.law_rings.specs.Actions.{is_calm_action, CalmActionsSince, RingStaysByActions, BoundedRotationByActions}
use Rattle.law_rings.specs.Rotation.{is_calm, rotation_time, CalmSince, EachStation, ReceivesWithin, RingStays, BoundedRotation}
use Rattle.law_rings.specs.Settled.{is_active, ring_of, lists}
use Rattle.law_rings.proofs.Beginnings.{part_active, settled_rotating}
use Rattle.law_rings.proofs.CalmRuns.{Sound, acts_before, CalmLeft, calm_acts}
use Rattle.law_rings.proofs.FromSettled.{active_member, ActiveAt, member_active}
use Rattle.law_rings.proofs.HoldsInTime.{last_in_time}
use Rattle.law_rings.proofs.Reaching.{Undisturbed}
use Rattle.law_rings.proofs.Sums.{rotation_bounded}

-- ---- a world after calm events

-- a master that is not offline takes part
takes_part : (ph : Phase) → IsUndisturbed ph → (ph ≡ PassiveIdle → ⊥) → not (is_offline ph) ≡ true → TakesPart ph
takes_part (Idle refused) u ne on = tt
takes_part (Use asked ready) u ne on = tt
takes_part (AwaitData asked retry slot) u ne on = tt
takes_part (AwaitStatus of slot) u ne on = tt
takes_part (Checking tries) u ne on = tt
takes_part Offline u ne on = absurd (let w : false ≡ true = on in cc)
takes_part PassiveIdle u ne on = absurd (ne refl)
takes_part (Listening doubled) u ne on = absurd u
takes_part (Claim sent ready) u ne on = absurd u
takes_part (Pass tries ready) u ne on = absurd u

-- the receipts of a log are those of its station
waits_of : (now base time previous at : ℕ) (o : Option Receipt) → times base o ≡ Some (previous, at) → now < at + time → (r : Receipt) × (o ≡ Some r) × (now < max base r.at + time)
waits_of now base time previous at None e h = absurd (none-some (previous, at) e)
waits_of now base time previous at (Some r) e h = let same = ap (λ (z : ℕ × ℕ). z.1) (same_Some (max base r.previous, max base r.at) (previous, at) e) in (r, refl, omega (arith, same, h))

-- what is known of a ring after calm events
abbrev pub left_of : (w : World) (base : ℕ) (members : List ℕ) → CalmLeft w base members → Undisturbed w base members
left_of w base members c = record { waited = c.all; invariant = c.sound.invariant; flow = c.sound.flow; ring = c.rotating.ring }

-- its active stations take part
record InIt (w : World) (base : ℕ) (members : List ℕ) (c : CalmLeft w base members) (k : ℕ) (t : Tap) : Type 0 where
  running : t.running ≡ true
  part : TakesPart (view w.params t).phase
  tap : RingTap w.params base members w.taps w.trace c.rotating.ring.call k t

-- by their tests and the invariant
in_it : (w : World) (base : ℕ) (members : List ℕ) (c : CalmLeft w base members) (k : ℕ) (t : Tap) → slice_get w.taps k ≡ Some t → is_active w.params t ≡ true → InIt w base members c k t
in_it w base members c k t here active =
    let ph = (view w.params t).phase in
    let parts = and_parts t.running (t.spec.master && not (is_offline ph)) active in
    let on = and_parts t.spec.master (not (is_offline ph)) parts.1 in
    let tap = c.rotating.ring.taps k t here parts.0 in
    record { running = parts.0; part = takes_part ph tap.undisturbed (tap.active on.0) on.1; tap = tap }

-- each of them waits less than so long
bounded : (w : World) (base : ℕ) (members : List ℕ) → 0 < w.params.ttr → CalmLeft w base members → EachStation w (ReceivesWithin w base (rotation_time w.params (length members)))
bounded w base members some c k t here active =
    waits_of w.now base (rotation_time p (length members)) (log.previous a) (log.at a) (view p t).rotation.last (r.has k t here i.running i.part) (omega (arith, bound))
  where
    p : Params
    p = w.params

    u : Undisturbed w base members
    u = left_of w base members c

    i : InIt w base members c k t
    i = in_it w base members c k t here active

    r : Rotates w base members u.ring.call
    r = c.rotating.rotates

    log : Log
    log = r.log

    a : ℕ
    a = t.spec.address

    last : RingTap p base members w.taps w.trace u.ring.call r.tap r.t
    last = u.ring.taps r.tap r.t r.here r.running

    bound : w.now < log.at a + p.ttr + cycle p + length members * (cycle p + bits 3 + p.ttd + p.tid1 + p.lag)
    bound = rotation_bounded p members r.t.spec.address log w.now u.ring.ascends some (last.member r.part).member r.in_order (last_in_time w base members u r) a (i.tap.member i.part).member

-- and they are the members, and list them
same_test : (x y : Bool) → (x ≡ true → y ≡ true) → (y ≡ true → x ≡ true) → x ≡ y
same_test true y f g = sym (f refl)
same_test false true f g = g refl
same_test false false f g = refl

-- by the invariant of the ring
stays : (w : World) (base : ℕ) (members : List ℕ) → CalmLeft w base members
    → ((a : ℕ) → is_member (ring_of w.params w.taps) a ≡ is_member members a) × EachStation w (λ t. lists members t.spec.address (view w.params t).las.stage ≡ true)
stays w base members c = (λ a. same_test (is_member (ring_of p w.taps) a) (is_member members a) (into a) (from a), listed)
  where
    p : Params
    p = w.params

    into : (a : ℕ) → is_member (ring_of p w.taps) a ≡ true → is_member members a ≡ true
    into a m =
        let x : ActiveAt p w.taps a = member_active p w.taps a m in
        let i = in_it w base members c x.tap x.t x.here x.active in
        subst (λ z. is_member members z ≡ true) x.address (i.tap.member i.part).member

    from : (a : ℕ) → is_member members a ≡ true → is_member (ring_of p w.taps) a ≡ true
    from a m =
        let x : MemberAt p w.taps a = c.rotating.ring.all a m in
        let ph = (view p x.t).phase in
        let master = (c.rotating.ring.taps x.tap x.t x.here x.running).master x.part in
        let active : is_active p x.t ≡ true = ap (λ b. b && (x.t.spec.master && not (is_offline ph))) x.running ∙ ap (λ b. b && not (is_offline ph)) master ∙ part_active ph x.part in
        subst (λ z. is_member (ring_of p w.taps) z ≡ true) x.address (active_member p w.taps x.tap x.t x.here active)

    listed : EachStation w (λ t. lists members t.spec.address (view p t).las.stage ≡ true)
    listed k t here active =
        let i = in_it w base members c k t here active in
        let m = i.tap.member i.part in
        let placed = and_from (m.place.address == t.spec.address) (m.place.skipped == 0) (eq-eqb m.place.address t.spec.address m.own) (eq-eqb m.place.skipped 0 m.not_skipped) in
        ap (lists members t.spec.address) m.stage ∙ and_from (is_same members members) (m.place.address == t.spec.address && m.place.skipped == 0) (is_same-refl members) placed

-- ---- the theorem

-- calm actions from a settled ring
calm_left : (w next : World) → CalmActionsSince w next → CalmLeft next w.now (ring_of w.params w.taps)
calm_left w next c =
    let has = c.acted in
    let fits = fits_valid c.p c.valid in
    let start : Sound c.start [] = record { invariant = new_invariant c.p c.specs c.start fits has.fit has.made; flow = new_flow c.p c.specs c.start c.valid.reply_in_time has.made } in
    let left = acts_before c.before c.actions c.start w [] has.are c.are has.leads c.kept start in
    calm_acts c.actions w next left.all w.now (ring_of w.params w.taps) c.are c.leads c.calm left.kept left.sound (settled_rotating w left.all left.sound.invariant left.sound.flow c.settled)

-- a settled ring stays
pub ring_stays_by : RingStaysByActions
ring_stays_by w next c = stays next w.now (ring_of w.params w.taps) (calm_left w next c)

-- and its rotation is bounded
pub bounded_by : BoundedRotationByActions
bounded_by w next c =
    let same : next.params ≡ c.p = (same_stations c.actions w next c.leads).params ∙ params_by c.p c.specs c.before c.start w c.acted in
    let long = c.valid.rotation_long in
    let some : 0 < next.params.ttr = subst (λ (z : Params). 0 < z.ttr) (sym same) (omega (arith, long)) in
    bounded next w.now (ring_of w.params w.taps) some (calm_left w next c)

-- ---- events are actions

calm_happen : (events : List Event) → list_all is_calm events ≡ true → list_all is_calm_action (happen events) ≡ true
calm_happen [] calm = calm
calm_happen (e ∷ es) calm = let b = and_parts (is_calm e) (list_all is_calm es) calm in and_from (is_calm e) (list_all is_calm_action (happen es)) b.0 (calm_happen es b.1)

since_happen : (w next : World) → CalmSince w next → CalmActionsSince w next
since_happen w next c = record {
  p = c.p;
  specs = c.specs;
  before = happen c.before;
  actions = happen c.events;
  start = c.start;
  valid = c.valid;
  acted = acted_happen c.p c.specs c.before c.start w c.run;
  settled = c.settled;
  are = are_happen c.events c.are;
  leads = leads_happen c.events w next c.runs;
  calm = calm_happen c.events c.calm;
  kept = subst (λ actions. first_broken_by c.start actions ≡ None) (map-append Happens c.before c.events) (kept_happen c.start (c.before ++ c.events) c.kept);
}

pub ring_stays : RingStays
ring_stays w next c = ring_stays_by w next (since_happen w next c)

pub bounded_rotation : BoundedRotation
bounded_rotation w next c = bounded_by w next (since_happen w next c)
