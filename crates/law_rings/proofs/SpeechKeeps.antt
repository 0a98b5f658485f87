-- A turn in which a holder speaks keeps a ring undisturbed.
use Rattle.std.proofs.Common.{◌≡◌, ℕ, ◌+◌, ◌⊎◌, inl, inr, ⊎_elim, Bool, true, false, if◌then◌else◌, ◌&&◌, List, [], length, map, refl, sym, ap, ◌∙◌, subst, arith, Option, Some, None}
use Rattle.std.specs.Prelude.{◌%◌, slice_get, slice_set, IfSome}
use Rattle.std.proofs.lemmas.Bool.{ne_eqb}
use Rattle.std.proofs.lemmas.Option.{same_Some}
use Rattle.pb_telegram.specs.Faults.{fault_of}
use Rattle.pb_telegram.specs.declared.chars.RxChar.TheVariants.{Good}
use Rattle.pb_timers.specs.Timers.{Params, bits}
use Rattle.pb_ring.specs.AddressSets.{IsAscending, is_member, next_address}
use Rattle.pb_ring.specs.Las.{members_of}
use Rattle.pb_ring.proofs.NeighbourLemmas.{next-is}
use Rattle.pb_cycles.specs.Fields.{Fields}
use Rattle.pb_cycles.specs.Messages.{has_bit}
use Rattle.pb_cycles.specs.Requests.{asked_by}
use Rattle.law_turn.specs.Arrivals.{Token, Framed, telegram_arrival}
use Rattle.law_turn.specs.Hearing.{is_status}
use Rattle.law_turn.specs.Phases.{Phase, Offline, PassiveIdle, Listening, Idle, Claim, Use, AwaitData, AwaitStatus, Pass, Checking, may_initiate}
use Rattle.law_turn.specs.Stations.{Station, next_station}
use Rattle.law_turn.specs.Turns.{token_octets}
use Rattle.law_model.specs.Trace.{Record, Entry, Sent, Noise, with_entry}
use Rattle.law_model.specs.Medium.{Tap}
use Rattle.law_model.specs.World.{World}
use Rattle.law_model.specs.Step.{sending}
use Rattle.law_runs.specs.Initiators.{initiates, is_initiator, offered_by}
use Rattle.law_runs.specs.Premises.{Waited}
use Rattle.law_token.specs.Lists.{Each, In}
use Rattle.law_token.specs.Views.{view, place, Knows, TapHolds}
use Rattle.law_token.specs.Entries.{EntryHolds, RecordHolds, ComesBefore}
use Rattle.law_token.specs.Invariant.{Invariant}
use Rattle.law_token.proofs.bus.Lists.{each_in, each_map, each_with, get_set_at, get_set_other, at_set}
use Rattle.law_token.proofs.bus.Live.{lives, initiates_live, live_on}
use Rattle.law_token.proofs.pass.Brings.{one_sending}
use Rattle.law_token.proofs.pass.Taps.{knows_on}
use Rattle.law_token.proofs.turn.Kept.{turned}
use Rattle.law_token.proofs.turn.Meaning.{arrival_spelled}
use Rattle.law_token.proofs.turn.Records.{OwnPast, own_past}
use Rattle.law_token.proofs.turn.Trace.{in_new}
use Rattle.law_token.proofs.turn.Warrants.{OwnOver, origin_lives}
use Rattle.law_rings.specs.Ring.{Call, IsCall, OnItsWay, InRing, IsPastReply, IsUndisturbed, TakesPart, IsMember, HasAskedFor, IsArmed, IsDue, RingTap, Bearer, IsAwaited, Ring, is_answered_by, wants_reply, is_question, brought_by}
use Rattle.law_rings.proofs.HoldersSay.{SaidBy, PassesOn, HasAgain, Requests, Spoken, brings_frame}
use Rattle.law_rings.proofs.NotInRing.{MaySpeak, none_due, replies_over, none_wanted}
use Rattle.law_rings.proofs.Reaching.{Undisturbed, Known, known}
use Rattle.law_rings.proofs.TapsPass.{RunsAt, holds_at, ring_at, view_address}
use Rattle.law_rings.proofs.TurnKeeps.{members_set, other_tap, origin_with}
use Rattle.law_rings.proofs.NoTest.{no_}
use Rattle.law_token.proofs.turn.Last.{set_here}

-- ---- what is said

-- a holder in an undisturbed ring takes part
pub initiates_part : (ph : Phase) → IsUndisturbed ph → may_initiate ph ≡ true → TakesPart ph
initiates_part (Use asked ready) u m = tt
initiates_part (AwaitData asked retry slot) u m = tt
initiates_part (AwaitStatus of slot) u m = tt
initiates_part (Claim sent ready) u m = absurd u
initiates_part (Pass tries ready) u m = absurd u
initiates_part Offline u m = no_ m
initiates_part PassiveIdle u m = no_ m
initiates_part (Listening doubled) u m = no_ m
initiates_part (Idle refused) u m = no_ m
initiates_part (Checking tries) u m = no_ m

-- and so does one that waits in its slot
pub armed_part : (ph : Phase) (b : Bool) → IsArmed ph b → TakesPart ph × (may_initiate ph ≡ true)
armed_part (AwaitData asked retry slot) b a = (tt, refl)
armed_part (AwaitStatus of slot) b a = (tt, refl)
armed_part Offline b a = absurd a
armed_part PassiveIdle b a = absurd a
armed_part (Listening doubled) b a = absurd a
armed_part (Idle refused) b a = absurd a
armed_part (Claim sent ready) b a = absurd a
armed_part (Use asked ready) b a = absurd a
armed_part (Pass tries ready) b a = absurd a
armed_part (Checking tries) b a = absurd a

-- what is said in a ring, and how the speaker stands then
pub record SaidInRing (members : List ℕ) (address : ℕ) (octets : List ℕ) (s' : Station) : Type 0 where
  pub init : initiates (brought_by octets) ≡ true
  pub passes : (da sa : ℕ) → brought_by octets ≡ Token da sa → (is_member members sa ≡ true) × (da ≡ next_address sa members)
  pub part : TakesPart s'.phase
  pub armed : wants_reply (brought_by octets) ≡ true → IsArmed s'.phase s'.busy
  pub asked : HasAskedFor s'.phase (is_question (brought_by octets))
  pub bears : (may_initiate s'.phase ≡ true) ⊎ ((da : ℕ) × (offered_by (brought_by octets) ≡ Some da) × (is_member members da ≡ true) × (da ≡ address → ⊥))

-- equal tokens
same_token : (da sa ns a : ℕ) → Token da sa ≡ Token ns a → (da ≡ ns) × (sa ≡ a)
same_token da sa ns a e = (cc, cc)

-- a frame is no token
token_no_frame : (g : Fields) (da sa : ℕ) → Framed g ≡ Token da sa → ⊥
token_no_frame g da sa e = cc

-- a token, to the next station
said_token : (members : List ℕ) (address : ℕ) (octets : List ℕ) (v s' : Station) → IsMember members address v.las → v.address ≡ address → IsAscending members → fault_of (map Good octets) ≡ None → octets ≡ token_octets (next_station v) v.address
    → TakesPart s'.phase → HasAskedFor s'.phase false → (next_station v ≡ v.address → may_initiate s'.phase ≡ true) → (may_initiate s'.phase ≡ true) ⊎ (next_station v ≡ v.address → ⊥) → SaidInRing members address octets s'
said_token members address octets v s' m here up good said part asked again or = record {
  init = ap initiates is;
  passes = λ da sa e. let z = same_token da sa (next_station v) v.address (sym e ∙ is) in
      (subst (λ n. is_member members n ≡ true) (sym (z.1 ∙ here)) m.member, z.0 ∙ next ∙ ap (λ n. next_address n members) (sym z.1));
  part = part;
  armed = λ wants. no_ (sym (ap wants_reply is) ∙ wants);
  asked = subst (λ b. HasAskedFor s'.phase b) (sym (ap is_question is)) asked;
  bears = ⊎_elim (λ (may : may_initiate s'.phase ≡ true). inl may)
      (λ (ne : next_station v ≡ v.address → ⊥). inr (
        next_station v,
        ap offered_by is ∙ ap (λ b. if b then None else Some (next_station v)) (ne_eqb (next_station v) v.address ne),
        subst (λ n. is_member members n ≡ true) (sym next) (next-is members v.address v.address up (subst (λ n. is_member members n ≡ true) (sym here) m.member)).member,
        λ e. ne (e ∙ sym here),
      )) or;
}
  where
    is : brought_by octets ≡ Token (next_station v) v.address
    is = arrival_spelled octets good ∙ ap telegram_arrival said

    next : next_station v ≡ next_address v.address members
    next = ap (λ z. next_address v.address (members_of z)) m.stage

-- by what the holder says
pub said_in_ring : (p : Params) (now : ℕ) (members : List ℕ) (address : ℕ) (octets : List ℕ) (v s' : Station) → IsMember members address v.las → v.address ≡ address → IsAscending members → v.busy ≡ false → fault_of (map Good octets) ≡ None → Spoken p now v s' octets → SaidInRing members address octets s'
said_in_ring p now members address octets v s' m here up still good said = by said.by
  where
    by : SaidBy p now v s' octets → SaidInRing members address octets s'
    by (PassesOn tries os ne ph ts) =
        said_token members address octets v s' m here up good os (subst TakesPart (sym ph) tt) (subst (λ z. HasAskedFor z false) (sym ph) tt) (λ e. absurd (ne e)) (inr ne)
    by (HasAgain os same ph rot) =
        said_token members address octets v s' m here up good os (subst TakesPart (sym ph) tt) (subst (λ z. HasAskedFor z false) (sym ph) tt) (λ e. ap may_initiate ph) (inl (ap may_initiate ph))
    by (Requests f os bit armed question ts) = record {
      init = ap initiates is ∙ ap (λ n. has_bit n 6) fc ∙ bit;
      passes = λ da sa e. absurd (token_no_frame g da sa (sym is ∙ e));
      part = ⊎_elim (λ (z : IsArmed s'.phase v.busy). (armed_part s'.phase v.busy z).0) (λ (z : (asked : Bool) × (ready : ℕ) × (s'.phase ≡ Use asked ready) × (is_answered_by (asked_by (f.fc % 16)) ≡ false)). subst TakesPart (sym z.2) tt) armed;
      armed = λ wants. ⊎_elim (λ (z : IsArmed s'.phase v.busy). subst (λ b. IsArmed s'.phase b) (sym said.busy) z)
          (λ (z : (asked : Bool) × (ready : ℕ) × (s'.phase ≡ Use asked ready) × (is_answered_by (asked_by (f.fc % 16)) ≡ false)).
          no_ (sym (ap wants_reply is ∙ ap (λ n. has_bit n 6 && is_answered_by (asked_by (n % 16))) fc ∙ ap (λ b. b && is_answered_by (asked_by (f.fc % 16))) bit ∙ z.3) ∙ wants)) armed;
      asked = subst (λ b. HasAskedFor s'.phase b) (sym (ap is_question is ∙ ap (λ n. has_bit n 6 && is_status (asked_by (n % 16))) fc ∙ ap (λ b. b && is_status (asked_by (f.fc % 16))) bit)) question;
      bears = inl (⊎_elim (λ (z : IsArmed s'.phase v.busy). (armed_part s'.phase v.busy z).1) (λ (z : (asked : Bool) × (ready : ℕ) × (s'.phase ≡ Use asked ready) × (is_answered_by (asked_by (f.fc % 16)) ≡ false)). ap may_initiate z.2) armed);
    }
      where
        g : Fields
        g = (brings_frame f).0

        is : brought_by octets ≡ Framed g
        is = arrival_spelled octets good ∙ ap telegram_arrival os ∙ (brings_frame f).1

        fc : g.fc ≡ f.fc
        fc = (brings_frame f).2

-- ---- the turn

-- a holder that speaks
pub record SpeaksAt (w : World) (k : ℕ) (t : Tap) (octets : List ℕ) (s' : Station) : Type 0 where
  pub may : MaySpeak w k t
  pub said : Spoken w.params w.now (view w.params t) s' octets

-- what a holder says keeps the ring undisturbed
pub speech_keeps : (w : World) (base : ℕ) (members : List ℕ) (u : Undisturbed w base members) (k : ℕ) (t : Tap) (octets : List ℕ) (s' : Station) (waited' : List Waited) → SpeaksAt w k t octets s' → Invariant (turned w k t s' (Some octets)) waited'
    → Ring (turned w k t s' (Some octets)) base members
speech_keeps w base members u k t octets s' waited' sp i' = record {
  call = call';
  is_call = subst (λ o. IsCall o call') (sym i'.keeps.inv.is_last) (is_last i'.keeps.inv.last refl i'.keeps.inv.last_in (holds'.order init));
  from = u.ring.from;
  ascends = u.ring.ascends;
  all = members_set p members w.taps k t s' at.here (λ _. facts.part) u.ring.all;
  bearer = ⊎_elim (λ (may : may_initiate s'.phase ≡ true). record { tap = k; t = t'; here = set_here w.taps k t t' at.here; running = at.running; part = facts.part; bears = inl may })
      (λ (z : (da : ℕ) × (offered_by (brought_by octets) ≡ Some da) × (is_member members da ≡ true) × (da ≡ t.spec.address → ⊥)). bearer_next z.0 z.1 z.2 z.3) facts.bears;
  taps = at_set (λ j y. y.running ≡ true → RingTap p base members taps' trace' call' j y) w.taps k t' (λ _. own) (λ j y ne here run. others j y ne (record { here = here; running = run }));
  entries = each_with (InRing p base w.now members trace' call') (Sent x) w.trace (λ _. new) (each_map (Known w base members u) (InRing p base w.now members trace' call') w.trace old (known w base members u));
  replies = each_with (IsPastReply p.ttd w.now call') (Sent x) w.trace (λ _ none. no_ (sym none ∙ init)) (each_map (Known w base members u) (IsPastReply p.ttd w.now call') w.trace past (known w base members u));
  awaited = each_with (IsAwaited p w.now taps' call') (Sent x) w.trace (λ none _. no_ (sym none ∙ init)) (each_map (Known w base members u) (IsAwaited p w.now taps' call') w.trace awaits (known w base members u));
  request = λ wants air y here run. let same : y ≡ t' = get_set_at w.taps k t' y here in subst (λ (z : Tap). IsArmed (view p z).phase (view p z).busy) (sym same) (facts.armed wants);
}
  where
    p : Params
    p = w.params

    v : Station
    v = view p t

    at : RunsAt w k t
    at = sp.may.at

    x : Record
    x = sending k octets w.now w.taps

    t' : Tap
    t' = record t { station = s'; marks = [] }

    taps' : List Tap
    taps' = slice_set w.taps k t'

    trace' : List Entry
    trace' = with_entry (Sent x) w.trace

    call' : Call
    call' = record { tap = k; octets = octets; begin = w.now; end = w.now + bits (length octets); answered = 0 }

    rt : RingTap p base members w.taps w.trace u.ring.call k t
    rt = ring_at w base members u k t at

    part : TakesPart v.phase
    part = initiates_part v.phase rt.undisturbed sp.may.may

    holds' : RecordHolds p w.now taps' trace' waited' i'.keeps.inv.last x
    holds' = each_in (EntryHolds p w.now taps' trace' waited' i'.keeps.inv.last) (Sent x) trace' i'.keeps.inv.entries (in_new (Sent x) w.trace)

    facts : SaidInRing members t.spec.address octets s'
    facts = said_in_ring p w.now members t.spec.address octets v s' (rt.member part) (view_address w base members u k t at) u.ring.ascends sp.may.still holds'.spelled sp.said

    init : is_initiator x ≡ true
    init = facts.init

    -- the call is the new telegram
    is_last : (o : Option Record) → i'.keeps.inv.last ≡ o → IfSome o (λ r. In (Sent r) trace') → ComesBefore p.ttd o x → IsCall o call'
    is_last None e inside order = absurd order
    is_last (Some r) e inside (inl same) =
        let is = one_sending trace' x r i'.keeps.inv.others (in_new (Sent x) w.trace) inside same.0 same.1 in
        (ap (λ (z : Record). z.tap) (sym is), ap (λ (z : Record). z.octets) (sym is), ap (λ (z : Record). z.begin) (sym is), ap (λ (z : Record). z.end) (sym is))
    is_last (Some r) e inside (inr before) =
        let begun = (each_in (EntryHolds p w.now taps' trace' waited' i'.keeps.inv.last) (Sent r) trace' i'.keeps.inv.entries inside).begun in
        let some = holds'.some in
        absurd (omega (arith, begun, some, before.0))

    own : RingTap p base members taps' trace' call' k t'
    own = record {
      undisturbed = part_undisturbed s'.phase facts.part;
      since = rt.since;
      active = λ master passive. absurd (subst TakesPart passive facts.part);
      master = λ _. rt.master part;
      member = λ _. subst (λ z. IsMember members t.spec.address z) (sym sp.said.las) (rt.member part);
      replies = subst (λ o. IfSome o (λ b. IsDue p base taps' trace' call' k t' b)) (sym (sp.said.reply ∙ none_due w base members u k t sp.may k t at)) tt;
      asked = λ from mine. facts.asked;
    }
      where
        part_undisturbed : (ph : Phase) → TakesPart ph → IsUndisturbed ph
        part_undisturbed (Idle refused) z = tt
        part_undisturbed (Use asked ready) z = tt
        part_undisturbed (AwaitData asked retry slot) z = tt
        part_undisturbed (AwaitStatus of slot) z = tt
        part_undisturbed (Checking tries) z = tt
        part_undisturbed Offline z = absurd z
        part_undisturbed PassiveIdle z = absurd z
        part_undisturbed (Listening doubled) z = absurd z
        part_undisturbed (Claim sent ready) z = absurd z
        part_undisturbed (Pass tries ready) z = absurd z

    others : (j : ℕ) (y : Tap) → (k ≡ j → ⊥) → RunsAt w j y → RingTap p base members taps' trace' call' j y
    others j y ne there = other_tap p base members w.taps taps' w.trace trace' u.ring.call call' j y (ring_at w base members u j y there) (none_due w base members u k t sp.may j y there) (λ from mine. absurd (ne mine))

    bearer_next : (da : ℕ) → offered_by (brought_by octets) ≡ Some da → is_member members da ≡ true → (da ≡ t.spec.address → ⊥) → Bearer p w.now taps' call'
    bearer_next da offers in_it other =
        let m = u.ring.all da in_it in
        let ne : k ≡ m.tap → ⊥ = λ e. other (sym m.address ∙ ap (λ (z : Tap). z.spec.address) (same_Some m.t t (sym m.here ∙ subst (λ i. slice_get w.taps i ≡ Some t) e at.here))) in
        record {
          tap = m.tap;
          t = m.t;
          here = get_set_other w.taps k m.tap t' ne ∙ m.here;
          running = m.running;
          part = m.part;
          bears = inr (offers ∙ ap (λ n. Some n) (sym m.address), (let some = holds'.some in omega (arith, some)), ne);
        }

    new : OnItsWay p base w.now members trace' call' x
    new = record {
      since = u.ring.from;
      undamaged = refl;
      full = refl;
      passes = facts.passes;
      origin = λ _ _. origin_lives (place p w.now k t) w.trace [] x refl refl (each_map (OwnPast k w.now) (OwnOver k w.now) w.trace own_over past_own) (lives p w.now w.trace u.invariant.keeps.inv.last k t t.marks u.invariant.keeps.fits o (inl (initiates_live v.phase sp.may.may)));
      single = λ _. (refl, refl);
      answers = λ none. no_ (sym none ∙ init);
    }
      where
        o : TapHolds p w.now w.trace u.invariant.keeps.inv.last k t
        o = holds_at w base members u k t at

        knows : Knows (place p w.now k t) w.trace v.busy v.quiet v.own
        knows = knows_on (place p w.now k t) w.trace v.phase v.busy v.quiet v.own (live_on v.phase (initiates_live v.phase sp.may.may)) o.knows

        own_over : (e : Entry) → OwnPast k w.now e → OwnOver k w.now e
        own_over (Noise span) h = tt
        own_over (Sent r) h = λ mine. (h mine).0

        past_own : Each (OwnPast k w.now) w.trace
        past_own = own_past p w.now k v.own w.taps w.trace u.waited u.invariant.keeps.inv.last knows.order (let e = knows.ended in let q = sp.may.past in omega (arith, e, q)) w.trace knows.owns u.invariant.keeps.inv.entries

    old : (e : Entry) → Known w base members u e → InRing p base w.now members trace' call' e
    old (Noise span) h = h.ring
    old (Sent y) h = λ air. let q = h.ring air in record {
      since = q.since;
      undamaged = q.undamaged;
      full = q.full;
      passes = q.passes;
      origin = λ ini late. origin_with p (Sent x) w.trace y (q.origin ini late);
      single = λ wants. absurd (none_wanted w base members u k t sp.may y h air wants);
      answers = λ none. absurd (let over = replies_over w base members u k t sp.may y h none in omega (arith, over, air));
    }

    past : (e : Entry) → Known w base members u e → IsPastReply p.ttd w.now call' e
    past (Noise span) h = tt
    past (Sent y) h = λ _ none. replies_over w base members u k t sp.may y h none

    awaits : (e : Entry) → Known w base members u e → IsAwaited p w.now taps' call' e
    awaits (Noise span) h = tt
    awaits (Sent y) h = λ none late. absurd (let over = replies_over w base members u k t sp.may y h none in let some = h.holds.some in omega (arith, over, some, late))

-- its call is what was said
pub speech_keeps_call : (w : World) (base : ℕ) (members : List ℕ) (u : Undisturbed w base members) (k : ℕ) (t : Tap) (octets : List ℕ) (s' : Station) (waited' : List Waited) (sp : SpeaksAt w k t octets s') (i' : Invariant (turned w k t s' (Some octets)) waited')
    → (speech_keeps w base members u k t octets s' waited' sp i').call ≡ record { tap = k; octets = octets; begin = w.now; end = w.now + bits (length octets); answered = 0 }
unfolding speech_keeps
speech_keeps_call w base members u k t octets s' waited' sp i' = refl
