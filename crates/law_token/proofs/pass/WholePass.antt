-- Time passes: the whole law of this kind of event.
use Rattle.std.proofs.Common.{◌≡◌, ℕ, zero, suc, ◌+◌, ◌<◌, ◌≤◌, ◌⊎◌, inl, inr, ⊎_elim, Bool, true, false, if◌then◌else◌, ◌==◌, List, [], ◌∷◌, ◌++◌, map, refl, sym, ap, ◌∙◌, subst, arith, Option, Some, None}
use Rattle.std.specs.Prelude.{slice_get, find, IfSome}
use Rattle.std.specs.List.{list_any}
use Rattle.std.specs.Option.{option_map}
use Rattle.std.proofs.lemmas.Option.{none-some, same_Some}
use Rattle.pb_timers.specs.Timers.{Params}
use Rattle.law_turn.specs.Arrivals.{Token, NoTelegram, arrival_of}
use Rattle.law_turn.specs.Turns.{after_marks}
use Rattle.law_turn.proofs.Addresses as addresses
use Rattle.law_model.specs.Trace.{Record, Entry, Sent, Noise, entry_begin}
use Rattle.law_model.specs.Medium.{Tap, reaches, fills_burst_to, burst_characters, entry_characters, ends_between, entry_at, marks_between, sensed}
use Rattle.law_model.specs.World.{World, Pass, Reply, later_end, entry_next_end, next_end_of}
use Rattle.law_model.specs.Step.{is_past, told, pass_faults}
use Rattle.law_model.proofs.Cases.{by_test}
use Rattle.law_model.proofs.Worlds.{unless-Ok}
use Rattle.law_model.proofs.WholeTelegrams.{fills_alone}
use Rattle.law_runs.specs.Initiators.{initiates, is_initiator, offered_to}
use Rattle.law_runs.specs.Legality.{is_whole, address_at, first_illegal}
use Rattle.law_runs.specs.Premises.{Waited, has_namesakes, waited_by, first_number, two_have_waited, loses, comes_late, is_late}
use Rattle.law_runs.specs.Headline.{specs_of}
use Rattle.law_token.specs.Lists.{Each, In}
use Rattle.law_token.specs.Places.{LeavesTime}
use Rattle.law_token.specs.Views.{TapHolds, view, place}
use Rattle.law_token.specs.Entries.{RecordHolds, EntryHolds, SpeakerHolds, SpeaksOk, IsFresh, ComesBefore}
use Rattle.law_token.specs.Invariant.{InvariantHolds, Keeps}
use Rattle.law_token.proofs.bus.Lists.{each_inside, each_in, each_map, each_both, each_mapped}
use Rattle.law_model.proofs.Window.{EachSpan, Solid}
use Rattle.law_token.proofs.pass.Taps.{knows_on, append_marks}
use Rattle.law_token.proofs.pass.Brings.{HasLength, solid_sensed, is_past-earlier, later_end-bound, sent_same, relabel, relabelled, filling, Telling, Tells}
use Rattle.law_token.proofs.pass.AllTaps.{phase_then, pass_taps, told_at}
use Rattle.law_token.proofs.pass.Spelled.{is_spelled, token_addresses}
use Rattle.law_token.proofs.pass.PassedRecords.{specs_told, entry_is, entry_pass, own_pass, in_pass, others_pass}
use Rattle.law_token.proofs.pass.PassedLegal.{last_pass, still_legal_pass}
use Rattle.law_token.proofs.pass.Namesakes.{ComesFrom, fresh_then, fresh_after}
use Rattle.law_token.specs.Invariant.{KeepsInvariant}
use Rattle.law_token.proofs.whole.Keeping.{Kept}
use Rattle.law_token.proofs.whole.Joined.{whole}

-- a pass ends by the end of a telegram that is in the air
passes_none : (delay now to : ℕ) (es : List Entry) (r : Record) → is_past (next_end_of delay now es) to ≡ false → In (Sent r) es → now < r.end + delay → to ≤ r.end + delay
passes_none delay now to [] r past i air = absurd i
passes_none delay now to (Noise span ∷ es) r past (inl e) air = absurd (let w : Noise span ≡ Sent r = e in cc)
passes_none delay now to (Noise span ∷ es) r past (inr i) air = passes_none delay now to es r (is_past-earlier (later_end now span.end) (next_end_of delay now es) to past).1 i air
passes_none delay now to (Sent x ∷ es) r past (inl e) air =
    let same = sent_same x r e in
    let ends = (is_past-earlier (entry_next_end delay now (Sent x)) (next_end_of delay now es) to past).0 in
    let own = (is_past-earlier (later_end now x.end) (later_end now (reaches delay x).end) to ends).1 in
    subst (λ (z : Record). now < z.end + delay → to ≤ z.end + delay) same (later_end-bound now (x.end + delay) to own) air
passes_none delay now to (Sent x ∷ es) r past (inr i) air = passes_none delay now to es r (is_past-earlier (entry_next_end delay now (Sent x)) (next_end_of delay now es) to past).1 i air

-- ---- what a telegram that ends tells a tap

-- a tap of a position
record Stands (taps : List Tap) (i : ℕ) : Type 0 where
  u : Tap
  here : slice_get taps i ≡ Some u
  address : address_at (map (λ t. t.spec) taps) i ≡ u.spec.address

stands : (taps : List Tap) (i : ℕ) → address_at (map (λ t. t.spec) taps) i ≤ 126 → Stands taps i
stands [] i le = absurd (omega (arith, le))
stands (t ∷ ts) zero le = record { u = t; here = refl; address = refl }
stands (t ∷ ts) (suc i) le = let s = stands ts i le in record { u = s.u; here = s.here; address = s.address }

telling : (p : Params) (now to : ℕ) (taps : List Tap) (trace : List Entry) (waited : List Waited) (last : Option Record) (k : ℕ) (t : Tap) (r : Record) → LeavesTime p → now < to → EachSpan (Solid now to) (sensed p.ttd k t.since trace)
    → is_past (next_end_of p.ttd now trace) to ≡ false → slice_get taps k ≡ Some t → t.running ≡ true → TapHolds p now trace last k t → In (Sent r) trace → RecordHolds p now taps trace waited last r → SpeakerHolds p now taps r
    → Telling p now trace last k t (phase_then p now to trace k t) r
telling p now to taps trace waited last k t r fits lt solid past at running ok inside o sp = record {
  some = o.some;
  order = o.order;
  pending = o.pending k t at;
  spelled = is_spelled p.ttd k t trace r running o.spelled;
  namesake = λ da sa e me fills air same.
      let source = o.source da sa e in
      let s = stands taps r.tap (omega (arith, source, (token_addresses r da sa o.spelled e).1)) in
      let other = (fills_alone p.ttd k t trace r fills).another in
      let equal : t.spec.address ≡ s.u.spec.address = sym me ∙ sym same ∙ source ∙ s.address in
      fresh_then (place p now k t) to trace r (view p t) t fits lt solid (λ on. knows_on (place p now k t) trace (view p t).phase (view p t).busy (view p t).quiet (view p t).own on ok.knows)
      inside other (o.reaches_all k) ok.began air (passes_none p.ttd now to trace r past inside air) (o.older k t s.u at running s.here other equal).0
      (sp.fresh (ap initiates e) air k t s.u at running s.here other equal);
}

-- ---- speakers with equal addresses

-- what reaches a tap after the last initiator telegram has begun is by that one's speaker
by_last : (delay to : ℕ) (last : Option Record) (x : Record) → IfSome last (λ l. l.begin < to) → ComesBefore delay last x → to ≤ x.end + delay → IfSome last (λ l. x.tap ≡ l.tap)
by_last delay to None x begun order late = tt
by_last delay to (Some l) x begun order late =
    ⊎_elim (λ (same : (x.tap ≡ l.tap) × (x.begin ≡ l.begin)). same.0)
    (λ (before : (x.end ≤ l.begin) × ((x.end + delay ≤ l.begin) ⊎ ((x.tap ≡ l.tap) × (offered_to x ≡ None)))).
    ⊎_elim (λ (a : x.end + delay ≤ l.begin). absurd (omega (arith, a, begun, late))) (λ (b : (x.tap ≡ l.tap) × (offered_to x ≡ None)). b.0) before.1) order

one_speaker : (delay : ℕ) (last : Option Record) (x y : Record) → ComesBefore delay last x → IfSome last (λ l. x.tap ≡ l.tap) → IfSome last (λ l. y.tap ≡ l.tap) → y.tap ≡ x.tap
one_speaker delay None x y order a b = absurd order
one_speaker delay (Some l) x y order a b = b ∙ sym a

begun_before : (now to : ℕ) (last : Option Record) (trace : List Entry) → now < to → IfSome last (λ l. In (Sent l) trace × (l.begin ≤ now)) → IfSome last (λ l. l.begin < to)
begun_before now to None trace lt h = tt
begun_before now to (Some l) trace lt h = omega (arith, h.1)

-- while an initiator telegram is in the air, a token that ends now at another tap is by the same speaker
from_speaker : (p : Params) (now to : ℕ) (taps : List Tap) (trace : List Entry) (waited : List Waited) (last : Option Record) (k : ℕ) (t : Tap) (x : Record) → now < to → t.running ≡ true
    → IfSome last (λ l. In (Sent l) trace × (l.begin ≤ now)) → Each (EntryHolds p now taps trace waited last) trace → ComesBefore p.ttd last x → to < x.end + p.ttd
    → ComesFrom (address_at (map (λ t. t.spec) taps) x.tap) (arrival_of (burst_characters p.ttd k t trace to))
from_speaker p now to taps trace waited last k t x lt running before entries order air = by (find (fills_burst_to p.ttd k t trace to) trace) refl
  where
    by : (o : Option Entry) → find (fills_burst_to p.ttd k t trace to) trace ≡ o → ComesFrom (address_at (map (λ t. t.spec) taps) x.tap) (arrival_of (entry_characters k o))
    by None f da sa e = absurd (let w : NoTelegram ≡ Token da sa = e in cc)
    by (Some (Noise span)) f da sa e = absurd (let w : NoTelegram ≡ Token da sa = e in cc)
    by (Some (Sent r)) f da sa e =
        let fl = filling p.ttd k t trace to r f in
        let o = each_in (EntryHolds p now taps trace waited last) (Sent r) trace entries fl.inside in
        let token = (is_spelled p.ttd k t trace r running o.spelled).same da sa e in
        let begun = begun_before now to last trace lt before in
        let same = one_speaker p.ttd last x r order (by_last p.ttd to last x begun order (omega (arith, air))) (by_last p.ttd to last r begun (o.order (ap initiates token)) (omega (arith, fl.ends))) in
        o.source da sa token ∙ ap (address_at (map (λ t. t.spec) taps)) same

address_of : (taps : List Tap) (i : ℕ) (u : Tap) → slice_get taps i ≡ Some u → address_at (map (λ t. t.spec) taps) i ≡ u.spec.address
address_of [] i u at = absurd (none-some u at)
address_of (t ∷ ts) zero u at = ap (λ (z : Tap). z.spec.address) (same_Some t u at)
address_of (t ∷ ts) (suc i) u at = address_of ts i u at

speaker_pass : (p : Params) (now to : ℕ) (taps : List Tap) (trace : List Entry) (waited : List Waited) (last : Option Record) (x : Record) → LeavesTime p → now < to → ((k since : ℕ) → EachSpan (Solid now to) (sensed p.ttd k since trace))
    → is_past (next_end_of p.ttd now trace) to ≡ false → ((k : ℕ) (t : Tap) → slice_get taps k ≡ Some t → t.running ≡ true → TapHolds p now trace last k t) → IfSome last (λ l. In (Sent l) trace × (l.begin ≤ now)) → Each (EntryHolds p now taps trace waited last) trace → In (Sent x) trace → RecordHolds p now taps trace waited last x → SpeakerHolds p now taps x
    → SpeakerHolds p to (told p.ttd trace now to 0 taps) (relabel p.ttd taps trace now to x)
speaker_pass p now to taps trace waited last x fits lt solid past oks before entries inside o sp =
    by_test (λ z. is_whole (slice_get z.heard z.tap) ≡ false → SpeakerHolds p to (told p.ttd trace now to 0 taps) z) (ends_between now to (reaches p.ttd x)) (relabelled p.ttd taps trace x) x
    (λ _ own. record { own = own; fresh = fresh }) (λ _ own. record { own = own; fresh = fresh }) (own_pass p now to taps trace x sp.own)
  where
    fresh : is_initiator x ≡ true → to < x.end + p.ttd → (k : ℕ) (t u : Tap) → slice_get (told p.ttd trace now to 0 taps) k ≡ Some t → t.running ≡ true → slice_get (told p.ttd trace now to 0 taps) x.tap ≡ Some u
        → (x.tap ≡ k → ⊥) → t.spec.address ≡ u.spec.address → IsFresh (view p t)
    fresh init air k t u ht run hu ne same =
        let a = told_at p.ttd trace now to 0 k taps k t (omega arith) ht in
        let b = told_at p.ttd trace now to 0 x.tap taps x.tap u (omega arith) hu in
        let runs : a.t.running ≡ true = sym (ap (λ (z : Tap). z.running) a.is) ∙ run in
        let equal : a.t.spec.address ≡ b.t.spec.address = sym (ap (λ (z : Tap). z.spec.address) a.is) ∙ same ∙ ap (λ (z : Tap). z.spec.address) b.is in
        let ok = oks k a.t a.here runs in
        let old = sp.fresh init (omega arith) k a.t b.t a.here runs b.here ne equal in
        let address : address_at (map (λ t. t.spec) taps) x.tap ≡ (view p a.t).address = address_of taps x.tap b.t b.here ∙ sym equal ∙ sym ok.address ∙ sym (addresses.marks p a.t.station a.t.marks) in
        let from = subst (λ n. ComesFrom n (arrival_of (burst_characters p.ttd k a.t trace to))) address (from_speaker p now to taps trace waited last k a.t x lt runs before entries (o.order init) air) in
        let then_ = fresh_after (place p now k a.t) to trace x (view p a.t) a.t refl fits lt (solid k a.t.since)
        (λ on. knows_on (place p now k a.t) trace (view p a.t).phase (view p a.t).busy (view p a.t).quiet (view p a.t).own on ok.knows)
        inside ne (o.reaches_all k) ok.began (omega arith) (omega arith) (o.older k a.t b.t a.here runs b.here ne equal).0 from old in
        subst (λ (z : Tap). IsFresh (view p z)) (sym a.is)
        (subst (λ ms. IsFresh (after_marks p a.t.station (a.t.marks ++ ms))) (sym (ap (λ b. if b then marks_between p.ttd k a.t trace now to else []) runs))
        (subst IsFresh (sym (append_marks p a.t.station a.t.marks (marks_between p.ttd k a.t trace now to))) then_))

-- ---- the law

none_breaks : (a b c d : Bool) → first_number a b c d ≡ None → (a ≡ false) × (c ≡ false)
none_breaks true b c d e = absurd cc
none_breaks false true c d e = absurd cc
none_breaks false false true d e = absurd cc
none_breaks false false false d e = (refl, refl)

pub some_bits : (n : ℕ) → (n == 0) ≡ false → 0 < n
some_bits zero e = absurd (let w : true ≡ false = e in cc)
some_bits (suc n) e = omega arith

last_inside : (last : Option Record) (p : Params) (now : ℕ) (taps : List Tap) (trace : List Entry) (waited : List Waited) (l : Option Record) → IfSome last (λ r. In (Sent r) trace) → Each (EntryHolds p now taps trace waited l) trace → IfSome last (λ r. In (Sent r) trace × (r.begin ≤ now))
last_inside None p now taps trace waited l i all = tt
last_inside (Some r) p now taps trace waited l i all = (i, (each_in (EntryHolds p now taps trace waited l) (Sent r) trace all i).begun)

last_in_pass : (delay : ℕ) (taps : List Tap) (trace : List Entry) (now to : ℕ) (last : Option Record) → IfSome last (λ r. In (Sent r) trace) → IfSome (option_map (relabel delay taps trace now to) last) (λ r. In (Sent r) (map (entry_at delay taps trace now to) trace))
last_in_pass delay taps trace now to None i = tt
last_in_pass delay taps trace now to (Some r) i = in_pass delay taps trace now to r trace i

begun_of : (p : Params) (now : ℕ) (taps : List Tap) (trace : List Entry) (waited : List Waited) (last : Option Record) (e : Entry) → EntryHolds p now taps trace waited last e → entry_begin e ≤ now
begun_of p now taps trace waited last (Noise span) o = o.0
begun_of p now taps trace waited last (Sent x) o = o.begun

length_of : (p : Params) (now : ℕ) (taps : List Tap) (trace : List Entry) (waited : List Waited) (last : Option Record) (e : Entry) → EntryHolds p now taps trace waited last e → HasLength e
length_of p now taps trace waited last (Noise span) o = o.1
length_of p now taps trace waited last (Sent x) o = o.some

abbrev Both : Params → ℕ → List Tap → List Entry → List Waited → Option Record → Entry → Type 0
Both p now taps trace waited last e = EntryHolds p now taps trace waited last e × SpeaksOk p now taps e

-- what stands after a pass
pub inv_pass : (p : Params) (now to limit : ℕ) (trace : List Entry) (taps : List Tap) (new waited : List Waited) → LeavesTime p → now < to → is_past (next_end_of p.ttd now trace) to ≡ false → list_any (is_late p to) taps ≡ false
    → has_namesakes (told p.ttd trace now to 0 taps) ≡ false → InvariantHolds (record { params = p; now = now; trace = trace; taps = taps; limit = limit }) waited
    → InvariantHolds (record { params = p; now = to; trace = map (entry_at p.ttd taps trace now to) trace; taps = told p.ttd trace now to 0 taps; limit = limit }) (new ++ waited)
inv_pass p now to limit trace taps new waited fits lt past late distinct v =
    record {
      last = last';
      is_last = last_pass p.ttd taps trace now to None trace (omega arith) (each_map (EntryHolds p now taps trace waited v.last) (λ e. entry_begin e ≤ now) trace (begun_of p now taps trace waited v.last) v.entries) ∙ ap (option_map (relabel p.ttd taps trace now to)) v.is_last;
      last_in = last_in_pass p.ttd taps trace now to v.last v.last_in;
      entries = each_mapped (EntryHolds p to taps' trace' (new ++ waited) last') (entry_at p.ttd taps trace now to) trace
          (each_both (EntryHolds p now taps trace waited v.last) (SpeaksOk p now taps) (λ e. EntryHolds p to taps' trace' (new ++ waited) last' (entry_at p.ttd taps trace now to e)) trace
          (λ e o sp. entry_pass p now to taps trace new waited v.last e lt v.distinct o sp) v.entries v.speakers);
      others = others_pass p.ttd taps trace now to trace v.others;
      speakers = each_mapped (SpeaksOk p to taps') (entry_at p.ttd taps trace now to) trace (each_inside (Both p now taps trace waited v.last) (λ e. SpeaksOk p to taps' (entry_at p.ttd taps trace now to e)) trace speaks both);
      distinct = distinct;
      taps = pass_taps (λ p t. addresses.marks p t.station t.marks) p now to trace taps v.last fits lt some v.others past late (last_inside v.last p now taps trace waited v.last v.last_in v.entries)
          (λ k t at run. (v.taps k t at run, each_inside (Both p now taps trace waited v.last) (Tells p now trace v.last k t (phase_then p now to trace k t)) trace (tells k t at run) both));
    }
  where
    trace' : List Entry
    trace' = map (entry_at p.ttd taps trace now to) trace

    taps' : List Tap
    taps' = told p.ttd trace now to 0 taps

    last' : Option Record
    last' = option_map (relabel p.ttd taps trace now to) v.last

    some : Each HasLength trace
    some = each_map (EntryHolds p now taps trace waited v.last) HasLength trace (length_of p now taps trace waited v.last) v.entries

    both : Each (Both p now taps trace waited v.last) trace
    both = each_both (EntryHolds p now taps trace waited v.last) (SpeaksOk p now taps) (Both p now taps trace waited v.last) trace (λ e o sp. (o, sp)) v.entries v.speakers

    tells : (k : ℕ) (t : Tap) → slice_get taps k ≡ Some t → t.running ≡ true → (e : Entry) → In e trace → Both p now taps trace waited v.last e → Tells p now trace v.last k t (phase_then p now to trace k t) e
    tells k t at run (Noise span) i b = tt
    tells k t at run (Sent r) i b = telling p now to taps trace waited v.last k t r fits lt (solid_sensed p.ttd k t.since now to trace some past) past at run (v.taps k t at run) i b.0 b.1

    speaks : (e : Entry) → In e trace → Both p now taps trace waited v.last e → SpeaksOk p to taps' (entry_at p.ttd taps trace now to e)
    speaks (Noise span) i b = tt
    speaks (Sent x) i b = subst (SpeaksOk p to taps') (sym (entry_is p.ttd taps trace now to x))
        (speaker_pass p now to taps trace waited v.last x fits lt (λ k since. solid_sensed p.ttd k since now to trace some past) past v.taps (last_inside v.last p now taps trace waited v.last v.last_in v.entries) v.entries i b.0 b.1)

-- a pass keeps it
pub pass_keeps : (w : World) (bits : ℕ) → Kept w (Pass bits)
pass_keeps w bits waited next reply ok event kept set k =
    let to = w.now + bits in
    let taps' = told w.params.ttd w.trace w.now to 0 w.taps in
    let made : World = record w { now = to; taps = taps'; trace = map (entry_at w.params.ttd w.taps w.trace w.now to) w.trace } in
    let both = unless-Ok (pass_faults w bits taps') (made, record { now = to; spoke = None }) (next, reply) ok in
    let same : made ≡ next = ap (λ (z : World × Reply). z.0) both.1 in
    let new = waited_by next 0 next.taps in
    let premises = none_breaks (has_namesakes next.taps) (loses (Pass bits)) (comes_late w (Pass bits)) (two_have_waited next.params.ttd new (new ++ waited)) kept in
    let some : w.now < to = omega (arith, some_bits bits both.0.0) in
    subst (λ z. Keeps z (new ++ waited)) same (record {
      fits = k.fits;
      inv = inv_pass w.params w.now to w.limit w.trace w.taps new waited k.fits some both.0.1.0 premises.1 (subst (λ (z : World). has_namesakes z.taps ≡ false) (sym same) premises.0) k.inv;
      legal = subst (λ l. first_illegal w.params l (map (entry_at w.params.ttd w.taps w.trace w.now to) w.trace) ≡ None) (sym (specs_told w.params.ttd w.trace w.now to 0 w.taps))
          (still_legal_pass w.params (specs_of w) w.taps w.now to w.trace k.legal);
    })

pub pass_invariant : (w : World) (bits : ℕ) → KeepsInvariant w (Pass bits)
pass_invariant w bits = whole w (Pass bits) (pass_keeps w bits)
