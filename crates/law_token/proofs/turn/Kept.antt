-- A turn keeps the invariant, and the trace legal.
use Rattle.std.proofs.Common.{◌≡◌, ℕ, ◌+◌, ◌<◌, ◌≤◌, inl, inr, ⊎_elim, true, false, ◌==◌, ◌&&◌, List, [], ◌++◌, length, map, refl, sym, ap, ◌∙◌, subst, arith, Option, Some, None}
use Rattle.std.specs.Prelude.{slice_get, slice_set, nat_le, IfSome}
use Rattle.std.specs.List.{list_any}
use Rattle.pb_telegram.specs.Faults.{fault_of}
use Rattle.pb_telegram.specs.declared.chars.RxChar.TheVariants.{Good}
use Rattle.pb_timers.specs.Timers.{Params}
use Rattle.law_turn.specs.Stations.{Station}
use Rattle.law_turn.specs.Turns.{turn_of}
use Rattle.law_model.specs.Trace.{Record, Entry, Sent, Noise, with_entry}
use Rattle.law_model.specs.Medium.{Tap}
use Rattle.law_model.specs.World.{World}
use Rattle.law_model.specs.Step.{sending, with_said}
use Rattle.law_runs.specs.Initiators.{is_initiator, last_initiator}
use Rattle.law_runs.specs.Legality.{is_legal_after, first_illegal}
use Rattle.law_runs.specs.Premises.{Waited, has_namesakes}
use Rattle.law_runs.specs.Headline.{specs_of}
use Rattle.law_token.specs.Lists.{Each, In}
use Rattle.law_token.specs.Views.{place, TapHolds}
use Rattle.law_token.specs.Entries.{Origin, EndedBefore, EntryHolds, SpeaksOk}
use Rattle.law_token.specs.Invariant.{Keeps}
use Rattle.law_token.proofs.bus.Lists.{each_in, each_map, each_both, each_with, at_set}
use Rattle.law_token.proofs.bus.Pairs.{Speaks}
use Rattle.law_token.proofs.bus.Hearers.{new_sent, stays}
use Rattle.law_token.proofs.turn.Initiator.{yields_to}
use Rattle.law_token.proofs.bus.Claims.{one_address}
use Rattle.law_token.proofs.air.NewNoise.{any_more, origin_more}
use Rattle.law_token.proofs.bus.Legal.{same_legal, still_legal, same_silence, with_legal}
use Rattle.law_token.proofs.bus.Speakers.{speakers_turn}
use Rattle.law_token.proofs.turn.Meaning.{Means, no_token}
use Rattle.law_token.proofs.turn.Warrants.{Warrant, legal_said}
use Rattle.law_token.proofs.turn.Trace.{ByBegin, InitBefore, Apart, behind, last_with, last_reply, legal_reply, in_new, in_old, others_with, was_tap, specs_set, unheard_new}
use Rattle.law_token.proofs.turn.Records.{origins_each, begun_each, OwnPast, last_initiates, PastInit, past_each, OrderOk, order_past, order_same, before_past, SameTaps, entries_turned, address_there, record_new}

-- the world after a turn
abbrev pub turned : World → ℕ → Tap → Station → Option (List ℕ) → World
turned w k t s' o = record w { trace = with_said k o w.now w.taps w.trace; taps = slice_set w.taps k (record t { station = s'; marks = [] }) }

-- where a record comes from outlasts new waits
origin_waits : (p : Params) (trace : List Entry) (new old : List Waited) (x : Record) → Origin p trace old x → Origin p trace (new ++ old) x
origin_waits p trace new old x o =
    ⊎_elim (λ (w : list_any (λ w. (w.tap == x.tap) && nat_le x.begin w.moment) old ≡ true). inl (any_more (λ w. (w.tap == x.tap) && nat_le x.begin w.moment) new old w))
    (λ (f : (q : ℕ) → Each (EndedBefore p.ttd x.tap x.begin q) trace → x.begin ≤ q + (p.tsl + p.lag)). inr f) o

same_taps : (ts : List Tap) (k : ℕ) (t : Tap) (s' : Station) → slice_get ts k ≡ Some t → SameTaps ts (slice_set ts k (record t { station = s'; marks = [] }))
same_taps ts k t s' here = (was_tap ts k t s' here, specs_set ts k t s' here)

in_moved : (x : Entry) (es : List Entry) (last : Option Record) → IfSome last (λ r. In (Sent r) es) → IfSome last (λ r. In (Sent r) (with_entry x es))
in_moved x es None i = tt
in_moved x es (Some r) i = in_old (Sent r) x es i

-- ---- a turn that says nothing

pub rest_keeps : (w : World) (waited new : List Waited) (k : ℕ) (t : Tap) (s' : Station) → (kept : Keeps w waited) → slice_get w.taps k ≡ Some t → t.running ≡ true → s' ≡ (turn_of w.params t.station t.marks w.now).0 → (TapHolds w.params w.now w.trace kept.inv.last k (record t { station = s'; marks = [] }))
    → has_namesakes (turned w k t s' None).taps ≡ false → Keeps (turned w k t s' None) (new ++ waited)
rest_keeps w waited new k t s' kept here running is ok distinct =
    let inv = kept.inv in
    let taps' = slice_set w.taps k (record t { station = s'; marks = [] }) in
    record {
      fits = kept.fits;
      inv = record {
        last = inv.last;
        is_last = inv.is_last;
        last_in = inv.last_in;
        entries = entries_turned w.params w.now w.taps taps' w.trace w.trace waited (new ++ waited) inv.last inv.last (same_taps w.taps k t s' here) (λ x o. origin_waits w.params w.trace new waited x o) w.trace
            (each_map (EntryHolds w.params w.now w.taps w.trace waited inv.last) (OrderOk w.params.ttd inv.last) w.trace (order_same w.params w.now w.taps w.trace waited inv.last) inv.entries) inv.entries;
        others = inv.others;
        speakers = subst (λ (z : Station). Each (SpeaksOk w.params w.now (slice_set w.taps k (record t { station = z; marks = [] }))) w.trace) (sym is) (speakers_turn w.params w.now w.trace waited inv.last w.taps k t None kept.fits here running inv.distinct (inv.taps k t here running) inv.entries inv.speakers);
        distinct = distinct;
        taps = at_set (λ j u. u.running ≡ true → TapHolds w.params w.now w.trace inv.last j u) w.taps k (record t { station = s'; marks = [] }) (λ _. ok) (λ j u ne at run. inv.taps j u at run);
      };
      legal = ap (λ specs. first_illegal w.params specs w.trace) (specs_set w.taps k t s' here) ∙ kept.legal;
    }

-- ---- a turn that says a reply

apart_past : (x : Record) (k now : ℕ) → x.tap ≡ k → x.begin ≡ now → (e : Entry) → OwnPast k now e → Apart x e
apart_past x k now mine new (Noise span) h = tt
apart_past x k now mine new (Sent r) h = λ t b. let a = (h (t ∙ mine)).0 in omega (arith, a, b, new)

pub reply_keeps : (w : World) (waited new : List Waited) (k : ℕ) (t : Tap) (s' : Station) (octets : List ℕ) → (kept : Keeps w waited) → slice_get w.taps k ≡ Some t → t.running ≡ true → s' ≡ (turn_of w.params t.station t.marks w.now).0
    → TapHolds w.params w.now (with_entry (Sent (sending k octets w.now w.taps)) w.trace) kept.inv.last k (record t { station = s'; marks = [] })
    → has_namesakes (turned w k t s' (Some octets)).taps ≡ false → 0 < length octets → fault_of (map Good octets) ≡ None → is_initiator (sending k octets w.now w.taps) ≡ false
    → Each (OwnPast k w.now) w.trace → Keeps (turned w k t s' (Some octets)) (new ++ waited)
reply_keeps w waited new k t s' octets kept here running is ok distinct some good none own =
    let inv = kept.inv in
    let p = w.params in
    let x = sending k octets w.now w.taps in
    let trace' = with_entry (Sent x) w.trace in
    let y = record t { station = s'; marks = [] } in
    let taps' = slice_set w.taps k y in
    let same = same_taps w.taps k t s' here in
    let no_init : is_initiator x ≡ true → ⊥ = λ e. (let z : false ≡ true = sym none ∙ e in cc) in
    record {
      fits = kept.fits;
      inv = record {
        last = inv.last;
        is_last = last_reply x w.now None w.trace none ∙ inv.is_last;
        last_in = in_moved (Sent x) w.trace inv.last inv.last_in;
        entries = each_with (EntryHolds p w.now taps' trace' (new ++ waited) inv.last) (Sent x) w.trace
            (record_new p w.now k t octets w.taps taps' trace' (new ++ waited) inv.last here running same inv.distinct some good (λ e. absurd (no_init e)) (λ da sa e. absurd (no_token x da sa none e)) (λ e. absurd (no_init e)))
            (entries_turned p w.now w.taps taps' w.trace trace' waited (new ++ waited) inv.last inv.last same (λ z o. origin_more p (Sent x) w.trace new waited z o) w.trace
            (each_map (EntryHolds p w.now w.taps w.trace waited inv.last) (OrderOk p.ttd inv.last) w.trace (order_same p w.now w.taps w.trace waited inv.last) inv.entries) inv.entries);
        others = others_with x w.trace (each_map (OwnPast k w.now) (Apart x) w.trace (apart_past x k w.now refl refl) own) inv.others;
        speakers = subst (λ (z : Station). Each (SpeaksOk w.params w.now (slice_set w.taps k (record t { station = z; marks = [] }))) trace') (sym is) (speakers_turn w.params w.now w.trace waited inv.last w.taps k t (Some octets) kept.fits here running inv.distinct (inv.taps k t here running) inv.entries inv.speakers);
        distinct = distinct;
        taps = at_set (λ j u. u.running ≡ true → TapHolds p w.now trace' inv.last j u) w.taps k y (λ _. ok)
            (λ j u ne at run. stays p w.now w.trace (Sent x) inv.last j u (new_sent (place p w.now j u) x (omega arith)) (λ own' e. absurd (ne e)) (inv.taps j u at run));
      };
      legal = ap (λ specs. first_illegal p specs trace') (specs_set w.taps k t s' here)
          ∙ legal_reply p (specs_of w) trace' x None 0 w.trace none
          (still_legal p (specs_of w) w.now trace' w.trace None 0 w.trace (begun_each p w.now w.taps w.trace waited inv.last w.trace inv.entries) (same_silence p w.now x w.trace (omega arith)) ∙ kept.legal);
    }

-- ---- a turn that says an initiator telegram

last_over : (delay now k : ℕ) (trace : List Entry) (last : Option Record) → IfSome last (λ r. In (Sent r) trace) → IfSome last (λ r. is_initiator r ≡ true) → Each (PastInit delay now k) trace → IfSome last (λ r. r.end ≤ now)
last_over delay now k trace None i init past = tt
last_over delay now k trace (Some r) i init past = (each_in (PastInit delay now k) (Sent r) trace past i init).0

pub said_keeps : (w : World) (waited new : List Waited) (k : ℕ) (t : Tap) (s' : Station) (octets : List ℕ) (offered : Option ℕ) → (kept : Keeps w waited) → slice_get w.taps k ≡ Some t → t.running ≡ true → s' ≡ (turn_of w.params t.station t.marks w.now).0 → ByBegin w.trace
    → TapHolds w.params w.now (with_entry (Sent (sending k octets w.now w.taps)) w.trace) (Some (sending k octets w.now w.taps)) k (record t { station = s'; marks = [] })
    → has_namesakes (turned w k t s' (Some octets)).taps ≡ false → 0 < length octets → fault_of (map Good octets) ≡ None
    → Means t.spec.address offered (sending k octets w.now w.taps) → Each (OwnPast k w.now) w.trace → Warrant w.params w.now k t.spec.address t.since t.spec.master w.trace kept.inv.last octets
    → Speaks (place w.params w.now k t) w.trace waited kept.inv.last → Origin w.params (with_entry (Sent (sending k octets w.now w.taps)) w.trace) (new ++ waited) (sending k octets w.now w.taps)
    → Keeps (turned w k t s' (Some octets)) (new ++ waited)
said_keeps w waited new k t s' octets offered kept here running is stands ok distinct some good meant own why speaks origin =
    let inv = kept.inv in
    let p = w.params in
    let x = sending k octets w.now w.taps in
    let trace' = with_entry (Sent x) w.trace in
    let y = record t { station = s'; marks = [] } in
    let taps' = slice_set w.taps k y in
    let same = same_taps w.taps k t s' here in
    let begun = begun_each p w.now w.taps w.trace waited inv.last w.trace inv.entries in
    let inits = last_initiates w.now w.trace inv.last inv.is_last in
    let past = past_each (place p w.now k t) w.taps w.trace waited inv.last t kept.fits inv.entries inv.others inv.last_in inits own here speaks in
    let before = each_both (EntryHolds p w.now w.taps w.trace waited inv.last) (PastInit p.ttd w.now k) (InitBefore w.now) w.trace (λ e a b. before_past p.ttd w.now k p w.taps w.trace waited inv.last e a b) inv.entries past in
    let none_behind = behind x w.trace before stands in
    let silence = same_silence p w.now x w.trace (omega arith) in
    let legal : is_legal_after p (specs_of w) trace' (last_initiator w.now w.trace) x ≡ true =
    ap (λ l. is_legal_after p (specs_of w) trace' l x) inv.is_last ∙ same_legal p (specs_of w) w.now trace' w.trace inv.last x (omega arith) silence
    ∙ legal_said p (specs_of w) w.now k t.spec.address t.since t.spec.master w.trace inv.last octets x kept.fits refl refl (address_there w.taps k t here) (λ e. meant.claims e) (last_over p.ttd w.now k w.trace inv.last inv.last_in inits past) why in
    record {
      fits = kept.fits;
      inv = record {
        last = Some x;
        is_last = last_with x w.now None w.trace meant.init (omega arith) none_behind;
        last_in = in_new (Sent x) w.trace;
        entries = each_with (EntryHolds p w.now taps' trace' (new ++ waited) (Some x)) (Sent x) w.trace
            (record_new p w.now k t octets w.taps taps' trace' (new ++ waited) (Some x) here running same inv.distinct some good (λ e. inl (refl, refl)) meant.source (λ e. origin))
            (entries_turned p w.now w.taps taps' w.trace trace' waited (new ++ waited) inv.last (Some x) same (λ z o. origin_more p (Sent x) w.trace new waited z o) w.trace
            (each_map (PastInit p.ttd w.now k) (OrderOk p.ttd (Some x)) w.trace (order_past p.ttd w.now k x refl refl) past) inv.entries);
        others = others_with x w.trace (each_map (OwnPast k w.now) (Apart x) w.trace (apart_past x k w.now refl refl) own) inv.others;
        speakers = subst (λ (z : Station). Each (SpeaksOk w.params w.now (slice_set w.taps k (record t { station = z; marks = [] }))) trace') (sym is) (speakers_turn w.params w.now w.trace waited inv.last w.taps k t (Some octets) kept.fits here running inv.distinct (inv.taps k t here running) inv.entries inv.speakers);
        distinct = distinct;
        taps = at_set (λ j u. u.running ≡ true → TapHolds p w.now trace' (Some x) j u) w.taps k y (λ _. ok)
            (λ j u ne at run. yields_to p w.now k t.spec.address t.since w.trace waited x inv.last (Some x) j u kept.fits (origins_each p w.now w.taps w.trace waited inv.last w.trace inv.entries)
            (λ e. ne (sym e)) (λ e. ne (one_address w.taps k j t u inv.distinct here at running run e)) speaks refl (omega (arith, some)) ne (unheard_new k w.taps j) (inv.taps j u at run));
      };
      legal = ap (λ specs. first_illegal p specs trace') (specs_set w.taps k t s' here)
          ∙ with_legal p (specs_of w) trace' w.now x None 0 w.trace meant.init begun none_behind legal
          (still_legal p (specs_of w) w.now trace' w.trace None 0 w.trace begun silence ∙ kept.legal);
    }
