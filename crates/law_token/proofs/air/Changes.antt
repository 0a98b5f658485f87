-- What an event leaves of the token that says nothing and lets no time pass: entries differ in what is in the air alone.
use Rattle.std.proofs.Common.{◌≡◌, ℕ, ◌<◌, ◌≤◌, ⊎_elim, Bool, true, false, List, [], ◌∷◌, ◌++◌, refl, sym, ap, ◌∙◌, subst, arith, Some, None}
use Rattle.std.specs.Prelude.{slice_get, IfSome}
use Rattle.std.proofs.lemmas.Bool.{cases_lt}
use Rattle.pb_timers.specs.Timers.{Params}
use Rattle.law_model.specs.Trace.{Record, Entry, Sent, Noise}
use Rattle.law_model.specs.Medium.{Tap}
use Rattle.law_model.specs.World.{World, Event}
use Rattle.law_model.specs.Step.{change_first}
use Rattle.law_model.proofs.Cases.{by_test}
use Rattle.law_runs.specs.Initiators.{last_initiator}
use Rattle.law_runs.specs.Legality.{is_whole, first_illegal}
use Rattle.law_runs.specs.Premises.{Waited, has_namesakes, waited_by, broken_by, first_number, two_have_waited, loses, comes_late}
use Rattle.law_runs.specs.Headline.{specs_of}
use Rattle.law_token.specs.Lists.{Each, In}
use Rattle.law_token.specs.Views.{TapHolds}
use Rattle.law_token.specs.Entries.{EntryHolds, SpeakerHolds, SpeaksOk}
use Rattle.law_token.specs.Invariant.{InvariantHolds, Keeps}
use Rattle.law_token.proofs.bus.Lists.{each_in, each_map}
use Rattle.law_token.proofs.air.LastRecords.{LastR}
use Rattle.law_token.proofs.air.Near.{NearRecord, Near, AllNear, record_ends, each_near, near_self, all_near_self}
use Rattle.law_token.proofs.air.NearTaps.{tap_near}
use Rattle.law_token.proofs.air.NearTrace.{last_in_trace, last_near, last_same, TapsWere, taps_same, entries_near, others_near}
use Rattle.law_token.proofs.air.NearLegal.{trace_near, begun_of}

-- ---- a world whose trace differs in what is in the air, with other taps

-- what a tap heard whole of the last record is over
settled : (w : World) (waited : List Waited) (inv : InvariantHolds w waited) (k : ℕ) (t : Tap) → slice_get w.taps k ≡ Some t → (r : Record) → inv.last ≡ Some r → (r.tap ≡ k → ⊥) → is_whole (slice_get r.heard k) ≡ true → r.end ≤ w.now
settled w waited inv k t at r is other whole =
    let ok = each_in (EntryHolds w.params w.now w.taps w.trace waited inv.last) (Sent r) w.trace inv.entries (subst (λ o. IfSome o (λ r. In (Sent r) w.trace)) is inv.last_in) in
    ⊎_elim (λ (l : w.now < r.end). absurd (let wrong : false ≡ true = sym (ap is_whole (ok.pending k t at other (omega (arith, l)))) ∙ whole in cc)) (λ (le : r.end ≤ w.now). le) (cases_lt w.now r.end)

related : (w : World) (waited : List Waited) (S : ℕ → Type 0) (xs : List Entry) → AllNear w.now S w.trace xs → (inv : InvariantHolds w waited) → LastR (NearRecord w.now S) inv.last (last_initiator w.now xs)
related w waited S xs near inv = subst (λ l. LastR (NearRecord w.now S) l (last_initiator w.now xs)) inv.is_last (last_near w.now S w.trace xs near)

-- a running tap of it, if not itself cut
pub still_ok : (w : World) (waited : List Waited) (S : ℕ → Type 0) (xs : List Entry) → AllNear w.now S w.trace xs → (inv : InvariantHolds w waited) → (k : ℕ) (t : Tap) → (S k → ⊥) → slice_get w.taps k ≡ Some t → t.running ≡ true
    → TapHolds w.params w.now xs (last_initiator w.now xs) k t
still_ok w waited S xs near inv k t other at run =
    tap_near w.params w.now S w.trace xs inv.last (last_initiator w.now xs) k t other near
    (last_same w.params.ttd w.now S inv.last (last_initiator w.now xs) k t.spec.address other (settled w waited inv k t at) (related w waited S xs near inv)) (inv.taps k t at run)

near_speaks : (p : Params) (now : ℕ) (taps : List Tap) (S : ℕ → Type 0) (es xs : List Entry) → AllNear now S es xs → Each (SpeaksOk p now taps) es → Each (SpeaksOk p now taps) xs
near_speaks p now taps S es xs near all = each_near (SpeaksOk p now taps) (SpeaksOk p now taps) now S es xs one near all
  where
    one : (e x : Entry) → Near now S e x → SpeaksOk p now taps e → SpeaksOk p now taps x
    one (Noise a) (Noise b) h o = tt
    one (Noise a) (Sent x) h o = absurd h
    one (Sent r) (Noise b) h o = absurd h
    one (Sent r) (Sent x) h o =
        subst (SpeakerHolds p now taps) (sym h.is) (record { own = o.own; fresh = λ init air. o.fresh init (let le = (record_ends now S r h.end h.ends).1 in omega (arith, le, air)) })

pub near_keeps : (w : World) (waited new : List Waited) (S : ℕ → Type 0) (xs : List Entry) (taps' : List Tap) → TapsWere w.params.ttd w.now w.trace w.taps taps' → AllNear w.now S w.trace xs → has_namesakes taps' ≡ false
    → ((k : ℕ) (t : Tap) → slice_get taps' k ≡ Some t → t.running ≡ true → TapHolds w.params w.now xs (last_initiator w.now xs) k t)
    → ((e : Entry) → SpeaksOk w.params w.now w.taps e → SpeaksOk w.params w.now taps' e) → Keeps w waited → Keeps (record w { trace = xs; taps = taps' }) (new ++ waited)
near_keeps w waited new S xs taps' were near distinct ok speaks k = record {
  fits = k.fits;
  inv = record {
    last = last_initiator w.now xs;
    is_last = refl;
    last_in = last_in_trace w.now xs;
    entries = entries_near w.params w.now S w.trace xs w.taps taps' new waited k.inv.last (last_initiator w.now xs) were near (related w waited S xs near k.inv) k.inv.entries;
    others = others_near w.now S w.trace xs near k.inv.others;
    speakers = each_map (SpeaksOk w.params w.now w.taps) (SpeaksOk w.params w.now taps') xs speaks (near_speaks w.params w.now w.taps S w.trace xs near k.inv.speakers);
    distinct = distinct;
    taps = ok;
  };
  legal = subst (λ specs. first_illegal w.params specs xs ≡ None) (sym were.specs)
      (trace_near w.params (specs_of w) w.now S w.trace xs near (begun_of w.params w.now w.taps w.trace waited k.inv.last w.trace k.inv.entries) k.legal);
}

-- with the taps that were
pub same_taps : (w : World) (waited new : List Waited) (S : ℕ → Type 0) (xs : List Entry) → ((k : ℕ) → S k → ⊥) → AllNear w.now S w.trace xs → Keeps w waited → Keeps (record w { trace = xs }) (new ++ waited)
same_taps w waited new S xs none near k =
    near_keeps w waited new S xs w.taps (taps_same w.params.ttd w.now w.trace w.taps) near k.inv.distinct (λ i t at run. still_ok w waited S xs near k.inv i t (none i) at run) (λ e o. o) k

-- ---- what the premises and the taps give

none_breaks : (a b c d : Bool) → first_number a b c d ≡ None → a ≡ false
none_breaks true b c d e = absurd cc
none_breaks false b c d e = refl

-- no two running taps have equal addresses, as the event breaks no premise
pub still_distinct : (w : World) (e : Event) (waited : List Waited) (next made : World) → made ≡ next → broken_by w e next (waited_by next 0 next.taps) (waited_by next 0 next.taps ++ waited) ≡ None → has_namesakes made.taps ≡ false
still_distinct w e waited next made same kept =
    subst (λ (z : World). has_namesakes z.taps ≡ false) (sym same)
    (none_breaks (has_namesakes next.taps) (loses e) (comes_late w e) (two_have_waited next.params.ttd (waited_by next 0 next.taps) (waited_by next 0 next.taps ++ waited)) kept)

pub near_change : (now : ℕ) (S : ℕ → Type 0) (test : Entry → Bool) (f : Entry → Entry) (es : List Entry) → ((e : Entry) → test e ≡ true → Near now S e (f e)) → AllNear now S es (change_first test f es)
near_change now S test f [] each = tt
near_change now S test f (e ∷ es) each =
    by_test (λ ys. AllNear now S (e ∷ es) ys) (test e) (f e ∷ es) (e ∷ change_first test f es)
    (λ passes. (each e passes, all_near_self now S es)) (λ _. (near_self now S e, near_change now S test f es each))
