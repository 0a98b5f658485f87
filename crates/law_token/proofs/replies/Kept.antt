-- Other data with which a tap replies keep the invariant: only what a reply has in it changes, and how long it is.
use Rattle.std.proofs.Common.{◌≡◌, ℕ, ◌≤◌, Bool, true, false, List, refl, sym, ◌∙◌, subst, Option, Some, None, Ok}
use Rattle.std.specs.Prelude.{slice_get, slice_set, IfSome}
use Rattle.pb_timers.specs.Timers.{Params}
use Rattle.law_turn.specs.Laws.{Fits, WaitsInPlace, IsSilentWhileBusy}
use Rattle.law_turn.specs.Phases.{Phase, Offline, PassiveIdle, Listening, Idle, Claim, Use, AwaitData, AwaitStatus, Pass, Checking}
use Rattle.law_turn.specs.Spans.{Span}
use Rattle.law_turn.specs.Stations.{Station, Reply}
use Rattle.law_model.specs.Trace.{Record, Entry, Sent, Noise}
use Rattle.law_model.specs.Medium.{Tap}
use Rattle.law_model.specs.World.{World}
use Rattle.law_runs.specs.Headline.{specs_of}
use Rattle.law_runs.specs.Premises.{Waited}
use Rattle.pb_ring.specs.Las.{LasTable}
use Rattle.law_token.specs.Data.{tap_with, set_data_at, set_data, DataKeepInvariant}
use Rattle.law_token.specs.Entries.{EntryHolds, SpeaksOk, IsFreshIn, IsFresh}
use Rattle.law_token.specs.Invariant.{Settled, Invariant}
use Rattle.law_token.specs.Places.{Place}
use Rattle.law_token.specs.Stations.{TapStays}
use Rattle.law_token.specs.Views.{Waits, KnowsIn, ViewOf, view, place, TapHolds}
use Rattle.law_token.proofs.bus.Lists.{each_map, at_set}
use Rattle.law_token.proofs.replies.Addresses.{set_addresses, illegal_same, namesakes_same}
use Rattle.law_token.proofs.replies.Alike.{AlikeReplies, differ_by_data, Alike, marks_alike}
use Rattle.law_token.proofs.replies.Turned.{speaks_alike}
use Rattle.law_token.proofs.replies.Unasked.{stands_data}

-- ---- what is kept of a station with another reply that is not sent yet

waits_alike : (c : Place) (busy : Bool) (quiet : ℕ) (o r : Option Reply) → AlikeReplies o r → Waits c busy quiet o → Waits c busy quiet r
waits_alike c true quiet o None h w = refl
waits_alike c true quiet None (Some b) h w = absurd h
waits_alike c true quiet (Some a) (Some b) h w = absurd cc
waits_alike c false quiet None None h w = tt
waits_alike c false quiet None (Some b) h w = absurd h
waits_alike c false quiet (Some a) None h w = absurd h
waits_alike c false quiet (Some a) (Some b) h w = sym h.0 ∙ w

view_alike : (c : Place) (trace : List Entry) (last : Option Record) (ph : Phase) (busy : Bool) (quiet : ℕ) (own : Span) (o r : Option Reply) → AlikeReplies o r → ViewOf c trace last ph busy quiet own o → ViewOf c trace last ph busy quiet own r
view_alike c trace last Offline busy quiet own o r h v = v
view_alike c trace last PassiveIdle busy quiet own o r h v = waits_alike c busy quiet o r h v
view_alike c trace last (Listening doubled) busy quiet own o r h v = waits_alike c busy quiet o r h v
view_alike c trace last (Idle refused) busy quiet own o r h v = waits_alike c busy quiet o r h v
view_alike c trace last (Claim sent ready) busy quiet own o r h v = v
view_alike c trace last (Use asked ready) busy quiet own o r h v = v
view_alike c trace last (AwaitData asked retry slot) busy quiet own o r h v = v
view_alike c trace last (AwaitStatus of slot) busy quiet own o r h v = v
view_alike c trace last (Pass tries ready) busy quiet own o r h v = v
view_alike c trace last (Checking tries) busy quiet own o r h v = v

none_alike : (o r : Option Reply) → AlikeReplies o r → o ≡ None → r ≡ None
none_alike None None h e = refl
none_alike None (Some b) h e = absurd h
none_alike (Some a) r h e = absurd cc

in_place : (ph : Phase) (o r : Option Reply) → AlikeReplies o r → WaitsInPlace ph o → WaitsInPlace ph r
in_place Offline o r h w = none_alike o r h w
in_place PassiveIdle o r h w = tt
in_place (Listening doubled) o r h w = tt
in_place (Idle refused) o r h w = tt
in_place (Claim sent ready) o r h w = none_alike o r h w
in_place (Use asked ready) o r h w = none_alike o r h w
in_place (AwaitData asked retry slot) o r h w = none_alike o r h w
in_place (AwaitStatus of slot) o r h w = none_alike o r h w
in_place (Pass tries ready) o r h w = none_alike o r h w
in_place (Checking tries) o r h w = none_alike o r h w

joins_alike : (o r : Option Reply) → AlikeReplies o r → IfSome o (λ a. a.joins ≡ false) → IfSome r (λ a. a.joins ≡ false)
joins_alike None None h j = tt
joins_alike None (Some b) h j = absurd h
joins_alike (Some a) None h j = absurd h
joins_alike (Some a) (Some b) h j = sym h.1 ∙ j

fresh_alike : (ph : Phase) (table : LasTable) (o r : Option Reply) → AlikeReplies o r → IsFreshIn ph table o → IsFreshIn ph table r
fresh_alike Offline table o r h f = tt
fresh_alike PassiveIdle table o r h f = tt
fresh_alike (Listening false) table o r h f = (f.0, joins_alike o r h f.1)
fresh_alike (Listening true) table o r h f = (f.0, joins_alike o r h f.1)
fresh_alike (Idle refused) table o r h f = absurd f
fresh_alike (Claim sent ready) table o r h f = absurd f
fresh_alike (Use asked ready) table o r h f = absurd f
fresh_alike (AwaitData asked retry slot) table o r h f = absurd f
fresh_alike (AwaitStatus of slot) table o r h f = absurd f
fresh_alike (Pass tries ready) table o r h f = absurd f
fresh_alike (Checking tries) table o r h f = absurd f

-- ---- a tap

-- its view, with other data
pub viewed : (p : Params) (t : Tap) (unit : List ℕ) → Alike (Unit {0}) (view p t) (view p (tap_with t unit))
viewed p t unit = marks_alike (Unit {0}) (record t.station.cycles.responder { reply = unit }) t.station.reply p t.station t.marks (differ_by_data t.station.reply t.station.cycles.responder.kept)

pub stays_data : (p : Params) (t : Tap) (unit : List ℕ) → Fits unit → TapStays p t → TapStays p (tap_with t unit)
stays_data p t unit fits h = record {
  address = h.address;
  below = h.below;
  sayable = (h.sayable.0, let c = h.sayable.1 in record { high = c.high; low = c.low; pending = c.pending; unit = fits; kept = c.kept });
  opened = h.opened;
  ranked = h.ranked;
  past = λ run. let g = h.past run in (g.0, stands_data p t.station unit g.0 g.1);
  spells = (h.spells.0, record { here = h.spells.1.here; pending = h.spells.1.pending; unit = fits; kept = h.spells.1.kept });
  stopped = h.stopped;
  replies = refl;
}

holds_data : (p : Params) (now : ℕ) (trace : List Entry) (last : Option Record) (k : ℕ) (t : Tap) (unit : List ℕ) → TapHolds p now trace last k t → TapHolds p now trace last k (tap_with t unit)
holds_data p now trace last k t unit o =
    let c = place p now k t in
    let v = view p t in
    let a = viewed p t unit in
    record {
      began = o.began;
      address = o.address;
      in_time = o.in_time;
      seen = o.seen;
      knows = subst (λ (z : Station). KnowsIn c trace z.phase z.busy z.quiet z.own) (sym a.is) o.knows;
      view_ok = subst (λ (z : Station). ViewOf c trace last z.phase z.busy z.quiet z.own z.reply) (sym a.is) (view_alike c trace last v.phase v.busy v.quiet v.own v.reply a.reply a.differ.replies o.view_ok);
      grip = o.grip;
      silent = subst IsSilentWhileBusy (sym a.is) (record {
        silent = λ busy. sym (speaks_alike v.reply a.reply v.phase a.differ.replies) ∙ o.silent.silent busy;
        in_place = in_place v.phase v.reply a.reply a.differ.replies o.silent.in_place;
      });
    }

fresh_data : (p : Params) (t : Tap) (unit : List ℕ) → IsFresh (view p t) → IsFresh (view p (tap_with t unit))
fresh_data p t unit f =
    let v = view p t in
    let a = viewed p t unit in
    subst IsFresh (sym a.is) (fresh_alike v.phase v.las v.reply a.reply a.differ.replies f)

-- ---- the taps

-- what a tap was
record WasTap (p : Params) (taps : List Tap) (k : ℕ) (u : Tap) : Type 0 where
  t : Tap
  here : slice_get taps k ≡ Some t
  address : t.spec.address ≡ u.spec.address
  running : t.running ≡ u.running
  since : t.since ≡ u.since
  amid : t.amid ≡ u.amid
  fresh : IsFresh (view p t) → IsFresh (view p u)

was_tap : (p : Params) (taps : List Tap) (tap : ℕ) (t : Tap) (unit : List ℕ) → slice_get taps tap ≡ Some t → (k : ℕ) (u : Tap) → slice_get (slice_set taps tap (tap_with t unit)) k ≡ Some u → WasTap p taps k u
was_tap p taps tap t unit at =
    at_set (WasTap p taps) taps tap (tap_with t unit)
    (record { t = t; here = at; address = refl; running = refl; since = refl; amid = refl; fresh = fresh_data p t unit })
    (λ j u ne h. record { t = u; here = h; address = refl; running = refl; since = refl; amid = refl; fresh = λ f. f })

-- ---- the entries

entry_data : (p : Params) (now : ℕ) (taps : List Tap) (trace : List Entry) (waited : List Waited) (last : Option Record) (tap : ℕ) (t : Tap) (unit : List ℕ) → slice_get taps tap ≡ Some t
    → (e : Entry) → EntryHolds p now taps trace waited last e → EntryHolds p now (slice_set taps tap (tap_with t unit)) trace waited last e
entry_data p now taps trace waited last tap t unit at (Noise span) o = o
entry_data p now taps trace waited last tap t unit at (Sent x) o = record {
  begun = o.begun;
  some = o.some;
  fits = o.fits;
  spelled = o.spelled;
  order = o.order;
  source = λ da sa e. o.source da sa e ∙ sym (set_addresses taps tap t (tap_with t unit) at refl x.tap);
  reaches_all = o.reaches_all;
  origin = o.origin;
  pending = λ k u hu ne late. let b = was k u hu in o.pending k b.t b.here ne late;
  one_whole = λ i j u v hu hv wu wv e. let b = was i u hu in let d = was j v hv in o.one_whole i j b.t d.t b.here d.here wu wv (b.address ∙ e ∙ sym d.address);
  older = λ k u v hu run hv ne e.
      let b = was k u hu in let d = was x.tap v hv in
      let g = o.older k b.t d.t b.here (b.running ∙ run) d.here ne (b.address ∙ e ∙ sym d.address) in
      (subst (λ n. x.begin ≤ n) b.since g.0, λ z. sym b.amid ∙ g.1 (b.since ∙ z));
}
  where
    was : (k : ℕ) (u : Tap) → slice_get (slice_set taps tap (tap_with t unit)) k ≡ Some u → WasTap p taps k u
    was = was_tap p taps tap t unit at

speaks_data : (p : Params) (now : ℕ) (taps : List Tap) (tap : ℕ) (t : Tap) (unit : List ℕ) → slice_get taps tap ≡ Some t → (e : Entry) → SpeaksOk p now taps e → SpeaksOk p now (slice_set taps tap (tap_with t unit)) e
speaks_data p now taps tap t unit at (Noise span) o = tt
speaks_data p now taps tap t unit at (Sent x) o = record {
  own = o.own;
  fresh = λ init air k u v hu run hv ne e.
      let b = was_tap p taps tap t unit at k u hu in let d = was_tap p taps tap t unit at x.tap v hv in
      b.fresh (o.fresh init air k b.t d.t b.here (b.running ∙ run) d.here ne (b.address ∙ e ∙ sym d.address));
}

-- ---- the world

-- it is the same but for a tap
pub record IsSet (w next : World) (tap : ℕ) (unit : List ℕ) : Type 0 where
  pub t : Tap
  pub here : slice_get w.taps tap ≡ Some t
  pub is : record w { taps = slice_set w.taps tap (tap_with t unit) } ≡ next

pub is_set : (w next : World) (tap : ℕ) (unit : List ℕ) → set_data w tap unit ≡ Ok next → IsSet w next tap unit
is_set w next tap unit ok = by (slice_get w.taps tap) refl ok
  where
    by : (o : Option Tap) → slice_get w.taps tap ≡ o → set_data_at w tap unit o ≡ Ok next → IsSet w next tap unit
    by None at ok = absurd cc
    by (Some t) at ok = let same : record w { taps = slice_set w.taps tap (tap_with t unit) } ≡ next = cc in record { t = t; here = at; is = same }

pub data_settled : (w next : World) (tap : ℕ) (unit : List ℕ) → Fits unit → set_data w tap unit ≡ Ok next → Settled w → Settled next
data_settled w next tap unit fits ok s =
    let d = is_set w next tap unit ok in
    subst Settled d.is (record {
      stands = s.stands;
      stays = at_set (λ k u. TapStays w.params u) w.taps tap (tap_with d.t unit) (stays_data w.params d.t unit fits (s.stays tap d.t d.here)) (λ k u ne h. s.stays k u h);
    })

pub data_invariant : DataKeepInvariant
data_invariant w next waited tap unit fits ok i =
    let d = is_set w next tap unit ok in
    let t = d.t in
    let at = d.here in
    let y = tap_with t unit in
    let taps = slice_set w.taps tap y in
    let inv = i.keeps.inv in
    subst (λ z. Invariant z waited) d.is (record {
      settled = subst Settled (sym d.is) (data_settled w next tap unit fits ok i.settled);
      keeps = record {
        fits = i.keeps.fits;
        inv = record {
          last = inv.last;
          is_last = inv.is_last;
          last_in = inv.last_in;
          entries = each_map (EntryHolds w.params w.now w.taps w.trace waited inv.last) (EntryHolds w.params w.now taps w.trace waited inv.last) w.trace (entry_data w.params w.now w.taps w.trace waited inv.last tap t unit at) inv.entries;
          others = inv.others;
          speakers = each_map (SpeaksOk w.params w.now w.taps) (SpeaksOk w.params w.now taps) w.trace (speaks_data w.params w.now w.taps tap t unit at) inv.speakers;
          distinct = namesakes_same w.taps tap t y at refl refl ∙ inv.distinct;
          taps = at_set (λ k u. u.running ≡ true → TapHolds w.params w.now w.trace inv.last k u) w.taps tap y (λ run. holds_data w.params w.now w.trace inv.last tap t unit (inv.taps tap t at run)) (λ k u ne h run. inv.taps k u h run);
        };
        legal = illegal_same w.params (specs_of (record w { taps = taps })) (specs_of w) w.trace (set_addresses w.taps tap t y at refl) ∙ i.keeps.legal;
      };
    })
