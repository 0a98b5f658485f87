-- New noise, and what the records of the trace keep.
use Rattle.std.proofs.Common.{◌≡◌, ℕ, ◌+◌, ◌<◌, ◌≤◌, inl, inr, ⊎_elim, Bool, true, false, ◌&&◌, ◌||◌, ◌==◌, List, [], ◌∷◌, ◌++◌, refl, arith, Option}
use Rattle.std.specs.Prelude.{nat_le}
use Rattle.std.specs.List.{list_any}
use Rattle.pb_timers.specs.Timers.{Params}
use Rattle.law_model.specs.Trace.{Record, Entry, Sent, Noise, with_entry}
use Rattle.law_model.specs.Medium.{Tap}
use Rattle.law_runs.specs.Premises.{Waited}
use Rattle.law_token.specs.Lists.{Each}
use Rattle.law_token.specs.Entries.{EndedBefore, Origin, EntryHolds}
use Rattle.law_token.proofs.bus.Lists.{each_with, each_without, each_map}

pub any_more : (test : Waited → Bool) (new old : List Waited) → list_any test old ≡ true → list_any test (new ++ old) ≡ true
any_more test [] old h = h
any_more test (x ∷ new) old h = right (test x) (list_any test (new ++ old)) (any_more test new old h)
  where
    right : (a b : Bool) → b ≡ true → (a || b) ≡ true
    right true b h = refl
    right false b h = h

-- where a record comes from outlasts a new entry and new waits
pub origin_more : (p : Params) (e : Entry) (trace : List Entry) (new old : List Waited) (x : Record) → Origin p trace old x → Origin p (with_entry e trace) (new ++ old) x
origin_more p e trace new old x o =
    ⊎_elim (λ (w : list_any (λ w. (w.tap == x.tap) && nat_le x.begin w.moment) old ≡ true). inl (any_more (λ w. (w.tap == x.tap) && nat_le x.begin w.moment) new old w))
    (λ (f : (q : ℕ) → Each (EndedBefore p.ttd x.tap x.begin q) trace → x.begin ≤ q + (p.tsl + p.lag)). inr (λ q all. f q (each_without (EndedBefore p.ttd x.tap x.begin q) e trace all).1)) o

entry_more : (p : Params) (now : ℕ) (taps : List Tap) (trace : List Entry) (new old : List Waited) (last : Option Record) (e x : Entry) → EntryHolds p now taps trace old last x → EntryHolds p now taps (with_entry e trace) (new ++ old) last x
entry_more p now taps trace new old last e (Noise span) o = o
entry_more p now taps trace new old last e (Sent x) o = record {
  begun = o.begun;
  some = o.some;
  fits = o.fits;
  spelled = o.spelled;
  order = o.order;
  source = o.source;
  reaches_all = o.reaches_all;
  origin = λ init late. origin_more p e trace new old x (o.origin init late);
  pending = o.pending;
  one_whole = o.one_whole;
  older = o.older;
}

-- new noise: the records of the trace are what they were
pub entries_noise : (p : Params) (now m : ℕ) (taps : List Tap) (trace : List Entry) (new old : List Waited) (last : Option Record) → now < m → Each (EntryHolds p now taps trace old last) trace
    → Each (EntryHolds p now taps (with_entry (Noise (record { begin = now; end = m })) trace) (new ++ old) last) (with_entry (Noise (record { begin = now; end = m })) trace)
entries_noise p now m taps trace new old last some all =
    let e = Noise (record { begin = now; end = m }) in
    each_with (EntryHolds p now taps (with_entry e trace) (new ++ old) last) e trace (omega arith, some)
    (each_map (EntryHolds p now taps trace old last) (EntryHolds p now taps (with_entry e trace) (new ++ old) last) trace (entry_more p now taps trace new old last e) all)
