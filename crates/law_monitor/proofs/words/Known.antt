-- The last initiator telegram that a listener knows, when it hears nothing, is the last one that has reached it.
use Rattle.std.proofs.Common.{◌≡◌, ℕ, ◌+◌, ◌<◌, ◌≤◌, inl, inr, ⊎_elim, Bool, true, false, if◌then◌else◌, List, [], ◌∷◌, ◌++◌, refl, sym, ap, ◌∙◌, subst, arith, Option, Some}
use Rattle.std.specs.Prelude.{nat_le, IfSome}
use Rattle.std.proofs.lemmas.Bool.{leb-true, leb-false, lt-leb}
use Rattle.pb_timers.specs.Timers.{Params}
use Rattle.law_model.specs.Trace.{Record, Entry, Sent, Noise, entry_begin}
use Rattle.law_model.specs.Medium.{TapSpec, reaches_taps}
use Rattle.law_runs.specs.Initiators.{is_initiator, later_record, last_from}
use Rattle.law_runs.specs.Judging.{IsOrdered, IsOrderedFrom}
use Rattle.pb_monitor.specs.declared.states.State.{State}
use Rattle.pb_monitor.specs.Captures.{Burst, All, Has, IsClear, BeginsAt, Fills, IsTold, IsOf, HearsFrom, Hears}
use Rattle.pb_monitor.specs.Judge.{listening, behind, behind_all}
use Rattle.pb_monitor.specs.Promises.{IsBySource}
use Rattle.pb_monitor.proofs.Claims.{burst_ends_solid, silences_behind, start_is_solid, nothing_yet}
use Rattle.pb_monitor.proofs.Follows.{IsLast, Follows}
use Rattle.pb_monitor.proofs.NoneRaised.{LinkedLast, Linked, last_left}
use Rattle.law_monitor.specs.Captures.{HearsAmid, HearsSince}
use Rattle.law_monitor.proofs.Blind.{blind_last}

-- ---- what a listener knows after bursts

linked_all : (p : Params) (slack : ℕ) (specs : List TapSpec) (since : ℕ) (trace : List Entry) (j : State) (bs : List Burst) → IsOrdered trace → All (IsBySource specs) trace → Linked p specs since trace j → HearsFrom p.ttd since trace j.quiet bs
    → Linked p specs since trace (behind_all p slack j bs)
linked_all p slack specs since trace j [] order sources linked heard = linked
linked_all p slack specs since trace j (b ∷ bs) order sources linked heard =
    let is_of = heard.3 in
    linked_all p slack specs since trace (behind p slack j b) bs order sources (record {
      from = let f = linked.from in let l = heard.0 in let s = heard.1 in omega (arith, f, l, s);
      solid = burst_ends_solid p.ttd since trace b heard.1 is_of.solid;
      silences = silences_behind p slack p.ttd since trace j b linked.from heard.0 heard.1 linked.solid is_of.solid linked.silences;
      last = last_left p slack specs since trace j b order sources linked heard.0 heard.1 heard.2 is_of;
    }) heard.4

amid_all : (p : Params) (slack : ℕ) (specs : List TapSpec) (since : ℕ) (trace : List Entry) (bs : List Burst) → IsOrdered trace → All (IsBySource specs) trace → HearsAmid p.ttd since trace bs → Linked p specs since trace (behind_all p slack (listening since) bs)
amid_all p slack specs since trace [] order sources heard = absurd heard
amid_all p slack specs since trace (b ∷ bs) order sources heard =
    let some : b.begin < b.end = (let a = heard.0 in let d = heard.1 in omega (arith, a, d)) in
    let late : since ≤ b.begin = (let a = heard.0 in omega (arith, a)) in
    linked_all p slack specs since trace (behind p slack (listening since) b) bs order sources (record {
      from = omega (arith, late, some);
      solid = burst_ends_solid p.ttd since trace b some heard.3;
      silences = silences_behind p slack p.ttd since trace (listening since) b (omega arith) late some (start_is_solid p.ttd since trace) heard.3 (nothing_yet p p.ttd since trace);
      last = subst (LinkedLast p specs since trace b.end) (sym (blind_last p slack since b heard.2)) tt;
    }) heard.4

pub linked_after : (p : Params) (slack : ℕ) (specs : List TapSpec) (since : ℕ) (trace : List Entry) (bs : List Burst) → IsOrdered trace → All (IsBySource specs) trace → HearsSince p.ttd since trace bs → Linked p specs since trace (behind_all p slack (listening since) bs)
linked_after p slack specs since trace bs order sources heard =
    ⊎_elim
    (λ (h : Hears p.ttd since trace bs). linked_all p slack specs since trace (listening since) bs order sources (record { from = omega arith; solid = start_is_solid p.ttd since trace; silences = nothing_yet p p.ttd since trace; last = tt }) h)
    (λ (h : HearsAmid p.ttd since trace bs). amid_all p slack specs since trace bs order sources h) heard

-- ---- the same of a trace with one telegram more, that comes later than all

pub all_append : (X : Entry → Type 0) (es : List Entry) (e : Entry) → All X es → X e → All X (es ++ e ∷ [])
all_append X [] e all h = (h, tt)
all_append X (y ∷ es) e all h = (all.0, all_append X es e all.1 h)

all_before : (X : Entry → Type 0) (es : List Entry) (e : Entry) → All X (es ++ e ∷ []) → All X es
all_before X [] e all = tt
all_before X (y ∷ es) e all = (all.0, all_before X es e all.1)

has_before : (X : Entry → Type 0) (es : List Entry) (e : Entry) → Has X es → Has X (es ++ e ∷ [])
has_before X [] e h = absurd h
has_before X (y ∷ es) e h = ⊎_elim (λ (a : X y). inl a) (λ (b : Has X es). inr (has_before X es e b)) h

pub ordered_more : (m : ℕ) (es : List Entry) (x : Record) → IsOrderedFrom m es → All (λ e. entry_begin e ≤ x.begin) es → m ≤ x.begin → x.begin < x.end → IsOrderedFrom m (es ++ Sent x ∷ [])
ordered_more m [] x order begun le some = (le, some, tt)
ordered_more m (e ∷ es) x order begun le some = (order.0, order.1, ordered_more (entry_begin e) es x order.2 begun.1 begun.0 some)

-- what it hears ends before
quiet_after : (p : Params) (slack since : ℕ) (trace : List Entry) (j : State) (bs : List Burst) → HearsFrom p.ttd since trace j.quiet bs → j.quiet ≤ (behind_all p slack j bs).quiet
quiet_after p slack since trace j [] heard = omega arith
quiet_after p slack since trace j (b ∷ bs) heard = let a = quiet_after p slack since trace (behind p slack j b) bs heard.4 in let l = heard.0 in let s = heard.1 in omega (arith, a, l, s)

of_more : (delay since : ℕ) (es : List Entry) (x : Record) (b : Burst) → b.end ≤ x.begin → IsOf delay since es b → IsOf delay since (es ++ Sent x ∷ []) b
of_more delay since es x b late o = record {
  begins = ⊎_elim (λ (a : b.begin ≡ since). inl a) (λ (h : Has (BeginsAt delay b.begin) es). inr (has_before (BeginsAt delay b.begin) es (Sent x) h)) o.begins;
  solid = λ u v lt before after clear. o.solid u v lt before after (all_before (λ e. IsClear u v (reaches_taps delay e)) es (Sent x) clear);
  told = λ spells. let t = o.told spells in (has_before (Fills delay b) es (Sent x) t.0, all_append (IsTold delay b) es (Sent x) t.1 (inr (inr (omega (arith, late)))));
}

from_more : (p : Params) (slack since : ℕ) (es : List Entry) (x : Record) (j : State) (bs : List Burst) → (behind_all p slack j bs).quiet ≤ x.begin → HearsFrom p.ttd since es j.quiet bs → HearsFrom p.ttd since (es ++ Sent x ∷ []) j.quiet bs
from_more p slack since es x j [] late heard = tt
from_more p slack since es x j (b ∷ bs) late heard =
    let q = quiet_after p slack since es (behind p slack j b) bs heard.4 in
    let some = heard.1 in (
      heard.0,
      some,
      all_append (λ e. IsClear j.quiet b.begin (reaches_taps p.ttd e)) es (Sent x) heard.2 (inr (omega (arith, late, q, some))),
      of_more p.ttd since es x b (omega (arith, late, q)) heard.3,
      from_more p slack since es x (behind p slack j b) bs late heard.4,
    )

pub since_more : (p : Params) (slack since : ℕ) (es : List Entry) (x : Record) (bs : List Burst) → (behind_all p slack (listening since) bs).quiet ≤ x.begin → HearsSince p.ttd since es bs → HearsSince p.ttd since (es ++ Sent x ∷ []) bs
since_more p slack since es x bs late heard =
    ⊎_elim (λ (h : Hears p.ttd since es bs). inl (from_more p slack since es x (listening since) bs late h))
    (λ (h : HearsAmid p.ttd since es bs). inr (amid bs late h)) heard
  where
    amid : (bs : List Burst) → (behind_all p slack (listening since) bs).quiet ≤ x.begin → HearsAmid p.ttd since es bs → HearsAmid p.ttd since (es ++ Sent x ∷ []) bs
    amid [] late h = absurd h
    amid (b ∷ bs) late h = (
      h.0,
      h.1,
      h.2,
      λ u v lt before after clear. h.3 u v lt before after (all_before (λ e. IsClear u v (reaches_taps p.ttd e)) es (Sent x) clear),
      from_more p slack since es x (behind p slack (listening since) b) bs late h.4,
    )

-- ---- the last one

none_later : (t m : ℕ) (last : Option Record) (es : List Entry) → t < m → IsOrderedFrom m es → last_from last t es ≡ last
none_later t m last [] lt order = refl
none_later t m last (Noise span ∷ es) lt order = none_later t span.begin last es (let a = order.0 in omega (arith, lt, a)) order.2
none_later t m last (Sent r ∷ es) lt order =
    let a = order.0 in
    ap (λ b. last_from (if b then later_record last r else last) t es) (lt-leb r.begin t (omega (arith, lt, a))) ∙ none_later t r.begin last es (omega (arith, lt, a)) order.2

-- the last one that had begun by a moment, where all that began later has not reached the listener
pub last_known : (delay q t m : ℕ) (Known : Record → Type 0) (last : Option Record) (es : List Entry) (x : Record) → q ≤ t + delay → t < x.begin → is_initiator x ≡ true → IsOrderedFrom m es
    → Follows delay q Known last (es ++ Sent x ∷ []) → IsLast delay q Known (last_from last t es)
last_known delay q t m Known last [] x reached late init order f = f.0 init (omega (arith, reached, late))
last_known delay q t m Known last (Noise span ∷ es) x reached late init order f = last_known delay q t span.begin Known last es x reached late init order.2 f
last_known delay q t m Known last (Sent r ∷ es) x reached late init order f =
    by (nat_le r.begin t) refl (is_initiator r) refl f.0 f.1 (λ l g. last_known delay q t r.begin Known l es x reached late init order.2 g)
  where
    by : (b : Bool) → nat_le r.begin t ≡ b → (c : Bool) → is_initiator r ≡ c → (is_initiator r ≡ true → q ≤ r.begin + delay → IsLast delay q Known last) → Follows delay q Known (if c then Some r else last) (es ++ Sent x ∷ [])
        → ((l : Option Record) → Follows delay q Known l (es ++ Sent x ∷ []) → IsLast delay q Known (last_from l t es)) → IsLast delay q Known (last_from (if b then (if c then Some r else last) else last) t es)
    by true e c i here g rec = rec (if c then Some r else last) g
    by false e true i here g rec =
        let after = leb-false r.begin t e in
        subst (IsLast delay q Known) (sym (none_later t r.begin last es (omega (arith, after)) order.2)) (here i (omega (arith, after, reached)))
    by false e false i here g rec = rec last g

-- a telegram that has begun by a moment has a property
abbrev pub OfSent : (Record → Type 0) → ℕ → Entry → Type 0
OfSent X t (Noise span) = Unit {0}
OfSent X t (Sent r) = r.begin ≤ t → X r

-- so has the last one
pub last_stands : (t : ℕ) (X : Record → Type 0) (last : Option Record) (es : List Entry) → IfSome last X → All (λ e. OfSent X t e) es → IfSome (last_from last t es) X
last_stands t X last [] h all = h
last_stands t X last (Noise span ∷ es) h all = last_stands t X last es h all.1
last_stands t X last (Sent r ∷ es) h all = last_stands t X (if nat_le r.begin t then later_record last r else last) es (by (nat_le r.begin t) refl (is_initiator r)) all.1
  where
    by : (b : Bool) → nat_le r.begin t ≡ b → (c : Bool) → IfSome (if b then (if c then Some r else last) else last) X
    by true e true = all.0 (leb-true r.begin t e)
    by true e false = h
    by false e c = h
