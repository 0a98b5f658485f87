-- Whatever a listener hears of a legal trace raises no alarm.
use Rattle.std.proofs.Common.{◌≡◌, ℕ, ◌+◌, ◌-◌, ◌*◌, ◌<◌, ◌≤◌, ⊎_elim, Bool, true, false, if◌then◌else◌, not, ◌==◌, ◌&&◌, ◌||◌, List, [], ◌∷◌, refl, sym, ap, ◌∙◌, subst, arith, Option, Some, None}
use Rattle.std.specs.Prelude.{nat_lt}
use Rattle.std.specs.List.{list_any}
use Rattle.std.proofs.lemmas.Bool.{eq-eqb, eqb-true, ltb-true}
use Rattle.pb_timers.specs.Timers.{Params, tto}
use Rattle.law_turn.specs.Arrivals.{Arrival, Token, Framed, Acknowledgement, NoTelegram, arrival_of}
use Rattle.law_model.specs.Trace.{Record, Entry, Sent, Noise}
use Rattle.law_model.specs.Medium.{TapSpec}
use Rattle.law_model.proofs.Cases.{by_test}
use Rattle.law_runs.specs.Activity.{active_at, is_within, is_silent}
use Rattle.law_runs.specs.Initiators.{telegram_of, initiates, is_initiator, offered_by, claims_for}
use Rattle.law_runs.specs.Legality.{address_at, is_legal_after, first_illegal}
use Rattle.law_runs.specs.Judging.{IsOrderedFrom}
use Rattle.pb_monitor.specs.Captures.{Burst, All, Has, Fills, AllClear, BeginsAt, IsTold, IsOf, HearsFrom}
use Rattle.pb_monitor.specs.declared.alarms.Alarm.{Alarm}
use Rattle.pb_monitor.specs.declared.alarms.Classes.{Classes}
use Rattle.pb_monitor.specs.declared.states.LastHeard.{LastHeard}
use Rattle.pb_monitor.specs.declared.states.State.{State}
use Rattle.pb_monitor.specs.Meanings.{source_of, is_claim_like, is_none, initiator_of}
use Rattle.pb_monitor.specs.Judge.{touch, is_kept, silent_since, silence_before, last_behind, behind, may_claim, judged_legal, judged_last, alarm_of, alarms, listening}
use Rattle.pb_monitor.specs.Promises.{IsBySource, IsNotOfLegality}
use Rattle.pb_monitor.proofs.Chosen.{AllLegal, not_of_legality, with_good}
use Rattle.pb_monitor.proofs.Follows.{Follows, Knowing, follows_it}
use Rattle.pb_monitor.proofs.Heard.{Facts, follows_on, judge_at}
use Rattle.pb_monitor.proofs.Legal.{Knows, legal_is_silent}
use Rattle.pb_monitor.proofs.Pairs.{touches}
use Rattle.pb_monitor.proofs.Claims.{Silences, EndsSolid, claim_is_one, silences_before, silences_behind, burst_ends_solid, start_is_solid, nothing_yet}

-- ---- what a telegram says of itself

abbrev value : Option ℕ → ℕ
value None = 0
value (Some n) = n

pub another_by : (a : Arrival) (to : ℕ) → offered_by a ≡ Some to → to ≡ source_of a → ⊥
another_by (Token da sa) to o same = by (da == sa) refl o
  where
    by : (b : Bool) → (da == sa) ≡ b → (if b then None else Some da) ≡ Some to → ⊥
    by true e i = cc
    by false e i = let z : da ≡ to = ap value i in let w : true ≡ false = sym (eq-eqb da sa (z ∙ same)) ∙ e in cc
another_by (Framed f) to o same = cc
another_by Acknowledgement to o same = cc
another_by NoTelegram to o same = cc

pub claim_like : (address : ℕ) (a : Arrival) → claims_for address a ≡ true → is_claim_like a ≡ true
claim_like address (Token da sa) h = by (da == address) refl (sa == address) refl h
  where
    by : (b : Bool) → (da == address) ≡ b → (c : Bool) → (sa == address) ≡ c → (b && c) ≡ true → (da == sa) ≡ true
    by true e true f i = eq-eqb da sa (eqb-true da address e ∙ sym (eqb-true sa address f))
    by true e false f i = absurd cc
    by false e c f i = absurd cc
claim_like address (Framed f) h = absurd cc
claim_like address Acknowledgement h = absurd cc
claim_like address NoTelegram h = absurd cc

-- ---- silence at a tap, entry by entry

any_of : (X : Entry → Type 0) (test : Entry → Bool) (es : List Entry) → ((e : Entry) → X e → test e ≡ true) → Has X es → list_any test es ≡ true
any_of X test [] f h = absurd h
any_of X test (e ∷ es) f h = ⊎_elim (λ (x : X e). ap (λ b. b || list_any test es) (f e x)) (λ (t : Has X es). or_true (test e) (any_of X test es f t)) h
  where
    or_true : (b : Bool) → list_any test es ≡ true → (b || list_any test es) ≡ true
    or_true true i = refl
    or_true false i = i

-- ---- what is known of the last telegram

-- the telegram that fills a burst
pub filler_known : (p : Params) (specs : List TapSpec) (trace : List Entry) (b : Burst) (x : Record) → initiates (arrival_of b.chars) ≡ true → IsBySource specs (Sent x) → Fills p.ttd b (Sent x)
    → Knows p specs trace x (record { source = source_of (arrival_of b.chars); offered = offered_by (arrival_of b.chars); end = b.end; touched = false })
filler_known p specs trace b x init by f = record {
  source = ap source_of f.2 ∙ by (ap initiates (sym f.2) ∙ init);
  offered = ap offered_by f.2;
  end = f.1;
  touched = λ t _. cc;
  another = λ to o same. another_by (telegram_of x) to o (same ∙ ap source_of f.2);
}

-- and once another burst has come that begins as something does
pub touched_known : (p : Params) (slack : ℕ) (specs : List TapSpec) (trace : List Entry) (l : LastHeard) (x : Record) (m : ℕ) → l.end ≤ m → Has (BeginsAt p.ttd m) trace → Knows p specs trace x l
    → Knows p specs trace x (record l { touched = l.touched || nat_lt (m + (2 * p.ttd + slack)) (l.end + p.tsl) })
touched_known p slack specs trace l x m late begins k = record {
  source = k.source;
  offered = k.offered;
  end = k.end;
  another = k.another;
  touched = λ t silent. by l.touched refl (nat_lt (m + (2 * p.ttd + slack)) (l.end + p.tsl)) refl t silent;
}
  where
    by : (a : Bool) → l.touched ≡ a → (c : Bool) → nat_lt (m + (2 * p.ttd + slack)) (l.end + p.tsl) ≡ c → (a || c) ≡ true → is_silent p.ttd x.tap trace x.end (x.end + p.tsl) ≡ true → ⊥
    by true e c f t silent = k.touched e silent
    by false e true f t silent =
        let z = ltb-true (m + (2 * p.ttd + slack)) (l.end + p.tsl) f in
        let w : true ≡ false = sym silent ∙ ap not (any_of (BeginsAt p.ttd m) (λ e. is_within x.end (x.end + p.tsl) (active_at p.ttd x.tap e)) trace
        (λ e h. touches p.ttd p.tsl trace x e m h.0 (let q = k.end in omega (arith, q, late)) (let q = k.end in omega (arith, q, z)) h.1) begins) in cc
    by false e false f t silent = absurd cc

-- ---- burst by burst

abbrev pub LinkedLast : Params → List TapSpec → (since : ℕ) → List Entry → ℕ → Option LastHeard → Type 0
LinkedLast p specs since trace q None = Unit {0}
LinkedLast p specs since trace q (Some l) = (since < l.end) × (l.end ≤ q) × Follows p.ttd q (λ w. Knows p specs trace w l) None trace

pub record Linked (p : Params) (specs : List TapSpec) (since : ℕ) (trace : List Entry) (j : State) : Type 0 where
  pub from : since ≤ j.quiet
  pub solid : EndsSolid p.ttd since trace j.quiet
  pub silences : Silences p p.ttd since trace j j.quiet
  pub last : LinkedLast p specs since trace j.quiet j.last

-- what a trace says of each entry about a burst
pub record Around (p : Params) (specs : List TapSpec) (since : ℕ) (trace : List Entry) (q : ℕ) (b : Burst) : Type 0 where
  pub order : IsOrderedFrom 0 trace
  pub late : q ≤ b.begin
  pub some : b.begin < b.end
  pub here : Has (Fills p.ttd b) trace
  pub facts : All (Facts specs p.ttd q b) trace

pub same_last : (p : Params) (slack : ℕ) (j : State) (begin : ℕ) → (silence_before p slack j begin).last ≡ j.last
same_last p slack j begin = by (is_kept p slack j begin)
  where
    by : (c : Bool) → (if c then record j { silent_from = silent_since p slack j begin; silent_to = begin } else j).last ≡ j.last
    by true = refl
    by false = refl

pub claim_for : (a : Arrival) (n : ℕ) (b : Bool) → (claims_for n a && b) ≡ true → (claims_for n a ≡ true) × (b ≡ true)
claim_for a n b h = by (claims_for n a) b h
  where
    by : (c d : Bool) → (c && d) ≡ true → (c ≡ true) × (d ≡ true)
    by true d e = (refl, e)
    by false d e = absurd cc

-- an initiator telegram raises no alarm
pub none_at : (p : Params) (slack : ℕ) (specs : List TapSpec) (since : ℕ) (trace : List Entry) (j : State) (b : Burst) → 2 * p.ttd < p.tsl → ((n : ℕ) → 6 * p.tsl ≤ tto p n) → Linked p specs since trace j → Around p specs since trace j.quiet b
    → initiates (arrival_of b.chars) ≡ true → first_illegal p specs trace ≡ None → judged_legal p slack since (silence_before p slack j b.begin) b.begin (initiator_of (arrival_of b.chars)) ≡ None
none_at p slack specs since trace j b short least linked around init legal = by j.last refl linked.last
  where
    a : Arrival
    a = arrival_of b.chars

    i : State
    i = silence_before p slack j b.begin

    silences : Silences p p.ttd since trace i b.begin
    silences = silences_before p slack p.ttd since trace j b.begin linked.from around.late linked.solid linked.silences

    good : (l : LastHeard) → j.last ≡ Some l → (w r : Record) → Knows p specs trace w l → Fills p.ttd b (Sent r) → IsBySource specs (Sent r) → is_initiator r ≡ true → is_legal_after p specs trace (Some w) r ≡ true
        → judged_legal p slack since i b.begin (initiator_of a) ≡ None
    good l is w r knows fill source initiator h =
        let from : source_of a ≡ address_at specs r.tap = ap source_of fill.2 ∙ source initiator in
        subst (λ m. judged_legal p slack since i m (initiator_of a) ≡ None) (sym fill.0)
        (legal_is_silent p slack specs trace since i w r l a (same_last p slack j b.begin ∙ is) knows from
        (λ c. let d = claim_for (telegram_of r) (address_at specs r.tap) (is_silent p.ttd r.tap trace (r.begin - tto p (address_at specs r.tap)) r.begin) c in
        claim_is_one p slack since trace i r.tap r.begin a short (least (source_of a)) around.order (subst (λ m. Silences p p.ttd since trace i m) fill.0 silences)
        (ap is_claim_like fill.2 ∙ claim_like (address_at specs r.tap) (telegram_of r) d.0)
        (subst (λ n. is_silent p.ttd r.tap trace (r.begin - tto p n) r.begin ≡ true) (sym from) d.1)) h)

    by : (o : Option LastHeard) → j.last ≡ o → LinkedLast p specs since trace j.quiet o → judged_legal p slack since i b.begin (initiator_of a) ≡ None
    by None is k = by_test (λ (z : Option Alarm). z ≡ None) (may_claim p slack since i b.begin (initiator_of a)) None (judged_last p slack i.last b.begin (initiator_of a)) (λ _. refl) (λ _. ap (λ o. judged_last p slack o b.begin (initiator_of a)) (same_last p slack j b.begin ∙ is))
    by (Some l) is k =
        judge_at (judged_legal p slack since i b.begin (initiator_of a) ≡ None) p specs trace j.quiet 0 0 b (λ w. Knows p specs trace w l) None trace (good l is) init around.late around.some tt around.order around.facts k.2 around.here legal

-- ---- what a burst leaves

pub facts_of : (specs : List TapSpec) (delay q : ℕ) (b : Burst) (es : List Entry) → AllClear delay q b.begin es → All (IsTold delay b) es → All (IsBySource specs) es → All (Facts specs delay q b) es
facts_of specs delay q b [] c t s = tt
facts_of specs delay q b (e ∷ es) c t s = ((c.0, t.0, s.0), facts_of specs delay q b es c.1 t.1 s.1)

knowing_of : (p : Params) (specs : List TapSpec) (trace : List Entry) (b : Burst) (es : List Entry) → initiates (arrival_of b.chars) ≡ true → All (IsBySource specs) es
    → All (Knowing p.ttd b (λ w. Knows p specs trace w (record { source = source_of (arrival_of b.chars); offered = offered_by (arrival_of b.chars); end = b.end; touched = false }))) es
knowing_of p specs trace b [] init s = tt
knowing_of p specs trace b (Noise span ∷ es) init s = (tt, knowing_of p specs trace b es init s.1)
knowing_of p specs trace b (Sent x ∷ es) init s = (λ f. filler_known p specs trace b x init s.0 f, knowing_of p specs trace b es init s.1)

pub spelled_by : (a : Arrival) → initiates a ≡ true → a ≡ NoTelegram → ⊥
spelled_by a init e = let z : true ≡ false = sym init ∙ ap initiates e in cc

pub spelled_some : (a : Arrival) → is_none a ≡ false → a ≡ NoTelegram → ⊥
spelled_some a none e = let z : false ≡ true = sym none ∙ ap is_none e in cc

pub last_left : (p : Params) (slack : ℕ) (specs : List TapSpec) (since : ℕ) (trace : List Entry) (j : State) (b : Burst) → IsOrderedFrom 0 trace → All (IsBySource specs) trace → Linked p specs since trace j → j.quiet ≤ b.begin → b.begin < b.end
    → AllClear p.ttd j.quiet b.begin trace → IsOf p.ttd since trace b → LinkedLast p specs since trace b.end (last_behind p slack j b (arrival_of b.chars))
last_left p slack specs since trace j b order sources linked late some clear is_of = by (initiates (arrival_of b.chars)) refl (is_none (arrival_of b.chars)) refl
  where
    by : (c : Bool) → initiates (arrival_of b.chars) ≡ c → (d : Bool) → is_none (arrival_of b.chars) ≡ d
        → LinkedLast p specs since trace b.end (if c then Some (record { source = source_of (arrival_of b.chars); offered = offered_by (arrival_of b.chars); end = b.end; touched = false }) else if d then None else touch p slack b.begin j.last)
    by true init d e =
        let told = is_of.told (spelled_by (arrival_of b.chars) init) in
        let from = linked.from in (
          omega (arith, from, late, some),
          omega arith,
          follows_it p.ttd 0 b (λ w. Knows p specs trace w (record { source = source_of (arrival_of b.chars); offered = offered_by (arrival_of b.chars); end = b.end; touched = false })) None trace
              (knowing_of p specs trace b trace init sources) init some order told.1 told.0,
        )
    by false init true e = tt
    by false init false e = on j.last linked.last
      where
        on : (o : Option LastHeard) → LinkedLast p specs since trace j.quiet o → LinkedLast p specs since trace b.end (touch p slack b.begin o)
        on None k = tt
        on (Some l) k =
            let told = is_of.told (spelled_some (arrival_of b.chars) e) in
            let heard = k.1 in
            let begins : Has (BeginsAt p.ttd b.begin) trace = ⊎_elim (λ (z : b.begin ≡ since). let y = k.0 in absurd (omega (arith, z, y, heard, late))) (λ (h : Has (BeginsAt p.ttd b.begin) trace). h) is_of.begins in (
              k.0,
              omega (arith, heard, late, some),
              follows_on specs p.ttd j.quiet 0 b (λ w. Knows p specs trace w l)
                  (λ w. Knows p specs trace w (record l { touched = l.touched || nat_lt (b.begin + (2 * p.ttd + slack)) (l.end + p.tsl) })) None trace
                  (λ w known. touched_known p slack specs trace l w b.begin (omega (arith, heard, late)) begins known) init late some tt order (facts_of specs p.ttd j.quiet b trace clear told.1 sources) k.2,
            )

-- ---- all bursts

legal_of : (p : Params) (slack : ℕ) (specs : List TapSpec) (since : ℕ) (trace : List Entry) (j : State) (bs : List Burst) → 2 * p.ttd < p.tsl → ((n : ℕ) → 6 * p.tsl ≤ tto p n) → IsOrderedFrom 0 trace → All (IsBySource specs) trace
    → first_illegal p specs trace ≡ None → Linked p specs since trace j → HearsFrom p.ttd since trace j.quiet bs → AllLegal p slack since j bs
legal_of p slack specs since trace j [] short least order sources legal linked heard = tt
legal_of p slack specs since trace j (b ∷ bs) short least order sources legal linked heard =
    let is_of = heard.3 in (
      by (initiates (arrival_of b.chars)) refl,
      legal_of p slack specs since trace (behind p slack j b) bs short least order sources legal (record {
        from = let f = linked.from in let l = heard.0 in let s = heard.1 in omega (arith, f, l, s);
        solid = burst_ends_solid p.ttd since trace b heard.1 is_of.solid;
        silences = silences_behind p slack p.ttd since trace j b linked.from heard.0 heard.1 linked.solid is_of.solid linked.silences;
        last = last_left p slack specs since trace j b order sources linked heard.0 heard.1 heard.2 is_of;
      }) heard.4,
    )
  where
    by : (d : Bool) → initiates (arrival_of b.chars) ≡ d → (if d then judged_legal p slack since (silence_before p slack j b.begin) b.begin (initiator_of (arrival_of b.chars)) else None) ≡ None
    by true init =
        let told = heard.3.told (spelled_by (arrival_of b.chars) init) in
        none_at p slack specs since trace j b short least linked (record { order = order; late = heard.0; some = heard.1; here = told.0; facts = facts_of specs p.ttd j.quiet b trace heard.2 told.1 sources }) init legal
    by false init = refl

pub least_timeout : (p : Params) (n : ℕ) → 6 * p.tsl ≤ tto p n
least_timeout p n = omega arith

pub all_legal : (p : Params) (slack : ℕ) (specs : List TapSpec) (since : ℕ) (trace : List Entry) (bs : List Burst) → 2 * p.ttd < p.tsl → IsOrderedFrom 0 trace → All (IsBySource specs) trace
    → first_illegal p specs trace ≡ None → HearsFrom p.ttd since trace since bs → AllLegal p slack since (listening since) bs
all_legal p slack specs since trace bs short order sources legal heard =
    legal_of p slack specs since trace (listening since) bs short (least_timeout p) order sources legal (record {
      from = omega arith;
      solid = start_is_solid p.ttd since trace;
      silences = nothing_yet p p.ttd since trace;
      last = tt;
    }) heard

-- whatever classes are chosen
none_of_legality : (p : Params) (slack : ℕ) (c : Classes) (since : ℕ) (j : State) (bs : List Burst) → AllLegal p slack since j bs → All (λ x. IsNotOfLegality x.1) (alarms p slack c since j bs)
none_of_legality p slack c since j [] legal = tt
none_of_legality p slack c since j (b ∷ bs) (here, rest) =
    with_good b.begin (alarm_of p slack c since j b) (alarms p slack c since (behind p slack j b) bs) (not_of_legality p slack c since j b here)
    (none_of_legality p slack c since (behind p slack j b) bs rest)

pub all_of : (p : Params) (slack : ℕ) (c : Classes) (specs : List TapSpec) (since : ℕ) (trace : List Entry) (j : State) (bs : List Burst) → 2 * p.ttd < p.tsl → ((n : ℕ) → 6 * p.tsl ≤ tto p n) → IsOrderedFrom 0 trace → All (IsBySource specs) trace
    → first_illegal p specs trace ≡ None → Linked p specs since trace j → HearsFrom p.ttd since trace j.quiet bs → All (λ x. IsNotOfLegality x.1) (alarms p slack c since j bs)
all_of p slack c specs since trace j bs short least order sources legal linked heard =
    none_of_legality p slack c since j bs (legal_of p slack specs since trace j bs short least order sources legal linked heard)

pub legal_raises_none : (p : Params) (slack : ℕ) (c : Classes) (specs : List TapSpec) (since : ℕ) (trace : List Entry) (bs : List Burst) → 2 * p.ttd < p.tsl → IsOrderedFrom 0 trace → All (IsBySource specs) trace
    → first_illegal p specs trace ≡ None → HearsFrom p.ttd since trace since bs → All (λ x. IsNotOfLegality x.1) (alarms p slack c since (listening since) bs)
legal_raises_none p slack c specs since trace bs short order sources legal heard =
    none_of_legality p slack c since (listening since) bs (all_legal p slack specs since trace bs short order sources legal heard)
