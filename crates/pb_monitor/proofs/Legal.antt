-- A telegram that is legal after the last initiator telegram raises no alarm.
use Rattle.std.proofs.Common.{◌≡◌, ℕ, ◌+◌, ◌≤◌, ◌⊎◌, inl, inr, ⊎_elim, Bool, true, false, if◌then◌else◌, not, ◌==◌, ◌&&◌, ◌||◌, List, refl, sym, ap, ◌∙◌, subst, arith, Option, Some, None}
use Rattle.std.specs.Prelude.{slice_get, nat_lt, nat_le}
use Rattle.std.proofs.lemmas.Bool.{eqb-true, eq-eqb, lt-ltb, le-ltb, leb-true, ltb-true}
use Rattle.pb_timers.specs.Timers.{Params}
use Rattle.law_turn.specs.Arrivals.{Arrival}
use Rattle.law_model.specs.Trace.{Record, Entry}
use Rattle.law_model.specs.Medium.{TapSpec}
use Rattle.law_model.proofs.Cases.{by_test}
use Rattle.law_runs.specs.Activity.{is_silent}
use Rattle.law_runs.specs.Initiators.{offered_to}
use Rattle.law_runs.specs.Legality.{is_whole, address_at, is_claim, follows_by, is_legal_after}
use Rattle.pb_monitor.specs.declared.alarms.Alarm.{Alarm}
use Rattle.pb_monitor.specs.declared.alarms.Alarm.TheVariants.{SpokeWithoutToken, SpokeOutOfTurn, TookAfterSlot, PassedAgainTooEarly, PassedAgainThoughHeard}
use Rattle.pb_monitor.specs.declared.states.LastHeard.{LastHeard}
use Rattle.pb_monitor.specs.declared.states.State.{State}
use Rattle.pb_monitor.specs.Meanings.{source_of, is_claim_like, initiator_of}
use Rattle.pb_monitor.specs.Judge.{may_claim, or_alarm, or_claim, judged_passing, judged_offer, judged_last, judged_legal}

-- what a listener knows of the last initiator telegram of a trace
pub record Knows (p : Params) (specs : List TapSpec) (trace : List Entry) (x : Record) (l : LastHeard) : Type 0 where
  pub source : l.source ≡ address_at specs x.tap
  pub offered : l.offered ≡ offered_to x
  pub end : l.end ≡ x.end + p.ttd
  pub touched : l.touched ≡ true → is_silent p.ttd x.tap trace x.end (x.end + p.tsl) ≡ true → ⊥
  pub another : (to : ℕ) → offered_to x ≡ Some to → to ≡ l.source → ⊥

left : (a b : Bool) → (a && b) ≡ true → a ≡ true
left true b e = refl
left false b e = absurd cc

right : (a b : Bool) → (a && b) ≡ true → b ≡ true
right true b e = e
right false b e = absurd cc

pub either : (a b : Bool) → (a || b) ≡ true → (a ≡ true) ⊎ (b ≡ true)
either true b e = inl refl
either false b e = inr e

pub untouched : (b : Bool) → (b ≡ true → ⊥) → or_alarm (not b) PassedAgainThoughHeard ≡ None
untouched true h = absurd (h refl)
untouched false h = refl

-- the same station goes on
passing : (p : Params) (slack : ℕ) (specs : List TapSpec) (trace : List Entry) (x r : Record) (l : LastHeard) → Knows p specs trace x l → x.end + p.tsl ≤ r.begin → is_silent p.ttd x.tap trace x.end (x.end + p.tsl) ≡ true
    → judged_passing p slack l (r.begin + p.ttd) ≡ None
passing p slack specs trace x r l k late silent =
    ap (λ b. if b then Some PassedAgainTooEarly else or_alarm (not l.touched) PassedAgainThoughHeard) (le-ltb (r.begin + p.ttd + slack) (l.end + p.tsl) (let e = k.end in omega (arith, e, late)))
    ∙ untouched l.touched (λ t. k.touched t silent)

by_offer : (p : Params) (slack : ℕ) (specs : List TapSpec) (trace : List Entry) (x r : Record) (l : LastHeard) (a : Arrival) (o : Option ℕ) → Knows p specs trace x l → source_of a ≡ address_at specs r.tap → offered_to x ≡ o
    → follows_by p specs trace x o r ≡ true → judged_offer p slack l o (r.begin + p.ttd) (initiator_of a) ≡ None
by_offer p slack specs trace x r l a None k from offers h =
    ap (λ b. if b then None else or_claim (is_claim_like a) SpokeWithoutToken) (eq-eqb (source_of a) l.source (from ∙ ap (λ n. address_at specs n) (sym (eqb-true x.tap r.tap h)) ∙ sym k.source))
by_offer p slack specs trace x r l a (Some to) k from offers h = by (x.tap == r.tap) refl h
  where
    otherwise : Option Alarm
    otherwise = if source_of a == to then (if nat_lt (r.begin + p.ttd) (l.end + (p.tsl + p.ttd + slack)) then None else or_claim (is_claim_like a) TookAfterSlot) else or_claim (is_claim_like a) SpokeOutOfTurn

    by : (b : Bool) → (x.tap == r.tap) ≡ b
        → (if b then nat_le (x.end + p.tsl) r.begin && is_silent p.ttd r.tap trace x.end (x.end + p.tsl) else (to == address_at specs r.tap && is_whole (slice_get x.heard r.tap) && nat_lt r.begin (x.end + p.tsl))) ≡ true
        → judged_offer p slack l (Some to) (r.begin + p.ttd) (initiator_of a) ≡ None
    by true same h =
        let tap : x.tap ≡ r.tap = eqb-true x.tap r.tap same in
        ap (λ b. if b then judged_passing p slack l (r.begin + p.ttd) else otherwise) (eq-eqb (source_of a) l.source (from ∙ ap (λ n. address_at specs n) (sym tap) ∙ sym k.source))
        ∙ passing p slack specs trace x r l k (leb-true (x.end + p.tsl) r.begin (left (nat_le (x.end + p.tsl) r.begin) (is_silent p.ttd r.tap trace x.end (x.end + p.tsl)) h))
        (subst (λ n. is_silent p.ttd n trace x.end (x.end + p.tsl) ≡ true) (sym tap) (right (nat_le (x.end + p.tsl) r.begin) (is_silent p.ttd r.tap trace x.end (x.end + p.tsl)) h))
    by false other h =
        let u = left (to == address_at specs r.tap && is_whole (slice_get x.heard r.tap)) (nat_lt r.begin (x.end + p.tsl)) h in
        let v = right (to == address_at specs r.tap && is_whole (slice_get x.heard r.tap)) (nat_lt r.begin (x.end + p.tsl)) h in
        let here : to ≡ address_at specs r.tap = eqb-true to (address_at specs r.tap) (left (to == address_at specs r.tap) (is_whole (slice_get x.heard r.tap)) u) in
        let soon = ltb-true r.begin (x.end + p.tsl) v in
        by_test (λ (z : Option Alarm). z ≡ None) (source_of a == l.source) (judged_passing p slack l (r.begin + p.ttd)) otherwise
        (λ e. absurd (k.another to offers (here ∙ sym from ∙ eqb-true (source_of a) l.source e)))
        (λ _. ap (λ b. if b then (if nat_lt (r.begin + p.ttd) (l.end + (p.tsl + p.ttd + slack)) then None else or_claim (is_claim_like a) TookAfterSlot) else or_claim (is_claim_like a) SpokeOutOfTurn) (eq-eqb (source_of a) to (from ∙ sym here))
        ∙ ap (λ b. if b then None else or_claim (is_claim_like a) TookAfterSlot) (lt-ltb (r.begin + p.ttd) (l.end + (p.tsl + p.ttd + slack)) (let e = k.end in omega (arith, e, soon))))

-- A legal telegram after the last one that the listener knows raises no alarm, where a claim in the trace is one for the listener.
pub legal_is_silent : (p : Params) (slack : ℕ) (specs : List TapSpec) (trace : List Entry) (since : ℕ) (j : State) (x r : Record) (l : LastHeard) (a : Arrival) → j.last ≡ Some l → Knows p specs trace x l
    → source_of a ≡ address_at specs r.tap → (is_claim p specs trace r ≡ true → may_claim p slack since j (r.begin + p.ttd) (initiator_of a) ≡ true)
    → is_legal_after p specs trace (Some x) r ≡ true → judged_legal p slack since j (r.begin + p.ttd) (initiator_of a) ≡ None
legal_is_silent p slack specs trace since j x r l a is k from claims legal =
    by_test (λ (z : Option Alarm). z ≡ None) (may_claim p slack since j (r.begin + p.ttd) (initiator_of a)) None (judged_last p slack j.last (r.begin + p.ttd) (initiator_of a)) (λ _. refl)
    (λ unfit. ap (λ o. judged_last p slack o (r.begin + p.ttd) (initiator_of a)) is ∙ ap (λ o. judged_offer p slack l o (r.begin + p.ttd) (initiator_of a)) k.offered
    ∙ by_offer p slack specs trace x r l a (offered_to x) k from refl (follows unfit))
  where
    both : (follows_by p specs trace x (offered_to x) r || is_claim p specs trace r) ≡ true
    both = right (nat_le x.end r.begin) (follows_by p specs trace x (offered_to x) r || is_claim p specs trace r) legal

    follows : may_claim p slack since j (r.begin + p.ttd) (initiator_of a) ≡ false → follows_by p specs trace x (offered_to x) r ≡ true
    follows unfit = ⊎_elim (λ (f : follows_by p specs trace x (offered_to x) r ≡ true). f)
        (λ (c : is_claim p specs trace r ≡ true). absurd (let w : true ≡ false = sym (claims c) ∙ unfit in cc))
        (either (follows_by p specs trace x (offered_to x) r) (is_claim p specs trace r) both)
