-- Where no telegram is illegal, none is wrong by order alone: the order knows of the last telegram what the judge knows.
use Rattle.std.proofs.Common.{◌≡◌, ℕ, ◌+◌, Bool, true, false, if◌then◌else◌, ◌==◌, ◌&&◌, ◌||◌, List, [], ◌∷◌, map, refl, sym, ap, ◌∙◌, Option, Some, None}
use Rattle.std.specs.Prelude.{nat_lt, nat_le}
use Rattle.pb_timers.specs.Timers.{Params}
use Rattle.law_turn.specs.Arrivals.{arrival_of}
use Rattle.law_runs.specs.Initiators.{initiates}
use Rattle.pb_monitor.specs.declared.alarms.Alarm.TheVariants.{SpokeWithoutToken, SpokeOutOfTurn, TookAfterSlot}
use Rattle.pb_monitor.specs.declared.meanings.InitiatorTelegram.{InitiatorTelegram}
use Rattle.pb_monitor.specs.declared.meanings.Meaning.TheVariants as meaning
use Rattle.pb_monitor.specs.declared.orders.Wrong.{Wrong}
use Rattle.pb_monitor.specs.declared.states.LastHeard.{LastHeard}
use Rattle.pb_monitor.specs.declared.states.State.{State}
use Rattle.pb_monitor.specs.Captures.{Burst}
use Rattle.pb_monitor.specs.Meanings.{is_none, initiator_of, meaning_of}
use Rattle.pb_monitor.specs.Judge.{behind, heard_at, judged_last, judged_offer, judged_passing, legal_alarm_of, may_be_its, may_claim, or_claim, silence_before, touch}
use Rattle.pb_monitor.specs.Orders.{alarm_after, alarm_of_another, last_in, with_wrong, wrong_by, wrong_in, wrongs}
use Rattle.pb_monitor.proofs.Chosen.{AllLegal}
use Rattle.pb_monitor.proofs.NoneRaised.{same_last}

-- the last telegrams say the same of the token
abbrev IsLast : Option LastHeard → Option InitiatorTelegram → Type 0
IsLast None None = Unit {0}
IsLast None (Some t) = ⊥
IsLast (Some l) None = ⊥
IsLast (Some l) (Some t) = (l.source ≡ t.source) × (l.offered ≡ t.offered)

touched_is : (p : Params) (slack begin : ℕ) (l : Option LastHeard) (o : Option InitiatorTelegram) → IsLast l o → IsLast (touch p slack begin l) o
touched_is p slack begin None None same = tt
touched_is p slack begin None (Some t) same = absurd same
touched_is p slack begin (Some l) None same = absurd same
touched_is p slack begin (Some l) (Some t) same = same

-- after one more burst
last_is : (p : Params) (slack : ℕ) (j : State) (b : Burst) (o : Option InitiatorTelegram) → IsLast j.last o → IsLast (behind p slack j b).last (last_in o (meaning_of (arrival_of b.chars)))
last_is p slack j b o same = by (initiates (arrival_of b.chars)) (is_none (arrival_of b.chars))
  where
    by : (c d : Bool)
        → IsLast (if c then Some (heard_at b.end (initiator_of (arrival_of b.chars))) else if d then None else touch p slack b.begin j.last)
        (last_in o (if c then meaning.Initiator (initiator_of (arrival_of b.chars)) else if d then meaning.NoTelegram else meaning.Reply))
    by true d = (refl, refl)
    by false true = tt
    by false false = touched_is p slack b.begin j.last o same

-- ---- one telegram

offer_right : (p : Params) (slack : ℕ) (l : LastHeard) (offered : Option ℕ) (begin : ℕ) (t : InitiatorTelegram) → (t.source == l.source) ≡ false → t.is_claim ≡ false
    → judged_offer p slack l offered begin t ≡ None → alarm_of_another offered t ≡ None
offer_right p slack l None begin t other claim legal =
    let z : (if t.source == l.source then None else or_claim t.is_claim SpokeWithoutToken) ≡ None = legal in
    let w : or_claim t.is_claim SpokeWithoutToken ≡ None = sym (ap (λ (b : Bool). if b then None else or_claim t.is_claim SpokeWithoutToken) other) ∙ z in
    absurd cc
offer_right p slack l (Some to) begin t other claim legal =
    by (t.source == to) (sym (ap (λ (b : Bool). if b then judged_passing p slack l begin
    else if t.source == to then (if nat_lt begin (l.end + (p.tsl + p.ttd + slack)) then None else or_claim t.is_claim TookAfterSlot)
    else or_claim t.is_claim SpokeOutOfTurn) other) ∙ legal)
  where
    by : (b : Bool) → (if b then (if nat_lt begin (l.end + (p.tsl + p.ttd + slack)) then None else or_claim t.is_claim TookAfterSlot) else or_claim t.is_claim SpokeOutOfTurn) ≡ None
        → (if b then None else Some SpokeOutOfTurn) ≡ None
    by true i = refl
    by false i = absurd cc

last_right : (p : Params) (slack : ℕ) (l : Option LastHeard) (o : Option InitiatorTelegram) (begin : ℕ) (t : InitiatorTelegram) → IsLast l o → t.is_claim ≡ false
    → judged_last p slack l begin t ≡ None → alarm_after o t ≡ None
last_right p slack None None begin t same claim legal = refl
last_right p slack None (Some last) begin t same claim legal = absurd same
last_right p slack (Some l) None begin t same claim legal = absurd same
last_right p slack (Some l) (Some last) begin t (source, offered) claim legal = by (t.source == last.source) refl
  where
    by : (b : Bool) → (t.source == last.source) ≡ b → (if t.is_claim || b then None else alarm_of_another last.offered t) ≡ None
    by true e = ap (λ (b : Bool). if b || true then None else alarm_of_another last.offered t) claim
    by false e =
        ap (λ (b : Bool). if b || false then None else alarm_of_another last.offered t) claim
        ∙ ap (λ (x : Option ℕ). alarm_of_another x t) (sym offered)
        ∙ offer_right p slack l l.offered begin t (ap (λ (n : ℕ). t.source == n) source ∙ e) claim legal

-- a claim is never wrong
claim_right : (o : Option InitiatorTelegram) (t : InitiatorTelegram) → t.is_claim ≡ true → alarm_after o t ≡ None
claim_right None t claim = refl
claim_right (Some last) t claim = ap (λ (b : Bool). if b || t.source == last.source then None else alarm_of_another last.offered t) claim

telegram_right : (p : Params) (slack since : ℕ) (j : State) (begin : ℕ) (t : InitiatorTelegram) (o : Option InitiatorTelegram) → IsLast j.last o
    → (if may_claim p slack since (silence_before p slack j begin) begin t then None else judged_last p slack (silence_before p slack j begin).last begin t) ≡ None
    → alarm_after o t ≡ None
telegram_right p slack since j begin t o same legal = by t.is_claim refl
  where
    by : (c : Bool) → t.is_claim ≡ c → alarm_after o t ≡ None
    by true claim = claim_right o t claim
    by false claim =
        let s = silence_before p slack j begin in
        let off : may_claim p slack since s begin t ≡ false =
        ap (λ (b : Bool). b && (nat_le begin (s.silent_to + (p.ttd + slack)) && may_be_its p slack since s begin t)) claim in
        last_right p slack j.last o begin t same claim
        (ap (λ (l : Option LastHeard). judged_last p slack l begin t) (sym (same_last p slack j begin))
        ∙ sym (ap (λ (b : Bool). if b then None else judged_last p slack s.last begin t) off) ∙ legal)

none_wrong : (p : Params) (slack since : ℕ) (j : State) (b : Burst) (o : Option InitiatorTelegram) → IsLast j.last o → legal_alarm_of p slack since j b ≡ None
    → wrong_in o (meaning_of (arrival_of b.chars)) ≡ None
none_wrong p slack since j b o same legal = by (initiates (arrival_of b.chars)) (is_none (arrival_of b.chars)) legal
  where
    by : (c d : Bool)
        → (if c then (if may_claim p slack since (silence_before p slack j b.begin) b.begin (initiator_of (arrival_of b.chars)) then None
        else judged_last p slack (silence_before p slack j b.begin).last b.begin (initiator_of (arrival_of b.chars))) else None) ≡ None
        → wrong_in o (if c then meaning.Initiator (initiator_of (arrival_of b.chars)) else if d then meaning.NoTelegram else meaning.Reply) ≡ None
    by true d i = ap (wrong_by (initiator_of (arrival_of b.chars))) (telegram_right p slack since j b.begin (initiator_of (arrival_of b.chars)) o same i)
    by false true i = refl
    by false false i = refl

-- ---- all of them

pub in_order : (p : Params) (slack since : ℕ) (j : State) (o : Option InitiatorTelegram) (bs : List Burst) → IsLast j.last o → AllLegal p slack since j bs
    → wrongs o (map (λ b. meaning_of (arrival_of b.chars)) bs) ≡ []
in_order p slack since j o [] same legal = refl
in_order p slack since j o (b ∷ bs) same (here, rest) =
    let m = meaning_of (arrival_of b.chars) in
    ap (λ (w : Option Wrong). with_wrong w (wrongs (last_in o m) (map (λ c. meaning_of (arrival_of c.chars)) bs))) (none_wrong p slack since j b o same here)
    ∙ in_order p slack since (behind p slack j b) (last_in o m) bs (last_is p slack j b o same) rest
