-- What a pass leaves of a tap of an undisturbed ring.
use Rattle.std.proofs.Common.{◌≡◌, ℕ, ◌+◌, ◌<◌, ◌≤◌, ◌⊎◌, inl, inr, ⊎_elim, Bool, true, false, if◌then◌else◌, List, refl, sym, ap, ◌∙◌, subst, arith, Option, Some, None}
use Rattle.std.specs.Prelude.{max, nat_lt, IfSome}
use Rattle.std.specs.Option.{option_or}
use Rattle.std.proofs.lemmas.Bool.{le-ltb}
use Rattle.pb_timers.specs.Timers.{Params}
use Rattle.pb_ring.specs.AddressSets.{IsAscending}
use Rattle.pb_cycles.specs.Fields.{Fields}
use Rattle.law_turn.specs.Spans.{Span}
use Rattle.law_turn.specs.Arrivals.{Arrival, Token, Framed, Acknowledgement, NoTelegram}
use Rattle.law_turn.specs.Phases.{Phase, Offline, PassiveIdle, Listening, Idle, Claim, Use, AwaitData, AwaitStatus, Pass, Checking, may_initiate}
use Rattle.law_turn.specs.Stations.{Station, Reply}
use Rattle.law_turn.specs.Hearing.{begun, ended, phase_ended, phase_begun, reply_begun, answer_to, passive_hears}
use Rattle.law_turn.specs.Laws.{WaitsInPlace}
use Rattle.law_model.specs.Trace.{Record, Entry}
use Rattle.law_model.specs.Medium.{Tap}
use Rattle.law_model.specs.World.{World}
use Rattle.law_model.proofs.Cases.{by_test}
use Rattle.law_runs.specs.Initiators.{is_initiator, initiates}
use Rattle.law_token.specs.Places.{Place}
use Rattle.law_token.specs.Tokens.{Held}
use Rattle.law_token.specs.Views.{ViewOf, view, IsOn}
use Rattle.law_rings.specs.Ring.{Call, IsUndisturbed, TakesPart, IsMember, HasAskedFor, TellsNotReady, RingTap, is_question, brought_by}
use Rattle.law_rings.proofs.HearInRing.{EndsAs, Takes, Stays, Makes, GoesOn, IsHearing, MayEnd, IsAnswer, answers, passive_ends, ring_ends}
use Rattle.law_rings.proofs.Reaching.{Undisturbed, by_caller}
use Rattle.law_rings.proofs.Beginning.{MayBegin}
use Rattle.law_rings.proofs.Whole.{ArrivesAs, ComesNothing, ComesAs}
use Rattle.law_rings.proofs.NoTest.{no_}

-- ---- a begin

-- what a phase becomes by a begin
pub record BegunAs (ph ph' : Phase) : Type 0 where
  pub undisturbed : IsUndisturbed ph'
  pub passive : ph' ≡ PassiveIdle → ph ≡ PassiveIdle
  pub back : TakesPart ph' → TakesPart ph
  pub forth : TakesPart ph → TakesPart ph'
  pub asked : (q : Bool) → HasAskedFor ph q → HasAskedFor ph' q
  pub initiates : may_initiate ph ≡ true → may_initiate ph' ≡ true
  pub initiated : may_initiate ph' ≡ true → may_initiate ph ≡ true
  pub hears : IsOn ph → IsHearing ph' ⊎ (ph' ≡ PassiveIdle)

-- by its phase
pub begun_as : (p : Params) (s : Station) (ph : Phase) (m : ℕ) → MayBegin p s ph m → BegunAs ph (phase_begun ph s.own.begin m)
begun_as p s Offline m may = record { undisturbed = tt; passive = λ e. absurd cc; back = λ x. x; forth = λ x. x; asked = λ q h. tt; initiates = λ e. e; initiated = λ e. e; hears = λ on. absurd on }
begun_as p s PassiveIdle m may = record { undisturbed = tt; passive = λ e. refl; back = λ x. x; forth = λ x. x; asked = λ q h. tt; initiates = λ e. e; initiated = λ e. e; hears = λ on. inr refl }
begun_as p s (Listening doubled) m may = absurd may
begun_as p s (Idle refused) m may = record { undisturbed = tt; passive = λ e. absurd cc; back = λ x. x; forth = λ x. x; asked = λ q h. tt; initiates = λ e. e; initiated = λ e. e; hears = λ on. inl tt }
begun_as p s (Claim sent ready) m may = absurd may
begun_as p s (Use asked ready) m may = absurd may
begun_as p s (AwaitData asked retry slot) m may = record { undisturbed = tt; passive = λ e. absurd cc; back = λ x. x; forth = λ x. x; asked = λ q h. tt; initiates = λ e. e; initiated = λ e. e; hears = λ on. inl tt }
begun_as p s (AwaitStatus of slot) m may = record { undisturbed = tt; passive = λ e. absurd cc; back = λ x. x; forth = λ x. x; asked = λ q h. h; initiates = λ e. e; initiated = λ e. e; hears = λ on. inl tt }
begun_as p s (Pass tries ready) m may = absurd may
begun_as p s (Checking tries) m may =
    subst (λ b. BegunAs (Checking tries) (if b then Checking tries else Idle None)) (sym (le-ltb m s.own.begin may.1))
    (record { undisturbed = tt; passive = λ e. absurd cc; back = λ x. tt; forth = λ x. tt; asked = λ q h. tt; initiates = λ e. no_ e; initiated = λ e. no_ e; hears = λ on. inl tt })

-- one that waits for a status after a begin did so before
pub status_before : (ph : Phase) (own m of : ℕ) (slot : Bool) → phase_begun ph own m ≡ AwaitStatus of slot → (q : Bool) → HasAskedFor ph q → q ≡ true
status_before Offline own m of slot e q h = absurd cc
status_before PassiveIdle own m of slot e q h = absurd cc
status_before (Listening doubled) own m of slot e q h = absurd cc
status_before (Idle refused) own m of slot e q h = absurd cc
status_before (Claim sent ready) own m of slot e q h = absurd cc
status_before (Use asked ready) own m of slot e q h = absurd cc
status_before (AwaitData asked retry slot') own m of slot e q h = absurd cc
status_before (AwaitStatus of' slot') own m of slot e q h = h
status_before (Pass tries ready) own m of slot e q h = absurd cc
status_before (Checking tries) own m of slot e q h = by_test (λ ph. ph ≡ AwaitStatus of slot → q ≡ true) (nat_lt m own) (Checking tries) (Idle None) (λ _ e. absurd cc) (λ _ e. absurd cc) e

-- a phase that says of itself that it has asked
pub status_asked : (ph : Phase) (of : ℕ) (slot : Bool) → ph ≡ AwaitStatus of slot → (q : Bool) → HasAskedFor ph q → q ≡ true
status_asked ph of slot e q h = subst (λ z. HasAskedFor z q) e h

-- a begin leaves no reply
pub no_reply_begun : (ph : Phase) (reply : Option Reply) → WaitsInPlace ph reply → IsOn ph → reply_begun ph reply ≡ None
no_reply_begun Offline reply w on = absurd on
no_reply_begun PassiveIdle reply w on = refl
no_reply_begun (Listening doubled) reply w on = refl
no_reply_begun (Idle refused) reply w on = refl
no_reply_begun (Claim sent ready) reply w on = w
no_reply_begun (Use asked ready) reply w on = w
no_reply_begun (AwaitData asked retry slot) reply w on = w
no_reply_begun (AwaitStatus of slot) reply w on = w
no_reply_begun (Pass tries ready) reply w on = w
no_reply_begun (Checking tries) reply w on = w

-- ---- a busy station

-- it keeps no reply, and hears
pub busy_reply : (c : Place) (trace : List Entry) (last : Option Record) (ph : Phase) (quiet : ℕ) (own : Span) (reply : Option Reply) → ViewOf c trace last ph true quiet own reply → WaitsInPlace ph reply → reply ≡ None
busy_reply c trace last Offline quiet own reply v w = w
busy_reply c trace last PassiveIdle quiet own reply v w = v
busy_reply c trace last (Listening doubled) quiet own reply v w = v
busy_reply c trace last (Idle refused) quiet own reply v w = v
busy_reply c trace last (Claim sent ready) quiet own reply v w = w
busy_reply c trace last (Use asked ready) quiet own reply v w = w
busy_reply c trace last (AwaitData asked retry slot) quiet own reply v w = w
busy_reply c trace last (AwaitStatus of slot) quiet own reply v w = w
busy_reply c trace last (Pass tries ready) quiet own reply v w = w
busy_reply c trace last (Checking tries) quiet own reply v w = w

-- by its view
pub busy_hears : (c : Place) (trace : List Entry) (last : Option Record) (ph : Phase) (quiet : ℕ) (own : Span) (reply : Option Reply) → ViewOf c trace last ph true quiet own reply → IsUndisturbed ph → IsOn ph → IsHearing ph ⊎ (ph ≡ PassiveIdle)
busy_hears c trace last Offline quiet own reply v u on = absurd on
busy_hears c trace last PassiveIdle quiet own reply v u on = inr refl
busy_hears c trace last (Listening doubled) quiet own reply v u on = absurd u
busy_hears c trace last (Idle refused) quiet own reply v u on = inl tt
busy_hears c trace last (Claim sent ready) quiet own reply v u on = absurd u
busy_hears c trace last (Use asked ready) quiet own reply v u on = no_ (sym v.0)
busy_hears c trace last (AwaitData asked retry slot) quiet own reply v u on = inl tt
busy_hears c trace last (AwaitStatus of slot) quiet own reply v u on = inl tt
busy_hears c trace last (Pass tries ready) quiet own reply v u on = absurd u
busy_hears c trace last (Checking tries) quiet own reply v u on = no_ (sym v.0)

-- a holder that hears holds the token by its own call
pub held_hears : (c : Place) (trace : List Entry) (last : Option Record) (ph : Phase) (b : Bool) (quiet : ℕ) (own : Span) (reply : Option Reply) → ViewOf c trace last ph b quiet own reply → IsHearing ph → may_initiate ph ≡ true → Held last c.tap own
held_hears c trace last (AwaitData asked retry slot) b quiet own reply v h i = v.1
held_hears c trace last (AwaitStatus of slot) b quiet own reply v h i = v.1
held_hears c trace last Offline b quiet own reply v h i = absurd h
held_hears c trace last PassiveIdle b quiet own reply v h i = absurd h
held_hears c trace last (Listening doubled) b quiet own reply v h i = absurd h
held_hears c trace last (Idle refused) b quiet own reply v h i = no_ i
held_hears c trace last (Claim sent ready) b quiet own reply v h i = absurd h
held_hears c trace last (Use asked ready) b quiet own reply v h i = absurd h
held_hears c trace last (Pass tries ready) b quiet own reply v h i = absurd h
held_hears c trace last (Checking tries) b quiet own reply v h i = absurd h

-- it has called
pub held_begun : (p : Params) (s : Station) (c : Place) (trace : List Entry) (last : Option Record) (ph : Phase) (m : ℕ) (b : Bool) (quiet : ℕ) (own : Span) (reply : Option Reply) → MayBegin p s ph m → ViewOf c trace last ph b quiet own reply
    → may_initiate ph ≡ true → Held last c.tap own
held_begun p s c trace last (AwaitData asked retry slot) m b quiet own reply may v i = v.1
held_begun p s c trace last (AwaitStatus of slot) m b quiet own reply may v i = v.1
held_begun p s c trace last Offline m b quiet own reply may v i = no_ i
held_begun p s c trace last PassiveIdle m b quiet own reply may v i = no_ i
held_begun p s c trace last (Listening doubled) m b quiet own reply may v i = absurd may
held_begun p s c trace last (Idle refused) m b quiet own reply may v i = no_ i
held_begun p s c trace last (Claim sent ready) m b quiet own reply may v i = absurd may
held_begun p s c trace last (Use asked ready) m b quiet own reply may v i = absurd may
held_begun p s c trace last (Pass tries ready) m b quiet own reply may v i = absurd may
held_begun p s c trace last (Checking tries) m b quiet own reply may v i = no_ i

-- ---- what may end

-- by what comes
pub may_end : (w : World) (base : ℕ) (members : List ℕ) (u : Undisturbed w base members) (k to : ℕ) (ph : Phase) (a : Arrival) → w.now < to → (may_initiate ph ≡ true → u.ring.call.tap ≡ k)
    → ((of : ℕ) (slot : Bool) → ph ≡ AwaitStatus of slot → (may_initiate ph ≡ true) × (base ≤ u.ring.call.begin → is_question (brought_by u.ring.call.octets) ≡ true)) → ArrivesAs w base members u k to a → MayEnd members ph a
may_end w base members u k to ph a later mine status (ComesNothing e) = record {
  token = λ da sa f. absurd (let wrong : NoTelegram ≡ Token da sa = sym e ∙ f in cc);
  reply = λ i. ap initiates e;
  status = λ of slot q. subst TellsNotReady (sym e) tt;
}
may_end w base members u k to ph a later mine status (ComesAs x h ends another way e) = record {
  token = λ da sa f. way.passes da sa (sym e ∙ f);
  reply = λ i. ap initiates e ∙ not_init (mine i);
  status = λ of slot q. let s = status of slot q in let n = way.answers (not_init (mine s.0)) in subst TellsNotReady (sym e) (n.told (s.1 n.since));
}
  where
    not_init : u.ring.call.tap ≡ k → is_initiator x ≡ false
    not_init own = by (is_initiator x) refl
      where
        by : (b : Bool) → is_initiator x ≡ b → b ≡ false
        by true init = absurd (another (by_caller w base members u x h init (omega (arith, ends, later)) ∙ own))
        by false e = refl

-- ---- a tap after a pass

pub record TapAfter (p : Params) (members : List ℕ) (address to : ℕ) (a : Arrival) (v v' : Station) : Type 0 where
  pub undisturbed : IsUndisturbed v'.phase
  pub passive : v'.phase ≡ PassiveIdle → v.phase ≡ PassiveIdle
  pub back : TakesPart v'.phase → TakesPart v.phase
  pub forth : TakesPart v.phase → TakesPart v'.phase
  pub member : TakesPart v'.phase → IsMember members address v'.las
  pub asked : (q : Bool) → HasAskedFor v.phase q → HasAskedFor v'.phase q
  pub initiates : may_initiate v.phase ≡ true → may_initiate v'.phase ≡ true
  pub rotation : (v'.rotation ≡ v.rotation) ⊎ ((da sa : ℕ) × (a ≡ Token da sa) × (v'.phase ≡ Use false (to + p.tid1)))
  pub reply : IfSome v'.reply (λ r. (v' ≡ v) ⊎ ((f : Fields) × (a ≡ Framed f) × IsAnswer p v.address to f r))

-- nothing is heard
pub same_after : (p : Params) (base : ℕ) (members : List ℕ) (taps : List Tap) (trace : List Entry) (call : Call) (k to : ℕ) (t : Tap) (a : Arrival) (v' : Station) → RingTap p base members taps trace call k t → v' ≡ view p t → TapAfter p members t.spec.address to a (view p t) v'
same_after p base members taps trace call k to t a v' r e =
    subst (λ z. TapAfter p members t.spec.address to a (view p t) z) (sym e)
    (record { undisturbed = r.undisturbed; passive = λ q. q; back = λ x. x; forth = λ x. x; member = r.member; asked = λ q h. h; initiates = λ i. i; rotation = inl refl; reply = some (view p t).reply })
  where
    some : (o : Option Reply) → IfSome o (λ r. (view p t ≡ view p t) ⊎ ((f : Fields) × (a ≡ Framed f) × IsAnswer p (view p t).address to f r))
    some None = tt
    some (Some r) = inl refl

-- a begin is heard
pub begun_after : (p : Params) (base : ℕ) (members : List ℕ) (taps : List Tap) (trace : List Entry) (call : Call) (k to m : ℕ) (t : Tap) (a : Arrival) → RingTap p base members taps trace call k t → IsOn (view p t).phase → MayBegin p (view p t) (view p t).phase m
    → WaitsInPlace (view p t).phase (view p t).reply → TapAfter p members t.spec.address to a (view p t) (begun (view p t) m)
begun_after p base members taps trace call k to m t a r on may waits =
    let v = view p t in
    let b = begun_as p v v.phase m may in
    record {
      undisturbed = b.undisturbed;
      passive = b.passive;
      back = b.back;
      forth = b.forth;
      member = λ part. r.member (b.back part);
      asked = b.asked;
      initiates = b.initiates;
      rotation = inl refl;
      reply = subst (λ o. IfSome o (λ r. (begun v m ≡ v) ⊎ ((f : Fields) × (a ≡ Framed f) × IsAnswer p v.address to f r))) (sym (no_reply_begun v.phase v.reply waits on)) tt;
    }

-- an end is heard, by a station that keeps no reply
pub ended_after : (p : Params) (members : List ℕ) (address to : ℕ) (a : Arrival) (v s : Station) → IsAscending members → IsHearing s.phase ⊎ (s.phase ≡ PassiveIdle) → s.reply ≡ None → s.address ≡ v.address → v.address ≡ address
    → (s.phase ≡ PassiveIdle → v.phase ≡ PassiveIdle) → (TakesPart s.phase → TakesPart v.phase) → (TakesPart v.phase → TakesPart s.phase) → (may_initiate v.phase ≡ true → may_initiate s.phase ≡ true) → s.rotation ≡ v.rotation
    → ((q : Bool) → HasAskedFor v.phase q → HasAskedFor s.phase q) → (TakesPart s.phase → IsMember members address s.las) → MayEnd members s.phase a → TapAfter p members address to a v (ended p s to a)
ended_after p members address to a v s up hears none same here passive back forth init rot_same asked member may = ⊎_elim heard passively hears
  where
    s' : Station
    s' = ended p s to a

    replies : EndsAs p s to a s' → IfSome s'.reply (λ r. (s' ≡ v) ⊎ ((f : Fields) × (a ≡ Framed f) × IsAnswer p v.address to f r))
    replies (Takes da sa e mine ph rot reply) = subst (λ o. IfSome o (λ r. (s' ≡ v) ⊎ ((f : Fields) × (a ≡ Framed f) × IsAnswer p v.address to f r))) (sym (reply ∙ none)) tt
    replies (Stays ph rot reply other i) = subst (λ o. IfSome o (λ r. (s' ≡ v) ⊎ ((f : Fields) × (a ≡ Framed f) × IsAnswer p v.address to f r))) (sym (reply ∙ none)) tt
    replies (GoesOn i i' part as_ rot reply) = subst (λ o. IfSome o (λ r. (s' ≡ v) ⊎ ((f : Fields) × (a ≡ Framed f) × IsAnswer p v.address to f r))) (sym (reply ∙ none)) tt
    replies (Makes f e station_type is ph rot reply i) = subst (λ o. IfSome o (λ r. (s' ≡ v) ⊎ ((f : Fields) × (a ≡ Framed f) × IsAnswer p v.address to f r))) (sym (reply ∙ ap (option_or (answer_to p s to f station_type)) none)) (some (answer_to p s to f station_type) refl)
      where
        some : (o : Option Reply) → answer_to p s to f station_type ≡ o → IfSome (option_or o None) (λ r. (s' ≡ v) ⊎ ((f : Fields) × (a ≡ Framed f) × IsAnswer p v.address to f r))
        some None q = tt
        some (Some r) q = inr (f, e, subst (λ n. IsAnswer p n to f r) same (answers p s to f station_type r is q))

    initiates_ : EndsAs p s to a s' → may_initiate v.phase ≡ true → may_initiate s'.phase ≡ true
    initiates_ (Takes da sa e mine ph rot reply) i = ap may_initiate ph
    initiates_ (Stays ph rot reply other not_) i = no_ (sym not_ ∙ init i)
    initiates_ (Makes f e station_type is ph rot reply not_) i = no_ (sym not_ ∙ init i)
    initiates_ (GoesOn i' i'' part as_ rot reply) i = i''

    asked_ : EndsAs p s to a s' → (q : Bool) → HasAskedFor v.phase q → HasAskedFor s'.phase q
    asked_ (Takes da sa e mine ph rot reply) q h = subst (λ z. HasAskedFor z q) (sym ph) tt
    asked_ (Stays ph rot reply other not_) q h = subst (λ z. HasAskedFor z q) (sym ph) (asked q h)
    asked_ (Makes f e station_type is ph rot reply not_) q h = subst (λ z. HasAskedFor z q) (sym ph) (asked q h)
    asked_ (GoesOn i' i'' part as_ rot reply) q h = as_ q

    rotates : EndsAs p s to a s' → (s'.rotation ≡ v.rotation) ⊎ ((da sa : ℕ) × (a ≡ Token da sa) × (s'.phase ≡ Use false (to + p.tid1)))
    rotates (Takes da sa e mine ph rot reply) = inr (da, sa, e, ph)
    rotates (Stays ph rot reply other not_) = inl (rot ∙ rot_same)
    rotates (Makes f e station_type is ph rot reply not_) = inl (rot ∙ rot_same)
    rotates (GoesOn i' i'' part as_ rot reply) = inl (rot ∙ rot_same)

    -- a phase that takes part is undisturbed, and not passive
    part_fine : (ph : Phase) → TakesPart ph → IsUndisturbed ph × (ph ≡ PassiveIdle → ⊥)
    part_fine (Idle refused) x = (tt, λ e. absurd cc)
    part_fine (Use a b) x = (tt, λ e. absurd cc)
    part_fine (AwaitData a b d) x = (tt, λ e. absurd cc)
    part_fine (AwaitStatus a b) x = (tt, λ e. absurd cc)
    part_fine (Checking a) x = (tt, λ e. absurd cc)
    part_fine Offline x = absurd x
    part_fine PassiveIdle x = absurd x
    part_fine (Listening d) x = absurd x
    part_fine (Claim a b) x = absurd x
    part_fine (Pass a b) x = absurd x

    hearing_part : (ph : Phase) → IsHearing ph → TakesPart ph
    hearing_part (Idle refused) x = tt
    hearing_part (AwaitData a b d) x = tt
    hearing_part (AwaitStatus a b) x = tt
    hearing_part Offline x = absurd x
    hearing_part PassiveIdle x = absurd x
    hearing_part (Listening d) x = absurd x
    hearing_part (Claim a b) x = absurd x
    hearing_part (Use a b) x = absurd x
    hearing_part (Pass a b) x = absurd x
    hearing_part (Checking a) x = absurd x

    heard : IsHearing s.phase → TapAfter p members address to a v s'
    heard h =
        let part = hearing_part s.phase h in
        let e = ring_ends p members s to a up h may (subst (λ n. IsMember members n s.las) (sym (same ∙ here)) (member part)) in
        let fine = part_fine s'.phase e.part in
        record {
          undisturbed = fine.0;
          passive = λ q. absurd (fine.1 q);
          back = λ _. back part;
          forth = λ _. e.part;
          member = λ _. subst (λ n. IsMember members n s'.las) (same ∙ here) e.lists;
          asked = asked_ e.how;
          initiates = initiates_ e.how;
          rotation = rotates e.how;
          reply = replies e.how;
        }

    passive_stays : (a : Arrival) (y : Station) → (passive_hears p y to a).phase ≡ y.phase
    passive_stays (Token da sa) y = refl
    passive_stays (Framed f) y = refl
    passive_stays Acknowledgement y = refl
    passive_stays NoTelegram y = refl

    passively : s.phase ≡ PassiveIdle → TapAfter p members address to a v s'
    passively ph =
        let y = record s { busy = false; quiet = max s.quiet to } in
        let e : EndsAs p s to a s' = subst (λ z. EndsAs p s to a (phase_ended p y z to a)) (sym ph) (passive_ends p s to a ph) in
        let then_ : s'.phase ≡ PassiveIdle = ap (λ z. (phase_ended p y z to a).phase) ph ∙ passive_stays a y ∙ ph in
        let before = passive ph in
        record {
          undisturbed = subst IsUndisturbed (sym then_) tt;
          passive = λ q. before;
          back = λ x. absurd (subst TakesPart then_ x);
          forth = λ x. absurd (subst TakesPart before x);
          member = λ x. absurd (subst TakesPart then_ x);
          asked = λ q h. subst (λ z. HasAskedFor z q) (sym then_) tt;
          initiates = λ i. no_ (sym (ap may_initiate before) ∙ i);
          rotation = rotates e;
          reply = replies e;
        }
