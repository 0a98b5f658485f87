-- Initiator telegrams come one by one at any listener, and nothing is in the air as a station claims the token.
use Rattle.std.proofs.Common.{◌≡◌, ℕ, ◌+◌, ◌-◌, ◌*◌, ◌<◌, ◌≤◌, ◌⊎◌, inl, inr, ⊎_elim, Bool, true, false, if◌then◌else◌, ◌==◌, ◌&&◌, List, refl, sym, ap, ◌∙◌, subst, arith, Option, Some, None}
use Rattle.std.specs.Prelude.{slice_get, IfSome}
use Rattle.std.specs.List.{list_any}
use Rattle.std.proofs.lemmas.Bool.{eqb-true, eq-eqb, cases_lt}
use Rattle.pb_timers.specs.Timers.{Params, tto}
use Rattle.law_turn.specs.Turns.{turn_of}
use Rattle.law_model.specs.Trace.{Record, Entry, Sent, Noise, entry_begin, with_entry}
use Rattle.law_model.specs.Medium.{TapSpec, Tap, reaches}
use Rattle.law_model.specs.World.{World}
use Rattle.law_model.specs.Step.{sending}
use Rattle.law_runs.specs.Activity.{active_at, is_within, is_silent}
use Rattle.law_runs.specs.Headline.{specs_of}
use Rattle.law_runs.specs.Initiators.{is_initiator, telegram_of, claims_for}
use Rattle.law_runs.specs.Legality.{address_at, is_claim}
use Rattle.law_runs.specs.Premises.{Waited}
use Rattle.law_token.specs.Entries.{EntryHolds, RecordHolds}
use Rattle.law_token.specs.Invariant.{Keeps, Settled}
use Rattle.law_token.specs.Lists.{Each, In}
use Rattle.law_token.proofs.bus.Legal.{same_silence}
use Rattle.law_token.proofs.bus.Lists.{each_in, each_both, each_with}
use Rattle.law_token.proofs.replies.Addresses.{SameAddresses, claim_same}
use Rattle.law_token.proofs.turn.Records.{last_initiates, address_there}
use Rattle.law_live.specs.Flow.{Flow, EndsBy, RepliesBy}
use Rattle.law_live.proofs.Events.{event_flow}
use Rattle.law_live.proofs.OtherData.{data_flow}
use Rattle.pb_monitor.proofs.NoneRaised.{claim_for, least_timeout}
use Rattle.law_monitor.proofs.hearing.Ears.{Pairs, pairs_each}
use Rattle.law_monitor.proofs.timely.Alike.{Alike, AlikeRecord, claim_alike, entry_silence}
use Rattle.law_monitor.proofs.timely.Folds.{Both}
use Rattle.law_monitor.proofs.timely.Runs.{IsKept, Passed}
use Rattle.law_monitor.proofs.timely.Spoken.{outside, turn_waits}
use Rattle.law_model.proofs.Window.{not_false}
use Rattle.law_token.proofs.quiet.Bound.{none_of}

-- ---- the property

-- a telegram of another is not in the air as this one begins
abbrev pub Far : ℕ → Record → Entry → Type 0
Far delay r (Noise span) = Unit {0}
Far delay r (Sent e) = (e.tap ≡ r.tap) ⊎ (e.end + delay ≤ r.begin) ⊎ (r.begin ≤ e.begin)

-- an initiator telegram is over, and has reached the speaker of the next
abbrev pub ComesOne : ℕ → Option Record → Record → Type 0
ComesOne delay None r = Unit {0}
ComesOne delay (Some w) r = (w.end ≤ r.begin) × ((w.tap ≡ r.tap) ⊎ (w.end + delay ≤ r.begin))

abbrev pub Lone : Params → List TapSpec → List Entry → Option Record → Record → Type 0
Lone p specs trace last r = ComesOne p.ttd last r × (is_claim p specs trace r ≡ true → Each (Far p.ttd r) trace)

-- ---- it stays

far_alike : (delay now : ℕ) (r y : Record) → r.begin ≤ now → AlikeRecord now r y → (e z : Entry) → Alike now e z → Far delay r e → Far delay y z
far_alike delay now r y begun h (Noise a) (Noise b) like far = tt
far_alike delay now r y begun h (Noise a) (Sent z) like far = absurd like
far_alike delay now r y begun h (Sent e) (Noise b) like far = tt
far_alike delay now r y begun h (Sent e) (Sent z) like far =
    let at = h.begin in
    let from = like.begin in
    ⊎_elim (λ (own : e.tap ≡ r.tap). inl (like.tap ∙ own ∙ sym h.tap))
    (λ (other : (e.end + delay ≤ r.begin) ⊎ (r.begin ≤ e.begin)). inr (⊎_elim
    (λ (over : e.end + delay ≤ r.begin). ⊎_elim (λ (same : z.end ≡ e.end). inl (omega (arith, over, same, at))) (λ (later : (now < e.end) × (now < z.end)). absurd (let l = later.0 in omega (arith, l, over, begun))) like.end)
    (λ (after : r.begin ≤ e.begin). inr (omega (arith, after, at, from))) other)) far

comes_alike : (delay now : ℕ) (l k : Option Record) (r y : Record) → r.begin ≤ now → Both (AlikeRecord now) l k → AlikeRecord now r y → ComesOne delay l r → ComesOne delay k y
comes_alike delay now None None r y begun both h comes = tt
comes_alike delay now None (Some b) r y begun both h comes = absurd both
comes_alike delay now (Some a) None r y begun both h comes = absurd both
comes_alike delay now (Some a) (Some b) r y begun both h comes =
    let at = h.begin in
    let over = comes.0 in
    ⊎_elim
    (λ (same : b.end ≡ a.end). (
      omega (arith, over, same, at),
      ⊎_elim (λ (own : a.tap ≡ r.tap). inl (both.tap ∙ own ∙ sym h.tap)) (λ (there : a.end + delay ≤ r.begin). inr (omega (arith, there, same, at))) comes.1,
    ))
    (λ (later : (now < a.end) × (now < b.end)). absurd (let l = later.0 in omega (arith, l, over, begun))) both.end

lone_alike : (p : Params) (specs : List TapSpec) (now : ℕ) (es ys : List Entry) → Pairs (Alike now) es ys → (l k : Option Record) (r y : Record) → r.begin ≤ now → Both (AlikeRecord now) l k → AlikeRecord now r y → Lone p specs es l r → Lone p specs ys k y
lone_alike p specs now es ys pairs l k r y begun both h lone = (
  comes_alike p.ttd now l k r y begun both h lone.0,
  λ c. pairs_each (Alike now) (Far p.ttd r) (Far p.ttd y) es ys (far_alike p.ttd now r y begun h) pairs (lone.1 (claim_alike p specs now es ys r y begun pairs h ∙ c)),
)

lone_inserted : (p : Params) (specs : List TapSpec) (now : ℕ) (e : Entry) (es : List Entry) → now ≤ entry_begin e → (l : Option Record) (r : Record) → r.begin ≤ now → Lone p specs es l r → Lone p specs (with_entry e es) l r
lone_inserted p specs now e es new l r begun lone = (
  lone.0,
  λ c. each_with (Far p.ttd r) e es (far e new)
      (lone.1 (ap (λ b. claims_for (address_at specs r.tap) (telegram_of r) && b) (sym (entry_silence p now e es new r.tap (r.begin - tto p (address_at specs r.tap)) r.begin begun)) ∙ c)),
)
  where
    far : (e : Entry) → now ≤ entry_begin e → Far p.ttd r e
    far (Noise span) new = tt
    far (Sent x) new = inr (inr (omega (arith, new, begun)))

-- ---- what a station says has it

ended : (p : Params) (k from now : ℕ) (taps : List Tap) (trace : List Entry) (waited : List Waited) (last : Option Record) (x : Record) → x.begin ≡ now → x.tap ≡ k
    → (e : Entry) → EntryHolds p now taps trace waited last e → Passed p.ttd x e × (is_within from now (active_at p.ttd k e) ≡ false) → EndsBy from e
ended p k from now taps trace waited last x at by (Noise span) holds h = tt
ended p k from now taps trace waited last x at by (Sent e) holds h = λ init. on (e.tap == k) refl (h.0 init) h.1
  where
    some : e.begin < e.end
    some = holds.some

    on : (b : Bool) → (e.tap == k) ≡ b → (e.begin < x.begin) × (e.end ≤ x.begin) × ((e.tap ≡ x.tap) ⊎ (e.end + p.ttd ≤ x.begin))
        → is_within from now (if b then record { begin = e.begin; end = e.end } else reaches p.ttd e) ≡ false → e.end ≤ from
    on true own before quiet = ⊎_elim (λ (a : now ≤ e.begin). absurd (let b = before.0 in omega (arith, a, b, at))) (λ (b : e.end ≤ from). b) (outside from now (record { begin = e.begin; end = e.end }) quiet)
    on false other before quiet =
        ⊎_elim
        (λ (a : now ≤ e.begin + p.ttd). ⊎_elim (λ (own : e.tap ≡ x.tap). absurd (let w : true ≡ false = sym (eq-eqb e.tap k (own ∙ by)) ∙ other in cc)) (λ (there : e.end + p.ttd ≤ x.begin). absurd (omega (arith, a, there, at, some))) before.2)
        (λ (b : e.end + p.ttd ≤ from). omega (arith, b)) (outside from now (reaches p.ttd e) quiet)

far_then : (p : Params) (k from now b : ℕ) (x : Record) → x.begin ≡ now → x.tap ≡ k → from ≤ now → b + p.ttd < now
    → (e : Entry) → RepliesBy b e → Passed p.ttd x e × (is_within from now (active_at p.ttd k e) ≡ false) → Far p.ttd x e
far_then p k from now b x at by before late (Noise span) reply h = tt
far_then p k from now b x at by before late (Sent e) reply h = on (is_initiator e) refl (e.tap == k) refl h.1
  where
    on : (i : Bool) → is_initiator e ≡ i → (c : Bool) → (e.tap == k) ≡ c → is_within from now (if c then record { begin = e.begin; end = e.end } else reaches p.ttd e) ≡ false → Far p.ttd x (Sent e)
    on true init c own quiet = ⊎_elim (λ (own : e.tap ≡ x.tap). inl own) (λ (there : e.end + p.ttd ≤ x.begin). inr (inl there)) (h.0 init).2
    on false none true own quiet = inl (eqb-true e.tap k own ∙ sym by)
    on false none false other quiet =
        ⊎_elim (λ (a : now ≤ e.begin + p.ttd). absurd (let r = reply none in omega (arith, a, r, late))) (λ (o : e.end + p.ttd ≤ from). inr (inl (omega (arith, o, before, at)))) (outside from now (reaches p.ttd e) quiet)

comes_one : (p : Params) (x : Record) (trace : List Entry) (last : Option Record) → Each (Passed p.ttd x) trace → IfSome last (λ r. In (Sent r) trace) → IfSome last (λ r. is_initiator r ≡ true) → ComesOne p.ttd last x
comes_one p x trace None before here init = tt
comes_one p x trace (Some w) before here init =
    let h = each_in (Passed p.ttd x) (Sent w) trace before here init in (h.1, h.2)

said_lone : (w : World) (waited : List Waited) (k : ℕ) (t : Tap) → (kept : Keeps w waited) → slice_get w.taps k ≡ Some t → t.running ≡ true → Settled w → Flow w
    → (octets : List ℕ) → (turn_of w.params t.station t.marks w.now).1 ≡ Some octets → is_initiator (sending k octets w.now w.taps) ≡ true → Each (Passed w.params.ttd (sending k octets w.now w.taps)) w.trace
    → Lone w.params (specs_of w) (with_entry (Sent (sending k octets w.now w.taps)) w.trace) kept.inv.last (sending k octets w.now w.taps)
said_lone w waited k t kept here running set flow octets says init before =
    (comes_one p x w.trace kept.inv.last before kept.inv.last_in (last_initiates w.now w.trace kept.inv.last kept.inv.is_last), claims)
  where
    p : Params
    p = w.params

    x : Record
    x = sending k octets w.now w.taps

    timeout : ℕ
    timeout = tto p (address_at (specs_of w) k)

    claims : is_claim p (specs_of w) (with_entry (Sent x) w.trace) x ≡ true → Each (Far p.ttd x) (with_entry (Sent x) w.trace)
    claims c = each_with (Far p.ttd x) (Sent x) w.trace (inl refl) (each_both (RepliesBy (from + p.ttd + p.tsdr + p.lag)) (λ e. Passed p.ttd x e × (is_within from w.now (active_at p.ttd k e) ≡ false)) (Far p.ttd x) w.trace
        (far_then p k from w.now (from + p.ttd + p.tsdr + p.lag) x refl refl (omega arith) (let a = flow.reply_in_time in let b = least_timeout p (address_at (specs_of w) k) in soon timeout b late a)) (flow.replies from ends) both)
      where
        from : ℕ
        from = w.now - timeout

        soon : (n : ℕ) → 6 * p.tsl ≤ n → n ≤ w.now → p.tsdr + p.lag + 2 * p.ttd < p.tsl → (w.now - n) + p.ttd + p.tsdr + p.lag + p.ttd < w.now
        soon n a b d = omega (arith, a, b, d)

        silent : is_silent p.ttd k w.trace from w.now ≡ true
        silent = sym (same_silence p w.now x w.trace (omega arith) k from w.now (omega arith)) ∙ (claim_for (telegram_of x) (address_at (specs_of w) k) (is_silent p.ttd k (with_entry (Sent x) w.trace) from w.now) c).1

        both : Each (λ e. Passed p.ttd x e × (is_within from w.now (active_at p.ttd k e) ≡ false)) w.trace
        both = each_both (Passed p.ttd x) (λ e. is_within from w.now (active_at p.ttd k e) ≡ false) (λ e. Passed p.ttd x e × (is_within from w.now (active_at p.ttd k e) ≡ false)) w.trace (λ e a b. (a, b)) before
            (none_of (λ e. is_within from w.now (active_at p.ttd k e)) w.trace (not_false (list_any (λ e. is_within from w.now (active_at p.ttd k e)) w.trace) silent))

        ends : Each (EndsBy from) w.trace
        ends = each_both (EntryHolds p w.now w.taps w.trace waited kept.inv.last) (λ e. Passed p.ttd x e × (is_within from w.now (active_at p.ttd k e) ≡ false)) (EndsBy from) w.trace (ended p k from w.now w.taps w.trace waited kept.inv.last x refl refl) kept.inv.entries both

        -- no initiator telegram came before a claim in the first time-out: so its speaker has waited it out
        none_yet : (n : ℕ) → w.now < n → w.now - n ≡ 0
        none_yet n early = omega (arith, early)

        first : from ≡ 0 → (o : Option Record) → IfSome o (λ r. In (Sent r) w.trace) → IfSome o (λ r. is_initiator r ≡ true) → o ≡ None
        first at None here init = refl
        first at (Some r) here init =
            let holds : RecordHolds p w.now w.taps w.trace waited kept.inv.last r = each_in (EntryHolds p w.now w.taps w.trace waited kept.inv.last) (Sent r) w.trace kept.inv.entries here in
            let some = holds.some in
            let over : r.end ≤ from = each_in (EndsBy from) (Sent r) w.trace ends here init in absurd (omega (arith, some, over, at))

        late : timeout ≤ w.now
        late = ⊎_elim
            (λ (early : w.now < timeout).
            subst (λ a. tto p a ≤ w.now) (sym (address_there w.taps k t here))
            (turn_waits w waited k t kept here running set (first (none_yet timeout early) kept.inv.last kept.inv.last_in (last_initiates w.now w.trace kept.inv.last kept.inv.is_last)) octets says init))
            (λ (l : timeout ≤ w.now). l) (cases_lt w.now timeout)

lone_same : (p : Params) (a b : List TapSpec) (trace : List Entry) (l : Option Record) (r : Record) → SameAddresses a b → Lone p a trace l r → Lone p b trace l r
lone_same p a b trace l r same lone = (lone.0, λ c. lone.1 (claim_same p a b trace r same ∙ c))

pub lone_kept : IsKept Lone Flow
lone_kept = record {
  same = lone_same;
  also_data = data_flow;
  stable = λ p specs. record { alike = lone_alike p specs; inserted = lone_inserted p specs };
  also = λ w next waited all e reply ok i j f. event_flow w e waited all next reply ok i j f;
  said = said_lone;
}
