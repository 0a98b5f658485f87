-- Without tokens and noise from a moment on, all that is on the bus is over by the end of the last holder's time.
use Rattle.std.proofs.Common.{◌≡◌, ℕ, ◌+◌, ◌-◌, ◌*◌, ◌<◌, ◌≤◌, Bool, true, false, ◌==◌, ◌&&◌, ◌||◌, not, List, [], ◌∷◌, refl, ap, ◌∙◌, subst, arith}
use Rattle.std.specs.Prelude.{nat_lt}
use Rattle.std.specs.List.{list_any}
use Rattle.std.proofs.lemmas.Bool.{lt-ltb, le-ltb, ltb-false}
use Rattle.pb_timers.specs.Timers.{Params}
use Rattle.law_turn.specs.Spans.{Span}
use Rattle.law_model.specs.Trace.{Entry, Sent, Noise}
use Rattle.law_model.specs.Medium.{reaches}
use Rattle.law_model.specs.World.{World}
use Rattle.law_model.proofs.Cases.{by_test}
use Rattle.law_runs.specs.Activity.{active_at, is_within, is_silent}
use Rattle.law_runs.specs.Initiators.{is_initiator}
use Rattle.law_token.specs.Lists.{Each}
use Rattle.law_token.proofs.bus.Lists.{each_map, each_both}
use Rattle.law_live.specs.NeverDead.{longest, attempt, cycle, cycle_to_reply, tries, is_token_record, is_token_within, is_noise_within}
use Rattle.law_live.specs.Holding.{limit}
use Rattle.law_live.specs.Flow.{IsCalmBy, BeganBefore, EndsBy, IsShort, RepliesBy, RequestsBy, Flow}
use Rattle.law_token.proofs.quiet.Bound.{none_of}

-- what holds of each entry twice
pub each_pair : (P Q : Entry → Type 0) (es : List Entry) → Each P es → Each Q es → Each (λ e. P e × Q e) es
each_pair P Q [] a b = tt
each_pair P Q (e ∷ es) a b = ((a.0, b.0), each_pair P Q es a.1 b.1)

-- or three times
each_three : (P Q R S : Entry → Type 0) (es : List Entry) → ((e : Entry) → P e → Q e → R e → S e) → Each P es → Each Q es → Each R es → Each S es
each_three P Q R S [] f a b c = tt
each_three P Q R S (e ∷ es) f a b c = (f e a.0 b.0 c.0, each_three P Q R S es f a.1 b.1 c.1)

-- ---- a stretch without tokens and noise

-- and the other way round
pub any_none : (test : Entry → Bool) (es : List Entry) → Each (λ e. test e ≡ false) es → list_any test es ≡ false
any_none test [] h = refl
any_none test (e ∷ es) h = ap (λ b. b || list_any test es) h.0 ∙ any_none test es h.1

-- what has begun is over by the stretch's beginning, where it isn't in it
over_by : (from to : ℕ) (span : Span) → span.begin < to → is_within from to span ≡ false → span.end ≤ from
over_by from to span early h = ltb-false from span.end (subst (λ b. (b && nat_lt from span.end) ≡ false) (lt-ltb span.begin to early) h)

-- where no token and no noise is within a stretch, all of them are over by its beginning
calm_one : (from to : ℕ) (e : Entry) → BeganBefore to e → is_noise_within from to e ≡ false → is_token_within from to e ≡ false → IsCalmBy from e
calm_one from to (Noise span) b n t = over_by from to span b n
calm_one from to (Sent r) b n t =
    λ pass. over_by from to (record { begin = r.begin; end = r.end }) b (subst (λ c. (c && is_within from to (record { begin = r.begin; end = r.end })) ≡ false) pass t)

-- ---- all is over by the end of the last holder's time

-- initiator telegrams are over by the end of the holder's last request
init_one : (p : Params) (m : ℕ) (e : Entry) → IsCalmBy m e → IsShort e → RequestsBy (attempt p) (limit p (m + p.ttd) (m + p.ttd) true) e → EndsBy (m + p.ttd + (p.ttr - 1) + cycle p + tries p.retries (attempt p) + longest) e
init_one p m (Noise span) c s r = tt
init_one p m (Sent x) c s r = λ init. by (is_token_record x) refl init
  where
    by : (b : Bool) → is_token_record x ≡ b → is_initiator x ≡ true → x.end ≤ m + p.ttd + (p.ttr - 1) + cycle p + tries p.retries (attempt p) + longest
    by true e init = let h = c e in omega (arith, h)
    by false e init = let h = r init e in omega (arith, h, s)

-- and all telegrams by the end of its reply
over_one : (p : Params) (m tap : ℕ) (e : Entry) → p.tsdr + p.lag + 2 * p.ttd < p.tsl → IsCalmBy m e → IsShort e → EndsBy (m + p.ttd + (p.ttr - 1) + cycle p + tries p.retries (attempt p) + longest) e
    → RepliesBy (m + p.ttd + (p.ttr - 1) + cycle p + tries p.retries (attempt p) + longest + p.ttd + p.tsdr + p.lag) e → (active_at 0 tap e).end ≤ m + (p.ttr - 1) + cycle p + cycle_to_reply p
over_one p m tap (Noise span) fits c s i r = omega (arith, c)
over_one p m tap (Sent x) fits c s i r =
    by_test (λ (y : Span). y.end ≤ m + (p.ttr - 1) + cycle p + cycle_to_reply p) (x.tap == tap) (record { begin = x.begin; end = x.end }) (reaches 0 x) (λ _. by (is_initiator x) refl) (λ _. let h = by (is_initiator x) refl in omega (arith, h))
  where
    by : (b : Bool) → is_initiator x ≡ b → x.end ≤ m + (p.ttr - 1) + cycle p + cycle_to_reply p
    by true e = let h = i e in omega (arith, h, fits)
    by false e = let h = r e in omega (arith, h, s, fits)

-- what is over by a moment is silent from then on
silent_one : (from to tap : ℕ) (e : Entry) → (active_at 0 tap e).end ≤ from → is_within from to (active_at 0 tap e) ≡ false
silent_one from to tap e h = by (nat_lt (active_at 0 tap e).begin to) (le-ltb from (active_at 0 tap e).end h)
  where
    by : (b : Bool) → nat_lt from (active_at 0 tap e).end ≡ false → (b && nat_lt from (active_at 0 tap e).end) ≡ false
    by true f = f
    by false f = refl

-- a world without tokens and noise from a moment on is silent from the end of the last holder's time on
pub silent_then : (w : World) (m tap : ℕ) → Flow w → Each (BeganBefore (w.now + 1)) w.trace → list_any (is_noise_within m (w.now + 1)) w.trace ≡ false → list_any (is_token_within m (w.now + 1)) w.trace ≡ false
    → is_silent 0 tap w.trace (m + (w.params.ttr - 1) + cycle w.params + cycle_to_reply w.params) w.now ≡ true
silent_then w m tap f began noise token =
    ap not (any_none (λ e. is_within end w.now (active_at 0 tap e)) w.trace (each_map (λ e. (active_at 0 tap e).end ≤ end) (λ e. is_within end w.now (active_at 0 tap e) ≡ false) w.trace (λ e h. silent_one end w.now tap e h) over))
  where
    p : Params
    p = w.params

    end : ℕ
    end = m + (p.ttr - 1) + cycle p + cycle_to_reply p

    calm : Each (IsCalmBy m) w.trace
    calm = each_three (BeganBefore (w.now + 1)) (λ e. is_noise_within m (w.now + 1) e ≡ false) (λ e. is_token_within m (w.now + 1) e ≡ false) (IsCalmBy m) w.trace (λ e b n t. calm_one m (w.now + 1) e b n t) began
        (none_of (is_noise_within m (w.now + 1)) w.trace noise) (none_of (is_token_within m (w.now + 1)) w.trace token)

    z : ℕ
    z = m + p.ttd + (p.ttr - 1) + cycle p + tries p.retries (attempt p) + longest

    inits : Each (EndsBy z) w.trace
    inits = each_three (IsCalmBy m) IsShort (RequestsBy (attempt p) (limit p (m + p.ttd) (m + p.ttd) true)) (EndsBy z) w.trace (λ e c s r. init_one p m e c s r) calm f.short (f.requests m calm)

    over : Each (λ e. (active_at 0 tap e).end ≤ end) w.trace
    over = each_both (λ e. IsCalmBy m e × IsShort e) (λ e. EndsBy z e × RepliesBy (z + p.ttd + p.tsdr + p.lag) e) (λ e. (active_at 0 tap e).end ≤ end) w.trace (λ e a b. over_one p m tap e f.reply_in_time a.0 a.1 b.0 b.1)
        (each_pair (IsCalmBy m) IsShort w.trace calm f.short) (each_pair (EndsBy z) (RepliesBy (z + p.ttd + p.tsdr + p.lag)) w.trace inits (f.replies z inits))
