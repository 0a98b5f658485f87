-- What is on the tape of a tap that only listens is what a listener hears of the trace.
use Rattle.std.proofs.Common.{◌≡◌, ℕ, ◌+◌, ◌<◌, ◌≤◌, ◌⊎◌, inl, inr, ⊎_elim, Bool, true, false, if◌then◌else◌, ◌==◌, ◌||◌, List, [], ◌∷◌, refl, sym, ap, subst, arith, Option, Some, None}
use Rattle.std.specs.Prelude.{nat_lt, max, slice_get}
use Rattle.std.specs.Option.{option_and_then}
use Rattle.std.proofs.lemmas.Bool.{ltb-false, cases_lt}
use Rattle.pb_timers.specs.Timers.{Params}
use Rattle.law_turn.specs.Arrivals.{Arrival, Token, Framed, Acknowledgement, NoTelegram, arrival_of}
use Rattle.law_turn.specs.Spans.{Span}
use Rattle.law_model.specs.Trace.{Entry, Sent, Noise}
use Rattle.law_model.specs.Medium.{part_after, reaches_taps, reaches, at_tap, is_unheard}
use Rattle.law_model.specs.World.{World, Event}
use Rattle.law_model.specs.Step.{step, world_after}
use Rattle.law_model.proofs.Cases.{by_test}
use Rattle.law_token.specs.Lists.{Each}
use Rattle.law_token.specs.Places.{IsOver}
use Rattle.pb_monitor.specs.Captures.{Burst, All, Has, IsClear, AllClear, IsSolid, BeginsAt, Fills, IsTold, IsOf, HearsFrom}
use Rattle.law_token.proofs.replies.Actions.{params_by}
use Rattle.law_token.proofs.replies.Happen.{happen, acted_happen}
use Rattle.law_token.proofs.whole.Stays.{new_params}
use Rattle.law_monitor.specs.Actions.{taped_all_by, bursts_heard_by, TapsCaptureByActions}
use Rattle.law_monitor.specs.Captures.{HearsSince}
use Rattle.law_monitor.specs.Taps.{Tape, IsSensed, TapsCapture, blank, taped, taped_all, bursts_heard}
use Rattle.law_monitor.proofs.hearing.Ears.{Ear, at_ear, IsClearAt, Clear, BeginsIn, Begins, Told}
use Rattle.law_monitor.proofs.hearing.Tapes.{Closed, Chain}
use Rattle.law_monitor.proofs.hearing.Events.{acts_taped, new_taped}

-- ---- one entry

-- what is heard of it is the part from the tap's start on
abbrev PartOf : ℕ → Span → Option Span → Type 0
PartOf since s None = Unit {0}
PartOf since s (Some y) = (y.begin ≡ max s.begin since) × (y.end ≡ s.end)

part_of : (since : ℕ) (s : Span) → PartOf since s (part_after since s)
part_of since s = by_test (PartOf since s) (nat_lt since s.end) (Some (record { begin = max s.begin since; end = s.end })) None (λ _. (refl, refl)) (λ _. tt)

heard_part : (x : Ear) (e : Entry) → PartOf x.since (reaches_taps x.delay e) (at_ear x e)
heard_part x (Noise span) = part_of x.since span
heard_part x (Sent r) =
    by_test (λ (o : Option Span). PartOf x.since (reaches x.delay r) (option_and_then (part_after x.since) o)) (r.tap == x.tap || is_unheard (slice_get r.heard x.tap)) None (Some (reaches x.delay r))
    (λ _. tt) (λ _. part_of x.since (reaches x.delay r))

-- if it is sensed, and clear for the tap, it is clear for a listener
part_clear : (since u v : ℕ) (s : Span) → since ≤ u → since < v → IsOver v u (part_after since s) → IsClear u v s
part_clear since u v s a b h = by (nat_lt since s.end) refl h
  where
    by : (c : Bool) → nat_lt since s.end ≡ c → IsOver v u (if c then Some (record { begin = max s.begin since; end = s.end }) else None) → IsClear u v s
    by true e g = ⊎_elim (λ (l : v ≤ max s.begin since). inr (omega (arith, l, b))) (λ (l : s.end ≤ u). inl l) g
    by false e g = inl (let l = ltb-false since s.end e in omega (arith, l, a))

sensed_clear : (x : Ear) (u v : ℕ) (e : Entry) → x.since ≤ u → x.since < v → IsSensed x.delay x.tap x.since e → IsClearAt x u v e → IsClear u v (reaches_taps x.delay e)
sensed_clear x u v e a b senses h =
    ⊎_elim (λ (over : (reaches_taps x.delay e).end ≤ x.since). inl (omega (arith, over, a)))
    (λ (is : at_tap x.delay x.tap e ≡ Some (reaches_taps x.delay e)). part_clear x.since u v (reaches_taps x.delay e) a b (subst (λ o. IsOver v u (option_and_then (part_after x.since) o)) is h)) senses

all_clear : (x : Ear) (u v : ℕ) (es : List Entry) → x.since ≤ u → x.since < v → All (IsSensed x.delay x.tap x.since) es → Clear x u v es → AllClear x.delay u v es
all_clear x u v [] a b senses clear = tt
all_clear x u v (e ∷ es) a b senses clear = (sensed_clear x u v e a b senses.0 clear.0, all_clear x u v es a b senses.1 clear.1)

all_told : (x : Ear) (b : Burst) (es : List Entry) → x.since ≤ b.begin → b.begin < b.end → All (IsSensed x.delay x.tap x.since) es → Each (Told x b) es → All (IsTold x.delay b) es
all_told x b [] from some senses told = tt
all_told x b (e ∷ es) from some senses told =
    (⊎_elim (λ (f : Fills x.delay b e). inl f) (λ (c : IsClearAt x b.begin b.end e). inr (sensed_clear x b.begin b.end e from (omega (arith, from, some)) senses.0 c)) told.0, all_told x b es from some senses.1 told.1)

-- ---- the other way

clear_heard : (x : Ear) (u v w : ℕ) (e : Entry) → u ≤ w → w ≤ v → IsClear u v (reaches_taps x.delay e) → IsClearAt x w w e
clear_heard x u v w e a b h = by (at_ear x e) (heard_part x e)
  where
    by : (o : Option Span) → PartOf x.since (reaches_taps x.delay e) o → IsOver w w o
    by None part = tt
    by (Some y) part =
        let begin = part.0 in
        let end = part.1 in
        ⊎_elim (λ (l : (reaches_taps x.delay e).end ≤ u). inr (omega (arith, l, end, a))) (λ (l : v ≤ (reaches_taps x.delay e).begin). inl (omega (arith, l, begin, b))) h

clear_of : (x : Ear) (u v w : ℕ) (es : List Entry) → u ≤ w → w ≤ v → AllClear x.delay u v es → Clear x w w es
clear_of x u v w [] a b all = tt
clear_of x u v w (e ∷ es) a b all = (clear_heard x u v w e a b all.0, clear_of x u v w es a b all.1)

begins_clear : (x : Ear) (u v m : ℕ) (e : Entry) → u ≤ m → m < v → Begins x m e → IsClear u v (reaches_taps x.delay e) → ⊥
begins_clear x u v m e a b begins h = by (at_ear x e) (heard_part x e) begins
  where
    by : (o : Option Span) → PartOf x.since (reaches_taps x.delay e) o → BeginsIn m o → ⊥
    by None part g = g
    by (Some y) part g =
        let begin = part.0 in
        let end = part.1 in
        let at = g.0 in
        let some = g.1 in
        ⊎_elim (λ (l : (reaches_taps x.delay e).end ≤ u). omega (arith, l, end, at, some, a)) (λ (l : v ≤ (reaches_taps x.delay e).begin). omega (arith, l, begin, at, b)) h

each_has : (X : Entry → Type 0) (Y : Entry → Type 0) (es : List Entry) → ((e : Entry) → X e → Y e → ⊥) → Has X es → All Y es → ⊥
each_has X Y [] f h all = h
each_has X Y (e ∷ es) f h all = ⊎_elim (λ (a : X e). f e a all.0) (λ (b : Has X es). each_has X Y es f b all.1) h

-- what begins later than the tap's start begins then for a listener
begins_at : (x : Ear) (m : ℕ) (e : Entry) → x.since < m → Begins x m e → BeginsAt x.delay m e
begins_at x m e late begins = by (at_ear x e) (heard_part x e) begins
  where
    by : (o : Option Span) → PartOf x.since (reaches_taps x.delay e) o → BeginsIn m o → BeginsAt x.delay m e
    by None part g = absurd g
    by (Some y) part g =
        let begin = part.0 in
        let end = part.1 in
        let at = g.0 in
        let some = g.1 in
        (omega (arith, begin, at, late), omega (arith, begin, end, at, some))

has_map : (X Y : Entry → Type 0) (es : List Entry) → ((e : Entry) → X e → Y e) → Has X es → Has Y es
has_map X Y [] f h = absurd h
has_map X Y (e ∷ es) f h = ⊎_elim (λ (a : X e). inl (f e a)) (λ (b : Has X es). inr (has_map X Y es f b)) h

-- ---- one burst

is_solid : (x : Ear) (es : List Entry) (b : Burst) → Closed x es b → IsSolid x.delay es b
is_solid x es b c u v lt before after clear =
    ⊎_elim (λ (inside : b.begin < u). c.through u inside before (clear_of x u v u es (omega arith) (omega (arith, lt)) clear))
    (λ (early : u ≤ b.begin). each_has (Begins x b.begin) (λ e. IsClear u v (reaches_taps x.delay e)) es (λ e h g. begins_clear x u v b.begin e early after h g) c.begins clear) (cases_lt b.begin u)

is_of : (x : Ear) (es : List Entry) (b : Burst) → x.since ≤ b.begin → b.begin < b.end → All (IsSensed x.delay x.tap x.since) es → Closed x es b → IsOf x.delay x.since es b
is_of x es b from some senses c = record {
  begins = ⊎_elim (λ (late : x.since < b.begin). inr (has_map (Begins x b.begin) (BeginsAt x.delay b.begin) es (λ e h. begins_at x b.begin e late h) c.begins))
      (λ (at : b.begin ≤ x.since). inl (omega (arith, at, from))) (cases_lt x.since b.begin);
  solid = is_solid x es b c;
  told = λ spells. let t = c.told spells in (t.0, all_told x b es from some senses t.1);
}

-- ---- bursts, one behind the other

-- behind the first, all lies later than the tap's start
hears_behind : (x : Ear) (es : List Entry) (q until : ℕ) (bs : List Burst) → x.since < q → All (IsSensed x.delay x.tap x.since) es → Chain x es q until bs → HearsFrom x.delay x.since es q bs
hears_behind x es q until [] late senses c = tt
hears_behind x es q until (b ∷ bs) late senses c =
    let after = c.0 in
    let some = c.1 in (
      after,
      some,
      all_clear x q b.begin es (omega (arith, late)) (omega (arith, late, after)) senses c.2,
      is_of x es b (omega (arith, late, after)) some senses c.3,
      hears_behind x es b.end until bs (omega (arith, late, after, some)) senses c.4,
    )

-- an entry lasts through a moment at the listener
abbrev Lasts : (delay m : ℕ) → Entry → Type 0
Lasts delay m e = ((reaches_taps delay e).begin < m) × (m < (reaches_taps delay e).end)

clear_or_lasts : (delay m : ℕ) (es : List Entry) → AllClear delay m m es ⊎ Has (Lasts delay m) es
clear_or_lasts delay m [] = inl tt
clear_or_lasts delay m (e ∷ es) =
    ⊎_elim
    (λ (a : (reaches_taps delay e).begin < m). ⊎_elim (λ (b : m < (reaches_taps delay e).end). inr (inl (a, b))) (λ (b : (reaches_taps delay e).end ≤ m). with_clear (inl b) (clear_or_lasts delay m es)) (cases_lt m (reaches_taps delay e).end))
    (λ (a : m ≤ (reaches_taps delay e).begin). with_clear (inr a) (clear_or_lasts delay m es))
    (cases_lt (reaches_taps delay e).begin m)
  where
    with_clear : IsClear m m (reaches_taps delay e) → AllClear delay m m es ⊎ Has (Lasts delay m) es → AllClear delay m m (e ∷ es) ⊎ Has (Lasts delay m) (e ∷ es)
    with_clear c (inl all) = inl (c, all)
    with_clear c (inr has) = inr (inr has)

is_none : (a : Arrival) → (a ≡ NoTelegram) ⊎ (a ≡ NoTelegram → ⊥)
is_none (Token da sa) = inr (λ e. cc)
is_none (Framed f) = inr (λ e. cc)
is_none Acknowledgement = inr (λ e. cc)
is_none NoTelegram = inl refl

-- what lasts through the begin of a burst neither fills it nor is apart from it
lasts_told : (delay : ℕ) (b : Burst) (e : Entry) → b.begin < b.end → Lasts delay b.begin e → IsTold delay b e → ⊥
lasts_told delay b (Noise span) some lasts told =
    ⊎_elim (λ (f : Fills delay b (Noise span)). f) (λ (a : (span.end ≤ b.begin) ⊎ (b.end ≤ span.begin)). ⊎_elim (λ (l : span.end ≤ b.begin). let z = lasts.1 in omega (arith, l, z)) (λ (l : b.end ≤ span.begin). let z = lasts.0 in omega (arith, l, z, some)) a) told
lasts_told delay b (Sent r) some lasts told =
    ⊎_elim (λ (f : Fills delay b (Sent r)). let g = f.0 in let z = lasts.0 in omega (arith, g, z))
    (λ (a : (r.end + delay ≤ b.begin) ⊎ (b.end ≤ r.begin + delay)). ⊎_elim (λ (l : r.end + delay ≤ b.begin). let z = lasts.1 in omega (arith, l, z)) (λ (l : b.end ≤ r.begin + delay). let z = lasts.0 in omega (arith, l, z, some)) a) told

pub hears_chain : (x : Ear) (es : List Entry) (until : ℕ) (bs : List Burst) → All (IsSensed x.delay x.tap x.since) es → Chain x es x.since until bs → HearsSince x.delay x.since es bs
hears_chain x es until [] senses c = inl tt
hears_chain x es until (b ∷ bs) senses c =
    let from = c.0 in
    let some = c.1 in
    let of = is_of x es b from some senses c.3 in
    let rest = hears_behind x es b.end until bs (omega (arith, from, some)) senses c.4 in
    ⊎_elim (λ (late : x.since < b.begin). inl (from, some, all_clear x x.since b.begin es (omega arith) late senses c.2, of, rest))
    (λ (at : b.begin ≤ x.since).
    let same : b.begin ≡ x.since = omega (arith, at, from) in
    ⊎_elim (λ (clear : AllClear x.delay x.since x.since es). inl (from, some, subst (λ n. AllClear x.delay x.since n es) (sym same) clear, of, rest))
    (λ (amid : Has (Lasts x.delay x.since) es).
    inr (same, omega (arith, some, same), blind of some same amid, of.solid, rest))
    (clear_or_lasts x.delay x.since es))
    (cases_lt x.since b.begin)
  where
    blind : IsOf x.delay x.since es b → b.begin < b.end → b.begin ≡ x.since → Has (Lasts x.delay x.since) es → arrival_of b.chars ≡ NoTelegram
    blind of some same amid =
        ⊎_elim (λ (none : arrival_of b.chars ≡ NoTelegram). none)
        (λ (spells : arrival_of b.chars ≡ NoTelegram → ⊥).
        absurd (each_has (Lasts x.delay b.begin) (IsTold x.delay b) es (λ e l t. lasts_told x.delay b e some l t) (subst (λ n. Has (Lasts x.delay n) es) (sym same) amid) (of.told spells).1))
        (is_none (arrival_of b.chars))

pub taps_capture_by : TapsCaptureByActions
taps_capture_by p specs actions new w tap t is =
    let has = is.acted in
    let low : p.hsa < 127 = (let h = is.highest in omega (arith, h)) in
    let first = new_taped p specs new tap low has.fit has.made in
    let highest : new.params.hsa < 127 = subst (λ (z : Params). z.hsa < 127) (sym (new_params p specs new has.made)) low in
    let taped = acts_taped actions new w tap blank highest has.are has.leads first in
    let heard = taped.hears t is.here is.running in
    let same = params_by p specs actions new w has in
    hears_chain (record { delay = p.ttd; tap = tap; since = t.since }) w.trace heard.q (bursts_heard_by tap new actions) is.senses
    (subst (λ (z : Params). Chain (record { delay = z.ttd; tap = tap; since = t.since }) w.trace t.since heard.q (bursts_heard_by tap new actions)) same heard.chain)

-- ---- events are actions

taped_happen : (tap : ℕ) (events : List Event) (w : World) (tape : Tape) → taped_all_by tap w tape (happen events) ≡ taped_all tap w tape events
taped_happen tap [] w tape = refl
taped_happen tap (e ∷ es) w tape = taped_happen tap es (world_after w (step w e)) (taped tap w tape e)

pub heard_happen : (tap : ℕ) (new : World) (events : List Event) → bursts_heard_by tap new (happen events) ≡ bursts_heard tap new events
heard_happen tap new events = ap (λ (z : Tape). z.bursts) (taped_happen tap events new blank)

pub taps_capture : TapsCapture
taps_capture p specs events new w tap t is =
    subst (HearsSince p.ttd t.since w.trace) (heard_happen tap new events)
    (taps_capture_by p specs (happen events) new w tap t (record { highest = is.highest; acted = acted_happen p specs events new w is.run; here = is.here; running = is.running; senses = is.senses }))
