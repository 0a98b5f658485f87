-- How a pass settles what was in the air.
use Rattle.std.proofs.Common.{◌≡◌, ℕ, zero, suc, ◌+◌, ◌<◌, ◌≤◌, List, [], ◌∷◌, ◌++◌, Bool, true, false, if◌then◌else◌, not, length, map, get_or, set, take, drop, ◌&&◌, ◌||◌, ◌==◌, refl, ap, sym, ◌∙◌, arith, Option, Some, None}
use Rattle.std.specs.Prelude.{slice_get, count_by}
use Rattle.std.specs.List.{list_any, list_all, cons_option}
use Rattle.std.specs.Option.{option_and_then, option_map}
use Rattle.std.proofs.lemmas.Option.{slice_get-map, slice_get_read, slice_get_past}
use Rattle.std.proofs.lemmas.List.{length-map, set-get_or}
use Rattle.pb_telegram.specs.Faults.{is_bad}
use Rattle.law_turn.specs.Spans.{Span}
use Rattle.law_model.specs.Trace.{Heard, Own, Whole, Damaged, Unheard, Pending, Record, Entry, Sent, Noise, characters_at}
use Rattle.law_model.specs.Medium.{Tap, overlaps, part_after, reaches, is_unheard, at_tap, sensed, hears_from, sends_during, fills_burst, is_whole_at, heard_in_the_end, heard_by, ends_between, entry_at}
use Rattle.law_model.proofs.Cases.{by_test}
use Rattle.pb_taps.proofs.Replacing.{replaced-more, replaced-all, replaced-at}
use Rattle.pb_medium.specs.Settling.{heard_with}
use Rattle.pb_medium.proofs.Receiving.{replaced-length}

-- ---- entries that look the same

-- two entries look the same to every tap
pub record LooksAs (delay : ℕ) (e f : Entry) : Type 0 where
  pub reached : (tap : ℕ) → at_tap delay tap e ≡ at_tap delay tap f
  pub sent : (tap : ℕ) (span : Span) → sends_during tap span e ≡ sends_during tap span f

abbrev pub AllLookAs : ℕ → List Entry → List Entry → Type 0
AllLookAs delay [] [] = Unit {0}
AllLookAs delay [] (f ∷ fs) = ⊥
AllLookAs delay (e ∷ es) [] = ⊥
AllLookAs delay (e ∷ es) (f ∷ fs) = LooksAs delay e f × AllLookAs delay es fs

sensed-same : (delay : ℕ) (tap since : ℕ) (es fs : List Entry) → AllLookAs delay es fs → sensed delay tap since es ≡ sensed delay tap since fs
sensed-same delay tap since [] [] same = refl
sensed-same delay tap since [] (f ∷ fs) same = absurd same
sensed-same delay tap since (e ∷ es) [] same = absurd same
sensed-same delay tap since (e ∷ es) (f ∷ fs) same =
    ap (λ (o : Option Span). cons_option (option_and_then (part_after since) o) (sensed delay tap since es)) (same.0.reached tap)
    ∙ ap (λ (spans : List Span). cons_option (option_and_then (part_after since) (at_tap delay tap f)) spans) (sensed-same delay tap since es fs same.1)

sends-same : (delay : ℕ) (tap : ℕ) (span : Span) (es fs : List Entry) → AllLookAs delay es fs → list_any (sends_during tap span) es ≡ list_any (sends_during tap span) fs
sends-same delay tap span [] [] same = refl
sends-same delay tap span [] (f ∷ fs) same = absurd same
sends-same delay tap span (e ∷ es) [] same = absurd same
sends-same delay tap span (e ∷ es) (f ∷ fs) same =
    ap (λ (b : Bool). b || list_any (sends_during tap span) es) (same.0.sent tap span)
    ∙ ap (λ (b : Bool). sends_during tap span f || b) (sends-same delay tap span es fs same.1)

fills_burst-same : (delay : ℕ) (tap : ℕ) (t : Tap) (es fs : List Entry) (r : Record) → AllLookAs delay es fs → fills_burst delay tap t es r ≡ fills_burst delay tap t fs r
fills_burst-same delay tap t es fs r same =
    let span = reaches delay r in
    let heard : Bool = not (r.tap == tap || is_unheard (slice_get r.heard tap)) && hears_from t span.begin in
    ap (λ (spans : List Span). (heard && count_by (overlaps span) spans == 1) && not (list_any (sends_during tap span) es)) (sensed-same delay tap t.since es fs same)
    ∙ ap (λ (b : Bool). (heard && count_by (overlaps span) (sensed delay tap t.since fs) == 1) && not b) (sends-same delay tap span es fs same)

is_whole_at-same : (delay : ℕ) (tap : ℕ) (t : Tap) (es fs : List Entry) (r : Record) → AllLookAs delay es fs → is_whole_at delay tap t es r ≡ is_whole_at delay tap t fs r
is_whole_at-same delay tap t es fs r same =
    ap (λ (b : Bool). t.running && b && length (characters_at tap r) == length r.octets && list_all (λ char. not (is_bad char)) (characters_at tap r))
    (fills_burst-same delay tap t es fs r same)

heard_by-same : (delay : ℕ) (es fs : List Entry) (r : Record) (tap : ℕ) (ts : List Tap) (hs : List Heard) → AllLookAs delay es fs
    → heard_by delay es r tap ts hs ≡ heard_by delay fs r tap ts hs
heard_by-same delay es fs r tap [] hs same = refl
heard_by-same delay es fs r tap (t ∷ ts) [] same = refl
heard_by-same delay es fs r tap (t ∷ ts) (h ∷ hs) same =
    ap (λ (b : Bool). heard_in_the_end b h ∷ heard_by delay es r (tap + 1) ts hs) (is_whole_at-same delay tap t es fs r same)
    ∙ ap (λ (more : List Heard). heard_in_the_end (is_whole_at delay tap t fs r) h ∷ more) (heard_by-same delay es fs r (tap + 1) ts hs same)

entry_at-same : (delay : ℕ) (ts : List Tap) (es fs : List Entry) (from to : ℕ) (e : Entry) → AllLookAs delay es fs
    → entry_at delay ts es from to e ≡ entry_at delay ts fs from to e
entry_at-same delay ts es fs from to (Noise span) same = refl
entry_at-same delay ts es fs from to (Sent r) same =
    ap (λ (hs : List Heard). if ends_between from to (reaches delay r) then Sent (record r { heard = hs }) else Sent r) (heard_by-same delay es fs r 0 ts r.heard same)

-- ---- what settles looks the same

unheard-end : (whole : Bool) (h : Heard) → is_unheard (Some (heard_in_the_end whole h)) ≡ is_unheard (Some h)
unheard-end whole Own = refl
unheard-end whole Whole = refl
unheard-end whole Damaged = refl
unheard-end whole Unheard = refl
unheard-end true Pending = refl
unheard-end false Pending = refl

unheard-kept : (delay : ℕ) (es : List Entry) (r : Record) (tap : ℕ) (ts : List Tap) (hs : List Heard) (n : ℕ)
    → is_unheard (slice_get (heard_by delay es r tap ts hs) n) ≡ is_unheard (slice_get hs n)
unheard-kept delay es r tap [] hs n = refl
unheard-kept delay es r tap (t ∷ ts) [] n = refl
unheard-kept delay es r tap (t ∷ ts) (h ∷ hs) zero = unheard-end (is_whole_at delay tap t es r) h
unheard-kept delay es r tap (t ∷ ts) (h ∷ hs) (suc n) = unheard-kept delay es r (tap + 1) ts hs n

looks-itself : (delay : ℕ) (e : Entry) → LooksAs delay e e
looks-itself delay e = record { reached = λ tap. refl; sent = λ tap span. refl }

settled-looks : (delay : ℕ) (ts : List Tap) (es : List Entry) (from to : ℕ) (e : Entry) → LooksAs delay e (entry_at delay ts es from to e)
settled-looks delay ts es from to (Noise span) = looks-itself delay (Noise span)
settled-looks delay ts es from to (Sent r) =
    by_test (LooksAs delay (Sent r)) (ends_between from to (reaches delay r)) (Sent (record r { heard = heard_by delay es r 0 ts r.heard })) (Sent r)
    (λ _. record {
      reached = λ tap. ap (λ (b : Bool). if r.tap == tap || b then None else Some (reaches delay r)) (sym (unheard-kept delay es r 0 ts r.heard tap));
      sent = λ tap span. refl;
    })
    (λ _. looks-itself delay (Sent r))

all-itself : (delay : ℕ) (es : List Entry) → AllLookAs delay es es
all-itself delay [] = tt
all-itself delay (e ∷ es) = (looks-itself delay e, all-itself delay es)

-- entries look the same while some of them have changed and the others not yet
partly-looks : (delay : ℕ) (change : Entry → Entry) → ((e : Entry) → LooksAs delay e (change e)) → (es : List Entry) (i : ℕ)
    → AllLookAs delay es (take i (map change es) ++ drop i es)
partly-looks delay change looks [] zero = tt
partly-looks delay change looks [] (suc i) = tt
partly-looks delay change looks (e ∷ es) zero = all-itself delay (e ∷ es)
partly-looks delay change looks (e ∷ es) (suc i) = (looks e, partly-looks delay change looks es i)

-- ---- what settles, one telegram after another

pub heard_by-length : (delay : ℕ) (es : List Entry) (r : Record) (tap : ℕ) (ts : List Tap) (hs : List Heard) → length (heard_by delay es r tap ts hs) ≡ length hs
heard_by-length delay es r tap [] hs = refl
heard_by-length delay es r tap (t ∷ ts) [] = refl
heard_by-length delay es r tap (t ∷ ts) (h ∷ hs) = ap (λ (n : ℕ). suc n) (heard_by-length delay es r (tap + 1) ts hs)

-- what the telegram was to one of the taps
pub heard_by-at : (delay : ℕ) (es : List Entry) (r : Record) (tap : ℕ) (ts : List Tap) (hs : List Heard) (i n : ℕ) (d : Heard) → tap + i ≡ n → i < length hs
    → get_or (heard_by delay es r tap ts hs) i d ≡ heard_with delay es r n (slice_get ts i) (get_or hs i d)
heard_by-at delay es r tap [] hs i n d same within = refl
heard_by-at delay es r tap (t ∷ ts) [] i n d same within = absurd (omega arith)
heard_by-at delay es r tap (t ∷ ts) (h ∷ hs) zero n d same within =
    ap (λ (m : ℕ). heard_in_the_end (is_whole_at delay m t es r) h) (let e : tap ≡ n = omega arith in e)
heard_by-at delay es r tap (t ∷ ts) (h ∷ hs) (suc i) n d same within = heard_by-at delay es r (tap + 1) ts hs i n d (omega arith) (omega arith)

-- nothing settles where there is no tap
pub none-settles : {X : Type 0} (f : X → Tap) (delay : ℕ) (es : List Entry) (r : Record) (xs : List X) (hs : List Heard) (tap : ℕ) → length xs ≤ tap
    → hs ≡ set hs tap (heard_with delay es r tap (slice_get (map f xs) tap) (get_or hs tap Pending))
none-settles f delay es r xs hs tap past =
    sym (set-get_or hs tap Pending)
    ∙ ap (λ (o : Option Tap). set hs tap (heard_with delay es r tap o (get_or hs tap Pending))) (sym (slice_get_past (map f xs) tap (omega (arith, length-map xs f, past))))

-- what is known while the telegram has settled at the taps before one
pub settles-length : (delay : ℕ) (es : List Entry) (r : Record) (ts : List Tap) (before now : List Heard) (tap : ℕ)
    → now ≡ take tap (heard_by delay es r 0 ts before) ++ drop tap before → length now ≡ length before
settles-length delay es r ts before now tap front =
    ap (λ (hs : List Heard). length hs) front ∙ replaced-length (heard_by delay es r 0 ts before) before tap (heard_by-length delay es r 0 ts before)

-- it settles at that tap too
pub settles-more : (delay : ℕ) (es : List Entry) (r : Record) (ts : List Tap) (before now : List Heard) (tap : ℕ)
    → now ≡ take tap (heard_by delay es r 0 ts before) ++ drop tap before → tap < length before
    → set now tap (heard_with delay es r tap (slice_get ts tap) (get_or now tap Pending)) ≡ take (tap + 1) (heard_by delay es r 0 ts before) ++ drop (tap + 1) before
settles-more delay es r ts before now tap front within =
    let all = heard_by delay es r 0 ts before in
    let same : length all ≡ length before = heard_by-length delay es r 0 ts before in
    let none : 0 + tap ≡ tap = omega arith in
    let settled : Heard → Heard = heard_with delay es r tap (slice_get ts tap) in
    let is : settled (get_or now tap Pending) ≡ get_or all tap Pending =
    ap (λ (hs : List Heard). settled (get_or hs tap Pending)) front ∙ ap settled (replaced-at all before tap Pending same within)
    ∙ sym (heard_by-at delay es r 0 ts before tap tap Pending none within) in
    ap (λ (hs : List Heard). set hs tap (settled (get_or now tap Pending))) front ∙ replaced-more all before tap (settled (get_or now tap Pending)) Pending same within is

-- it has settled at all of them
pub settles-all : (delay : ℕ) (es : List Entry) (r : Record) (ts : List Tap) (before now : List Heard) (tap : ℕ)
    → now ≡ take tap (heard_by delay es r 0 ts before) ++ drop tap before → length before ≤ tap → now ≡ heard_by delay es r 0 ts before
settles-all delay es r ts before now tap front over =
    front ∙ replaced-all (heard_by delay es r 0 ts before) before tap (heard_by-length delay es r 0 ts before) over

-- what a telegram in the air was to a tap
pub pending-heard : {X : Type 0} (f : X → Tap) (delay : ℕ) (es : List Entry) (r : Record) (xs : List X) (tap : ℕ) (x : X) (h : Heard) (whole : Bool) → tap < length xs
    → x ≡ get_or xs tap x → h ≡ Pending → whole ≡ is_whole_at delay tap (f x) es r → heard_in_the_end whole Pending ≡ heard_with delay es r tap (slice_get (map f xs) tap) h
pending-heard {X} f delay es r xs tap x h whole within is pending known =
    let found : slice_get (map f xs) tap ≡ Some (f x) = slice_get-map f xs tap ∙ ap (option_map f) (slice_get_read xs (length xs) tap x refl within is) in
    ap (λ (b : Bool). heard_in_the_end b Pending) known
    ∙ ap (heard_in_the_end (is_whole_at delay tap (f x) es r)) (sym pending)
    ∙ ap (λ (o : Option Tap). heard_with delay es r tap o h) (sym found)

-- an entry that settles among entries of which some have settled is what it is among the entries as they were
pub settled-partly : (delay : ℕ) (ts : List Tap) (es now : List Entry) (from to i : ℕ) (e : Entry)
    → now ≡ take i (map (entry_at delay ts es from to) es) ++ drop i es → entry_at delay ts now from to e ≡ entry_at delay ts es from to e
settled-partly delay ts es now from to i e front =
    ap (λ (fs : List Entry). entry_at delay ts fs from to e) front
    ∙ sym (entry_at-same delay ts es (take i (map (entry_at delay ts es from to) es) ++ drop i es) from to e (partly-looks delay (entry_at delay ts es from to) (settled-looks delay ts es from to) es i))
