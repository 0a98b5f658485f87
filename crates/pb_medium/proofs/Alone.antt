-- What a tap is told of what is alone on the bus.
use Rattle.std.proofs.Common.{◌≡◌, ◌<◌, ◌≤◌, ℕ, List, [], ◌∷◌, ◌++◌, Bool, true, false, cond, if◌then◌else◌, not, ◌&&◌, ◌||◌, ◌+◌, ◌==◌, length, get_or, refl, ap, sym, ◌∙◌, arith, Some, None, map}
use Rattle.std.specs.Prelude.{nat_lt, nat_le, count_by, find, max, take, slice_get, ◌-◌, ◌/◌}
use Rattle.std.proofs.lemmas.Bool.Decides.{nat_tests}
use Rattle.std.proofs.lemmas.Bool.{lt-ltb, eq-eqb}
use Rattle.std.specs.List.{list_any, list_all, cons_option}
use Rattle.std.specs.Option.{option_and_then}
use Rattle.std.proofs.Math.Bool.{and-true}
use Rattle.pb_timers.specs.Timers.{bits}
use Rattle.pb_telegram.specs.Faults.{is_bad}
use Rattle.pb_telegram.specs.declared.chars.RxChar.{RxChar}
use Rattle.pb_telegram.specs.declared.chars.RxChar.TheVariants.{Good, Bad}
use Rattle.law_turn.specs.Spans.{Span}
use Rattle.law_turn.specs.Marks.{Mark, Begin, End}
use Rattle.law_model.specs.Trace.{Record, Entry, Sent, Noise, characters_from, characters_at}
use Rattle.law_model.specs.Medium.{Tap, reaches, is_unheard, part_after, overlaps, sends_during, entry_characters, sensed, begins_in, ends_in, begin_mark, end_mark, hears_from, fills_burst, fills_burst_to, burst_characters, is_whole_at, marks_between, new_marks}
use Rattle.pb_medium.specs.Senses.{is_undamaged}
use Rattle.pb_medium.specs.Settling.{comes_whole, hears_all}
use Rattle.pb_medium.specs.Lone.{IsPlain, Lone, is_sent_by, brought, lone_begin, lone_end, lone_marks, IsLone}
use Rattle.pb_medium.proofs.Sensing.{unhit-undamaged}

-- ---- the marks of one stretch

begins-alone : (span : Span) (from to : ℕ) → begins_in (span ∷ []) from to span ≡ (nat_le from span.begin && nat_lt span.begin to)
begins-alone span from to = grind (arith, nat_tests)

ends-alone : (span : Span) (from to : ℕ) → ends_in (span ∷ []) from to span ≡ (nat_lt from span.end && nat_le span.end to)
ends-alone span from to = grind (arith, nat_tests)

begin-marked : (seen : ℕ) (part : Span) (b : Bool) → begin_mark seen (cond b (Some part) None) ≡ (if b then Begin part.begin seen ∷ [] else [])
begin-marked seen part true = refl
begin-marked seen part false = refl

end-marked : (delay tap : ℕ) (t : Tap) (trace : List Entry) (seen : ℕ) (part : Span) (b : Bool)
    → end_mark delay tap t trace seen (cond b (Some part) None) ≡ (if b then End part.end seen (burst_characters delay tap t trace part.end) ∷ [] else [])
end-marked delay tap t trace seen part true = refl
end-marked delay tap t trace seen part false = refl

-- a tap that senses one stretch, whose burst brings it what the lone brings
marks-of-part : (delay : ℕ) (l : Lone) (tap : ℕ) (t : Tap) (trace : List Entry) (from to : ℕ) → sensed delay tap t.since trace ≡ record { begin = max l.span.begin t.since; end = l.span.end } ∷ []
    → burst_characters delay tap t trace l.span.end ≡ (if hears_from t l.span.begin then brought l.octets else Bad ∷ [])
    → marks_between delay tap t trace from to ≡ lone_begin l t from to ++ lone_end l t from to
marks-of-part delay l tap t trace from to one brings =
    let part : Span = record { begin = max l.span.begin t.since; end = l.span.end } in
    ap (λ (spans : List Span). begin_mark to (find (begins_in spans from to) spans) ++ end_mark delay tap t trace to (find (ends_in spans from to) spans)) one
    ∙ ap (λ (b : Bool). begin_mark to (cond b (Some part) None) ++ end_mark delay tap t trace to (find (ends_in (part ∷ []) from to) (part ∷ []))) (begins-alone part from to)
    ∙ ap (λ (ms : List Mark). ms ++ end_mark delay tap t trace to (find (ends_in (part ∷ []) from to) (part ∷ []))) (begin-marked to part (nat_le from part.begin && nat_lt part.begin to))
    ∙ ap (λ (b : Bool). lone_begin l t from to ++ end_mark delay tap t trace to (cond b (Some part) None)) (ends-alone part from to)
    ∙ ap (λ (ms : List Mark). lone_begin l t from to ++ ms) (end-marked delay tap t trace to part (nat_lt from part.end && nat_le part.end to))
    ∙ ap (λ (chars : List RxChar). lone_begin l t from to ++ (if nat_lt from l.span.end && nat_le l.span.end to then End l.span.end to chars ∷ [] else [])) brings

-- a trace of one entry of which a tap senses no more than what is alone
record Reaches (delay : ℕ) (l : Lone) (tap : ℕ) (t : Tap) (trace : List Entry) : Type 0 where
  pub own : is_sent_by tap l.speaker ≡ true → sensed delay tap t.since trace ≡ []
  pub part : is_sent_by tap l.speaker ≡ false
      → sensed delay tap t.since trace ≡ (if nat_lt t.since l.span.end then record { begin = max l.span.begin t.since; end = l.span.end } ∷ [] else [])
  pub brings : is_sent_by tap l.speaker ≡ false → burst_characters delay tap t trace l.span.end ≡ (if hears_from t l.span.begin then brought l.octets else Bad ∷ [])

marks-of-none : (delay : ℕ) (tap : ℕ) (t : Tap) (trace : List Entry) (from to : ℕ) → sensed delay tap t.since trace ≡ [] → marks_between delay tap t trace from to ≡ []
marks-of-none delay tap t trace from to none =
    ap (λ (spans : List Span). begin_mark to (find (begins_in spans from to) spans) ++ end_mark delay tap t trace to (find (ends_in spans from to) spans)) none

-- the marks of a tap that runs
marks-between : (delay : ℕ) (l : Lone) (tap : ℕ) (t : Tap) (trace : List Entry) (from to : ℕ) → Reaches delay l tap t trace → (sends hears : Bool) → is_sent_by tap l.speaker ≡ sends
    → nat_lt t.since l.span.end ≡ hears → marks_between delay tap t trace from to ≡ (if not sends && hears then lone_begin l t from to ++ lone_end l t from to else [])
marks-between delay l tap t trace from to r true hears sends _ = marks-of-none delay tap t trace from to (r.own sends)
marks-between delay l tap t trace from to r false true sends hears =
    marks-of-part delay l tap t trace from to
    (r.part sends ∙ ap (λ (b : Bool). if b then record { begin = max l.span.begin t.since; end = l.span.end } ∷ [] else []) hears)
    (r.brings sends)
marks-between delay l tap t trace from to r false false sends hears =
    marks-of-none delay tap t trace from to
    (r.part sends ∙ ap (λ (b : Bool). if b then record { begin = max l.span.begin t.since; end = l.span.end } ∷ [] else []) hears)

marked : (delay : ℕ) (l : Lone) (tap : ℕ) (t : Tap) (trace : List Entry) (from to : ℕ) → Reaches delay l tap t trace → new_marks delay tap t trace from to ≡ lone_marks l tap t from to
marked delay l tap t trace from to r = by t.running refl
  where
    by : (runs : Bool) → t.running ≡ runs → new_marks delay tap t trace from to ≡ lone_marks l tap t from to
    by true runs =
        ap (λ (b : Bool). if b then marks_between delay tap t trace from to else []) runs
        ∙ marks-between delay l tap t trace from to r (is_sent_by tap l.speaker) (nat_lt t.since l.span.end) refl refl
        ∙ sym (ap (λ (b : Bool). if b && not (is_sent_by tap l.speaker) && nat_lt t.since l.span.end then lone_begin l t from to ++ lone_end l t from to else []) runs)
    by false runs =
        ap (λ (b : Bool). if b then marks_between delay tap t trace from to else []) runs
        ∙ sym (ap (λ (b : Bool). if b && not (is_sent_by tap l.speaker) && nat_lt t.since l.span.end then lone_begin l t from to ++ lone_end l t from to else []) runs)

-- ---- noise

either-same : {X : Type 0} (b : Bool) (x : X) → x ≡ (if b then x else x)
either-same true x = refl
either-same false x = refl

some-listed : {X : Type 0} (b : Bool) (x : X) → cons_option (if b then Some x else None) [] ≡ (if b then x ∷ [] else [])
some-listed true x = refl
some-listed false x = refl

noise-reaches : (delay : ℕ) (span : Span) (tap : ℕ) (t : Tap) → Reaches delay (record { speaker = None; span = span; octets = None }) tap t (Noise span ∷ [])
noise-reaches delay span tap t = record {
  own = λ wrong. absurd cc;
  part = λ _. some-listed (nat_lt t.since span.end) (record { begin = max span.begin t.since; end = span.end });
  brings = λ _. either-same (hears_from t span.begin) (Bad ∷ []);
}

pub lone-noise : (delay : ℕ) (span : Span) → IsLone delay (record { speaker = None; span = span; octets = None }) (Noise span ∷ [])
lone-noise delay span = record {
  marks = λ tap t from to. marked delay (record { speaker = None; span = span; octets = None }) tap t (Noise span ∷ []) from to (noise-reaches delay span tap t);
  few = tt;
}

-- ---- a telegram

-- what a tap senses of it
sent-sensed : (delay tap since : ℕ) (r : Record) (own : Bool) → (r.tap == tap) ≡ own → is_unheard (slice_get r.heard tap) ≡ false
    → sensed delay tap since (Sent r ∷ [])
    ≡ (if own then [] else if nat_lt since (reaches delay r).end then record { begin = max (reaches delay r).begin since; end = (reaches delay r).end } ∷ [] else [])
sent-sensed delay tap since r true is _ = ap (λ (b : Bool). cons_option (option_and_then (part_after since) (if b || is_unheard (slice_get r.heard tap) then None else Some (reaches delay r))) []) is
sent-sensed delay tap since r false is heard =
    ap (λ (b : Bool). cons_option (option_and_then (part_after since) (if b || is_unheard (slice_get r.heard tap) then None else Some (reaches delay r))) []) is
    ∙ ap (λ (b : Bool). cons_option (option_and_then (part_after since) (if b then None else Some (reaches delay r))) []) heard
    ∙ some-listed (nat_lt since (reaches delay r).end) (record { begin = max (reaches delay r).begin since; end = (reaches delay r).end })

lasts-later : (begin end delay : ℕ) → nat_lt (begin + delay) (end + delay) ≡ nat_lt begin end
lasts-later begin end delay = grind (arith, nat_tests)

heard-before : (t : Tap) (m : ℕ) → hears_from t m ≡ true → t.since ≤ m
heard-before t m hears = grind (arith, nat_tests)

-- a stretch overlaps what lies of it after a moment that is not behind its begin, if it lasts
overlaps-part : (begin end since : ℕ) → since ≤ begin
    → (count_by (overlaps (record { begin = begin; end = end })) (if nat_lt since end then record { begin = max begin since; end = end } ∷ [] else []) == 1) ≡ nat_lt begin end
overlaps-part begin end since early = grind (arith, nat_tests)

fills-parts : (own unheard hears alone lasts sends : Bool) → (own ≡ false → unheard ≡ false → hears ≡ true → alone ≡ lasts) → (own ≡ false → sends ≡ false)
    → (not (own || unheard) && hears && alone && not sends) ≡ (not (own || unheard) && hears && lasts)
fills-parts true unheard hears alone lasts sends same quiet = refl
fills-parts false true hears alone lasts sends same quiet = refl
fills-parts false false false alone lasts sends same quiet = refl
fills-parts false false true alone lasts sends same quiet = ap (λ (b : Bool). b && not sends) (same refl refl refl) ∙ ap (λ (b : Bool). lasts && not b) (quiet refl) ∙ and-true lasts

-- it fills the burst of a tap that gets it and has heard it from its beginning, if it lasts
pub sent-fills : (delay tap : ℕ) (t : Tap) (r : Record)
    → fills_burst delay tap t (Sent r ∷ []) r ≡ (not (r.tap == tap || is_unheard (slice_get r.heard tap)) && hears_from t (reaches delay r).begin && nat_lt r.begin r.end)
sent-fills delay tap t r =
    let span = reaches delay r in
    fills-parts (r.tap == tap) (is_unheard (slice_get r.heard tap)) (hears_from t span.begin)
    (count_by (overlaps span) (sensed delay tap t.since (Sent r ∷ [])) == 1) (nat_lt r.begin r.end) (list_any (sends_during tap span) (Sent r ∷ []))
    (λ other heard hears.
    ap (λ (spans : List Span). count_by (overlaps span) spans == 1) (sent-sensed delay tap t.since r false other heard)
    ∙ overlaps-part span.begin span.end t.since (heard-before t span.begin hears) ∙ lasts-later r.begin r.end delay)
    (λ other. ap (λ (b : Bool). (b && overlaps (record { begin = r.begin; end = r.end }) span) || false) other)

-- the same of one that no tap loses
sent-filled : (delay tap : ℕ) (t : Tap) (r : Record) → IsPlain r → (r.tap == tap) ≡ false
    → fills_burst_to delay tap t (Sent r ∷ []) (reaches delay r).end (Sent r) ≡ hears_from t (reaches delay r).begin
sent-filled delay tap t r plain other =
    let span = reaches delay r in
    ap (λ (b : Bool). b && fills_burst delay tap t (Sent r ∷ []) r) (eq-eqb span.end span.end refl) ∙ sent-fills delay tap t r
    ∙ ap (λ (b : Bool). not (b || is_unheard (slice_get r.heard tap)) && hears_from t span.begin && nat_lt r.begin r.end) other
    ∙ ap (λ (b : Bool). not b && hears_from t span.begin && nat_lt r.begin r.end) (plain.heard tap)
    ∙ ap (λ (b : Bool). hears_from t span.begin && b) (lt-ltb r.begin r.end plain.lasts) ∙ and-true _

good-characters : (tap place : ℕ) (octets : List ℕ) → characters_from tap [] place octets ≡ map Good octets
good-characters tap place [] = refl
good-characters tap place (octet ∷ octets) = ap (λ (chars : List RxChar). Good octet ∷ chars) (good-characters tap (place + 1) octets)

-- the burst that it fills, or not, brings its octets, or damage
sent-brings : (delay tap : ℕ) (t : Tap) (r : Record) (octets : List ℕ) → IsPlain r → octets ≡ take ((r.end - r.begin) / bits 1) r.octets → (r.tap == tap) ≡ false
    → burst_characters delay tap t (Sent r ∷ []) (reaches delay r).end ≡ (if hears_from t (reaches delay r).begin then map Good octets else Bad ∷ [])
sent-brings delay tap t r octets plain sent other =
    ap (λ (b : Bool). entry_characters tap (cond b (Some (Sent r)) None)) (sent-filled delay tap t r plain other)
    ∙ by (hears_from t (reaches delay r).begin)
  where
    by : (b : Bool) → entry_characters tap (cond b (Some (Sent r)) None) ≡ (if b then map Good octets else Bad ∷ [])
    by true = ap (λ hits. characters_from tap hits 0 (take ((r.end - r.begin) / bits 1) r.octets)) plain.unhit ∙ good-characters tap 0 _ ∙ ap (map Good) (sym sent)
    by false = refl

sent-reaches : (delay : ℕ) (r : Record) (octets : List ℕ) (tap : ℕ) (t : Tap) → IsPlain r → octets ≡ take ((r.end - r.begin) / bits 1) r.octets
    → Reaches delay (record { speaker = Some r.tap; span = reaches delay r; octets = Some octets }) tap t (Sent r ∷ [])
sent-reaches delay r octets tap t plain sent = record {
  own = λ is. sent-sensed delay tap t.since r true is (plain.heard tap);
  part = λ other. sent-sensed delay tap t.since r false other (plain.heard tap);
  brings = λ other. sent-brings delay tap t r octets plain sent other;
}

pub lone-sent : (delay : ℕ) (r : Record) (octets : List ℕ) → IsPlain r → octets ≡ take ((r.end - r.begin) / bits 1) r.octets → length octets ≤ 255
    → IsLone delay (record { speaker = Some r.tap; span = reaches delay r; octets = Some octets }) (Sent r ∷ [])
lone-sent delay r octets plain sent few = record {
  marks = λ tap t from to.
      marked delay (record { speaker = Some r.tap; span = reaches delay r; octets = Some octets }) tap t (Sent r ∷ []) from to (sent-reaches delay r octets tap t plain sent);
  few = few;
}

whole-parts : (runs own unheard hears lasts long good : Bool)
    → (runs && (not (own || unheard) && hears && lasts) && long && good) ≡ (runs && hears && not own && (lasts && not unheard && (long && good)))
whole-parts false own unheard hears lasts long good = refl
whole-parts true true unheard true lasts long good = refl
whole-parts true true unheard false lasts long good = refl
whole-parts true false true true true long good = refl
whole-parts true false true true false long good = refl
whole-parts true false true false lasts long good = refl
whole-parts true false false true true long good = refl
whole-parts true false false true false long good = refl
whole-parts true false false false lasts long good = refl

-- it came whole to a tap that has heard all of it, if it comes whole there
pub sent_whole : (delay tap : ℕ) (t : Tap) (r : Record) → is_whole_at delay tap t (Sent r ∷ []) r ≡ (hears_all delay tap t r && comes_whole tap r)
sent_whole delay tap t r =
    let long : Bool = length (characters_at tap r) == length r.octets in
    let good : Bool = list_all (λ char. not (is_bad char)) (characters_at tap r) in
    ap (λ (b : Bool). t.running && b && long && good) (sent-fills delay tap t r)
    ∙ whole-parts t.running (r.tap == tap) (is_unheard (slice_get r.heard tap)) (hears_from t (reaches delay r).begin) (nat_lt r.begin r.end) long good

-- all whose octets went out comes whole to each tap
pub sound-whole : (r : Record) (sent : ℕ) → IsPlain r → take sent r.octets ≡ take ((r.end - r.begin) / bits 1) r.octets → sent ≤ length r.octets → (sent == length r.octets) ≡ true
    → (tap : ℕ) → comes_whole tap r ≡ true
sound-whole r sent plain taken few all tap =
    ap (λ (b : Bool). b && not (is_unheard (slice_get r.heard tap)) && is_undamaged tap r) (lt-ltb r.begin r.end plain.lasts)
    ∙ ap (λ (b : Bool). not b && is_undamaged tap r) (plain.heard tap)
    ∙ sym (unhit-undamaged tap r sent plain.unhit taken few) ∙ all

-- what stands alone in a list
pub one-of : {X : Type 0} (xs : List X) (x : X) → x ≡ get_or xs 0 x → 1 ≤ length xs → length xs < 2 → xs ≡ x ∷ []
one-of [] x is some few = absurd (omega (arith, some))
one-of (y ∷ []) x is some few = ap (λ z. z ∷ []) (sym is)
one-of (y ∷ z ∷ ys) x is some few = absurd (omega (arith, few))
