-- The only entry on a bus, if it reaches each tap but its speaker's as it was sent, and the marks that it gives.
use Rattle.std.specs.Prelude.{◌≡◌, ◌<◌, ◌≤◌, ℕ, Bool, false, not, ◌==◌, nat_lt, nat_le, ◌&&◌, max, if◌then◌else◌, List, [], ◌∷◌, ◌++◌, map, length, slice_get, IfSome, Option, Some, None}
use Rattle.std.specs.Option.{option_map}
use Rattle.pb_telegram.specs.declared.chars.RxChar.{RxChar}
use Rattle.pb_telegram.specs.declared.chars.RxChar.TheVariants.{Good, Bad}
use Rattle.law_turn.specs.Spans.{Span}
use Rattle.law_turn.specs.Marks.{Mark, Begin, End}
use Rattle.law_model.specs.Trace.{Record, Entry}
use Rattle.law_model.specs.Medium.{Tap, is_unheard, hears_from, new_marks}
use Rattle.pb_medium.specs.declared.lone.Lone as declared

-- a telegram has a duration, no damage, and no tap at which it is lost
pub record IsPlain (r : Record) : Type 0 where
  pub lasts : r.begin < r.end
  pub unhit : r.hits ≡ []
  pub heard : (tap : ℕ) → is_unheard (slice_get r.heard tap) ≡ false

-- noise, or such a telegram
pub record Lone : Type 0 where
  -- the tap that sends it; none for noise
  pub speaker : Option ℕ
  -- when it is at the taps
  pub span : Span
  -- the octets that were sent; none for noise
  pub octets : Option (List ℕ)

abbrev pub lone_of : declared.Lone → Lone
lone_of l = record { speaker = l.speaker; span = l.span; octets = option_map (λ o. o.now) l.octets }

-- a tap sends it
abbrev pub is_sent_by : ℕ → Option ℕ → Bool
is_sent_by tap None = false
is_sent_by tap (Some speaker) = speaker == tap

-- a tap senses it: the tap runs, does not send it, and started before its end
abbrev pub is_sensed_by : Lone → ℕ → Tap → Bool
is_sensed_by l tap t = t.running && not (is_sent_by tap l.speaker) && nat_lt t.since l.span.end

-- the characters that it brings to a tap that hears it from its begin
abbrev pub brought : Option (List ℕ) → List RxChar
brought None = Bad ∷ []
brought (Some octets) = map Good octets

-- the mark that its burst begins, between two moments, the first included, the second not
abbrev pub lone_begin : Lone → Tap → ℕ → ℕ → List Mark
lone_begin l t from to =
    if nat_le from (max l.span.begin t.since) && nat_lt (max l.span.begin t.since) to then Begin (max l.span.begin t.since) to ∷ [] else []

-- the mark that its burst ends, after one moment, and at another at the latest
abbrev pub lone_end : Lone → Tap → ℕ → ℕ → List Mark
lone_end l t from to =
    if nat_lt from l.span.end && nat_le l.span.end to then End l.span.end to (if hears_from t l.span.begin then brought l.octets else Bad ∷ []) ∷ [] else []

-- its marks as time passes
abbrev pub lone_marks : Lone → ℕ → Tap → ℕ → ℕ → List Mark
lone_marks l tap t from to = if is_sensed_by l tap t then lone_begin l t from to ++ lone_end l t from to else []

-- in this trace each tap has the marks of this lone entry, which has the octets of at most one telegram
pub record IsLone (delay : ℕ) (l : Lone) (trace : List Entry) : Type 0 where
  pub marks : (tap : ℕ) (t : Tap) (from to : ℕ) → new_marks delay tap t trace from to ≡ lone_marks l tap t from to
  pub few : IfSome l.octets (λ octets. length octets ≤ 255)
