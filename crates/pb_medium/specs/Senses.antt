-- What a tap senses of one telegram.
use Rattle.std.specs.Prelude.{◌≡◌, ℕ, Bool, not, ◌==◌, ◌||◌, ◌&&◌, List, [], ◌∷◌, length, slice_get, count_by, find, Option, Some, None}
use Rattle.std.specs.List.{list_any, list_all}
use Rattle.std.specs.Option.{option_map}
use Rattle.pb_telegram.specs.Faults.{is_bad}
use Rattle.pb_telegram.specs.declared.chars.RxChar.{RxChar}
use Rattle.pb_telegram.specs.declared.chars.RxChar.TheVariants.{Bad}
use Rattle.law_turn.specs.Spans.{Span}
use Rattle.law_model.specs.Trace.{Record, Entry, characters_at}
use Rattle.law_model.specs.Medium.{reaches, is_unheard, sensed, overlaps, sends_during, begins_in, ends_in}

-- during a stretch a tap senses exactly one entry, and sends nothing
abbrev pub is_undisturbed : (delay tap since : ℕ) → List Entry → Span → Bool
is_undisturbed delay tap since trace span =
    count_by (overlaps span) (sensed delay tap since trace) == 1 && not (list_any (sends_during tap span) trace)

-- a telegram reaches a tap with nothing else since a moment, while the tap sends nothing
abbrev pub is_alone : (delay tap since : ℕ) → List Entry → Record → Bool
is_alone delay tap since trace r =
    not (r.tap == tap || is_unheard (slice_get r.heard tap)) && is_undisturbed delay tap since trace (reaches delay r)

-- every character of a telegram was sent, and reaches a tap undamaged
abbrev pub is_undamaged : ℕ → Record → Bool
is_undamaged tap r = length (characters_at tap r) == length r.octets && list_all (λ char. not (is_bad char)) (characters_at tap r)

-- a burst brings the characters of the telegram that fills it, else one damaged character
abbrev pub TellsBurst : ℕ → Option Record → List RxChar → Type 0
TellsBurst tap (Some r) chars = chars ≡ characters_at tap r
TellsBurst tap None chars = chars ≡ Bad ∷ []

-- when a burst begins between two moments, the first included, the second not, if one does
abbrev pub begin_between : List Span → ℕ → ℕ → Option ℕ
begin_between spans from to = option_map (λ (span : Span). span.begin) (find (begins_in spans from to) spans)

-- when a burst ends after one moment, and at another at the latest, if one does
abbrev pub end_between : List Span → ℕ → ℕ → Option ℕ
end_between spans from to = option_map (λ (span : Span). span.end) (find (ends_in spans from to) spans)
