-- The medium: what a tap senses, its bursts, and the marks that they give.
use Rattle.std.specs.Prelude.{ℕ, ◌+◌, Bool, true, false, if◌then◌else◌, not, ◌==◌, nat_lt, nat_le, ◌||◌, ◌&&◌, List, [], ◌∷◌, ◌++◌, length, slice_get, count_by, find, max, Option, Some, None}
use Rattle.std.specs.List.{list_any, list_all, filter_map}
use Rattle.std.specs.Option.{option_and_then}
use Rattle.pb_telegram.specs.Faults.{is_bad}
use Rattle.pb_telegram.specs.declared.chars.RxChar.{RxChar}
use Rattle.pb_telegram.specs.declared.chars.RxChar.TheVariants.{Bad}
use Rattle.law_turn.specs.Spans.{Span}
use Rattle.law_turn.specs.Marks.{Mark, Begin, End}
use Rattle.law_turn.specs.Stations.{Station}
use Rattle.law_model.specs.Trace.{Heard, Whole, Damaged, Unheard, Pending, Record, Entry, Sent, Noise, characters_at}

-- the definition of a tap: its address, whether it is a master, and the data with which it replies
pub record TapSpec : Type 0 where
  pub address : ℕ
  pub master : Bool
  pub reply : List ℕ

pub record Tap : Type 0 where
  pub spec : TapSpec
  pub running : Bool
  -- the moment of its last start, also if it has stopped since
  pub since : ℕ
  -- whether something was reaching it at its start
  pub amid : Bool
  pub station : Station
  -- the unread marks
  pub marks : List Mark

-- ---- stretches of time

abbrev pub begins_at : ℕ → Span → Bool
begins_at m span = span.begin == m

abbrev pub ends_at : ℕ → Span → Bool
ends_at m span = span.end == m

-- it begins before the moment and ends after it
abbrev pub lasts_through : ℕ → Span → Bool
lasts_through m span = nat_lt span.begin m && nat_lt m span.end

abbrev pub contains_moment : ℕ → Span → Bool
contains_moment m span = nat_le span.begin m && nat_lt m span.end

abbrev pub overlaps : Span → Span → Bool
overlaps a b = nat_lt a.begin b.end && nat_lt b.begin a.end

-- the part of a stretch from a moment on
abbrev pub part_after : ℕ → Span → Option Span
part_after m span = if nat_lt m span.end then Some (record { begin = max span.begin m; end = span.end }) else None

-- ---- what a tap senses, on a bus with a cable delay

-- when a telegram is at the taps of others
abbrev pub reaches : ℕ → Record → Span
reaches delay r = record { begin = r.begin + delay; end = r.end + delay }

-- when an entry is at the taps of others
abbrev pub reaches_taps : ℕ → Entry → Span
reaches_taps delay (Noise span) = span
reaches_taps delay (Sent r) = reaches delay r

abbrev pub is_unheard : Option Heard → Bool
is_unheard (Some Unheard) = true
is_unheard h = false

-- an entry at a tap: noise, or a telegram of another tap that is not lost there
abbrev pub at_tap : ℕ → ℕ → Entry → Option Span
at_tap delay tap (Noise span) = Some span
at_tap delay tap (Sent r) = if r.tap == tap || is_unheard (slice_get r.heard tap) then None else Some (reaches delay r)

-- what a tap that senses since a moment has sensed
abbrev pub sensed : ℕ → ℕ → ℕ → List Entry → List Span
sensed delay tap since trace = filter_map (λ e. option_and_then (part_after since) (at_tap delay tap e)) trace

-- ---- bursts: unions of stretches that overlap; stretches that only touch stay apart

-- a burst begins at a moment if something begins and nothing lasts through it
abbrev pub burst_begins : List Span → ℕ → Bool
burst_begins spans m = list_any (begins_at m) spans && not (list_any (lasts_through m) spans)

abbrev pub burst_ends : List Span → ℕ → Bool
burst_ends spans m = list_any (ends_at m) spans && not (list_any (lasts_through m) spans)

-- the tap ran when the telegram reached it, and heard it from its begin
abbrev pub hears_from : Tap → ℕ → Bool
hears_from t m = nat_lt t.since m || (t.since == m && not t.amid)

abbrev pub sends_during : ℕ → Span → Entry → Bool
sends_during tap span (Noise n) = false
sends_during tap span (Sent r) = r.tap == tap && overlaps (record { begin = r.begin; end = r.end }) span

-- the telegram alone fills a burst of the tap: the tap heard it from its begin with nothing else, and sent nothing
-- meanwhile
abbrev pub fills_burst : ℕ → ℕ → Tap → List Entry → Record → Bool
fills_burst delay tap t trace r =
    not (r.tap == tap || is_unheard (slice_get r.heard tap))
    && hears_from t (reaches delay r).begin
    && count_by (overlaps (reaches delay r)) (sensed delay tap t.since trace) == 1
    && not (list_any (sends_during tap (reaches delay r)) trace)

-- ---- marks

abbrev pub fills_burst_to : ℕ → ℕ → Tap → List Entry → ℕ → Entry → Bool
fills_burst_to delay tap t trace m (Noise span) = false
fills_burst_to delay tap t trace m (Sent r) = (reaches delay r).end == m && fills_burst delay tap t trace r

abbrev pub entry_characters : ℕ → Option Entry → List RxChar
entry_characters tap (Some (Sent r)) = characters_at tap r
entry_characters tap (Some (Noise span)) = Bad ∷ []
entry_characters tap None = Bad ∷ []

-- the characters of the burst that ends at a moment: those of the telegram that alone fills it, else one damaged
-- character
abbrev pub burst_characters : ℕ → ℕ → Tap → List Entry → ℕ → List RxChar
burst_characters delay tap t trace m = entry_characters tap (find (fills_burst_to delay tap t trace m) trace)

-- the burst begins at the moment t or later, and before u
abbrev pub begins_in : List Span → ℕ → ℕ → Span → Bool
begins_in spans t u span = nat_le t span.begin && nat_lt span.begin u && burst_begins spans span.begin

-- the burst ends after the moment t, and at u at the latest
abbrev pub ends_in : List Span → ℕ → ℕ → Span → Bool
ends_in spans t u span = nat_lt t span.end && nat_le span.end u && burst_ends spans span.end

abbrev pub begin_mark : ℕ → Option Span → List Mark
begin_mark seen None = []
begin_mark seen (Some span) = Begin span.begin seen ∷ []

abbrev pub end_mark : ℕ → ℕ → Tap → List Entry → ℕ → Option Span → List Mark
end_mark delay tap t trace seen None = []
end_mark delay tap t trace seen (Some span) = End span.end seen (burst_characters delay tap t trace span.end) ∷ []

-- The marks of a tap as time passes from t to u. A pass never goes past an end on the bus, so at most one burst begins
-- in it, and one ends at most at u.
abbrev pub marks_between : ℕ → ℕ → Tap → List Entry → ℕ → ℕ → List Mark
marks_between delay tap t trace from to =
    let spans = sensed delay tap t.since trace in
    begin_mark to (find (begins_in spans from to) spans) ++ end_mark delay tap t trace to (find (ends_in spans from to) spans)

abbrev pub new_marks : ℕ → ℕ → Tap → List Entry → ℕ → ℕ → List Mark
new_marks delay tap t trace from to = if t.running then marks_between delay tap t trace from to else []

-- ---- how a telegram reached a tap, once it has ended there

-- the tap ran, and every character reached it undamaged in a burst of that telegram alone
abbrev pub is_whole_at : ℕ → ℕ → Tap → List Entry → Record → Bool
is_whole_at delay tap t trace r =
    t.running && fills_burst delay tap t trace r
    && length (characters_at tap r) == length r.octets && list_all (λ char. not (is_bad char)) (characters_at tap r)

abbrev pub heard_in_the_end : Bool → Heard → Heard
heard_in_the_end whole Pending = if whole then Whole else Damaged
heard_in_the_end whole heard = heard

-- how the telegram reached each of some taps, the first of them at an index
abbrev pub heard_by : ℕ → List Entry → Record → ℕ → List Tap → List Heard → List Heard
heard_by delay trace r tap [] hs = hs
heard_by delay trace r tap (t ∷ ts) [] = []
heard_by delay trace r tap (t ∷ ts) (h ∷ hs) = heard_in_the_end (is_whole_at delay tap t trace r) h ∷ heard_by delay trace r (tap + 1) ts hs

-- the stretch ends after the moment t, and at u at the latest
abbrev pub ends_between : ℕ → ℕ → Span → Bool
ends_between t u span = nat_lt t span.end && nat_le span.end u

-- an entry after time has passed from t to u: a telegram whose end has reached the taps is no longer pending
abbrev pub entry_at : ℕ → List Tap → List Entry → ℕ → ℕ → Entry → Entry
entry_at delay taps trace t u (Noise span) = Noise span
entry_at delay taps trace t u (Sent r) =
    if ends_between t u (reaches delay r) then Sent (record r { heard = heard_by delay trace r 0 taps r.heard }) else Sent r
