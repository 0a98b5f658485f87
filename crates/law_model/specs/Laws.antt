-- The words of the laws.
use Rattle.std.specs.Prelude.{◌≡◌, ℕ, ◌+◌, ◌<◌, ◌≤◌, Bool, true, false, List, [], ◌∷◌, ◌++◌, if◌then◌else◌, slice_get, count_by, Option, Some, None, IfSome}
use Rattle.std.specs.List.{list_any}
use Rattle.pb_telegram.specs.declared.chars.RxChar.{RxChar}
use Rattle.law_turn.specs.Spans.{Span}
use Rattle.law_turn.specs.Marks.{Mark, Begin, End, moment_of, Alternates}
use Rattle.law_turn.specs.Laws.{HasReply, HasCycles, IsRequest, Fits}
use Rattle.law_model.specs.Trace.{Record, Entry, Sent, entry_begin, entry_end, characters_at}
use Rattle.law_model.specs.Medium.{TapSpec, Tap, lasts_through, overlaps, hears_from, sends_during, reaches, reaches_taps, is_unheard, burst_begins, burst_ends, burst_characters, fills_burst, sensed}
use Rattle.law_model.specs.World.{World, Event, Turn, Pass, Damage, Start, Stop, Queue, Noise, Unheard}

-- ---- bursts

-- a burst is open at a moment: something has begun before it and ends after it
abbrev pub is_open : List Span → ℕ → Bool
is_open spans m = list_any (lasts_through m) spans

-- the marks are in order of time, from a moment to a moment
abbrev pub InOrder : ℕ → List Mark → ℕ → Type 0
InOrder from [] to = from ≤ to
InOrder from (m ∷ ms) to = (from ≤ moment_of m) × InOrder (moment_of m) ms to

-- a telegram alone fills a burst of a tap: it is another tap's and not lost there; the tap heard it from its begin with
-- nothing else, and sent nothing
pub record FillsAlone (delay : ℕ) (tap : ℕ) (t : Tap) (trace : List Entry) (r : Record) : Type 0 where
  pub another : r.tap ≡ tap → ⊥
  pub reached : is_unheard (slice_get r.heard tap) ≡ false
  pub ran : hears_from t (reaches delay r).begin ≡ true
  pub alone : count_by (overlaps (reaches delay r)) (sensed delay tap t.since trace) ≡ 1
  pub silent : list_any (sends_during tap (reaches delay r)) trace ≡ false

-- a telegram of the trace fills a burst of the tap that ends at a moment, and these are its characters there
pub record FillsBurst (delay : ℕ) (tap : ℕ) (t : Tap) (trace : List Entry) (m : ℕ) (chars : List RxChar) : Type 0 where
  pub before : List Entry
  pub telegram : Record
  pub after : List Entry
  pub in_trace : trace ≡ before ++ Sent telegram ∷ after
  pub fills : fills_burst delay tap t trace telegram ≡ true
  pub ends : (reaches delay telegram).end ≡ m
  pub characters : chars ≡ characters_at tap telegram

-- ---- worlds

-- every entry has begun by a moment, and lasts for some time
abbrev pub AllBegun : ℕ → List Entry → Type 0
AllBegun now [] = Unit {0}
AllBegun now (e ∷ es) = (entry_begin e ≤ now) × (entry_begin e < entry_end e) × AllBegun now es

-- the unread marks of each tap are in order of time up to the clock, and no tap has started later
abbrev pub AllInOrder : ℕ → List Tap → Type 0
AllInOrder now [] = Unit {0}
AllInOrder now (t ∷ ts) = (t.since ≤ now) × InOrder 0 t.marks now × AllInOrder now ts

-- each station can send what it keeps: an unsent reply is one that a station without the token may send, and all else
-- fits in telegrams
abbrev pub AllSayable : List Tap → Type 0
AllSayable [] = Unit {0}
AllSayable (t ∷ ts) = (HasReply t.station × HasCycles t.station) × AllSayable ts

-- an event whose request, if any, has a valid address and valid data
abbrev pub IsEvent : Event → Type 0
IsEvent (Turn tap) = Unit {0}
IsEvent (Pass bits) = Unit {0}
IsEvent (Damage tap speaker place) = Unit {0}
IsEvent (Start tap) = Unit {0}
IsEvent (Stop tap) = Unit {0}
IsEvent (Queue tap request) = IsRequest request
IsEvent (Noise bits) = Unit {0}
IsEvent (Unheard tap speaker) = Unit {0}

abbrev pub AreEvents : List Event → Type 0
AreEvents [] = Unit {0}
AreEvents (e ∷ es) = IsEvent e × AreEvents es

-- the data with which each tap replies fits in a telegram
abbrev pub AllFit : List TapSpec → Type 0
AllFit [] = Unit {0}
AllFit (spec ∷ specs) = Fits spec.reply × AllFit specs

-- the invariant of a world to which events have led from a new one
pub record IsSound (w : World) : Type 0 where
  pub begun : AllBegun w.now w.trace
  pub in_order : AllInOrder w.now w.taps
  pub sayable : AllSayable w.taps

-- the mark that a burst began at a moment, if one did
abbrev pub begin_of : ℕ → Option ℕ → List Mark
begin_of seen None = []
begin_of seen (Some m) = Begin m seen ∷ []

-- the marks of a pass: a Begin, if a burst begins in it, and an End with the burst's characters, if one ends at the new
-- clock
abbrev pub marks_of_pass : ℕ → ℕ → Tap → List Entry → Option ℕ → ℕ → List Mark
marks_of_pass delay tap t trace begin to =
    begin_of to begin ++ (if burst_ends (sensed delay tap t.since trace) to then End to to (burst_characters delay tap t trace to) ∷ [] else [])

-- What a pass does to a running tap: it appends the marks of the pass to the unread ones. From the old clock on, at
-- most one burst begins before the new clock, and none later than a cable delay after the old one; none ends between
-- the two; and Begins and Ends alternate.
pub record PassTells (w next : World) (tap : ℕ) (t : Tap) : Type 0 where
  pub begin : Option ℕ
  pub begins : IfSome begin (λ m. (w.now ≤ m) × (m < next.now) × (burst_begins (sensed w.params.ttd tap t.since w.trace) m ≡ true))
  pub no_other : (m : ℕ) → w.now ≤ m → m < next.now → burst_begins (sensed w.params.ttd tap t.since w.trace) m ≡ true → begin ≡ Some m
  pub none_later : (m : ℕ) → w.now + w.params.ttd < m → burst_begins (sensed w.params.ttd tap t.since w.trace) m ≡ false
  pub delivered : slice_get next.taps tap ≡ Some (record t { marks = t.marks ++ marks_of_pass w.params.ttd tap t w.trace begin next.now })
  pub ends_none : (m : ℕ) → w.now < m → m < next.now → burst_ends (sensed w.params.ttd tap t.since w.trace) m ≡ false
  pub alternate : Alternates (is_open (sensed w.params.ttd tap t.since w.trace) w.now) (marks_of_pass w.params.ttd tap t w.trace begin next.now)
      (is_open (sensed w.params.ttd tap t.since w.trace) next.now)

-- every entry has a duration, and has ended at all taps by a moment
abbrev pub AllOver : ℕ → ℕ → List Entry → Type 0
AllOver delay m [] = Unit {0}
AllOver delay m (e ∷ es) = (entry_begin e < entry_end e) × ((reaches_taps delay e).end ≤ m) × AllOver delay m es

-- no entry reaches the taps before a moment
abbrev pub AllFrom : ℕ → ℕ → List Entry → Type 0
AllFrom delay m [] = Unit {0}
AllFrom delay m (e ∷ es) = (m ≤ (reaches_taps delay e).begin) × AllFrom delay m es
