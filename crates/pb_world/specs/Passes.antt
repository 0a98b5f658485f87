-- The marks that a pass of time gives to the taps.
use Rattle.std.specs.Prelude.{ℕ, ◌+◌, List, [], ◌∷◌, ◌++◌, length, Option, Some, None}
use Rattle.law_turn.specs.Marks.{Mark, End}
use Rattle.law_model.specs.Trace.{Entry}
use Rattle.law_model.specs.Medium.{Tap, burst_characters, new_marks}
use Rattle.law_model.specs.Laws.{begin_of}
use Rattle.pb_medium.specs.Lone.{Lone, lone_marks}
use Rattle.pb_taps.specs.declared.taps.Tap as declared
use Rattle.pb_taps.specs.Taps.{tap_of}

-- the tap with the marks of a pass appended to its unread ones
abbrev pub with_news : ℕ → ℕ → Tap → List Entry → ℕ → ℕ → Tap
with_news delay tap t trace from to = record t { marks = t.marks ++ new_marks delay tap t trace from to }

-- the tap with the marks of the only entry on the bus appended
abbrev pub with_lone : Lone → ℕ → Tap → ℕ → ℕ → Tap
with_lone l tap t from to = record t { marks = t.marks ++ lone_marks l tap t from to }

-- how many marks a tap has unread after a pass
abbrev pub unread_after : ℕ → ℕ → Tap → List Entry → ℕ → ℕ → ℕ
unread_after delay tap t trace from to = length t.marks + length (new_marks delay tap t trace from to)

-- the mark that a burst ended at a moment, if one did, with its characters
abbrev pub end_of : ℕ → ℕ → Tap → List Entry → ℕ → Option ℕ → List Mark
end_of delay tap t trace seen None = []
end_of delay tap t trace seen (Some m) = End m seen (burst_characters delay tap t trace m) ∷ []

-- the tap with the mark of the begin of a burst, if one began
abbrev pub with_begin : declared.Tap → ℕ → Option ℕ → declared.Tap
with_begin t seen begin = record t { marks = t.marks ++ begin_of seen begin }

-- the tap with the mark of the end of a burst, if one ended
abbrev pub with_end : ℕ → ℕ → declared.Tap → List Entry → ℕ → Option ℕ → declared.Tap
with_end delay tap t trace seen end = record t { marks = t.marks ++ end_of delay tap (tap_of t) trace seen end }
