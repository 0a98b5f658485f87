-- The text for the trace of a run, or for the last lines of it.
use Rattle.std.specs.Prelude.{ℕ, false, List, Option, Some, None}
use Rattle.std.specs.List.{flat_map}
use Rattle.bstr.specs.Text.{lines_of}
use Rattle.circular_buffer.specs.Buffer.{keep_last}
use Rattle.law_model.specs.Trace.{Entry}
use Rattle.pb_scenario.specs.Texts.{entries_text}
use Rattle.pb_texts.specs.Shown.{Shown}

-- the last lines of a text; the whole text if it has no more lines
abbrev pub last_lines : ℕ → List ℕ → List ℕ
last_lines n text = flat_map (λ line. line) (keep_last n (lines_of text))

-- the whole text, if no number of lines is asked for
abbrev pub wanted_of : Option ℕ → List ℕ → List ℕ
wanted_of None text = text
wanted_of (Some n) text = last_lines n text

abbrev pub trace_shown : Option ℕ → List (List ℕ) → List Entry → Shown
trace_shown last names entries = record { text = wanted_of last (entries_text names entries); is_refused = false }
