-- Bit times as nanoseconds, and where a picture or a dump ends.
use Rattle.std.specs.Prelude.{ℕ, ◌*◌, ◌/◌, ◌%◌, min, max, if◌then◌else◌, List, [], ◌∷◌}
use Rattle.law_model.specs.Trace.{Entry, Sent, Noise}
use Rattle.pb_export.specs.declared.options.Window.{Window}
use Rattle.pb_export.specs.Windows.{is_shown}

-- a moment in nanoseconds at a number of bits a second, rounded down; its low 64 bits, which is all of it for every moment of a clock
unfoldable pub nanos : (baud moment : ℕ) → ℕ
nanos baud m = m * 1000000000 / baud % 18446744073709551616

-- the later of a moment and of the end of an entry, if that is a telegram that is shown
abbrev pub later_end : Window → ℕ → Entry → ℕ
later_end w last (Noise span) = last
later_end w last (Sent r) = if is_shown w (Sent r) then max last r.end else last

abbrev pub last_end : Window → ℕ → List Entry → ℕ
last_end w last [] = last
last_end w last (e ∷ es) = last_end w (later_end w last e) es

-- a moment after each of a clock
abbrev pub end_of_time : ℕ
end_of_time = 2000000000000

-- the end of the window or of the run, or the last end of a shown telegram
abbrev pub last_moment : Window → (until : ℕ) → List Entry → ℕ
last_moment w until es = min end_of_time (last_end w (max w.from (min w.until until)) es)
