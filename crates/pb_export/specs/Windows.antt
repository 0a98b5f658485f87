-- Which entries an export shows.
use Rattle.std.specs.Prelude.{ℕ, Bool, ◌&&◌, nat_le, if◌then◌else◌, List, []}
use Rattle.std.specs.List.{flat_map}
use Rattle.law_model.specs.Trace.{Entry, entry_begin}
use Rattle.pb_export.specs.declared.options.Window.{Window}

-- those that begin in the window
abbrev pub is_shown : Window → Entry → Bool
is_shown w e = nat_le w.from (entry_begin e) && nat_le (entry_begin e) w.until

-- the bytes of an entry, if it is shown
abbrev pub if_shown : Window → (Entry → List ℕ) → Entry → List ℕ
if_shown w bytes e = if is_shown w e then bytes e else []

-- the bytes of all entries that are shown, in their order
abbrev pub shown_in : Window → (Entry → List ℕ) → List Entry → List ℕ
shown_in w bytes es = flat_map (if_shown w bytes) es
