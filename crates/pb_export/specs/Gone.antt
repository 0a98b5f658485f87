-- Entries that are over everywhere on the bus.
use Rattle.std.specs.Prelude.{◌≡◌, ℕ, ◌≤◌, Bool, true, false, List, [], ◌∷◌}
use Rattle.law_model.specs.Trace.{Record, Entry, Sent, Noise}
use Rattle.law_model.specs.Medium.{reaches_taps}
use Rattle.pb_export.specs.Holders.{is_initiator}

-- each has ended at all taps by a moment
abbrev pub AreGone : (delay t : ℕ) → List Entry → Type 0
AreGone delay t [] = Unit {0}
AreGone delay t (e ∷ es) = ((reaches_taps delay e).end ≤ t) × AreGone delay t es

-- by the begin and the end of a telegram
abbrev pub AreGoneAt : (delay : ℕ) → Record → List Entry → Type 0
AreGoneAt delay r es = AreGone delay r.begin es × AreGone delay r.end es

-- the same of new entries if the telegram is a token or a request; else they are the old ones
abbrev pub AreGoneIf : Bool → (delay : ℕ) → Record → (old new : List Entry) → Type 0
AreGoneIf true delay r old new = AreGoneAt delay r new
AreGoneIf false delay r old new = new ≡ old

abbrev pub AreGoneAround : (delay : ℕ) → Entry → (old new : List Entry) → Type 0
AreGoneAround delay (Noise span) old new = new ≡ old
AreGoneAround delay (Sent r) old new = AreGoneIf (is_initiator r) delay r old new
