-- What a listener hears that begins at any moment, also amid a burst.
use Rattle.std.specs.Prelude.{◌≡◌, ◌⊎◌, ℕ, ◌<◌, List, [], ◌∷◌}
use Rattle.law_turn.specs.Arrivals.{NoTelegram, arrival_of}
use Rattle.law_model.specs.Trace.{Entry}
use Rattle.pb_monitor.specs.Captures.{Burst, IsSolid, HearsFrom, Hears}

-- The listener begins amid a burst: the part that it hears of it begins as the listener does, and spells no telegram.
abbrev pub HearsAmid : (delay since : ℕ) → List Entry → List Burst → Type 0
HearsAmid delay since trace [] = ⊥
HearsAmid delay since trace (b ∷ bs) =
    (b.begin ≡ since) × (since < b.end) × (arrival_of b.chars ≡ NoTelegram) × IsSolid delay trace b × HearsFrom delay since trace b.end bs

-- the bursts that a listener hears of a trace since a moment, between bursts or amid one
abbrev pub HearsSince : (delay since : ℕ) → List Entry → List Burst → Type 0
HearsSince delay since trace bs = Hears delay since trace bs ⊎ HearsAmid delay since trace bs
