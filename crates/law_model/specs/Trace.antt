-- The trace of the bus: what was sent, and noise.
use Rattle.std.specs.Prelude.{ℕ, ◌+◌, ◌-◌, ◌/◌, Bool, true, false, if◌then◌else◌, ◌==◌, nat_lt, ◌||◌, ◌&&◌, List, [], ◌∷◌, take, max, min, slice_set, Option, Some, None}
use Rattle.std.specs.List.{list_any}
use Rattle.pb_telegram.specs.declared.chars.RxChar.{RxChar}
use Rattle.pb_telegram.specs.declared.chars.RxChar.TheVariants.{Good, Bad}
use Rattle.pb_timers.specs.Timers.{bits}
use Rattle.law_turn.specs.Spans.{Span}

-- how a telegram reached a tap
pub data Heard : Type 0 where
  Own : Heard
  Whole : Heard
  Damaged : Heard
  Unheard : Heard
  Pending : Heard

-- damage at a tap: of one character, by its index, or of every character
pub record Hit : Type 0 where
  pub tap : ℕ
  pub place : Option ℕ

-- one sending: all octets that were to be sent, from when to when it is on the bus, and how it reaches each tap
pub record Record : Type 0 where
  pub tap : ℕ
  pub octets : List ℕ
  pub begin : ℕ
  pub end : ℕ
  pub hits : List Hit
  pub heard : List Heard

pub data Entry : Type 0 where
  Sent : Record → Entry
  Noise : Span → Entry

abbrev pub entry_begin : Entry → ℕ
entry_begin (Sent r) = r.begin
entry_begin (Noise span) = span.begin

abbrev pub entry_end : Entry → ℕ
entry_end (Sent r) = r.end
entry_end (Noise span) = span.end

-- ---- the order of a trace: by begin; at one begin noise first, then records by tap

abbrev pub rank : Entry → ℕ
rank (Noise span) = 0
rank (Sent r) = r.tap + 1

abbrev pub goes_before : Entry → Entry → Bool
goes_before e x = nat_lt (entry_begin e) (entry_begin x) || (entry_begin e == entry_begin x && nat_lt (rank e) (rank x))

-- an entry inserted into the trace
abbrev pub with_entry : Entry → List Entry → List Entry
with_entry e [] = e ∷ []
with_entry e (x ∷ xs) = if goes_before e x then e ∷ x ∷ xs else x ∷ with_entry e xs

-- how a new telegram has reached each of some taps, the first of them at an index: own at its speaker, pending at the
-- others
abbrev pub heard_at_first : {X : Type 0} → ℕ → ℕ → List X → List Heard
heard_at_first speaker tap [] = []
heard_at_first speaker tap (x ∷ xs) = (if tap == speaker then Own else Pending) ∷ heard_at_first speaker (tap + 1) xs

-- ---- the characters of a telegram at a tap

abbrev pub is_place : ℕ → Option ℕ → Bool
is_place place None = true
is_place place (Some p) = p == place

abbrev pub hits_place : ℕ → ℕ → Hit → Bool
hits_place tap place hit = hit.tap == tap && is_place place hit.place

-- the characters of octets, the first of them at an index of the telegram
abbrev pub characters_from : ℕ → List Hit → ℕ → List ℕ → List RxChar
characters_from tap hits place [] = []
characters_from tap hits place (octet ∷ octets) =
    (if list_any (hits_place tap place) hits then Bad else Good octet) ∷ characters_from tap hits (place + 1) octets

-- when a telegram ends whose speaker stops at a moment: with the character being sent
abbrev pub cut_end : ℕ → Record → ℕ
cut_end now r = min r.end (r.begin + bits ((now - r.begin) / bits 1 + 1))

-- an entry after a tap has stopped at a moment; the record keeps all octets that were to be sent
abbrev pub cut_at : ℕ → ℕ → Entry → Entry
cut_at now tap (Noise span) = Noise span
cut_at now tap (Sent r) = Sent (if r.tap == tap then record r { end = cut_end now r } else r)

-- whether an entry is noise that is on the bus at a moment
abbrev pub is_noise_at : ℕ → Entry → Bool
is_noise_at now (Noise span) = nat_lt now span.end
is_noise_at now (Sent r) = false

-- noise extended until a moment, if it ends earlier
abbrev pub noisy_until : ℕ → Entry → Entry
noisy_until m (Noise span) = Noise (record span { end = max span.end m })
noisy_until m (Sent r) = Sent r

-- whether an entry is a telegram of a speaker that began at a moment
abbrev pub begins_from : ℕ → ℕ → Entry → Bool
begins_from now speaker (Noise span) = false
begins_from now speaker (Sent r) = r.tap == speaker && r.begin == now

-- a telegram that is lost at a tap
abbrev pub unheard_at : ℕ → Entry → Entry
unheard_at tap (Noise span) = Noise span
unheard_at tap (Sent r) = Sent (record r { heard = slice_set r.heard tap Unheard })

-- the characters that were sent, as a tap receives them
abbrev pub characters_at : ℕ → Record → List RxChar
characters_at tap r = characters_from tap r.hits 0 (take ((r.end - r.begin) / bits 1) r.octets)
