-- What C is told of a bus.
use Rattle.std.specs.Prelude.{◌≡◌, ◌⊎◌, ◌<◌, ℕ, true, false, min, take, get_or, slice_get, Option, Some, None, MatchOption}
use Rattle.law_model.specs.Medium.{Tap}
use Rattle.law_model.specs.Trace as model
use Rattle.law_model.specs.World.{World}
use Rattle.pb_world.specs.Acted.{FindsBy}
use Rattle.pb_world.specs.declared.driven.Driven.{Driven}
use Rattle.pb_world.specs.declared.findings.Audit.{Audit}
use Rattle.pbfdl.specs.declared.bus_entries.FdlAudit.{FdlAudit}
use Rattle.pbfdl.specs.declared.bus_entries.FdlEntry.{FdlEntry}

-- what holds of the tap with an index, and the code that says so, or that there is no such tap
abbrev pub AtTap : World → ℕ → ℕ → (Tap → Type 0) → Type 0
AtTap w tap code Is = MatchOption (slice_get w.taps tap) (code ≡ 81) (λ t. (code ≡ 0) × Is t)

-- how a telegram reached a tap, as a number
abbrev pub heard_number : model.Heard → ℕ
heard_number model.Own = 0
heard_number model.Whole = 1
heard_number model.Damaged = 2
heard_number model.Unheard = 3
heard_number model.Pending = 4

-- where there is no such tap, it has not reached it
abbrev pub heard_at : Option model.Heard → ℕ
heard_at None = 4
heard_at (Some heard) = heard_number heard

-- an entry of the trace
abbrev pub TellsEntry : FdlEntry → model.Entry → Type 0
TellsEntry told (model.Noise span) = (told.noise ≡ true) × (told.begin ≡ span.begin) × (told.end ≡ span.end)
TellsEntry told (model.Sent r) = (told.noise ≡ false) × (told.begin ≡ r.begin) × (told.end ≡ r.end) × (told.tap ≡ min r.tap 255)
    × (take told.count told.octets ≡ r.octets) × ((tap : ℕ) → tap < 127 → get_or told.heard tap 0 ≡ heard_at (slice_get r.heard tap))

-- the code, and what is told of an entry if there is one
abbrev pub TellsEntryAt : ℕ → FdlEntry → Option model.Entry → Type 0
TellsEntryAt code told None = code ≡ 75
TellsEntryAt code told (Some e) = (code ≡ 0) × TellsEntry told e

-- what an audit finds; the moment and the entry are 0 where it finds none
abbrev pub TellsAudit : FdlAudit → Audit → Type 0
TellsAudit told found =
    MatchOption found.premise ((told.premise ≡ 0) × (told.moment ≡ 0)) (λ p. (told.premise ≡ p.0) × (told.moment ≡ p.1))
    × MatchOption found.illegal ((told.illegal ≡ false) × (told.entry ≡ 0)) (λ place. (told.illegal ≡ true) × (told.entry ≡ place))

-- what an audit finds of all events; or memory is refused, and nothing is told
abbrev pub AuditsAt : Driven → ℕ → (before told : FdlAudit) → Type 0
AuditsAt b code before told = ((code ≡ 0) × (found : Audit) × FindsBy b found × TellsAudit told found) ⊎ ((code ≡ 63) × (told ≡ before))
