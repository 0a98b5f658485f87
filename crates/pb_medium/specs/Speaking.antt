-- What a tap sends is put into the trace.
use Rattle.std.specs.Prelude.{◌≡◌, ℕ, Bool, true, false, List, Option, is_some, nat_le, ◌&&◌}
use Rattle.law_model.specs.Trace.{Entry, Sent, Noise}
use Rattle.pb_taps.specs.declared.faults.WorldFault.{WorldFault}
use Rattle.pb_taps.specs.declared.faults.WorldFault.TheVariants as fault

-- whether there is something to send, and no room for it in a trace of some length
abbrev pub is_full : Option (List ℕ) → (limit : ℕ) → ℕ → Bool
is_full said limit entries = is_some said && nat_le limit entries

-- why what is sent is not put into a trace of some length
abbrev pub RefusesSaid : Option (List ℕ) → (limit : ℕ) → ℕ → WorldFault → Type 0
RefusesSaid said limit entries fault.TraceFull = is_full said limit entries ≡ true
RefusesSaid said limit entries fault.NoMemory = (is_full said limit entries ≡ false) × (is_some said ≡ true)
RefusesSaid said limit entries other = ⊥

-- an entry whose telegram, if it is one, has these octets
abbrev pub with_octets : List ℕ → Entry → Entry
with_octets octets (Noise span) = Noise span
with_octets octets (Sent r) = Sent (record r { octets = octets })
