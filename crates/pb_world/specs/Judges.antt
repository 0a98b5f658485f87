-- A judge that has heard some entries.
use Rattle.std.specs.Prelude.{◌≡◌, ℕ, ◌+◌, ◌<◌, ◌≤◌, false, List, [], ◌∷◌, ◌++◌, length, map, get_or, slice_get, Option, Some, None}
use Rattle.pb_timers.specs.Timers.{Params}
use Rattle.law_model.specs.Trace.{Record, Entry}
use Rattle.law_model.specs.Medium.{TapSpec}
use Rattle.law_runs.specs.Initiators.{telegram_of}
use Rattle.law_runs.specs.Judging.{LastInitiator}
use Rattle.law_runs.specs.Legality.{is_whole}
use Rattle.law_streams.specs.Judgement.{Kept, was_silent, kept_of}
use Rattle.pb_world.specs.Airtimes.{air_of}
use Rattle.pb_world.specs.Meanings.{meaning_of}
use Rattle.pb_world.specs.declared.judge.Judge.{Judge}
use Rattle.pb_world.specs.declared.last_heard.LastHeard.{LastHeard}

abbrev pub addresses_in : List TapSpec → List ℕ
addresses_in specs = map (λ spec. spec.address) specs

-- it is the last initiator record, on a bus with this many taps
pub record IsLast (taps : ℕ) (m : LastInitiator) (last : LastHeard) : Type 0 where
  pub tap : last.tap ≡ m.telegram.tap
  pub end : last.end ≡ m.telegram.end
  pub meaning : last.meaning ≡ meaning_of (telegram_of m.telegram)
  pub silent : last.silent ≡ m.silent
  pub whole : (tap : ℕ) → tap < taps → get_or last.whole tap false ≡ is_whole (slice_get m.telegram.heard tap)

abbrev pub IsLastOf : ℕ → Option LastInitiator → Option LastHeard → Type 0
IsLastOf taps None None = Unit {0}
IsLastOf taps None (Some last) = ⊥
IsLastOf taps (Some m) None = ⊥
IsLastOf taps (Some m) (Some last) = IsLast taps m last

-- an initiator record becomes the last one
abbrev pub new_last : Params → Kept → Record → LastInitiator
new_last p k r = record { telegram = r; silent = was_silent k p.ttd r.tap r.end (r.end + p.tsl) }

-- a judge of a trace of some taps keeps this
pub record Keeps (p : Params) (specs : List TapSpec) (k : Kept) (judge : Judge) : Type 0 where
  pub params : judge.params ≡ p
  pub addresses : judge.addresses.items ≡ addresses_in specs
  pub few : length specs ≤ 127
  pub count : judge.count ≡ k.count
  pub ends : judge.air.ends.items ≡ k.ends
  pub recent : map air_of judge.air.recent.items ≡ k.recent
  pub last : IsLastOf (length specs) k.last judge.last
  pub illegal : judge.illegal ≡ k.illegal

-- a judge of a trace of some taps has heard these entries, and no others
abbrev pub HasHeard : Params → List TapSpec → List Entry → Judge → Type 0
HasHeard p specs entries judge = Keeps p specs (kept_of p specs entries) judge

-- it hears one entry more
abbrev pub HearsOn : Judge → Entry → Judge → Type 0
HearsOn before e after = (p : Params) (specs : List TapSpec) (entries : List Entry) → HasHeard p specs entries before → HasHeard p specs (entries ++ e ∷ []) after
