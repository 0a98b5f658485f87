-- What one pass over a trace keeps, in the words of the definitions.
use Rattle.std.specs.Prelude.{List, map}
use Rattle.law_model.specs.Medium as model
use Rattle.law_runs.specs.Judging as judging
use Rattle.pb_medium.specs.Entries.{record_of}
use Rattle.pb_taps.specs.Taps.{spec_of, tap_of}
use Rattle.pb_world.specs.declared.addresses.Addresses.{Addresses}
use Rattle.pb_world.specs.declared.addresses.Addresses.TheVariants as addresses
use Rattle.pb_world.specs.declared.last.LastInitiator.{LastInitiator}
use Rattle.pb_taps.specs.declared.taps.Tap.{Tap}

abbrev pub last_of : LastInitiator → judging.LastInitiator
last_of last = record { telegram = record_of last.telegram.now; silent = last.silent }

-- the definition of each tap of a bus
abbrev pub specs_at : List Tap → List model.TapSpec
specs_at taps = map (λ t. t.spec) (map tap_of taps)

-- the definition of each tap, wherever its address is read
abbrev pub specs_in : Addresses → List model.TapSpec
specs_in (addresses.OfTaps taps) = specs_at taps.now
specs_in (addresses.OfSpecs specs) = map spec_of specs.now
