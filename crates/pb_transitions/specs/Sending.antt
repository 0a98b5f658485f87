-- What a station sends, if anything.
use Rattle.std.specs.Prelude.{ℕ, List, Option}
use Rattle.std.specs.Option.{option_map}
use Rattle.arrayvec.specs.ArrayVec.{ArrayVec}

abbrev pub octets_of : Option (ArrayVec ℕ) → Option (List ℕ)
octets_of sent = option_map (λ octets. octets.items) sent
