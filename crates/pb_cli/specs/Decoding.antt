-- What is written for lines of hex.
use Rattle.std.specs.Prelude.{ℕ, List}
use Rattle.pb_decode.specs.Decoding.{output_of, refuses}
use Rattle.pb_texts.specs.Shown.{Shown}

abbrev pub decoded_of : List ℕ → Shown
decoded_of input = record { text = output_of input; is_refused = refuses input }
