-- The meaning of a telegram, as far as it decides who may send it.
use Rattle.std.specs.Prelude.{if◌then◌else◌}
use Rattle.pb_cycles.specs.Messages.{has_bit}
use Rattle.law_turn.specs.Arrivals.{Arrival, Token, Framed, Acknowledgement, NoTelegram}
use Rattle.law_model.specs.Trace.{Entry, Sent, Noise}
use Rattle.law_runs.specs.Initiators.{telegram_of}
use Rattle.pb_world.specs.declared.initiators.Meaning.{Meaning}
use Rattle.pb_world.specs.declared.initiators.Meaning.TheVariants as meaning

abbrev pub meaning_of : Arrival → Meaning
meaning_of (Token da sa) = meaning.Token da sa
meaning_of (Framed f) = if has_bit f.fc 6 then meaning.Request else meaning.Other
meaning_of Acknowledgement = meaning.Other
meaning_of NoTelegram = meaning.Other

-- noise has no meaning
abbrev pub meaning_in : Entry → Meaning
meaning_in (Noise span) = meaning.Other
meaning_in (Sent r) = meaning_of (telegram_of r)
