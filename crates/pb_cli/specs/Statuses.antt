-- How a call ends.
use Rattle.std.specs.Prelude.{Bool, true, false}
use Rattle.pb_cli.specs.declared.faults.Status.{Status}
use Rattle.pb_cli.specs.declared.faults.Status.TheVariants.{Done, Refused}

-- the status, by whether the text reports a refusal
abbrev pub status_of : Bool → Status
status_of false = Done
status_of true = Refused
