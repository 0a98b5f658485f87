-- What an audit with its reasons returns.
use Rattle.std.specs.Prelude.{Result, Ok, Err}
use Rattle.pb_cli.specs.declared.auditing.Found.{Found}
use Rattle.pb_cli.specs.declared.faults.CliFault.{CliFault}
use Rattle.pb_cli.specs.declared.faults.Status.{Status}

-- without the reasons
abbrev pub status_in : Result Found CliFault → Result Status CliFault
status_in (Ok found) = Ok found.status
status_in (Err fault) = Err fault
