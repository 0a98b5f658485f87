-- The exit status of an answer, and of words that ask for nothing.
use Rattle.std.specs.Prelude.{ℕ, Result, Ok, Err}
use Rattle.pb_cli.specs.declared.faults.CliFault.{CliFault}
use Rattle.pb_cli.specs.declared.faults.CliFault.TheVariants.{Read, TooLong, Write, NoMemory}
use Rattle.pb_cli.specs.declared.faults.Status.{Status}
use Rattle.pb_cli.specs.declared.faults.Status.TheVariants.{Done, Refused}
use Rattle.pb_cli.specs.declared.words.AskFault.{AskFault}
use Rattle.pb_cli.specs.declared.words.AskFault.TheVariants as words

abbrev pub exit_status_of : Result Status CliFault → ℕ
exit_status_of (Ok Done) = 0
exit_status_of (Ok Refused) = 1
exit_status_of (Err Read) = 3
exit_status_of (Err TooLong) = 3
exit_status_of (Err Write) = 3
exit_status_of (Err NoMemory) = 4

abbrev pub words_status_of : AskFault → ℕ
words_status_of (words.Usage text) = 2
words_status_of words.NoMemory = 4
