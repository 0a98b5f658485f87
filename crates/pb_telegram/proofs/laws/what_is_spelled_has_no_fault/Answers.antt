use Rattle.pb_telegram.proofs.OneTelegram.{spelled_is_fault_free, octets-spelled}
use Rattle.pb_telegram.proofs.laws.what_is_spelled_has_no_fault.Goals as goal

pub returns-clause-no_fault : goal.returns-clause-no_fault
returns-clause-no_fault c = spelled_is_fault_free

pub returns-clause-octets : goal.returns-clause-octets
returns-clause-octets c = octets-spelled
