use Rattle.pb_cycles.proofs.Meaning.{extension, sda, srd, srd_without_data}
use Rattle.pb_cycles.proofs.laws.a_reply_means_what_was_meant.Goals as goal

pub returns-clause-extension : goal.returns-clause-extension
returns-clause-extension c = extension

pub returns-clause-sda : goal.returns-clause-sda
returns-clause-sda c = sda

pub returns-clause-srd : goal.returns-clause-srd
returns-clause-srd c = srd

pub returns-clause-srd_without_data : goal.returns-clause-srd_without_data
returns-clause-srd_without_data c = srd_without_data
