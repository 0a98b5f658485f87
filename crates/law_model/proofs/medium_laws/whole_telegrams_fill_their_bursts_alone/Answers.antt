use Rattle.law_model.proofs.WholeTelegrams.{fills-burst_characters, burst_characters-filled, fills_alone, fills_burst-alone}
use Rattle.law_model.proofs.medium_laws.whole_telegrams_fill_their_bursts_alone.Goals as goal

pub returns-clause-brought : goal.returns-clause-brought
returns-clause-brought c = fills-burst_characters

pub returns-clause-filled : goal.returns-clause-filled
returns-clause-filled c = burst_characters-filled

pub returns-clause-alone : goal.returns-clause-alone
returns-clause-alone c = fills_alone

pub returns-clause-lone : goal.returns-clause-lone
returns-clause-lone c = fills_burst-alone
