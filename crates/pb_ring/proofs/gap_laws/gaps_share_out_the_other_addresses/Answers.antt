use Rattle.pb_ring.proofs.GapShares.{gap-each, gap-owner, gap-once, gap-highest, gap-others}
use Rattle.pb_ring.proofs.gap_laws.gaps_share_out_the_other_addresses.Goals as goal

pub returns-clause-each : goal.returns-clause-each
returns-clause-each c = gap-each

pub returns-clause-owner : goal.returns-clause-owner
returns-clause-owner c = gap-owner

pub returns-clause-once : goal.returns-clause-once
returns-clause-once c = gap-once

pub returns-clause-highest : goal.returns-clause-highest
returns-clause-highest c = gap-highest

pub returns-clause-others : goal.returns-clause-others
returns-clause-others c = gap-others
