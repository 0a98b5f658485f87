use Rattle.law_streams.proofs.Followed.{more-stream, more-trace}
use Rattle.law_streams.proofs.Audited.{more-audits}
use Rattle.law_streams.proofs.laws.a_greater_limit_changes_nothing.Goals as goal

pub returns-clause-trace : goal.returns-clause-trace
returns-clause-trace c = more-trace

pub returns-clause-stream : goal.returns-clause-stream
returns-clause-stream c = more-stream

pub returns-clause-audit : goal.returns-clause-audit
returns-clause-audit c = more-audits
