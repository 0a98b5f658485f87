use Rattle.std.proofs.Common.{map}
use Rattle.std.specs.Prelude.{take}
use Rattle.pb_medium.specs.Entries.{entry_of}
use Rattle.pb_export.proofs.Around.{gone_later}
use Rattle.pb_export.proofs.holders.first_at.Goals as goal

pub returns-clause-end : goal.returns-clause-end
returns-clause-end c =
    gone_later c.args.delay c.args.telegram.now.begin c.args.telegram.now.end (take c.first_not_over.result (map entry_of c.args.before.now)) c.if-telegram.false c.first_not_over.ensures.over
