-- Nothing settles where there is no tap.
use Rattle.std.proofs.Common.{sym, ◌∷◌, [], length}
use Rattle.std.proofs.lemmas.Bool.{ltb-false}
use Rattle.law_model.specs.Trace.{Sent}
use Rattle.pb_medium.specs.Entries.{record_of}
use Rattle.pb_taps.specs.Taps.{tap_of}
use Rattle.pb_medium.proofs.Settled.{none-settles}
use Rattle.pb_medium.proofs.settling.settle_alone_at.Goals as goal

pub returns-in_default : goal.returns-in_default
returns-in_default c =
    none-settles tap_of c.args.delay (Sent (record_of c.args.telegram.now) ∷ []) (record_of c.args.telegram.now) c.args.taps.now c.args.heard.now c.args.position
    (ltb-false c.args.position (length c.args.taps.now) (sym c.in_default.ensures.lookup.0))
