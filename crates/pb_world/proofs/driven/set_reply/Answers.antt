use Rattle.std.proofs.Common.{refl}
use Rattle.pb_world.proofs.Driving.{sets-so}
use Rattle.pb_world.proofs.driven.set_reply.Goals as goal

pub returns : goal.returns
returns c =
    let e = c.set_reply.ensures in
    let old = c.args.watched.now in
    let both = sets-so old (record { bus = c.set_reply.new.self; watch = old.watch; told = old.told }) c.args.tap c.args.reply.items c.set_reply.result c.requires e.kept refl refl e.fits e.sets in
    record { sets = both.0; followed = both.1 }
