use Rattle.std.proofs.Common.{arith, map}
use Rattle.std.specs.Prelude.{take}
use Rattle.pb_medium.specs.Entries.{entry_of}
use Rattle.pb_export.proofs.Waving.{level-step, moments-step, named-step, over-later, skips}
use Rattle.pb_export.proofs.waves.push_moments.Goals as goal

pub loop-now-preserved : goal.loop-now-preserved
loop-now-preserved c =
    let es = map entry_of c.args.entries.now in
    let x = c.args.dump in
    let w = x.window in
    let gone = c.args.waves.gone in
    let before = c.loop-now.place in
    let after = c.in_ok-place.place in
    let now = c.loop-now.now in
    let to = c.following-now.result in
    let end = c.args.end in
    let is = c.in_ok-place.ensures in
    let jump = skips w gone after.first after.next es after.level after.named now to is.first c.following-now.ensures.after is.over is.to_come is.level is.named
    c.following-now.ensures.idle c.following-now.ensures.to_come in
    let bound = c.following-now.ensures.bound in
    record {
      text = moments-step x.baud x.strings w gone es before.level before.named after.level after.named now to end
          c.loop-now.text.items c.push_moment.new.text.items _ bound is.text is.level is.named jump c.loop-now.invariant.text;
      level = level-step w gone es before.level after.level _ after.named now to end bound is.level jump c.loop-now.invariant.level;
      named = named-step w gone es after.level before.named after.named _ now to end bound is.named jump c.loop-now.invariant.named;
      over = over-later now to (take after.first es) (omega (arith, c.following-now.ensures.after)) is.over;
      first = is.first;
      next = is.next;
    }
