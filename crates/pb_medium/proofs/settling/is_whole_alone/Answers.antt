use Rattle.std.proofs.Common.{◌∙◌, ap, sym, ◌&&◌}
use Rattle.pb_medium.specs.Entries.{record_of}
use Rattle.pb_medium.specs.Settling.{comes_whole}
use Rattle.pb_taps.specs.Taps.{tap_of}
use Rattle.pb_medium.proofs.Alone.{sent_whole}
use Rattle.pb_medium.proofs.settling.is_whole_alone.Goals as goal

pub returns-else-is_sound : goal.returns-else-is_sound
returns-else-is_sound c =
    let r = record_of c.args.telegram.now in
    c.comes_whole.ensures ∙ ap (λ b. b && comes_whole c.args.position r) (sym c.if-hears_all.true ∙ c.hears_all.ensures)
    ∙ sym (sent_whole c.args.delay c.args.position (tap_of c.args.tap.now) r)
