use Rattle.std.proofs.Common.{◌∙◌, ap, sym, ◌+◌, map, drop, get_or}
use Rattle.pb_medium.specs.Entries.{heard_of}
use Rattle.pb_medium.specs.Making.{is_own_alone}
use Rattle.pb_medium.specs.declared.entries.Heard.TheVariants as heard
use Rattle.pb_taps.proofs.Items.{any-default, left-at}
use Rattle.pb_medium.proofs.HeardLists.{alone-no-more, alone-so-far}
use Rattle.pb_medium.proofs.making.is_own_alone.Goals as goal

pub returns-then-not-fits_tap : goal.returns-then-not-fits_tap
returns-then-not-fits_tap c =
    let xs = c.args.heard.now in
    let i = c.loop-tap.tap in
    let x = get_or xs i heard.Own in
    let left = left-at heard_of xs i x c.loop-tap-test.true (any-default xs i heard.Own x c.loop-tap-test.true) in
    sym (c.loop-tap.invariant
    ∙ ap (is_own_alone c.args.speaker i) left
    ∙ alone-no-more c.args.speaker i (heard_of x) (drop (i + 1) (map heard_of xs)) (sym c.fits_tap.ensures ∙ c.if-not-fits_tap.true))

pub loop-tap-preserved : goal.loop-tap-preserved
loop-tap-preserved c =
    let xs = c.args.heard.now in
    let i = c.loop-tap.tap in
    let x = get_or xs i heard.Own in
    let left = left-at heard_of xs i x c.loop-tap-test.true (any-default xs i heard.Own x c.loop-tap-test.true) in
    c.loop-tap.invariant
    ∙ ap (is_own_alone c.args.speaker i) left
    ∙ alone-so-far c.args.speaker i (heard_of x) (drop (i + 1) (map heard_of xs)) (sym c.fits_tap.ensures ∙ c.if-not-fits_tap.false)
