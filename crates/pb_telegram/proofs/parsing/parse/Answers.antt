use Rattle.std.proofs.Common.{◌≡◌, take, subst, arith}
use Rattle.std.proofs.lemmas.Grind.{common_steps}
use Rattle.pb_telegram.specs.Receiving.{StandsFor}
use Rattle.pb_telegram.proofs.parsing.parse.Goals as goal

pub loop-char-preserved : goal.loop-char-preserved
loop-char-preserved c =
    let chars = c.args.chars.now in
    let i = c.loop-char.char-index in
    let stands = c.feed.ensures.stands (take i chars) c.loop-char.invariant in
    subst (λ l. StandsFor c.feed.new.self l) (grind (arith, common_steps)) stands

pub returns-clause-telegram : goal.returns-clause-telegram
returns-clause-telegram c =
    let whole : take c.loop-char.char-index c.args.chars.now ≡ c.args.chars.now = grind (arith, common_steps) in
    c.end.ensures.telegram c.args.chars.now (subst (λ l. StandsFor c.loop-char.receiver l) whole c.loop-char.invariant)

pub returns-clause-sound : goal.returns-clause-sound
returns-clause-sound c =
    let whole : take c.loop-char.char-index c.args.chars.now ≡ c.args.chars.now = grind (arith, common_steps) in
    c.end.ensures.sound c.args.chars.now (subst (λ l. StandsFor c.loop-char.receiver l) whole c.loop-char.invariant)

pub returns-clause-spelled : goal.returns-clause-spelled
returns-clause-spelled c =
    let whole : take c.loop-char.char-index c.args.chars.now ≡ c.args.chars.now = grind (arith, common_steps) in
    c.end.ensures.spelled c.args.chars.now (subst (λ l. StandsFor c.loop-char.receiver l) whole c.loop-char.invariant)

pub returns-clause-fault : goal.returns-clause-fault
returns-clause-fault c =
    let whole : take c.loop-char.char-index c.args.chars.now ≡ c.args.chars.now = grind (arith, common_steps) in
    c.end.ensures.fault c.args.chars.now (subst (λ l. StandsFor c.loop-char.receiver l) whole c.loop-char.invariant)
