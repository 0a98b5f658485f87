use Rattle.std.proofs.Common.{ap, ◌∙◌, ◌==◌, false, Bool, if◌then◌else◌, refl, true, ◌≡◌}
use Rattle.law_model.specs.Trace.{Own, Pending}
use Rattle.pb_medium.specs.Receptions.{holds, heard_as, heard_by_tap}
use Rattle.pb_medium.proofs.Receiving.{listed-first}
use Rattle.pb_medium.proofs.receptions.Reception.at_first.Goals as goal

at-first : (own : Bool) → heard_as false own false false ≡ (if own then Own else Pending)
at-first true = refl
at-first false = refl

pub returns : goal.returns
returns c = λ ts size.
    let none = c.none.result in
    let speaker = c.args.speaker in
    listed-first (heard_by_tap (record { taps = c.args.taps; speaker = speaker; whole = none; damaged = c.none-2.result; unheard = c.none-3.result })) speaker 0 c.args.taps ts size
    (λ tap.
    ap (λ b. heard_as b (tap == speaker) (holds none tap) (holds c.none-2.result tap)) (c.none-3.ensures tap)
    ∙ ap (λ b. heard_as false (tap == speaker) b (holds c.none-2.result tap)) (c.none.ensures tap)
    ∙ ap (λ b. heard_as false (tap == speaker) false b) (c.none-2.ensures tap)
    ∙ at-first (tap == speaker))
