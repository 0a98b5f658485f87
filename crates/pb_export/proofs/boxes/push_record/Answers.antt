use Rattle.std.proofs.Common.{◌≡◌, ◌∙◌, ap, ◌++◌, ℕ, List}
use Rattle.pb_export.specs.declared.places.Stretch.{Stretch}
use Rattle.pb_medium.specs.Entries.{record_of}
use Rattle.pb_export.specs.Places.{clip}
use Rattle.pb_export.specs.Boxes.{telegram_bars, hearers}
use Rattle.pb_texts.proofs.Pieces.{front, last}
use Rattle.pb_export.proofs.boxes.push_record.Goals as goal

pub returns : goal.returns
returns c =
    let s = c.args.scenario.now in
    let sheet = c.args.sheet in
    let lanes = c.args.lanes.now in
    let r = record_of c.args.telegram.now in
    let x = clip sheet (record { begin = r.begin; end = r.end }) in
    let text = c.args.text.now.items in
    let p0 : List ℕ = telegram_bars sheet lanes r x in
    let p1 : List ℕ = hearers s sheet x r.heard 0 lanes in
    let q0 : List ℕ = p0 in
    let q1 : List ℕ = q0 ++ p1 in
    let s0 : c.push_telegram.new.text.items ≡ text ++ q0 = c.in_ok-push_telegram.ensures ∙ ap (λ (z : List ℕ). text ++ z) (ap (telegram_bars sheet lanes r) c.clip-stretch.ensures.value) in
    front c.push_hearers.result text c.push_telegram.new.text.items c.push_hearers.new.text.items q0 p1 s0 (last c.push_hearers.result c.push_telegram.new.text.items c.push_hearers.new.text.items _ p1 (ap (λ (y : Stretch). hearers s sheet y r.heard 0 lanes) c.clip-stretch.ensures.value) (c.push_hearers.ensures))
