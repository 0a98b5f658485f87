use Rattle.std.proofs.Common.{◌≡◌, ◌++◌, ℕ, List, ◌∙◌, ap}
use Rattle.pb_export.specs.declared.places.Bar.{Bar}
use Rattle.pb_export.specs.declared.places.Stretch.{Stretch}
use Rattle.pb_export.specs.Places.{clip}
use Rattle.pb_export.specs.CaptureSvg.{alarm_mark, bar_in, burst_bars, burst_title}
use Rattle.pb_texts.proofs.Pieces.{front, last, more}
use Rattle.pb_export.proofs.capture_boxes.push_box.Goals as goal

pub returns : goal.returns
returns c =
    let sheet = c.args.sheet in
    let lane = c.args.lane in
    let b = c.args.burst.now in
    let x = clip sheet (record { begin = b.begin; end = b.end }) in
    let text = c.args.text.now.items in
    let p0 : List ℕ = burst_title b in
    let p1 : List ℕ = burst_bars sheet (bar_in sheet lane) b x in
    let p2 : List ℕ = alarm_mark sheet lane x b.alarm in
    let q0 : List ℕ = p0 in
    let q1 : List ℕ = q0 ++ p1 in
    let q2 : List ℕ = q1 ++ p2 in
    let s0 : c.push_title.new.text.items ≡ text ++ q0 = c.in_ok-push_title.ensures in
    let s1 : c.push_burst.new.text.items ≡ text ++ q1 = more text c.push_title.new.text.items c.push_burst.new.text.items q0 p1 s0 (c.in_ok-push_burst.ensures ∙ ap (λ (z : List ℕ). c.push_title.new.text.items ++ z) (ap (λ (y : Stretch). burst_bars sheet c.bar_in.result b y) c.clip-stretch.ensures.value ∙ ap (λ (y : Bar). burst_bars sheet y b x) c.bar_in.ensures.bar)) in
    front c.push_mark.result text c.push_burst.new.text.items c.push_mark.new.text.items q1 p2 s1 (last c.push_mark.result c.push_burst.new.text.items c.push_mark.new.text.items _ p2 (ap (λ (y : Stretch). alarm_mark sheet lane y b.alarm) c.clip-stretch.ensures.value) (c.push_mark.ensures))
