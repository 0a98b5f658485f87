use Rattle.std.proofs.Common.{◌≡◌, ◌∙◌, ap, ◌++◌, List, ℕ}
use Rattle.std.specs.Prelude.{codes}
use Rattle.pb_texts.proofs.Pieces.{front, last, more}
use Rattle.pb_texts.specs.Bounds.{take_margin, reply_margin, lag_margin}
use Rattle.pb_texts.specs.declared.numbers.Rounding.TheVariants.{Down}
use Rattle.pb_texts.specs.Texts.{member}
use Rattle.pb_texts.proofs.json.push_margins.Goals as goal

pub returns : goal.returns
returns c =
    let baud = c.args.baud in
    let p0 : List ℕ = member Down baud (codes ",\"take_margin\":") (take_margin c.args.params.now) in
    let p1 : List ℕ = member Down baud (codes ",\"reply_margin\":") (reply_margin c.args.params.now) in
    let p2 : List ℕ = member Down baud (codes ",\"lag_margin\":") (lag_margin c.args.params.now) in
    let q0 : List ℕ = p0 in
    let q1 : List ℕ = q0 ++ p1 in
    let q2 : List ℕ = q1 ++ p2 in
    let s0 : c.push_member.new.text.items ≡ c.args.text.now.items ++ q0 = c.in_ok-push_member.ensures ∙ ap (λ (n : ℕ). c.args.text.now.items ++ member Down baud (codes ",\"take_margin\":") (n)) c.take_margin.ensures in
    let s1 : c.push_member-2.new.text.items ≡ c.args.text.now.items ++ q1 = more c.args.text.now.items c.push_member.new.text.items c.push_member-2.new.text.items q0 p1 s0 (c.in_ok-push_member-2.ensures ∙ ap (λ (n : ℕ). c.push_member.new.text.items ++ member Down baud (codes ",\"reply_margin\":") (n)) c.reply_margin.ensures) in
    front c.push_member-3.result c.args.text.now.items c.push_member-2.new.text.items c.push_member-3.new.text.items q1 p2 s1 (last c.push_member-3.result c.push_member-2.new.text.items c.push_member-3.new.text.items (member Down baud (codes ",\"lag_margin\":") (c.lag_margin.result)) p2 (ap (λ (n : ℕ). member Down baud (codes ",\"lag_margin\":") (n)) c.lag_margin.ensures) c.push_member-3.ensures)
