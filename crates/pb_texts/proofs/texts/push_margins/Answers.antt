use Rattle.std.proofs.Common.{◌≡◌, ◌∙◌, ap, ◌++◌, List, ℕ}
use Rattle.std.specs.Prelude.{codes}
use Rattle.pb_texts.proofs.Pieces.{front, last, more}
use Rattle.pb_texts.specs.Bounds.{take_margin, reply_margin, lag_margin}
use Rattle.pb_texts.specs.declared.numbers.Rounding.TheVariants.{Down}
use Rattle.pb_texts.specs.Texts.{number_line}
use Rattle.pb_texts.proofs.texts.push_margins.Goals as goal

pub returns : goal.returns
returns c =
    let baud = c.args.baud in
    let p0 : List ℕ = number_line Down baud (codes "slot margin of a take ") (take_margin c.args.params.now) (codes "TakeLate") in
    let p1 : List ℕ = number_line Down baud (codes "slot margin of a reply ") (reply_margin c.args.params.now) (codes "ReplyLate") in
    let p2 : List ℕ = number_line Down baud (codes "lag margin ") (lag_margin c.args.params.now) (codes "TakeLate, ReplyLate") in
    let q0 : List ℕ = p0 in
    let q1 : List ℕ = q0 ++ p1 in
    let q2 : List ℕ = q1 ++ p2 in
    let s0 : c.push_line.new.text.items ≡ c.args.text.now.items ++ q0 = c.in_ok-push_line.ensures ∙ ap (λ (n : ℕ). c.args.text.now.items ++ number_line Down baud (codes "slot margin of a take ") (n) (codes "TakeLate")) c.take_margin.ensures in
    let s1 : c.push_line-2.new.text.items ≡ c.args.text.now.items ++ q1 = more c.args.text.now.items c.push_line.new.text.items c.push_line-2.new.text.items q0 p1 s0 (c.in_ok-push_line-2.ensures ∙ ap (λ (n : ℕ). c.push_line.new.text.items ++ number_line Down baud (codes "slot margin of a reply ") (n) (codes "ReplyLate")) c.reply_margin.ensures) in
    front c.push_line-3.result c.args.text.now.items c.push_line-2.new.text.items c.push_line-3.new.text.items q1 p2 s1 (last c.push_line-3.result c.push_line-2.new.text.items c.push_line-3.new.text.items (number_line Down baud (codes "lag margin ") (c.lag_margin.result) (codes "TakeLate, ReplyLate")) p2 (ap (λ (n : ℕ). number_line Down baud (codes "lag margin ") (n) (codes "TakeLate, ReplyLate")) c.lag_margin.ensures) c.push_line-3.ensures)
