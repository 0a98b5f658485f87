use Rattle.std.proofs.Common.{◌≡◌, ◌∙◌, ap, sym, Bool, []}
use Rattle.std.specs.Prelude.{if◌then◌else◌}
use Rattle.pb_texts.proofs.Pieces.{last, not_zero, octets}
use Rattle.pb_cli.specs.Drawing.{left_out_line, left_out_text}
use Rattle.pb_cli.proofs.drawing.Drawing.push_left_out.Goals as goal

pub returns : goal.returns
returns c =
    let n = c.args.self.now.left_out in
    let lines = c.args.lines.now.items in
    let after = c.extend_from_slice.new.self.items in
    let line : c.as_bytes.result.now ≡ left_out_text n =
    c.as_bytes.ensures.value ∙ c.in_ok-line.ensures.ok ∙ ap (λ (t : Bool). if t then [] else left_out_line n) (sym (not_zero n c.if-self-eq0.false)) in
    last c.extend_from_slice.result lines after c.as_bytes.result.now (left_out_text n) line
    (octets c.extend_from_slice.result lines after c.as_bytes.result.now c.extend_from_slice.ensures.items)
