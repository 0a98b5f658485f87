use Rattle.std.proofs.Common.{rules, ◌≡◌, ◌∙◌, []}
use Rattle.std.specs.Prelude.{codes}
use Rattle.pb_monitor.specs.BurstTexts.{content_text}
use Rattle.pb_monitor.proofs.Appending.{extended, line_alone}
use Rattle.pb_monitor.proofs.monitors.push_untimed.Goals as goal

pub returns : goal.returns
returns c =
    let none : c.new-line.result.items ≡ [] = search rules in
    let same : c.deref.result.now ≡ c.put.new.piece.items = search rules in
    line_alone c.extend_from_slice.result c.args.text.now.items c.put_content.new.text.items c.extend_from_slice.new.self.items
    c.new-line.result.items c.put_content.new.piece.items c.deref.result.now (content_text c.args.burst.now.telegram) (codes "\n")
    none c.in_ok-put_content.ensures.text (same ∙ c.put.ensures.items)
    (extended c.extend_from_slice.result c.put_content.new.text.items c.extend_from_slice.new.self.items c.deref.result.now c.extend_from_slice.ensures.items)
