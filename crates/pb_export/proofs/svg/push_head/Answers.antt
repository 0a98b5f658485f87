use Rattle.std.proofs.Common.{ap}
use Rattle.pb_export.specs.Styles.{legend}
use Rattle.pb_export.specs.Svg.{head_with}
use Rattle.pb_texts.proofs.Pieces.{last}
use Rattle.pb_export.proofs.svg.push_head.Goals as goal

pub returns : goal.returns
returns c =
    last c.push_head_with.result c.args.text.now.items c.push_head_with.new.text.items (head_with c.args.sheet c.legend.result.now) (head_with c.args.sheet legend)
    (ap (head_with c.args.sheet) c.legend.ensures) c.push_head_with.ensures
