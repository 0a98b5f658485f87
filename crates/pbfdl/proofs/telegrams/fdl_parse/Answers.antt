use Rattle.std.proofs.Common.{map, sym, ap, ◌∙◌}
use Rattle.pb_telegram.specs.Faults.{octets}
use Rattle.pb_telegram.specs.declared.chars.RxChar.TheVariants.{Good}
use Rattle.pb_telegram.specs.Grammar.{spelling}
use Rattle.pbfdl.proofs.Octets.{octets_of_good}
use Rattle.pbfdl.proofs.telegrams.fdl_parse.Goals as goal

pub returns-in-Ok-clause-spelled : goal.returns-in-Ok-clause-spelled
returns-in-Ok-clause-spelled c ok =
    let spells = c.in-Ok.ensures.telegram (map Good c.args.octets.now) c.received.ensures in
    c.tell.ensures.octets ∙ sym (octets_of_good (spelling c.in-Ok.found)) ∙ sym (ap octets spells) ∙ octets_of_good c.args.octets.now
