use Rattle.std.proofs.Common.{◌≡◌, arith}
use Rattle.std.specs.Prelude.{slice_index}
use Rattle.std.proofs.lemmas.Grind.{common_steps}
use Rattle.pb_telegram.specs.Faults.{octets}
use Rattle.pb_telegram.proofs.Spelled.{no_token_in}
use Rattle.pb_telegram.proofs.reading.token_in.Goals as goal

pub returns-in-Good-clause-none : goal.returns-in-Good-clause-none
returns-in-Good-clause-none c =
    let chars = c.args.chars.now in
    let da : c.in-Good.da ≡ slice_index (octets chars) 1 = grind (arith, common_steps) in
    let sa : c.in-Good.sa ≡ slice_index (octets chars) 2 = grind (arith, common_steps) in
    no_token_in chars _ _ c.token_of.result da sa c.token_of.ensures.none
