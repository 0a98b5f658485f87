use Rattle.std.proofs.Common.{arith, ◌∙◌, ◌+◌, ap, refl, ◌++◌, drop, get_or, []}
use Rattle.pb_telegram.specs.declared.chars.RxChar.TheVariants.{Good}
use Rattle.law_model.specs.Trace.{characters_from}
use Rattle.pb_medium.proofs.Sensing.{characters-step}
use Rattle.pb_medium.proofs.senses.good_characters.Goals as goal

pub loop-octet-preserved : goal.loop-octet-preserved
loop-octet-preserved c =
    let place = c.loop-octet.octet-index in
    let octets = c.args.octets.now in
    record {
      count = omega (arith, c.push.ensures.len, c.loop-octet.invariant.count);
      so_far = ap (λ chars. chars ++ characters_from 0 [] (place + 1) (drop (place + 1) octets)) c.push.ensures.items
          ∙ characters-step 0 [] place octets c.loop-octet.chars.items (Good (get_or octets place 0)) c.loop-octet-test.true refl
          ∙ c.loop-octet.invariant.so_far;
    }
