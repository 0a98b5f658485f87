use Rattle.std.proofs.Common.{arith, ◌+◌, ◌∙◌, map, ap, ◌++◌, drop}
use Rattle.law_model.specs.Trace.{characters_from}
use Rattle.pb_medium.specs.Entries.{hit_of}
use Rattle.pb_medium.proofs.Sensing.{characters-step}
use Rattle.pb_medium.proofs.senses.characters_of.Goals as goal

pub loop-place-preserved : goal.loop-place-preserved
loop-place-preserved c =
    let position = c.args.position in
    let hits = map hit_of c.args.telegram.now.hits.items in
    let place = c.loop-place.place in
    let octets = c.args.octets.now in
    record {
      count = omega (arith, c.push.ensures.len, c.loop-place.invariant.count);
      so_far = ap (λ chars. chars ++ characters_from position hits (place + 1) (drop (place + 1) octets)) c.push.ensures.items
          ∙ characters-step position hits place octets c.loop-place.chars.items c.character_at.result c.loop-place-test.true c.character_at.ensures
          ∙ c.loop-place.invariant.so_far;
    }
