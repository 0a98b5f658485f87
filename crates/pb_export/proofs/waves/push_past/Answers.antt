use Rattle.std.proofs.Common.{arith, map}
use Rattle.std.proofs.lemmas.List.{length-map}
use Rattle.pb_medium.specs.Entries.{entry_of}
use Rattle.pb_export.proofs.InPieces.{goes-on}
use Rattle.pb_export.proofs.waves.push_past.Goals as goal

pub returns : goal.returns
returns c =
    let entries = c.args.entries.now in
    let as_many = length-map entries entry_of in
    goes-on c.args.dump c.args.waves _ (map entry_of entries) c.args.text.now.items c.push_moments.new.text.items (record {
      end = c.min-end.result;
      ends = omega (arith, c.min-end.ensures, c.min.ensures, c.latest_end.ensures, c.last_end-last.ensures);
      text = c.in_ok-place.ensures.text;
      level = c.in_ok-place.ensures.level;
      named = c.in_ok-place.ensures.named;
      gone = omega (arith, c.min-2.ensures, as_many);
      next = c.max.ensures;
      last = c.last_end-last.ensures;
    })
