use Rattle.std.proofs.Common.{◌∙◌, ap}
use Rattle.pb_export.specs.Bursts.{known_octets}
use Rattle.pb_export.specs.BurstPackets.{block_in, burst_block}
use Rattle.pb_texts.proofs.Pieces.{last}
use Rattle.pb_export.proofs.burst_packets.push_burst_block.Goals as goal

pub returns : goal.returns
returns c =
    let b = c.args.burst.now in
    last c.push_block_in.result c.args.file.now.items c.push_block_in.new.file.items (block_in c.args.baud b c.deref-2.result.now) (burst_block c.args.baud b)
    (ap (block_in c.args.baud b) (c.deref-2.ensures.0 ∙ c.known_octets.ensures ∙ ap known_octets c.deref.ensures.0))
    c.push_block_in.ensures
