use Rattle.std.proofs.Common.{◌≡◌, ◌∙◌, ◌++◌, ℕ, List, ap, sym, length}
use Rattle.std.specs.Prelude.{min, take}
use Rattle.pb_texts.proofs.Pieces.{last}
use Rattle.pb_export.proofs.Cut.{cut}
use Rattle.pb_export.specs.Times.{nanos}
use Rattle.pb_export.specs.Pcapng.{block}
use Rattle.pb_export.specs.BurstPackets.{comment_text, known_block}
use Rattle.pb_export.proofs.burst_packets.push_known_block.Goals as goal

pub returns : goal.returns
returns c =
    let b = c.args.burst.now in
    let octets = c.args.octets.now in
    let text = c.deref.result.now in
    let whole : text ≡ comment_text b = c.deref.ensures.value ∙ c.in_ok-push_comment.ensures ∙ ap (λ (z : List ℕ). z ++ comment_text b) c.new-comment.ensures.items in
    let count : c.min.result ≡ min (length text) 65535 = c.min.ensures ∙ ap (λ (n : ℕ). min n 65535) (c.len.ensures ∙ sym c.deref.ensures.len) in
    let short : take c.min.result text ≡ take 65535 (comment_text b) = ap (λ (n : ℕ). take n text) count ∙ cut 65535 text ∙ ap (take 65535) whole in
    last c.push_block.result c.args.file.now.items c.push_block.new.file.items (block c.nanos.result (take c.min.result text) octets b.count) (known_block c.args.baud b octets)
    (ap (λ (n : ℕ). block n (take c.min.result text) octets b.count) c.nanos.ensures
    ∙ ap (λ (z : List ℕ). block (nanos c.args.baud b.begin) z octets b.count) short)
    c.push_block.ensures
