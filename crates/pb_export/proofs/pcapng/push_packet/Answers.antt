use Rattle.std.proofs.Common.{◌≡◌, ◌∙◌, ◌++◌, ℕ, List, ap, sym, length}
use Rattle.std.specs.Prelude.{min, take}
use Rattle.pb_medium.specs.Entries.{record_of}
use Rattle.pb_texts.proofs.Pieces.{last}
use Rattle.pb_export.proofs.Cut.{cut}
use Rattle.pb_export.specs.Times.{nanos}
use Rattle.pb_export.specs.Pcapng.{block, comment_text}
use Rattle.pb_export.specs.Saying.{sent_octets}
use Rattle.pb_export.proofs.pcapng.push_packet.Goals as goal

pub returns : goal.returns
returns c =
    let r = record_of c.args.telegram.now in
    let s = c.args.scenario.now in
    let text = c.deref.result.now in
    let whole : text ≡ comment_text s r = c.deref.ensures.value ∙ c.in_ok-push_comment.ensures ∙ ap (λ (z : List ℕ). z ++ comment_text s r) c.new-comment.ensures.items in
    let count : c.min.result ≡ min (length text) 65535 = c.min.ensures ∙ ap (λ (n : ℕ). min n 65535) (c.len.ensures ∙ sym c.deref.ensures.len) in
    let short : take c.min.result text ≡ take 65535 (comment_text s r) = ap (λ (n : ℕ). take n text) count ∙ cut 65535 text ∙ ap (take 65535) whole in
    let octets = c.sent_octets-octets.result.now in
    last c.push_block.result c.args.file.now.items c.push_block.new.file.items (block c.nanos.result (take c.min.result text) octets (length octets)) (block (nanos c.args.baud r.begin) (take 65535 (comment_text s r)) (sent_octets r) (length (sent_octets r)))
    (ap (λ (n : ℕ). block n (take c.min.result text) octets (length octets)) c.nanos.ensures
    ∙ ap (λ (z : List ℕ). block (nanos c.args.baud r.begin) z octets (length octets)) short
    ∙ ap (λ (z : List ℕ). block (nanos c.args.baud r.begin) (take 65535 (comment_text s r)) z (length octets)) c.sent_octets-octets.ensures.octets
    ∙ ap (λ (n : ℕ). block (nanos c.args.baud r.begin) (take 65535 (comment_text s r)) (sent_octets r) n) (ap length c.sent_octets-octets.ensures.octets))
    c.push_block.ensures
