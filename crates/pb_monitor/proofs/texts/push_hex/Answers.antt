use Rattle.std.proofs.Common.{◌≡◌, ◌∙◌, ◌*◌, ◌+◌, ap, arith, length, take, slice_index_or, slice_set}
use Rattle.std.proofs.lemmas.List.{length-set}
use Rattle.hex.specs.Hex.{encode_lower, lower_digits}
use Rattle.hex.proofs.Pairs.{encode_step}
use Rattle.pb_monitor.proofs.Appending.{extended, same_end}
use Rattle.pb_monitor.proofs.HexDigits.{all_written}
use Rattle.pb_monitor.proofs.texts.push_hex.Goals as goal

pub loop-place-preserved : goal.loop-place-preserved
loop-place-preserved c =
    let l = c.loop-place in
    let high = slice_index_or c.hex_of.result 0 0 in
    let low = slice_index_or c.hex_of.result 1 0 in
    record {
      room = length-set (slice_set l.room (2 * l.place) high) (2 * l.place + 1) low ∙ length-set l.room (2 * l.place) high ∙ l.invariant.room;
      written = encode_step lower_digits c.args.octets.now l.room l.place high low (omega arith) (omega (arith, l.invariant.room)) c.hex_of.ensures.high c.hex_of.ensures.low l.invariant.written;
    }

pub returns : goal.returns
returns c =
    let l = c.loop-place in
    let octets = c.args.octets.now in
    let all : take (2 * l.place) l.room ≡ encode_lower octets = all_written octets l.room l.place (omega arith) l.invariant.written in
    let end : length octets ≡ l.place = omega arith in
    same_end c.extend_from_slice.result c.args.text.now.items c.extend_from_slice.new.self.items (take (2 * length octets) l.room) (encode_lower octets)
    (ap (λ n. take (2 * n) l.room) end ∙ all)
    (extended c.extend_from_slice.result c.args.text.now.items c.extend_from_slice.new.self.items (take (2 * length octets) l.room) c.extend_from_slice.ensures.items)
