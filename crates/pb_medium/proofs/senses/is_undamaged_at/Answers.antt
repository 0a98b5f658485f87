use Rattle.std.proofs.Common.{rules, arith, ◌≡◌, ap, map, []}
use Rattle.std.proofs.lemmas.List.{nil_from_length}
use Rattle.pb_medium.specs.Entries.{hit_of, record_of}
use Rattle.pb_medium.proofs.Sensing.{unhit-undamaged}
use Rattle.pb_medium.proofs.senses.is_undamaged_at.Goals as goal

pub returns-then-is_empty : goal.returns-then-is_empty
returns-then-is_empty c =
    let none : map hit_of c.args.telegram.now.hits.items ≡ [] = ap (map hit_of) (nil_from_length c.args.telegram.now.hits.items (search (rules, arith))) in
    let full = unhit-undamaged c.args.position (record_of c.args.telegram.now) c.sent_octets.result none c.sent_octets.ensures.count c.sent_octets.ensures.bound in
    rw c.len.ensures.value full
