use Rattle.std.proofs.Common.{rules, ◌≡◌, length, map, get_or}
use Rattle.pb_telegram.specs.declared.chars.RxChar.TheVariants.{Good}
use Rattle.pb_station.proofs.Told.{told-last}
use Rattle.pb_station.proofs.inboxes.push_good_ended.Goals as goal

pub returns-clause-items : goal.returns-clause-items
returns-clause-items c =
    let copies = c.args.copies.now.items in
    let all = c.push_reserved.new.self.items in
    let z = c.index_mut.result.now in
    let place : c.len-place.result ≡ length copies = search rules in
    let is : z ≡ get_or all c.len-place.result z = search rules in
    told-last copies all c.ended.result z c.bring_good.new.self c.len-place.result c.args.at c.args.seen (map Good c.args.octets.now)
    c.push_reserved.ensures.items place is c.ended.ensures c.bring_good.ensures
