use Rattle.std.proofs.Common.{rules}
use Rattle.pb_fleet.proofs.Given.{gives_split}
use Rattle.pb_fleet.proofs.tickets.Tickets.split.Goals as goal

pub split_seat-seat-requires : goal.split_seat-seat-requires
split_seat-seat-requires c = (search rules, search rules, gives_split c.args.self.now.table.shared.key c.args.seat.now.seat.id c.args.seat.now.seat.me.0 c.requires.more)
