use Rattle.std.proofs.Common.{rules}
use Rattle.pb_fleet.proofs.Given.{gives_join}
use Rattle.pb_fleet.proofs.tickets.Tickets.join.Goals as goal

pub join_seat-requires : goal.join_seat-requires
join_seat-requires c = (
  search rules,
  search rules,
  search rules,
  search rules,
  gives_join c.args.self.now.table.shared.key c.args.seat.now.seat.id c.args.other.seat.id c.args.seat.now.seat.me.0 c.args.other.seat.me.0 (search rules),
)
