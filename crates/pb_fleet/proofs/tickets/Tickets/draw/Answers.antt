use Rattle.std.proofs.Common.{rules}
use Rattle.pb_fleet.proofs.Given.{gives_draw}
use Rattle.pb_fleet.proofs.tickets.Tickets.draw.Goals as goal

pub fetch_add-number-requires : goal.fetch_add-number-requires
fetch_add-number-requires c = (search rules, search rules, gives_draw c.args.self.now.table.shared.key _ c.args.seat.now.seat.id c.args.seat.now.seat.me (search rules))
