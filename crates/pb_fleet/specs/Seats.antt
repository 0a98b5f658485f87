-- Seats as contracts see them.
use Rattle.std.specs.Prelude.{◌≡◌, ℕ, List, true}
use Rattle.pb_fleet.specs.declared.seats.TicketSeat.{TicketSeat}
use Rattle.pb_fleet.specs.declared.tickets.Tickets.{Tickets}

-- a seat belongs to some tickets
abbrev pub IsOf : TicketSeat → Tickets → Type 0
IsOf s t = (s.seat.table_id ≡ t.table.shared.table_id) × (s.seat.me.0.limit ≡ t.limit)

-- the numbers that were drawn with a seat, in order
abbrev pub drawn_with : TicketSeat → List ℕ
drawn_with s = s.seat.me.0.drawn

-- the parts that may still be split off
abbrev pub parts_of : TicketSeat → ℕ
parts_of s = s.seat.me.0.parts

-- the parts that were used up by draws that got no ticket
abbrev pub used_by : TicketSeat → ℕ
used_by s = s.seat.me.0.used

-- a draw with it got no ticket
abbrev pub HasEnded : TicketSeat → Type 0
HasEnded s = s.done ≡ true

-- what is known of a seat: its parts, what is used up, and what was drawn
abbrev pub Knows : TicketSeat → ℕ → ℕ → List ℕ → Type 0
Knows s parts used drawn = (parts_of s ≡ parts) × (used_by s ≡ used) × (drawn_with s ≡ drawn)

-- how many tickets there are, and into how many seats the first one may be split
abbrev pub limit_of : Tickets → ℕ
limit_of t = t.limit

abbrev pub seats_of : Tickets → ℕ
seats_of t = t.table.shared.key.seats
