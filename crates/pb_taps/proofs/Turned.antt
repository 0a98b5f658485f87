-- A turn leaves a station at its seat, and the tap as it was but for its station's state and its marks.
use Rattle.std.proofs.Common.{◌≡◌, ap, ℕ, refl, []}
use Rattle.law_turn.specs.Turns.{turn_of}
use Rattle.pb_taps.specs.Taps.{tap_of, seat_of}
use Rattle.pb_taps.specs.Turning.{turned_tap}
use Rattle.pb_taps.specs.declared.taps.Tap.{Tap}
use Rattle.law_turn.proofs.Addresses.{turn-address}

pub turned-seat : (t : Tap) (now : ℕ) → seat_of (turned_tap t now) ≡ seat_of t
turned-seat t now = refl

pub turned-tap : (t : Tap) (now : ℕ) → tap_of (turned_tap t now) ≡ record (tap_of t) { station = (turn_of t.station.params t.station.station t.marks now).0; marks = [] }
turned-tap t now =
    let x = record (tap_of t) { station = (turn_of t.station.params t.station.station t.marks now).0; marks = [] } in
    ap (λ a. record x { spec = record { address = a; master = t.station.master; reply = t.station.reply_data } }) (turn-address t.station.params t.station.station t.marks now)
