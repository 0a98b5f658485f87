use Rattle.std.proofs.Common.{◌≡◌, ◌∙◌, ap, sym, subst, refl, ℕ, List, length, map, arith, Result, Ok, Err}
use Rattle.std.specs.Prelude.{OnOk, OnErr, IfErr, vec_len}
use Rattle.std.specs.Vec.{with_items}
use Rattle.std.specs.Option.{option_map}
use Rattle.std.proofs.lemmas.List.{length-set, map-set}
use Rattle.std.proofs.lemmas.Option.{slice_get-map}
use Rattle.law_turn.specs.Laws.{Fits}
use Rattle.law_model.specs.Laws.{IsSound}
use Rattle.law_model.specs.World.{NoSuchTap}
use Rattle.law_token.specs.Data.{set_data, set_data_at}
use Rattle.pb_taps.specs.Taps.{tap_of, seat_of, AreSeated}
use Rattle.pb_taps.specs.declared.faults.WorldFault.{WorldFault}
use Rattle.pb_taps.specs.declared.taps.Tap.{Tap}
use Rattle.pb_taps.proofs.Behind.{written-back}
use Rattle.pb_taps.proofs.Seats.{same-seats}
use Rattle.pb_world.specs.Buses.{world_of, IsKept}
use Rattle.pb_world.specs.Data.{SetsData}
use Rattle.pb_world.specs.Replying.{replying_tap, RepliesWith, RefusesReply}
use Rattle.pb_world.specs.declared.buses.Bus.{Bus}
use Rattle.pb_world.proofs.SoundData.{sound-data}
use Rattle.pb_world.proofs.buses.Bus.set_reply.Goals as goal

-- a bus with other taps
abbrev with_taps : Bus → List Tap → Bus
with_taps b next = record b { taps = with_items b.taps next }

done : (b : Bus) (i : ℕ) (unit : List ℕ) (next : List Tap) → RepliesWith b.taps.items i unit next → set_data (world_of b) i unit ≡ Ok (record (world_of b) { taps = map tap_of next })
done b i unit next (t, at, are) =
    let w = world_of b in
    let items = b.taps.items in
    ap (set_data_at w i unit) (slice_get-map tap_of items i ∙ ap (option_map tap_of) at)
    ∙ ap (λ ts. Ok (record w { taps = ts })) (sym (map-set tap_of items i (replying_tap t unit)) ∙ ap (map tap_of) (sym are))

still-kept : (b : Bus) (next : List Tap) → (with_items b.taps next).items ≡ next → length next ≡ length b.taps.items → IsSound (world_of (with_taps b next)) → map seat_of next ≡ map seat_of b.taps.items → IsKept b → IsKept (with_taps b next)
still-kept b next back many sound seats kept = record {
  sound = sound;
  clock = kept.clock;
  room = omega (arith, ap length back, many, kept.room);
  seats = subst (λ ts. AreSeated b.params 0 (map seat_of ts)) (sym back) (subst (AreSeated b.params 0) (sym seats) kept.seats);
  cut = kept.cut;
  ends = kept.ends;
}

by-result : (b : Bus) (i : ℕ) (unit : List ℕ) (next : List Tap) (r : Result (Unit {0}) WorldFault) → length b.taps.items ≡ vec_len b.taps → IsKept b → Fits unit → OnOk r (RepliesWith b.taps.items i unit next)
    → OnErr r (next ≡ b.taps.items) → IfErr r (RefusesReply b.taps.items i) → SetsData (world_of b) i unit r (world_of (with_taps b next)) × IsKept (with_taps b next)
by-result b i unit next (Ok done_) len kept fits (t, at, are) err fault =
    let items = b.taps.items in
    let many : length next ≡ length items = ap length are ∙ length-set items i _ in
    let back = written-back b.taps.len items next len many in
    let sets : set_data (world_of b) i unit ≡ Ok (world_of (with_taps b next)) = done b i unit next (t, at, are) ∙ ap (λ ts. Ok (record (world_of b) { taps = map tap_of ts })) (sym back) in
    let seats : map seat_of next ≡ map seat_of items = ap (map seat_of) are ∙ same-seats items i t (replying_tap t unit) at refl in
    (sets, still-kept b next back many (sound-data (world_of b) (world_of (with_taps b next)) i unit fits sets kept.sound) seats kept)
by-result b i unit next (Err reason) len kept fits ok err fault =
    let items = b.taps.items in
    let back = written-back b.taps.len items next len (ap length err) in
    let same : world_of (with_taps b next) ≡ world_of b = ap (λ ts. record (world_of b) { taps = map tap_of ts }) (back ∙ err) in
    ((same, (NoSuchTap, ap (set_data_at (world_of b) i unit) (slice_get-map tap_of items i ∙ ap (option_map tap_of) fault.0), fault.1)), still-kept b next back (ap length err) (subst IsSound (sym same) kept.sound) (ap (map seat_of) err) kept)

pub returns : goal.returns
returns c =
    let b = c.args.self.now in
    let e = c.set_reply.ensures in
    let items = c.deref_mut.ensures.value in
    let unit = c.args.reply.items in
    let next = c.set_reply.new.taps in
    let r = c.set_reply.result in
    let both = by-result b c.args.tap unit next r (ap length (sym items) ∙ c.deref_mut.ensures.len) c.requires e.fits
    (subst (λ ts. OnOk r (RepliesWith ts c.args.tap unit next)) items e.ok) (subst (λ ts. OnErr r (next ≡ ts)) items e.err) (subst (λ ts. IfErr r (RefusesReply ts c.args.tap)) items e.fault) in
    record { sets = both.0; sent = refl; kept = both.1; fits = e.fits }
