-- One step of the pass over a trace, and the addresses of taps.
use Rattle.std.proofs.Common.{◌≡◌, ◌∙◌, ap, sym, refl, arith, ℕ, zero, suc, ◌+◌, ◌≤◌, ◌<◌, ◌++◌, length, length-append, take, get_or, drop, replicate, subst, List, [], ◌∷◌, map, true, false, if◌then◌else◌, Option, Some, None}
use Rattle.std.specs.Prelude.{slice_get, nat_le, ◌&&◌, not, max, Bool}
use Rattle.std.specs.Option.{option_map}
use Rattle.std.proofs.lemmas.Option.{slice_get-map}
use Rattle.std.proofs.lemmas.Bool.{eq-eqb}
use Rattle.std.proofs.lemmas.List.{drop_all, length-map, take-append-le, take-append-drop, get_or-replicate}
use Rattle.law_turn.specs.Arrivals.{Arrival, Token}
use Rattle.law_runs.specs.Initiators.{offered_by}
use Rattle.pb_timers.specs.Timers.{Params}
use Rattle.law_model.specs.Trace.{Entry}
use Rattle.law_model.specs.Medium as model
use Rattle.law_runs.specs.Judging.{LastInitiator, latest_end, AllReached, last_after, may_come, judged_from}
use Rattle.law_runs.specs.Legality.{address_in, address_at}
use Rattle.pb_taps.specs.declared.taps.Tap.{Tap}
use Rattle.law_model.specs.Medium.{reaches_taps}
use Rattle.law_runs.specs.Activity.{active_at, is_silent}
use Rattle.law_runs.specs.Quiet.{is_active}
use Rattle.law_runs.proofs.Judged.{silent-by, latest-more, reached-more, reached-later}
use Rattle.pb_world.specs.LatestEnds.{AreEnds, HaveMore}
use Rattle.pb_world.specs.Judging.{specs_at}
use Rattle.pb_world.specs.declared.ends.Ends.{Ends}
use Rattle.pb_taps.specs.Taps.{tap_of}

pub stops-here : (p : Params) (specs : List model.TapSpec) (earlier : List Entry) (last : Option LastInitiator) (place : ℕ) (e : Entry) (es : List Entry)
    → may_come p specs earlier last e ≡ false → judged_from p specs earlier last place (e ∷ es) ≡ Some place
stops-here p specs earlier last place e es bad =
    ap (λ b. if b then judged_from p specs (earlier ++ e ∷ []) (last_after p.ttd p.tsl earlier last e) (place + 1) es else Some place) bad

pub goes-on : (p : Params) (specs : List model.TapSpec) (earlier : List Entry) (last : Option LastInitiator) (place : ℕ) (e : Entry) (es : List Entry)
    → may_come p specs earlier last e ≡ true
    → judged_from p specs earlier last place (e ∷ es) ≡ judged_from p specs (earlier ++ e ∷ []) (last_after p.ttd p.tsl earlier last e) (place + 1) es
goes-on p specs earlier last place e es fine =
    ap (λ b. if b then judged_from p specs (earlier ++ e ∷ []) (last_after p.ttd p.tsl earlier last e) (place + 1) es else Some place) fine

-- ---- the ends of what has begun at all taps

-- with no entries there are none
pub no-ends : (delay moment : ℕ) (ends : Ends) → ends.begun ≡ 0 → ends.taps ≤ 127 → ends.latest ≡ replicate 127 0 → AreEnds delay moment [] ends
no-ends delay moment ends none few zeros =
    record {
      size = ap (λ (xs : List ℕ). length xs) zeros;
      few = few;
      some = omega (arith, none);
      reached = subst (λ n. AllReached delay moment (take n [])) (sym none) tt;
      latest = λ tap there. ap (λ xs. get_or xs tap 0) zeros ∙ get_or-replicate 127 tap 0 0 (omega (arith, there, few)) ∙ sym (ap (λ n. latest_end delay tap (take n [])) none);
    }

-- later they are too
pub ends-later : (delay m n : ℕ) (earlier : List Entry) (ends : Ends) → m ≤ n → AreEnds delay m earlier ends → AreEnds delay n earlier ends
ends-later delay m n earlier ends le are = record { size = are.size; few = are.few; some = are.some; reached = reached-later delay m n (take ends.begun earlier) le are.reached; latest = are.latest }

-- one more of the entries counts
pub ends-more : (delay m : ℕ) (earlier : List Entry) (e : Entry) (ends next : Ends) → AreEnds delay m earlier ends → next.begun ≡ ends.begun + 1 → next.taps ≡ ends.taps → length next.latest ≡ 127 → ends.begun < length earlier
    → take (ends.begun + 1) earlier ≡ take ends.begun earlier ++ e ∷ [] → (reaches_taps delay e).begin < m → HaveMore delay ends.taps e ends.latest next.latest → AreEnds delay m earlier next
ends-more delay m earlier e ends next are counts same long there more reached have =
    let front : take next.begun earlier ≡ take ends.begun earlier ++ e ∷ [] = ap (λ n. take n earlier) counts ∙ more in
    record {
      size = long;
      few = omega (arith, same, are.few);
      some = omega (arith, counts, there);
      reached = subst (AllReached delay m) (sym front) (reached-more delay m (take ends.begun earlier) e are.reached reached);
      latest = λ tap small.
          let known : tap < ends.taps = omega (arith, small, same) in
          have tap known ∙ ap (λ n. max n (active_at delay tap e).end) (are.latest tap known) ∙ sym (latest-more delay tap (take ends.begun earlier) e) ∙ sym (ap (latest_end delay tap) front);
    }

-- whether a tap was in silence, by the latest end of those that count and the others
pub silent-some : (delay tap from to : ℕ) (earlier : List Entry) (ends : Ends) (latest : ℕ) (active : Bool) → tap < ends.taps → latest ≡ get_or ends.latest tap 0 → AreEnds delay to earlier ends
    → active ≡ is_active delay from to (drop ends.begun earlier) tap → (nat_le latest from && not active) ≡ is_silent delay tap earlier from to
silent-some delay tap from to earlier ends latest active there is are act =
    ap (λ n. nat_le n from && not active) (is ∙ are.latest tap there)
    ∙ ap (λ b. nat_le (latest_end delay tap (take ends.begun earlier)) from && not b) act
    ∙ sym (silent-by delay tap from to (take ends.begun earlier) (drop ends.begun earlier) are.reached)
    ∙ ap (λ es. is_silent delay tap es from to) (take-append-drop ends.begun earlier)

-- entries behind those that count change nothing
pub ends-behind : (delay moment : ℕ) (earlier : List Entry) (e : Entry) (ends : Ends) → AreEnds delay moment earlier ends → AreEnds delay moment (earlier ++ e ∷ []) ends
ends-behind delay moment earlier e ends are =
    let same : take ends.begun (earlier ++ e ∷ []) ≡ take ends.begun earlier = take-append-le ends.begun earlier (e ∷ []) are.some in
    record {
      size = are.size;
      few = are.few;
      some = omega (arith, are.some, length-append earlier (e ∷ []));
      reached = subst (AllReached delay moment) (sym same) are.reached;
      latest = λ tap there. are.latest tap there ∙ ap (latest_end delay tap) (sym same);
    }

-- a list has no item behind its end
pub missing-at : {X : Type 0} (xs : List X) (i : ℕ) → length xs ≤ i → slice_get xs i ≡ None
missing-at [] i behind = refl
missing-at (x ∷ xs) zero behind = absurd (omega (arith, behind))
missing-at (x ∷ xs) (suc i) behind = missing-at xs i (omega (arith, behind))

pub address-of : (taps : List Tap) (tap : ℕ) (found : Option Tap) → slice_get taps tap ≡ found → address_in (option_map (λ t. (tap_of t).spec) found) ≡ address_at (specs_at taps) tap
address-of taps tap found is =
    sym (ap address_in (slice_get-map (λ t. t.spec) (map tap_of taps) tap ∙ ap (option_map (λ (t : model.Tap). t.spec)) (slice_get-map tap_of taps tap ∙ ap (option_map tap_of) is)) ∙ fused found)
  where
    fused : (o : Option Tap) → address_in (option_map (λ (t : model.Tap). t.spec) (option_map tap_of o)) ≡ address_in (option_map (λ (t : Tap). (tap_of t).spec) o)
    fused None = refl
    fused (Some t) = refl

-- a token of a source to itself is offered to no other
pub offers-none : (a : Arrival) (da sa : ℕ) → Token da sa ≡ a → da ≡ sa → None ≡ offered_by a
offers-none a da sa is same = sym (ap (λ b. if b then None else Some da) (eq-eqb da sa same)) ∙ ap offered_by is

-- nothing is left behind the end of a list
pub nothing-left : {X Y : Type 0} (f : X → Y) (xs : List X) (i : ℕ) → length xs ≤ i → drop i (map f xs) ≡ []
nothing-left f xs i behind = drop_all i (map f xs) (omega (arith, length-map xs f, behind))
