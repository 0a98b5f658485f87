-- A station whose tables stand for its past has a next station with a station's address.
use Rattle.std.proofs.Common.{◌≡◌, ℕ, ◌+◌, ◌<◌, Bool, true, false, ◌==◌, ◌||◌, List, [], ◌∷◌, ◌++◌, refl, ap, subst}
use Rattle.std.specs.Prelude.{filter, nat_lt, nat_le, unwrap_or}
use Rattle.std.proofs.lemmas.Bool.{eq-eqb}
use Rattle.pb_timers.specs.Timers.{Params}
use Rattle.pb_ring.specs.AddressSets.{is_member, first_of, from_behind, next_address}
use Rattle.pb_ring.specs.Las.{members_of}
use Rattle.pb_ring.proofs.NeighbourLemmas.{members-stations}
use Rattle.law_turn.specs.Marks.{Mark}
use Rattle.law_turn.specs.Stations.{Station, next_station}
use Rattle.law_turn.specs.Laws.{HasReply, HasCycles}
use Rattle.law_turn.specs.Pasts.{Past, StandsForPast, past_after_timer, past_after_marks}
use Rattle.law_turn.specs.Turns.{settled, after_marks}
use Rattle.law_turn.proofs.Initiating.{reply-after_marks}
use Rattle.law_turn.proofs.Standing.{stands-after_timer, stands-after_marks}
use Rattle.law_model.proofs.Cases.{by_test}
use Rattle.law_token.specs.Stations.{unasked}
use Rattle.law_token.proofs.replies.Alike.{alike_self}
use Rattle.law_token.proofs.replies.Turned.{settled_alike}
use Rattle.law_token.proofs.replies.Unasked.{sayable_unasked}

abbrev Below : List ℕ → Type 0
Below [] = Unit {0}
Below (x ∷ xs) = (x < 127) × Below xs

below_of : (xs : List ℕ) → ((b : ℕ) → is_member xs b ≡ true → b < 127) → Below xs
below_of [] f = tt
below_of (x ∷ xs) f = (f x (ap (λ b. b || is_member xs x) (eq-eqb x x refl)), below_of xs (λ b i. f b (right (x == b) (is_member xs b) i)))
  where
    right : (a b : Bool) → b ≡ true → (a || b) ≡ true
    right true b e = refl
    right false b e = e

below_filter : (test : ℕ → Bool) (xs : List ℕ) → Below xs → Below (filter test xs)
below_filter test [] all = tt
below_filter test (x ∷ xs) all = by_test Below (test x) (x ∷ filter test xs) (filter test xs) (λ _. (all.0, below_filter test xs all.1)) (λ _. below_filter test xs all.1)

below_both : (xs ys : List ℕ) → Below xs → Below ys → Below (xs ++ ys)
below_both [] ys a b = b
below_both (x ∷ xs) ys a b = (a.0, below_both xs ys a.1 b)

first_below : (xs : List ℕ) (a : ℕ) → Below xs → a < 127 → unwrap_or (first_of xs) a < 127
first_below [] a all low = low
first_below (x ∷ xs) a all low = all.0

next_below : (a : ℕ) (xs : List ℕ) → a < 127 → Below xs → next_address a xs < 127
next_below a xs low all =
    first_below (from_behind a xs) a (below_both (filter (λ x. nat_lt a x) xs) (filter (λ x. nat_le x a) xs) (below_filter (λ x. nat_lt a x) xs all) (below_filter (λ x. nat_le x a) xs all)) low

pub station_below : (p : Params) (s : Station) (past : Past) → StandsForPast p s past → (s.address < 127) × (next_station s < 127)
station_below p s past stands =
    (stands.address, next_below s.address (members_of s.las.stage) stands.address (below_of (members_of s.las.stage) (λ b i. members-stations s.las past.claim past.items b stands.las i)))

-- also once it has read its marks and its timers, whatever it keeps as a responder
pub settled_below : (p : Params) (s : Station) (marks : List Mark) (now : ℕ) (past : Past) → HasReply s → HasCycles s → StandsForPast p (unasked s) past → ((settled p s marks now).address < 127) × (next_station (settled p s marks now) < 127)
settled_below p s marks now past reply cycles stands =
    let u = unasked s in
    let has = sayable_unasked s (reply, cycles) in
    let same = settled_alike u.cycles.responder s.reply p s marks now (alike_self s.reply) in
    subst (λ (z : Station). (z.address < 127) × (next_station z < 127)) same.is
    (station_below p (settled p u marks now) (past_after_timer p (now + 1) (after_marks p u marks) (past_after_marks p u marks past))
    (stands-after_timer p (now + 1) (after_marks p u marks) (past_after_marks p u marks past) (reply-after_marks p u marks has).1 (stands-after_marks p u marks past has stands)))
