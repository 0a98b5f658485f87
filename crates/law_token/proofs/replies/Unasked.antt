-- What the tables of a station represent, whatever it keeps as a responder.
use Rattle.std.proofs.Common.{◌≡◌, ℕ, ◌<◌, List, [], ◌∷◌, refl, sym, subst, None}
use Rattle.pb_timers.specs.Timers.{Params}
use Rattle.pb_cycles.specs.Calls.{Call, calls, kept_in}
use Rattle.law_turn.specs.Laws.{HasReply, HasCycles}
use Rattle.law_turn.specs.Marks.{Mark}
use Rattle.law_turn.specs.Pasts.{Past, StandsForPast, past_after_turn}
use Rattle.law_turn.specs.Stations.{Station}
use Rattle.law_turn.specs.Turns.{turn_of}
use Rattle.law_turn.proofs.Standing.{stands-turn_of}
use Rattle.law_token.specs.Data.{station_with}
use Rattle.law_token.specs.Stations.{unasked}
use Rattle.law_token.proofs.replies.Alike.{alike_self}
use Rattle.law_token.proofs.replies.Turned.{bare, turn_alike}

pub sayable_unasked : (s : Station) → HasReply s × HasCycles s → HasReply (unasked s) × HasCycles (unasked s)
sayable_unasked s has = (has.0, record { high = has.1.high; low = has.1.low; pending = has.1.pending; unit = has.1.unit; kept = tt })

-- ---- a turn

stands_bare : (p : Params) (s : Station) (h : Past) → StandsForPast p s h → StandsForPast p (bare s) (record h { heard = [] })
stands_bare p s h stands =
    record { address = stands.address; asks = stands.asks; las = stands.las; gap = stands.gap; rotation = stands.rotation; initiator = stands.initiator; retries = stands.retries; outcome = stands.outcome; responder = record { executed = refl; kept = refl } }

stands_unasked : (p : Params) (s : Station) (h : Past) → StandsForPast p (bare s) h → StandsForPast p (unasked s) (record h { heard = [] })
stands_unasked p s h stands =
    record { address = stands.address; asks = stands.asks; las = stands.las; gap = stands.gap; rotation = stands.rotation; initiator = stands.initiator; retries = stands.retries; outcome = stands.outcome; responder = record { executed = refl; kept = refl } }

pub stands_turned : (p : Params) (s : Station) (marks : List Mark) (now : ℕ) (h : Past) → p.hsa < 127 → HasReply s × HasCycles s → StandsForPast p (unasked s) h
    → (past : Past) × StandsForPast p (unasked (turn_of p s marks now).0) past
stands_turned p s marks now h highest has stands =
    let u = unasked s in
    let k = past_after_turn p u marks now h in
    let after : StandsForPast p (bare (turn_of p u marks now).0) (record k { heard = [] }) =
    stands_bare p (turn_of p u marks now).0 k (stands-turn_of p u marks now h highest (sayable_unasked s has) stands) in
    let same = turn_alike u.cycles.responder p s marks now s.reply (alike_self s.reply) in
    (record k { heard = [] }, stands_unasked p (turn_of p s marks now).0 (record k { heard = [] }) (subst (λ z. StandsForPast p z (record k { heard = [] })) (sym same) after))

-- ---- other data

kept_nothing : (ts : ℕ) (old new : List ℕ) (cs : List Call) → None ≡ kept_in ts old cs → None ≡ kept_in ts new cs
kept_nothing ts old new [] e = refl
kept_nothing ts old new (c ∷ cs) e = absurd cc

pub stands_data : (p : Params) (s : Station) (unit : List ℕ) (h : Past) → StandsForPast p (unasked s) h → StandsForPast p (unasked (station_with s unit)) h
stands_data p s unit h stands =
    record {
      address = stands.address;
      asks = stands.asks;
      las = stands.las;
      gap = stands.gap;
      rotation = stands.rotation;
      initiator = stands.initiator;
      retries = stands.retries;
      outcome = stands.outcome;
      responder = record { executed = stands.responder.executed; kept = kept_nothing s.address s.cycles.responder.reply unit (calls s.address h.heard) stands.responder.kept };
    }
