-- What holds of each entry of a trace while the premises are kept.
use Rattle.std.specs.Prelude.{◌≡◌, ◌⊎◌, ℕ, ◌+◌, ◌==◌, ◌<◌, ◌≤◌, nat_le, ◌&&◌, true, false, List, [], ◌∷◌, length, map, Option, Some, None, IfSome, slice_get}
use Rattle.std.specs.List.{list_any}
use Rattle.pb_telegram.specs.Faults.{fault_of}
use Rattle.pb_telegram.specs.declared.chars.RxChar.TheVariants.{Good}
use Rattle.pb_timers.specs.Timers.{Params, bits}
use Rattle.pb_ring.specs.Las.{LasTable, listening, is_complete}
use Rattle.law_turn.specs.Arrivals.{Token}
use Rattle.law_turn.specs.Phases.{Phase, Offline, PassiveIdle, Listening, Idle, Claim, Use, AwaitData, AwaitStatus, Pass, Checking}
use Rattle.law_turn.specs.Stations.{Station, Reply}
use Rattle.law_model.specs.Trace.{Pending, Record, Entry, Sent, Noise}
use Rattle.law_model.specs.Medium.{Tap, is_unheard}
use Rattle.law_runs.specs.Initiators.{telegram_of, is_initiator, offered_to}
use Rattle.law_runs.specs.Legality.{is_whole, address_at}
use Rattle.law_runs.specs.Premises.{Waited}
use Rattle.law_token.specs.Lists.{Each}
use Rattle.law_token.specs.Views.{view}

-- ---- the order of initiator telegrams

-- An initiator telegram is the last one; or it had ended before the last one began and had reached all taps by then,
-- except the speaker's own that passed the token to no other station. So everything that is on its way to some tap is
-- by one speaker, and its only token to another is the last. Stated by tap and begin, because damage changes records.
abbrev pub ComesBefore : ℕ → Option Record → Record → Type 0
ComesBefore delay None x = ⊥
ComesBefore delay (Some r) x =
    ((x.tap ≡ r.tap) × (x.begin ≡ r.begin))
    ⊎ ((x.end ≤ r.begin) × ((x.end + delay ≤ r.begin) ⊎ ((x.tap ≡ r.tap) × (offered_to x ≡ None))))

-- what an entry, other than a reply of a tap, was at that tap before a moment had ended by another moment
abbrev pub EndedBefore : (delay tap b q : ℕ) → Entry → Type 0
EndedBefore delay tap b q (Noise span) = (b ≤ span.begin) ⊎ (span.end ≤ q)
EndedBefore delay tap b q (Sent r) =
    (r.tap ≡ tap → is_initiator r ≡ true → (b ≤ r.begin) ⊎ (r.end ≤ q)) × ((r.tap ≡ tap → ⊥) → (b ≤ r.begin + delay) ⊎ (r.end + delay ≤ q))

-- Why an initiator telegram was sent: its speaker had waited out its time-out by then, or something ended at it at most
-- a slot and the lag before. A silence timer takes six slots: one that ends in the same time is caught by the fourth
-- premise.
abbrev pub Origin : Params → List Entry → List Waited → Record → Type 0
Origin p trace waited x =
    (list_any (λ w. (w.tap == x.tap) && nat_le x.begin w.moment) waited ≡ true)
    ⊎ ((q : ℕ) → Each (EndedBefore p.ttd x.tap x.begin q) trace → x.begin ≤ q + (p.tsl + p.lag))

-- ---- telegrams

-- `older` and `one_whole` follow from the first premise: a running tap with the speaker's address started after the
-- telegram had begun, so it does not hear it from its begin; and one telegram is whole at no two taps with one address.
pub record RecordHolds (p : Params) (now : ℕ) (taps : List Tap) (trace : List Entry) (waited : List Waited) (last : Option Record) (x : Record) : Type 0 where
  pub begun : x.begin ≤ now
  pub some : x.begin < x.end
  pub fits : x.end ≤ x.begin + bits (length x.octets)
  pub spelled : fault_of (map Good x.octets) ≡ None
  pub order : is_initiator x ≡ true → ComesBefore p.ttd last x
  pub source : (da sa : ℕ) → telegram_of x ≡ Token da sa → sa ≡ address_at (map (λ t. t.spec) taps) x.tap
  pub reaches_all : (k : ℕ) → is_unheard (slice_get x.heard k) ≡ false
  pub origin : is_initiator x ≡ true → now ≤ x.begin + p.ttd → Origin p trace waited x
  pub pending : (k : ℕ) (t : Tap) → slice_get taps k ≡ Some t → (x.tap ≡ k → ⊥) → now < x.end + p.ttd → slice_get x.heard k ≡ Some Pending
  pub one_whole : (i j : ℕ) (t u : Tap) → slice_get taps i ≡ Some t → slice_get taps j ≡ Some u
      → is_whole (slice_get x.heard i) ≡ true → is_whole (slice_get x.heard j) ≡ true → t.spec.address ≡ u.spec.address → i ≡ j
  pub older : (k : ℕ) (t u : Tap) → slice_get taps k ≡ Some t → t.running ≡ true → slice_get taps x.tap ≡ Some u
      → (x.tap ≡ k → ⊥) → t.spec.address ≡ u.spec.address → (x.begin ≤ t.since) × (t.since ≡ x.begin + p.ttd → t.amid ≡ true)

abbrev pub EntryHolds : Params → ℕ → List Tap → List Entry → List Waited → Option Record → Entry → Type 0
EntryHolds p now taps trace waited last (Noise span) = (span.begin ≤ now) × (span.begin < span.end)
EntryHolds p now taps trace waited last (Sent x) = RecordHolds p now taps trace waited last x

-- no two telegrams of a tap begin at one moment
abbrev pub IsAnother : Entry → Entry → Type 0
IsAnother (Noise span) e = Unit {0}
IsAnother (Sent r) (Noise span) = Unit {0}
IsAnother (Sent r) (Sent x) = r.tap ≡ x.tap → r.begin ≡ x.begin → ⊥

abbrev pub AllOthers : List Entry → Type 0
AllOthers [] = Unit {0}
AllOthers (e ∷ es) = Each (IsAnother e) es × AllOthers es

-- ---- speakers with equal addresses

-- a phase in which no token is accepted
abbrev pub TakesNone : Phase → Type 0
TakesNone Offline = Unit {0}
TakesNone PassiveIdle = Unit {0}
TakesNone (Listening doubled) = Unit {0}
TakesNone (Idle refused) = ⊥
TakesNone (Claim sent ready) = ⊥
TakesNone (Use asked ready) = ⊥
TakesNone (AwaitData asked retry slot) = ⊥
TakesNone (AwaitStatus of slot) = ⊥
TakesNone (Pass tries ready) = ⊥
TakesNone (Checking tries) = ⊥

-- no reply by which the station joins the ring
abbrev pub JoinsNot : Option Reply → Type 0
JoinsNot reply = IfSome reply (λ r. r.joins ≡ false)

-- A master that has heard no token since its start, or one from its own address: its list is not complete, and its
-- reply does not let it join the ring.
abbrev pub IsFreshIn : Phase → LasTable → Option Reply → Type 0
IsFreshIn Offline table reply = Unit {0}
IsFreshIn PassiveIdle table reply = Unit {0}
IsFreshIn (Listening false) table reply = (table ≡ listening) × JoinsNot reply
IsFreshIn (Listening true) table reply = (is_complete table.stage ≡ false) × JoinsNot reply
IsFreshIn (Idle refused) table reply = ⊥
IsFreshIn (Claim sent ready) table reply = ⊥
IsFreshIn (Use asked ready) table reply = ⊥
IsFreshIn (AwaitData asked retry slot) table reply = ⊥
IsFreshIn (AwaitStatus of slot) table reply = ⊥
IsFreshIn (Pass tries ready) table reply = ⊥
IsFreshIn (Checking tries) table reply = ⊥

abbrev pub IsFresh : Station → Type 0
IsFresh s = IsFreshIn s.phase s.las s.reply

-- A telegram is whole only at other taps. While an initiator telegram is on the bus, a running station with its
-- speaker's address is fresh: it has started since, and all that it has heard is by that speaker. So it accepts no
-- token that was sent before its start. This matters only with a cable delay.
pub record SpeakerHolds (p : Params) (now : ℕ) (taps : List Tap) (x : Record) : Type 0 where
  pub own : is_whole (slice_get x.heard x.tap) ≡ false
  pub fresh : is_initiator x ≡ true → now < x.end + p.ttd → (k : ℕ) (t u : Tap) → slice_get taps k ≡ Some t → t.running ≡ true
      → slice_get taps x.tap ≡ Some u → (x.tap ≡ k → ⊥) → t.spec.address ≡ u.spec.address → IsFresh (view p t)

abbrev pub SpeaksOk : Params → ℕ → List Tap → Entry → Type 0
SpeaksOk p now taps (Noise span) = Unit {0}
SpeaksOk p now taps (Sent x) = SpeakerHolds p now taps x
