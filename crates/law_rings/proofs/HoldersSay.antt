-- What a holder says, and how it stands then: its list stays as it is, and a token goes to the next station of the list.
use Rattle.std.proofs.Common.{◌≡◌, ℕ, ◌+◌, ◌⊎◌, inl, inr, Bool, true, false, if◌then◌else◌, ◌==◌, List, [], length, refl, sym, ap, ◌∙◌, subst, Option, Some, None}
use Rattle.std.specs.Prelude.{◌%◌, min}
use Rattle.std.specs.Option.{option_map}
use Rattle.std.proofs.lemmas.Bool.{eqb-true, eqb-false}
use Rattle.pb_timers.specs.Timers.{Params, bits}
use Rattle.pb_ring.specs.Gap.{next_asked, last_asked, round_after}
use Rattle.pb_rotation.specs.Rotation.{Receipt, used, received, started_high}
use Rattle.pb_cycles.specs.declared.services.Priority.{Priority}
use Rattle.pb_cycles.specs.declared.services.Priority.TheVariants.{Low, High}
use Rattle.pb_cycles.specs.Fields.{Fields}
use Rattle.pb_cycles.specs.Messages.{has_bit, frame_octets}
use Rattle.pb_cycles.specs.RequestFields.{RequestFields}
use Rattle.pb_cycles.specs.Requests.{is_answered, asked_by, code_of, priority_of}
use Rattle.pb_cycles.specs.Counts.{count_at}
use Rattle.pb_telegram.specs.Control.{count_bits}
use Rattle.pb_cycles.specs.declared.services.Service.{Service}
use Rattle.pb_cycles.specs.declared.services.Service.TheVariants.{Sda, Sdn, Srd}
use Rattle.pb_telegram.specs.declared.control.FrameCount.{FrameCount}
use Rattle.pb_cycles.specs.Initiating.{first_sending, after_request}
use Rattle.law_turn.specs.Arrivals.{Framed, telegram_arrival}
use Rattle.law_turn.specs.Phases.{Use, AwaitData, Checking}
use Rattle.law_turn.specs.Stations.{Station, next_station}
use Rattle.law_turn.specs.Hearing.{tries_limit, is_status}
use Rattle.law_turn.specs.Turns.{saying, received_own, says_token, looks_at_gap, says_look, says_no_request, high_request, low_request, high_taken, low_taken, says_request, says_low, says_high, says_in_use, says_again, token_octets, status_request_octets}
use Rattle.law_model.proofs.Cases.{by_test}
use Rattle.law_rings.specs.Receipts.{moments}
use Rattle.law_rings.specs.Ring.{is_answered_by, IsArmed, HasAskedFor}
use Rattle.law_token.proofs.turn.Said.{code_bit}

-- what a station said, and how it stands then: a token to the next station; one to itself, the only one in its list; or
-- a request, after which it waits for a reply if there is one
pub data SaidBy (p : Params) (now : ℕ) (s s' : Station) (octets : List ℕ) : Type 0 where
  PassesOn : (tries : ℕ) → octets ≡ token_octets (next_station s) s.address → (next_station s ≡ s.address → ⊥) → s'.phase ≡ Checking tries → moments s'.rotation.last ≡ moments s.rotation.last → SaidBy p now s s' octets
  HasAgain : octets ≡ token_octets (next_station s) s.address → next_station s ≡ s.address → s'.phase ≡ Use false (now + bits 3 + p.tid1) → s'.rotation ≡ received s.rotation (now + bits 3) → SaidBy p now s s' octets
  Requests : (f : Fields) → octets ≡ frame_octets f → has_bit f.fc 6 ≡ true → IsArmed s'.phase s.busy ⊎ ((asked : Bool) × (ready : ℕ) × (s'.phase ≡ Use asked ready) × (is_answered_by (asked_by (f.fc % 16)) ≡ false))
      → HasAskedFor s'.phase (is_status (asked_by (f.fc % 16))) → moments s'.rotation.last ≡ moments s.rotation.last → SaidBy p now s s' octets

pub record Spoken (p : Params) (now : ℕ) (s s' : Station) (octets : List ℕ) : Type 0 where
  pub las : s'.las ≡ s.las
  pub reply : s'.reply ≡ s.reply
  pub busy : s'.busy ≡ s.busy
  pub by : SaidBy p now s s' octets

abbrev pub Speaks : Params → ℕ → Station → Station × Option (List ℕ) → Type 0
Speaks p now s turn = (octets : List ℕ) × (turn.1 ≡ Some octets) × Spoken p now s turn.0 octets

-- a token to the next station
pub speaks_token : (p : Params) (s : Station) (tries now : ℕ) → Speaks p now s (says_token p s tries now)
speaks_token p s tries now =
    let octets = token_octets (next_station s) s.address in (octets, refl, by_choice (next_station s == s.address) refl)
  where
    by_choice : (b : Bool) → (next_station s == s.address) ≡ b
        → Spoken p now s (if b then received_own p (saying s now (token_octets (next_station s) s.address)) else record (saying s now (token_octets (next_station s) s.address)) { phase = Checking (min tries_limit (tries + 1)) })
        (token_octets (next_station s) s.address)
    by_choice true e = record { las = refl; reply = refl; busy = refl; by = HasAgain refl (eqb-true (next_station s) s.address e) refl refl }
    by_choice false e = record { las = refl; reply = refl; busy = refl; by = PassesOn (min tries_limit (tries + 1)) refl (eqb-false (next_station s) s.address e) refl refl }

-- the code of a request that is not answered
unanswered : (service : Service) (priority : Priority) (count : FrameCount) → is_answered service ≡ false → is_answered_by (asked_by ((0x40 + (if is_answered service then count_bits count else 0) + code_of service priority) % 16)) ≡ false
unanswered Sda priority count e = absurd cc
unanswered Sdn High count e = refl
unanswered Sdn Low count e = refl
unanswered Srd priority count e = absurd cc

-- a request
speaks_request : (p : Params) (s : Station) (asked : Bool) (r : RequestFields) (now : ℕ) → s.busy ≡ false → Speaks p now s (says_request p s asked r now)
speaks_request p s asked r now still = (frame_octets f, refl, by_choice (is_answered r.service) refl)
  where
    f : Fields
    f = first_sending s.cycles.initiator s.address r

    y : Station
    y = record (saying s now (frame_octets f)) { cycles = record s.cycles { initiator = after_request s.cycles.initiator s.address r } }

    bit : has_bit f.fc 6 ≡ true
    bit = code_bit r.service (priority_of r.high) (count_at s.cycles.initiator.counts r.da)

    by_choice : (b : Bool) → is_answered r.service ≡ b → Spoken p now s (if b then record y { phase = AwaitData asked None true } else record y { phase = Use asked (y.own.end + p.tid2) }) (frame_octets f)
    by_choice true e = record { las = refl; reply = refl; busy = refl; by = Requests f refl bit (inl (refl, refl, still)) tt refl }
    by_choice false e = record { las = refl; reply = refl; busy = refl; by = Requests f refl bit (inr (asked, y.own.end + p.tid2, refl, unanswered r.service (priority_of r.high) (count_at s.cycles.initiator.counts r.da) e)) tt refl }

-- the same, where a station has taken a request out of its queue
times_used : (last : Option Receipt) → moments (option_map used last) ≡ moments last
times_used None = refl
times_used (Some r) = refl

-- a receipt after a cycle of high priority
received_used : (ttr : ℕ) (last : Option Receipt) (at : ℕ) → received (started_high (record { ttr = ttr; last = last })) at ≡ received (record { ttr = ttr; last = last }) at
received_used ttr None at = refl
received_used ttr (Some r) at = refl

-- a request taken from a queue changes nothing else
pub taken_out : (p : Params) (now : ℕ) (s x : Station) (turn : Station × Option (List ℕ)) → x.las ≡ s.las → x.reply ≡ s.reply → x.busy ≡ s.busy → x.address ≡ s.address → moments x.rotation.last ≡ moments s.rotation.last → ((at : ℕ) → received x.rotation at ≡ received s.rotation at) → Speaks p now x turn → Speaks p now s turn
taken_out p now s x turn l r b a t rc said = (said.0, said.1, record { las = said.2.las ∙ l; reply = said.2.reply ∙ r; busy = said.2.busy ∙ b; by = by said.2.by })
  where
    next : next_station x ≡ next_station s
    next = ap (λ z. next_station (record x { las = z })) l ∙ ap (λ z. next_station (record s { address = z })) a

    by : SaidBy p now x turn.0 said.0 → SaidBy p now s turn.0 said.0
    by (PassesOn tries os ne ph ts) = PassesOn tries (os ∙ ap (λ z. token_octets z x.address) next ∙ ap (token_octets (next_station s)) a) (λ e. ne (next ∙ e ∙ sym a)) ph (ts ∙ t)
    by (HasAgain os same ph rot) = HasAgain (os ∙ ap (λ z. token_octets z x.address) next ∙ ap (token_octets (next_station s)) a) (sym next ∙ same ∙ a) ph (rot ∙ rc (now + bits 3))
    by (Requests f os bit armed question ts) = Requests f os bit (subst (λ z. IsArmed turn.0.phase z ⊎ ((asked : Bool) × (ready : ℕ) × (turn.0.phase ≡ Use asked ready) × (is_answered_by (asked_by (f.fc % 16)) ≡ false))) b armed) question (ts ∙ t)

-- a question for a status
speaks_look : (p : Params) (s : Station) (a : Option ℕ) (now : ℕ) → s.busy ≡ false → Speaks p now s (says_look p s a now)
speaks_look p s None now still = taken_out p now s (record s { gap = round_after None now }) (says_look p s None now) refl refl refl refl refl (λ _. refl) (speaks_token p (record s { gap = round_after None now }) 0 now)
speaks_look p s (Some a) now still = (
  status_request_octets a s.address,
  refl,
  record { las = refl; reply = refl; busy = refl; by = Requests (record { da = a; sa = s.address; fc = 0x49; unit = [] }) refl refl (inl (refl, still)) refl refl },
)

-- without a request
speaks_no_request : (p : Params) (s : Station) (asked : Bool) (now : ℕ) → s.busy ≡ false → Speaks p now s (says_no_request p s asked now)
speaks_no_request p s asked now still =
    by_test (Speaks p now s) (looks_at_gap p s asked now) (says_look p s (next_asked s.address (next_station s) p.hsa (last_asked s.gap)) now) (says_token p s 0 now)
    (λ _. speaks_look p s (next_asked s.address (next_station s) p.hsa (last_asked s.gap)) now still) (λ _. speaks_token p s 0 now)

-- with one of low priority, or none
speaks_low : (p : Params) (s : Station) (asked : Bool) (r : Option RequestFields) (now : ℕ) → s.busy ≡ false → Speaks p now s (says_low p s asked r now)
speaks_low p s asked None now still = speaks_no_request p s asked now still
speaks_low p s asked (Some r) now still = taken_out p now s (low_taken s) (says_low p s asked (Some r) now) refl refl refl refl refl (λ _. refl) (speaks_request p (low_taken s) asked r now still)

-- with one of high priority, or none
speaks_high : (p : Params) (s : Station) (asked : Bool) (r : Option RequestFields) (now : ℕ) → s.busy ≡ false → Speaks p now s (says_high p s asked r now)
speaks_high p s asked None now still = speaks_low p s asked (low_request s now) now still
speaks_high p s asked (Some r) now still = taken_out p now s (high_taken s) (says_high p s asked (Some r) now) refl refl refl refl (times_used s.rotation.last) (received_used s.rotation.ttr s.rotation.last) (speaks_request p (high_taken s) asked r now still)

-- one that uses the token
pub speaks_use : (p : Params) (s : Station) (asked : Bool) (now : ℕ) → s.busy ≡ false → Speaks p now s (says_in_use p s asked now)
speaks_use p s asked now still = speaks_high p s asked (high_request s now) now still

-- a request again
pub speaks_again : (p : Params) (s : Station) (asked : Bool) (f : Fields) (now : ℕ) → s.busy ≡ false → has_bit f.fc 6 ≡ true → Speaks p now s (says_again s asked (Some f) now)
speaks_again p s asked f now still bit = (frame_octets f, refl, record { las = refl; reply = refl; busy = refl; by = Requests f refl bit (inl (refl, refl, still)) tt refl })

-- ---- what a request brings

-- the octets of a frame bring its control octet
pub brings_frame : (f : Fields) → (g : Fields) × (telegram_arrival (frame_octets f) ≡ Framed g) × (g.fc ≡ f.fc) × (g.da ≡ f.da)
brings_frame f =
    by_test (λ (xs : List ℕ). (g : Fields) × (telegram_arrival xs ≡ Framed g) × (g.fc ≡ f.fc) × (g.da ≡ f.da)) (length f.unit == 0) _ _ (λ _. (_, refl, refl, refl))
    (λ _. by_test (λ (xs : List ℕ). (g : Fields) × (telegram_arrival xs ≡ Framed g) × (g.fc ≡ f.fc) × (g.da ≡ f.da)) (length f.unit == 8) _ _ (λ _. (_, refl, refl, refl)) (λ _. (_, refl, refl, refl)))
