-- What a station says as an initiator, and how it stands then.
use Rattle.std.proofs.Common.{◌≡◌, ℕ, ◌+◌, Bool, true, false, if◌then◌else◌, ◌==◌, List, [], length, refl, sym, ap, ◌∙◌, subst, Option, Some, None}
use Rattle.std.specs.Prelude.{max, min}
use Rattle.std.proofs.lemmas.Bool.{eq-eqb}
use Rattle.pb_timers.specs.Timers.{bits}
use Rattle.pb_ring.specs.Gap.{next_asked, last_asked, round_after}
use Rattle.pb_cycles.specs.declared.services.Priority.{Priority}
use Rattle.pb_cycles.specs.declared.services.Priority.TheVariants.{Low, High}
use Rattle.pb_cycles.specs.Fields.{Fields}
use Rattle.pb_cycles.specs.Messages.{has_bit, frame_octets}
use Rattle.pb_cycles.specs.RequestFields.{RequestFields}
use Rattle.pb_cycles.specs.Requests.{is_answered, code_of, priority_of}
use Rattle.pb_cycles.specs.declared.services.Service.{Service}
use Rattle.pb_cycles.specs.declared.services.Service.TheVariants.{Sda, Sdn, Srd}
use Rattle.pb_cycles.specs.Counts.{count_at}
use Rattle.pb_telegram.specs.Control.{count_bits}
use Rattle.pb_cycles.specs.Initiating.{first_sending, after_request}
use Rattle.pb_telegram.specs.declared.control.FrameCount.{FrameCount}
use Rattle.pb_telegram.specs.declared.control.FrameCount.TheVariants.{First, Clear, Set}
use Rattle.law_turn.specs.Spans.{Span}
use Rattle.law_turn.specs.Phases.{Claim, Use, AwaitData, Checking}
use Rattle.law_turn.specs.Stations.{Station, next_station}
use Rattle.law_turn.specs.Hearing.{tries_limit}
use Rattle.law_turn.specs.Turns.{saying, received_own, token_sent, says_token, says_claim, looks_at_gap, says_look, says_no_request, high_request, low_request, high_taken, low_taken, says_request, says_low, says_high, says_in_use, says_again, token_octets, status_request_octets}
use Rattle.law_model.specs.Trace.{Record}
use Rattle.law_model.proofs.Cases.{by_test}
use Rattle.law_runs.specs.Initiators.{offered_to}
use Rattle.law_token.specs.Places.{Place}
use Rattle.law_token.proofs.turn.Initiator.{span_of, SaidPhase, SaidClaim, SaidOwn, SaidLast, SaidData, SaidStatus, SaidToken}

-- what octets mean that a station of an address says as an initiator, and whom they offer the token
pub data Meant (a : ℕ) (octets : List ℕ) (offered : Option ℕ) : Type 0 where
  MeansToken : (ns : ℕ) → octets ≡ token_octets ns a → offered ≡ (if ns == a then None else Some ns) → Meant a octets offered
  MeansRequest : (f : Fields) → octets ≡ frame_octets f → has_bit f.fc 6 ≡ true → offered ≡ None → Meant a octets offered

-- a station that has said octets, by what it was before
pub record Stands (c : Place) (x : Record) (a : ℕ) (busy : Bool) (quiet : ℕ) (s' : Station) : Type 0 where
  pub busy_is : s'.busy ≡ busy
  pub quiet_is : s'.quiet ≡ max quiet x.end
  pub own_is : s'.own ≡ span_of x
  pub phase_is : SaidPhase c x s'.phase
  pub address_is : s'.address ≡ a

pub record Uttered (c : Place) (a : ℕ) (busy : Bool) (quiet : ℕ) (s' : Station) (octets : List ℕ) : Type 0 where
  pub offered : Option ℕ
  pub meant : Meant a octets offered
  pub stands : (x : Record) → x.begin ≡ c.now → x.end ≡ c.now + bits (length octets) → offered_to x ≡ offered → Stands c x a busy quiet s'

abbrev pub Speech : Place → (a : ℕ) (busy : Bool) (quiet : ℕ) → Station × Option (List ℕ) → Type 0
Speech c a busy quiet turn = (octets : List ℕ) × (turn.1 ≡ Some octets) × Uttered c a busy quiet turn.0 octets

-- ---- how it stands

-- a station that has said octets and is in a phase then
stands_in : (c : Place) (x : Record) (s s' : Station) (octets : List ℕ) → x.begin ≡ c.now → x.end ≡ c.now + bits (length octets)
    → s'.busy ≡ s.busy → s'.quiet ≡ max s.quiet (c.now + bits (length octets)) → s'.own ≡ record { begin = c.now; end = c.now + bits (length octets) } → s'.address ≡ s.address
    → ((e : ℕ) → x.end ≡ e → s'.own.end ≡ e → SaidPhase c x s'.phase) → Stands c x s.address s.busy s.quiet s'
stands_in c x s s' octets begin end b q o a ph = record {
  busy_is = b;
  quiet_is = q ∙ ap (λ n. max s.quiet n) (sym end);
  own_is = o ∙ same;
  phase_is = ph (c.now + bits (length octets)) end (ap (λ (z : Span). z.end) o);
  address_is = a;
}
  where
    same : record { begin = c.now; end = c.now + bits (length octets) } ≡ span_of x
    same = ap (λ b. record { begin = b; end = c.now + bits (length octets) }) (sym begin) ∙ ap (λ e. record { begin = x.begin; end = e }) (sym end)

stands_token : (c : Place) (x : Record) (s : Station) (tries ns : ℕ) (octets : List ℕ) → x.begin ≡ c.now → x.end ≡ c.now + bits (length octets)
    → offered_to x ≡ (if ns == s.address then None else Some ns) → Stands c x s.address s.busy s.quiet (token_sent c.p (saying s c.now octets) tries ns)
stands_token c x s tries ns octets begin end offers = by_choice (ns == s.address) refl
  where
    by_choice : (b : Bool) → (ns == s.address) ≡ b → Stands c x s.address s.busy s.quiet (if b then received_own c.p (saying s c.now octets) else record (saying s c.now octets) { phase = Checking (min tries_limit (tries + 1)) })
    by_choice true e = stands_in c x s (received_own c.p (saying s c.now octets)) octets begin end refl refl refl refl
        (λ e' same own. subst (λ n. SaidPhase c x (Use false (n + c.p.tid1))) (same ∙ sym own) (SaidOwn (offers ∙ ap (λ b. if b then None else Some ns) e)))
    by_choice false e = stands_in c x s (record (saying s c.now octets) { phase = Checking (min tries_limit (tries + 1)) }) octets begin end refl refl refl refl
        (λ e' same own. SaidToken ns (offers ∙ ap (λ b. if b then None else Some ns) e))

pub speech_token : (c : Place) (s : Station) (tries : ℕ) → Speech c s.address s.busy s.quiet (says_token c.p s tries c.now)
speech_token c s tries =
    let octets = token_octets (next_station s) s.address in (
      octets,
      refl,
      record {
        offered = if next_station s == s.address then None else Some (next_station s);
        meant = MeansToken (next_station s) refl refl;
        stands = λ x begin end offers. stands_token c x s tries (next_station s) octets begin end offers;
      },
    )

own_none : (a : ℕ) → None ≡ (if a == a then None else Some a)
own_none a = sym (ap (λ b. if b then None else Some a) (eq-eqb a a refl))

pub speech_claim : (c : Place) (s : Station) (sent : ℕ) → Speech c s.address s.busy s.quiet (says_claim c.p s sent c.now)
speech_claim c s sent =
    let octets = token_octets s.address s.address in
    let y = saying s c.now octets in (
      octets,
      refl,
      record {
        offered = None;
        meant = MeansToken s.address refl (own_none s.address);
        stands = λ x begin end offers. by_test (Stands c x s.address s.busy s.quiet) (sent == 0) (record y { phase = Claim 1 (y.own.end + c.p.tid1) }) (received_own c.p y)
            (λ _. stands_in c x s (record y { phase = Claim 1 (y.own.end + c.p.tid1) }) octets begin end refl refl refl refl (λ e same own. subst (λ n. SaidPhase c x (Claim 1 (n + c.p.tid1))) (same ∙ sym own) (SaidClaim offers)))
            (λ _. stands_in c x s (received_own c.p y) octets begin end refl refl refl refl (λ e same own. subst (λ n. SaidPhase c x (Use false (n + c.p.tid1))) (same ∙ sym own) (SaidOwn offers)));
      },
    )

-- ---- requests

pub code_bit : (service : Service) (priority : Priority) (count : FrameCount) → has_bit (0x40 + (if is_answered service then count_bits count else 0) + code_of service priority) 6 ≡ true
code_bit Sda High First = refl
code_bit Sda High Clear = refl
code_bit Sda High Set = refl
code_bit Sda Low First = refl
code_bit Sda Low Clear = refl
code_bit Sda Low Set = refl
code_bit Sdn High count = refl
code_bit Sdn Low count = refl
code_bit Srd High First = refl
code_bit Srd High Clear = refl
code_bit Srd High Set = refl
code_bit Srd Low First = refl
code_bit Srd Low Clear = refl
code_bit Srd Low Set = refl

pub speech_request : (c : Place) (s : Station) (asked : Bool) (r : RequestFields) → Speech c s.address s.busy s.quiet (says_request c.p s asked r c.now)
speech_request c s asked r =
    let f = first_sending s.cycles.initiator s.address r in
    let octets = frame_octets f in
    let y : Station = record (saying s c.now octets) { cycles = record s.cycles { initiator = after_request s.cycles.initiator s.address r } } in (
      octets,
      refl,
      record {
        offered = None;
        meant = MeansRequest f refl (code_bit r.service (priority_of r.high) (count_at s.cycles.initiator.counts r.da)) refl;
        stands = λ x begin end offers. by_test (Stands c x s.address s.busy s.quiet) (is_answered r.service) (record y { phase = AwaitData asked None true }) (record y { phase = Use asked (y.own.end + c.p.tid2) })
            (λ _. stands_in c x s (record y { phase = AwaitData asked None true }) octets begin end refl refl refl refl (λ e same own. SaidData offers))
            (λ _. stands_in c x s (record y { phase = Use asked (y.own.end + c.p.tid2) }) octets begin end refl refl refl refl (λ e same own. subst (λ n. SaidPhase c x (Use asked (n + c.p.tid2))) (same ∙ sym own) (SaidLast offers)));
      },
    )

pub speech_again : (c : Place) (s : Station) (asked : Bool) (f : Fields) → has_bit f.fc 6 ≡ true → Speech c s.address s.busy s.quiet (says_again s asked (Some f) c.now)
speech_again c s asked f request = (
  frame_octets f,
  refl,
  record {
    offered = None;
    meant = MeansRequest f refl request refl;
    stands = λ x begin end offers. stands_in c x s (says_again s asked (Some f) c.now).0 (frame_octets f) begin end refl refl refl refl (λ e same own. SaidData offers);
  },
)

speech_look : (c : Place) (s : Station) (a : Option ℕ) → Speech c s.address s.busy s.quiet (says_look c.p s a c.now)
speech_look c s None = speech_token c (record s { gap = round_after None c.now }) 0
speech_look c s (Some a) = (
  status_request_octets a s.address,
  refl,
  record {
    offered = None;
    meant = MeansRequest (record { da = a; sa = s.address; fc = 0x49; unit = [] }) refl refl refl;
    stands = λ x begin end offers. stands_in c x s (says_look c.p s (Some a) c.now).0 (status_request_octets a s.address) begin end refl refl refl refl (λ e same own. SaidStatus offers);
  },
)

speech_no_request : (c : Place) (s : Station) (asked : Bool) → Speech c s.address s.busy s.quiet (says_no_request c.p s asked c.now)
speech_no_request c s asked =
    by_test (Speech c s.address s.busy s.quiet) (looks_at_gap c.p s asked c.now) (says_look c.p s (next_asked s.address (next_station s) c.p.hsa (last_asked s.gap)) c.now) (says_token c.p s 0 c.now)
    (λ _. speech_look c s (next_asked s.address (next_station s) c.p.hsa (last_asked s.gap))) (λ _. speech_token c s 0)

speech_low : (c : Place) (s : Station) (asked : Bool) (r : Option RequestFields) → Speech c s.address s.busy s.quiet (says_low c.p s asked r c.now)
speech_low c s asked None = speech_no_request c s asked
speech_low c s asked (Some r) = speech_request c (low_taken s) asked r

speech_high : (c : Place) (s : Station) (asked : Bool) (r : Option RequestFields) → Speech c s.address s.busy s.quiet (says_high c.p s asked r c.now)
speech_high c s asked None = speech_low c s asked (low_request s c.now)
speech_high c s asked (Some r) = speech_request c (high_taken s) asked r

pub speech_use : (c : Place) (s : Station) (asked : Bool) → Speech c s.address s.busy s.quiet (says_in_use c.p s asked c.now)
speech_use c s asked = speech_high c s asked (high_request s c.now)
