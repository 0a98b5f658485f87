-- What the octets that a station says mean as a record of the trace.
use Rattle.std.proofs.Common.{◌≡◌, ℕ, Bool, true, false, if◌then◌else◌, ◌==◌, ◌&&◌, ◌||◌, List, [], ◌∷◌, length, map, refl, sym, ap, ◌∙◌, Option, None}
use Rattle.std.specs.Prelude.{slice_index}
use Rattle.std.proofs.lemmas.Bool.{eq-eqb}
use Rattle.pb_telegram.specs.Faults.{octets, is_token, has_control, fault_of}
use Rattle.pb_telegram.specs.declared.chars.RxChar.TheVariants.{Good}
use Rattle.pb_cycles.specs.Fields.{Fields}
use Rattle.pb_cycles.specs.Messages.{has_bit, frame_octets}
use Rattle.law_turn.specs.Arrivals.{Arrival, Token, Framed, Acknowledgement, NoTelegram, fields_of, telegram_arrival, arrival_unless, arrival_of}
use Rattle.law_turn.specs.Laws.{are_initiator}
use Rattle.law_turn.specs.Turns.{token_octets}
use Rattle.law_model.specs.Trace.{Record}
use Rattle.law_model.proofs.Cases.{by_test}
use Rattle.law_runs.specs.Initiators.{telegram_of, initiates, is_initiator, offered_by, offered_to, claims_for}
use Rattle.law_token.proofs.turn.Said.{Meant, MeansToken, MeansRequest}

good_octets : (xs : List ℕ) → octets (map Good xs) ≡ xs
good_octets [] = refl
good_octets (x ∷ xs) = ap (λ ys. x ∷ ys) (good_octets xs)

-- octets without a fault bring what they spell
pub arrival_spelled : (xs : List ℕ) → fault_of (map Good xs) ≡ None → arrival_of (map Good xs) ≡ telegram_arrival xs
arrival_spelled xs good = ap (λ o. arrival_unless o (octets (map Good xs))) good ∙ ap telegram_arrival (good_octets xs)

-- only a token or a request brings one
initiates_arrival : (xs : List ℕ) → initiates (telegram_arrival xs) ≡ are_initiator xs
initiates_arrival xs = by (is_token xs) (has_control xs)
  where
    by : (a b : Bool) → initiates (if a then Token (slice_index xs 1) (slice_index xs 2) else if b then Framed (fields_of xs) else Acknowledgement) ≡ (a || (b && has_bit (fields_of xs).fc 6))
    by true b = refl
    by false true = refl
    by false false = refl

-- an arrival of a request
record Requests (a : Arrival) : Type 0 where
  init : initiates a ≡ true
  offers : offered_by a ≡ None
  none : (da sa : ℕ) → a ≡ Token da sa → ⊥

frame_requests : (f : Fields) → has_bit f.fc 6 ≡ true → Requests (telegram_arrival (frame_octets f))
frame_requests f bit =
    by_test (λ (xs : List ℕ). Requests (telegram_arrival xs)) (length f.unit == 0) _ _ (λ _. record { init = bit; offers = refl; none = λ da sa e. cc })
    (λ _. by_test (λ (xs : List ℕ). Requests (telegram_arrival xs)) (length f.unit == 8) _ _ (λ _. record { init = bit; offers = refl; none = λ da sa e. cc }) (λ _. record { init = bit; offers = refl; none = λ da sa e. cc }))

-- a record of what an initiator says
pub record Means (a : ℕ) (offered : Option ℕ) (x : Record) : Type 0 where
  pub init : is_initiator x ≡ true
  pub offers : offered_to x ≡ offered
  pub source : (da sa : ℕ) → telegram_of x ≡ Token da sa → sa ≡ a
  pub claims : x.octets ≡ token_octets a a → claims_for a (telegram_of x) ≡ true

token_source : (a b : Arrival) (da sa ns ts : ℕ) → a ≡ Token ns ts → a ≡ Token da sa → sa ≡ ts
token_source a b da sa ns ts e f = ap source_of (sym f ∙ e)
  where
    source_of : Arrival → ℕ
    source_of (Token da sa) = sa
    source_of (Framed f) = 0
    source_of Acknowledgement = 0
    source_of NoTelegram = 0

claims_own : (a : ℕ) → claims_for a (Token a a) ≡ true
claims_own a = ap (λ b. b && a == a) (eq-eqb a a refl) ∙ eq-eqb a a refl

pub means : (a : ℕ) (offered : Option ℕ) (x : Record) → Meant a x.octets offered → fault_of (map Good x.octets) ≡ None → Means a offered x
means a offered x (MeansToken ns said offers) good =
    let is : telegram_of x ≡ Token ns a = arrival_spelled x.octets good ∙ ap telegram_arrival said in
    record {
      init = ap initiates is;
      offers = ap offered_by is ∙ sym offers;
      source = λ da sa e. token_source (telegram_of x) (Token ns a) da sa ns a is e;
      claims = λ own. ap (claims_for a) (arrival_spelled x.octets good ∙ ap telegram_arrival own) ∙ claims_own a;
    }
means a offered x (MeansRequest f said bit offers) good =
    let is : telegram_of x ≡ telegram_arrival (frame_octets f) = arrival_spelled x.octets good ∙ ap telegram_arrival said in
    let r = frame_requests f bit in
    record {
      init = ap initiates is ∙ r.init;
      offers = ap offered_by is ∙ r.offers ∙ sym offers;
      source = λ da sa e. absurd (r.none da sa (sym is ∙ e));
      claims = λ own. ap (claims_for a) (arrival_spelled x.octets good ∙ ap telegram_arrival own) ∙ claims_own a;
    }

-- a reply is no initiator's
pub reply_means : (x : Record) → are_initiator x.octets ≡ false → fault_of (map Good x.octets) ≡ None → is_initiator x ≡ false
reply_means x none good = ap initiates (arrival_spelled x.octets good) ∙ initiates_arrival x.octets ∙ none

pub no_token : (x : Record) (da sa : ℕ) → is_initiator x ≡ false → telegram_of x ≡ Token da sa → ⊥
no_token x da sa none e = let w : true ≡ false = sym (ap initiates e) ∙ none in cc
