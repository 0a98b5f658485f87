-- Which station has the token, by the last initiator telegram.
use Rattle.std.specs.Prelude.{◌≡◌, ℕ, ◌+◌, true, List, Option, Some, None, slice_get}
use Rattle.law_turn.specs.Spans.{Span}
use Rattle.law_model.specs.Trace.{Record, Entry}
use Rattle.law_runs.specs.Initiators.{offered_to}
use Rattle.law_runs.specs.Legality.{is_whole}
use Rattle.law_token.specs.Lists.{Each}
use Rattle.law_token.specs.Places.{Place, heard_span, Spares}

-- held: the last initiator telegram is the tap's own last telegram, and passes the token to no other station
pub record Held (last : Option Record) (tap : ℕ) (own : Span) : Type 0 where
  pub r : Record
  pub is : last ≡ Some r
  pub by : r.tap ≡ tap
  pub begin : r.begin ≡ own.begin
  pub end : r.end ≡ own.end
  pub no_offer : offered_to r ≡ None

-- taken: it is a token of another to the tap, which received it whole, to its end at a moment
pub record Taken (delay : ℕ) (last : Option Record) (tap address : ℕ) (at : ℕ) : Type 0 where
  pub r : Record
  pub is : last ≡ Some r
  pub another : r.tap ≡ tap → ⊥
  pub offers : offered_to r ≡ Some address
  pub whole : is_whole (slice_get r.heard tap) ≡ true
  pub heard_at : at ≡ r.end + delay

-- offered: it is the tap's own last telegram, and passes the token to another
pub record Offers (last : Option Record) (tap : ℕ) (own : Span) : Type 0 where
  pub r : Record
  pub to : ℕ
  pub is : last ≡ Some r
  pub by : r.tap ≡ tap
  pub begin : r.begin ≡ own.begin
  pub end : r.end ≡ own.end
  pub offers : offered_to r ≡ Some to

-- doomed: something is on its way to the tap that will end its check before the slot does
abbrev pub Doomed : Place → List Entry → Span → Type 0
Doomed c trace own = Each (λ e. Spares c.now (own.end + c.p.tsl) (heard_span c.p.ttd c.tap c.since e)) trace → ⊥
