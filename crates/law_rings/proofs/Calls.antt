-- The last initiator telegram of a ring, as its holder and the one that checks know it.
use Rattle.std.proofs.Common.{◌≡◌, ℕ, ◌+◌, ◌⊎◌, inl, inr, ◌≤◌, true, map, sym, ap, ◌∙◌, subst, Option, Some, None}
use Rattle.std.proofs.lemmas.Option.{none-some}
use Rattle.pb_telegram.specs.declared.chars.RxChar.TheVariants.{Good}
use Rattle.law_turn.specs.Arrivals.{Arrival, Token, Framed, Acknowledgement, NoTelegram, arrival_of}
use Rattle.law_turn.specs.Spans.{Span}
use Rattle.law_model.specs.Trace.{Record}
use Rattle.law_runs.specs.Initiators.{telegram_of, offered_by, offered_to}
use Rattle.law_token.specs.Tokens.{Held, Taken, Offers}
use Rattle.law_token.specs.Entries.{ComesBefore}
use Rattle.law_rings.specs.Ring.{Call, IsCall, brought_by, wants_reply}

-- the record of a call
pub call_of : (last : Option Record) (call : Call) (r : Record) → IsCall last call → last ≡ Some r → (r.tap ≡ call.tap) × (r.octets ≡ call.octets) × (r.begin ≡ call.begin) × (r.end ≡ call.end)
call_of last call r is e = subst (λ o. IsCall o call) e is

-- what it brings
pub call_brings : (call : Call) (r : Record) → r.octets ≡ call.octets → telegram_of r ≡ brought_by call.octets
call_brings call r e = ap (λ os. arrival_of (map Good os)) e

-- as its speaker knows it, that holds the token
pub record HeldCall (call : Call) (tap : ℕ) (own : Span) : Type 0 where
  pub by : call.tap ≡ tap
  pub begin : call.begin ≡ own.begin
  pub end : call.end ≡ own.end
  pub no_offer : offered_by (brought_by call.octets) ≡ None

-- what a tap holds is the call
pub held_call : (last : Option Record) (call : Call) (tap : ℕ) (own : Span) → IsCall last call → Held last tap own → HeldCall call tap own
held_call last call tap own is h =
    let c = call_of last call h.r is h.is in
    record { by = sym c.0 ∙ h.by; begin = sym c.2 ∙ h.begin; end = sym c.3 ∙ h.end; no_offer = ap offered_by (sym (call_brings call h.r c.1)) ∙ h.no_offer }

-- as the one that it gives the token knows it
pub record TakenCall (delay : ℕ) (call : Call) (tap address at : ℕ) : Type 0 where
  pub another : call.tap ≡ tap → ⊥
  pub offers : offered_by (brought_by call.octets) ≡ Some address
  pub heard_at : at ≡ call.end + delay

-- what it has taken is
pub taken_call : (delay : ℕ) (last : Option Record) (call : Call) (tap address at : ℕ) → IsCall last call → Taken delay last tap address at → TakenCall delay call tap address at
taken_call delay last call tap address at is h =
    let c = call_of last call h.r is h.is in
    record { another = λ e. h.another (c.0 ∙ e); offers = ap offered_by (sym (call_brings call h.r c.1)) ∙ h.offers; heard_at = h.heard_at ∙ ap (λ n. n + delay) c.3 }

-- as its speaker knows it, that has passed the token on
pub record OffersCall (call : Call) (tap : ℕ) (own : Span) : Type 0 where
  pub to : ℕ
  pub by : call.tap ≡ tap
  pub begin : call.begin ≡ own.begin
  pub end : call.end ≡ own.end
  pub offers : offered_by (brought_by call.octets) ≡ Some to

-- what it offers is
pub offers_call : (last : Option Record) (call : Call) (tap : ℕ) (own : Span) → IsCall last call → Offers last tap own → OffersCall call tap own
offers_call last call tap own is h =
    let c = call_of last call h.r is h.is in
    record { to = h.to; by = sym c.0 ∙ h.by; begin = sym c.2 ∙ h.begin; end = sym c.3 ∙ h.end; offers = ap offered_by (sym (call_brings call h.r c.1)) ∙ h.offers }

-- what passes the token on wants no reply
pub offer_wants_none : (a : Arrival) (to : ℕ) → offered_by a ≡ Some to → wants_reply a ≡ true → ⊥
offer_wants_none (Token da sa) to e w = cc
offer_wants_none (Framed f) to e w = none-some to e
offer_wants_none Acknowledgement to e w = cc
offer_wants_none NoTelegram to e w = cc

-- the order of an initiator telegram with the call
pub order_call : (delay : ℕ) (last : Option Record) (call : Call) (x : Record) → IsCall last call → ComesBefore delay last x
    → ((x.tap ≡ call.tap) × (x.begin ≡ call.begin)) ⊎ ((x.end ≤ call.begin) × ((x.end + delay ≤ call.begin) ⊎ ((x.tap ≡ call.tap) × (offered_to x ≡ None))))
order_call delay None call x is order = absurd is
order_call delay (Some r) call x is (inl same) = inl (same.0 ∙ is.0, same.1 ∙ is.2)
order_call delay (Some r) call x is (inr (e, inl over)) = inr (subst (λ n. x.end ≤ n) is.2 e, inl (subst (λ n. x.end + delay ≤ n) is.2 over))
order_call delay (Some r) call x is (inr (e, inr own)) = inr (subst (λ n. x.end ≤ n) is.2 e, inr (own.0 ∙ is.0, own.1))
