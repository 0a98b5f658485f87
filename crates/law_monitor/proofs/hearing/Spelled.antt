-- Each telegram of a run's trace has the octets of a telegram, whatever the premises.
use Rattle.std.proofs.Common.{◌≡◌, ℕ, ◌==◌, List, map, None}
use Rattle.pb_telegram.specs.Faults.{fault_of}
use Rattle.pb_telegram.specs.declared.chars.RxChar.TheVariants.{Good}
use Rattle.law_model.specs.Trace.{Hit, Record, Entry, Sent, Noise, cut_at, cut_end, unheard_at}
use Rattle.law_model.specs.Medium.{Tap, ends_between, heard_by, entry_at, reaches}
use Rattle.law_model.specs.World.{World}
use Rattle.law_model.specs.Step.{with_hit}
use Rattle.law_model.proofs.Cases.{by_test}
use Rattle.law_token.specs.Invariant.{Settled}
use Rattle.law_token.proofs.bus.Kept.{reply-settled}
use Rattle.law_token.proofs.bus.Neighbours.{settled_below}
use Rattle.law_token.proofs.turn.SaidOctets.{says_spelled}
use Rattle.law_monitor.proofs.sources.Entries.{Lasting, HoldsOfSaid}

abbrev pub SpellsOne : Entry → Type 0
SpellsOne (Noise span) = Unit {0}
SpellsOne (Sent r) = fault_of (map Good r.octets) ≡ None

-- whatever is done to a telegram, its octets stay
pub lasting_spelled : Lasting SpellsOne
lasting_spelled = record { noise = λ span. tt; hit = λ h e. hit h e; cut = λ now tap e. cut now tap e; told = λ delay taps trace from to e. told delay taps trace from to e; lost = λ tap e. lost tap e }
  where
    hit : (h : Hit) (e : Entry) → SpellsOne e → SpellsOne (with_hit h e)
    hit h (Noise span) one = tt
    hit h (Sent r) one = one

    cut : (now tap : ℕ) (e : Entry) → SpellsOne e → SpellsOne (cut_at now tap e)
    cut now tap (Noise span) one = tt
    cut now tap (Sent r) one = by_test (λ (x : Record). SpellsOne (Sent x)) (r.tap == tap) (record r { end = cut_end now r }) r (λ _. one) (λ _. one)

    told : (delay : ℕ) (taps : List Tap) (trace : List Entry) (from to : ℕ) (e : Entry) → SpellsOne e → SpellsOne (entry_at delay taps trace from to e)
    told delay taps trace from to (Noise span) one = tt
    told delay taps trace from to (Sent r) one =
        by_test SpellsOne (ends_between from to (reaches delay r)) (Sent (record r { heard = heard_by delay trace r 0 taps r.heard })) (Sent r) (λ _. one) (λ _. one)

    lost : (tap : ℕ) (e : Entry) → SpellsOne e → SpellsOne (unheard_at tap e)
    lost tap (Noise span) one = tt
    lost tap (Sent r) one = one

-- and what a station says spells a telegram
pub said_spells : (w : World) → Settled w → HoldsOfSaid SpellsOne w
said_spells w set tap t at run =
    let stays = set.stays tap t at in
    let past = stays.past run in
    let below = settled_below w.params t.station t.marks w.now past.0 stays.sayable.0 stays.sayable.1 past.1 in
    let said = reply-settled w.params t.station t.marks w.now stays.spells in
    says_spelled w.params t.station t.marks w.now stays.sayable.0 stays.sayable.1 (record { address = below.0; next = below.1; pending = said.1.pending; reply = said.0 })
