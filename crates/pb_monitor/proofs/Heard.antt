-- Burst by burst: what a listener knows stays true.
use Rattle.std.proofs.Common.{◌≡◌, ℕ, ◌+◌, ◌<◌, ◌≤◌, ◌⊎◌, inl, inr, ⊎_elim, Bool, true, false, if◌then◌else◌, ◌&&◌, ◌||◌, List, [], ◌∷◌, refl, sym, ap, ◌∙◌, arith, Option, Some, None}
use Rattle.std.specs.Prelude.{nat_le}
use Rattle.std.proofs.lemmas.Bool.{leb-true}
use Rattle.pb_timers.specs.Timers.{Params}
use Rattle.law_turn.specs.Arrivals.{arrival_of}
use Rattle.law_model.specs.Trace.{Record, Entry, Sent, Noise}
use Rattle.law_model.specs.Medium.{TapSpec, reaches_taps}
use Rattle.law_runs.specs.Initiators.{initiates, is_initiator, offered_to}
use Rattle.law_runs.specs.Legality.{follows_by, is_claim, is_legal_after, first_illegal_from}
use Rattle.law_runs.specs.Judging.{IsOrderedFrom}
use Rattle.pb_monitor.specs.Captures.{Burst, All, Has, Fills, IsClear, IsTold}
use Rattle.pb_monitor.specs.Promises.{IsBySource}
use Rattle.pb_monitor.proofs.Follows.{IsLast, Follows}

-- ---- a burst that is no initiator telegram

-- what a trace says of an entry at the listener, about a burst and the silence before it
abbrev pub Facts : List TapSpec → (delay q : ℕ) → Burst → Entry → Type 0
Facts specs delay q b e = IsClear q b.begin (reaches_taps delay e) × IsTold delay b e × IsBySource specs e

abbrev pub LastFacts : List TapSpec → (delay q : ℕ) → Burst → Option Record → Type 0
LastFacts specs delay q b None = Unit {0}
LastFacts specs delay q b (Some w) = (is_initiator w ≡ true) × (w.begin < w.end) × Facts specs delay q b (Sent w)

pub follows_on : (specs : List TapSpec) (delay q m : ℕ) (b : Burst) (Known More : Record → Type 0) (last : Option Record) (es : List Entry) → ((w : Record) → Known w → More w) → initiates (arrival_of b.chars) ≡ false → q ≤ b.begin → b.begin < b.end
    → LastFacts specs delay q b last → IsOrderedFrom m es → All (Facts specs delay q b) es → Follows delay q Known last es → Follows delay b.end More last es
follows_on specs delay q m b Known More last [] more none late some facts order all f = tt
follows_on specs delay q m b Known More last (Noise span ∷ es) more none late some facts order all f = follows_on specs delay q span.begin b Known More last es more none late some facts order.2 all.1 f
follows_on specs delay q m b Known More last (Sent y ∷ es) more none late some facts order all f = (
  λ init reached. is_last last facts (f.0 init (omega (arith, late, some, reached))),
  rest (is_initiator y) refl (λ l k g. follows_on specs delay q y.begin b Known More l es more none late some k order.2 all.1 g) f.1,
)
  where
    is_last : (l : Option Record) → LastFacts specs delay q b l → IsLast delay q Known l → IsLast delay b.end More l
    is_last None k i = absurd i
    is_last (Some w) k i = ⊎_elim (λ (known : Known w). inl (more w known)) (λ (r : q ≤ w.begin + delay). inr (unheard w k r)) i
      where
        unheard : (w : Record) → LastFacts specs delay q b (Some w) → q ≤ w.begin + delay → b.end ≤ w.begin + delay
        unheard w k r =
            let some' = k.1 in
            ⊎_elim (λ (a : w.end + delay ≤ q). absurd (omega (arith, a, r, some')))
            (λ (c : b.begin ≤ w.begin + delay). ⊎_elim (λ (fill : Fills delay b (Sent w)). absurd (let z : true ≡ false = sym k.0 ∙ ap initiates (sym fill.2) ∙ none in cc))
            (λ (apart : (w.end + delay ≤ b.begin) ⊎ (b.end ≤ w.begin + delay)). ⊎_elim (λ (e : w.end + delay ≤ b.begin). absurd (omega (arith, e, c, some'))) (λ (l : b.end ≤ w.begin + delay). l) apart) k.2.1) k.2.0

    rest : (z : Bool) → is_initiator y ≡ z → ((l : Option Record) → LastFacts specs delay q b l → Follows delay q Known l es → Follows delay b.end More l es)
        → Follows delay q Known (if z then Some y else last) es → Follows delay b.end More (if z then Some y else last) es
    rest true e rec g = rec (Some y) (e, order.1, all.0) g
    rest false e rec g = rec last facts g

-- ---- a burst that is one

-- at the record that fills the burst, the one before it is known, and it is legal after that
pub judge_at : (C : Type 0) (p : Params) (specs : List TapSpec) (trace : List Entry) (q m n : ℕ) (b : Burst) (Known : Record → Type 0) (last : Option Record) (es : List Entry)
    → ((w r : Record) → Known w → Fills p.ttd b (Sent r) → IsBySource specs (Sent r) → is_initiator r ≡ true → is_legal_after p specs trace (Some w) r ≡ true → C)
    → initiates (arrival_of b.chars) ≡ true → q ≤ b.begin → b.begin < b.end → LastFacts specs p.ttd q b last → IsOrderedFrom m es → All (Facts specs p.ttd q b) es → Follows p.ttd q Known last es
    → Has (Fills p.ttd b) es → first_illegal_from p specs trace last n es ≡ None → C
judge_at C p specs trace q m n b Known last [] good init late some facts order all f here legal = absurd here
judge_at C p specs trace q m n b Known last (Noise span ∷ es) good init late some facts order all f here legal =
    ⊎_elim (λ (z : Fills p.ttd b (Noise span)). absurd z) (λ (t : Has (Fills p.ttd b) es). judge_at C p specs trace q span.begin (n + 1) b Known last es good init late some facts order.2 all.1 f t legal) here
judge_at C p specs trace q m n b Known last (Sent r ∷ es) good init late some facts order all f here legal =
    ⊎_elim (λ (fill : Fills p.ttd b (Sent r)). at fill (is_initiator r) refl (is_legal_after p specs trace last r) refl legal)
    (λ (t : Has (Fills p.ttd b) es). on (is_initiator r) refl (is_legal_after p specs trace last r) (λ l k g h. judge_at C p specs trace q r.begin (n + 1) b Known l es good init late some k order.2 all.1 g t h) f.1 legal) here
  where
    before : Fills p.ttd b (Sent r) → (l : Option Record) → LastFacts specs p.ttd q b l → IsLast p.ttd q Known l → is_initiator r ≡ true → is_legal_after p specs trace l r ≡ true → C
    before fill None k i is h = absurd i
    before fill (Some w) k i is h = ⊎_elim (λ (known : Known w). good w r known fill all.0.2 is h)
        (λ (u : q ≤ w.begin + p.ttd). absurd (hidden w r k u fill (leb-true w.end r.begin (first (nat_le w.end r.begin) (follows_by p specs trace w (offered_to w) r || is_claim p specs trace r) h)))) i
      where
        first : (c d : Bool) → (c && d) ≡ true → c ≡ true
        first true d e = refl
        first false d e = absurd cc

        hidden : (w r : Record) → LastFacts specs p.ttd q b (Some w) → q ≤ w.begin + p.ttd → Fills p.ttd b (Sent r) → w.end ≤ r.begin → ⊥
        hidden w r k u fill ended =
            let some' = k.1 in let g = fill.0 in
            ⊎_elim (λ (a : w.end + p.ttd ≤ q). omega (arith, a, u, some')) (λ (c : b.begin ≤ w.begin + p.ttd). omega (arith, c, some', g, ended)) k.2.0

    at : Fills p.ttd b (Sent r) → (z : Bool) → is_initiator r ≡ z → (c : Bool) → is_legal_after p specs trace last r ≡ c
        → (if z then (if c then first_illegal_from p specs trace (Some r) (n + 1) es else Some n) else first_illegal_from p specs trace last (n + 1) es) ≡ None → C
    at fill true e true l h = before fill last facts (f.0 e (let g = fill.0 in omega (arith, g, late))) e l
    at fill true e false l h = absurd cc
    at fill false e c l h = absurd (let z : true ≡ false = sym init ∙ ap initiates fill.2 ∙ e in cc)

    on : (z : Bool) → is_initiator r ≡ z → (c : Bool)
        → ((l : Option Record) → LastFacts specs p.ttd q b l → Follows p.ttd q Known l es → first_illegal_from p specs trace l (n + 1) es ≡ None → C)
        → Follows p.ttd q Known (if z then Some r else last) es
        → (if z then (if c then first_illegal_from p specs trace (Some r) (n + 1) es else Some n) else first_illegal_from p specs trace last (n + 1) es) ≡ None → C
    on true e true rec g h = rec (Some r) (e, order.1, all.0) g h
    on true e false rec g h = absurd cc
    on false e c rec g h = rec last facts g h
