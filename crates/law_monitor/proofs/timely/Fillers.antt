-- What holds of each initiator telegram of a trace holds of the one that fills a burst.
use Rattle.std.proofs.Common.{◌≡◌, ℕ, ◌+◌, ◌<◌, ◌≤◌, ◌⊎◌, inl, inr, ⊎_elim, Bool, true, false, if◌then◌else◌, ◌&&◌, List, [], ◌∷◌, refl, sym, ap, ◌∙◌, arith, Option, Some, None}
use Rattle.std.specs.Prelude.{nat_lt}
use Rattle.std.proofs.lemmas.Bool.{le-ltb}
use Rattle.pb_timers.specs.Timers.{Params}
use Rattle.law_turn.specs.Arrivals.{arrival_of}
use Rattle.law_model.specs.Trace.{Record, Entry, Sent, Noise}
use Rattle.law_model.specs.Medium.{TapSpec}
use Rattle.law_runs.specs.Initiators.{initiates, is_initiator, later_record}
use Rattle.law_runs.specs.Judging.{IsOrderedFrom}
use Rattle.law_runs.specs.Legality.{is_legal_after, first_illegal_from}
use Rattle.pb_monitor.specs.declared.states.State.{State}
use Rattle.pb_monitor.specs.Captures.{Burst, All, Has, Fills}
use Rattle.pb_monitor.specs.Judge.{is_kept, silent_since, silence_before}
use Rattle.pb_monitor.specs.Promises.{IsBySource}
use Rattle.pb_monitor.proofs.Follows.{IsLast, Follows}
use Rattle.pb_monitor.proofs.Heard.{Facts, LastFacts}
use Rattle.law_monitor.specs.Timely.{Successive}

-- ---- what holds of each initiator telegram holds of the one that fills a burst

pub legal_from : (p : Params) (specs : List TapSpec) (trace : List Entry) (last : Option Record) (n : ℕ) (es : List Entry) → first_illegal_from p specs trace last n es ≡ None → Successive (λ l r. is_legal_after p specs trace l r ≡ true) last es
legal_from p specs trace last n [] h = tt
legal_from p specs trace last n (Noise span ∷ es) h = legal_from p specs trace last (n + 1) es h
legal_from p specs trace last n (Sent r ∷ es) h =
    by (is_initiator r) refl (is_legal_after p specs trace last r) refl (λ l m g. legal_from p specs trace l m es g) h
  where
    by : (b : Bool) → is_initiator r ≡ b → (c : Bool) → is_legal_after p specs trace last r ≡ c
        → ((l : Option Record) (m : ℕ) → first_illegal_from p specs trace l m es ≡ None → Successive (λ l r. is_legal_after p specs trace l r ≡ true) l es)
        → (if b then (if c then first_illegal_from p specs trace (Some r) (n + 1) es else Some n) else first_illegal_from p specs trace last (n + 1) es) ≡ None
        → (b ≡ true → is_legal_after p specs trace last r ≡ true) × Successive (λ l r. is_legal_after p specs trace l r ≡ true) (if b then Some r else last) es
    by true e true f rec g = (λ _. f, rec (Some r) (n + 1) g)
    by true e false f rec g = absurd cc
    by false e c f rec g = (λ z. absurd (let w : false ≡ true = z in cc), rec last (n + 1) g)

pub successive_both : (P Q : Option Record → Record → Type 0) (last : Option Record) (es : List Entry) → Successive P last es → Successive Q last es → Successive (λ l r. P l r × Q l r) last es
successive_both P Q last [] s t = tt
successive_both P Q last (Noise span ∷ es) s t = successive_both P Q last es s t
successive_both P Q last (Sent r ∷ es) s t = (λ init. (s.0 init, t.0 init), successive_both P Q (later_record last r) es s.1 t.1)

-- whatever comes before it
pub filler_has : (X : Type 0) (P : Option Record → Record → Type 0) (specs : List TapSpec) (delay : ℕ) (b : Burst) (last : Option Record) (es : List Entry) → initiates (arrival_of b.chars) ≡ true
    → ((l : Option Record) (r : Record) → Fills delay b (Sent r) → IsBySource specs (Sent r) → is_initiator r ≡ true → P l r → X) → All (IsBySource specs) es → Has (Fills delay b) es → Successive P last es → X
filler_has X P specs delay b last [] init good sources here s = absurd here
filler_has X P specs delay b last (Noise span ∷ es) init good sources here s = ⊎_elim (λ (f : Fills delay b (Noise span)). absurd f) (λ (t : Has (Fills delay b) es). filler_has X P specs delay b last es init good sources.1 t s) here
filler_has X P specs delay b last (Sent r ∷ es) init good sources here s =
    ⊎_elim (λ (f : Fills delay b (Sent r)). let is : is_initiator r ≡ true = ap initiates (sym f.2) ∙ init in good last r f sources.0 is (s.0 is))
    (λ (t : Has (Fills delay b) es). filler_has X P specs delay b (later_record last r) es init good sources.1 t s.1) here

-- if the listener knows the one before it
pub known_before : (X : Type 0) (P : Option Record → Record → Type 0) (specs : List TapSpec) (delay q m : ℕ) (b : Burst) (Known : Record → Type 0) (last : Option Record) (es : List Entry)
    → ((w r : Record) → P (Some w) r → w.end ≤ r.begin) → ((w r : Record) → Known w → Fills delay b (Sent r) → IsBySource specs (Sent r) → is_initiator r ≡ true → P (Some w) r → X)
    → initiates (arrival_of b.chars) ≡ true → q ≤ b.begin → b.begin < b.end → LastFacts specs delay q b last → IsOrderedFrom m es → All (Facts specs delay q b) es → Follows delay q Known last es
    → Has (Fills delay b) es → Successive P last es → X
known_before X P specs delay q m b Known last [] ends good init late some facts order all f here s = absurd here
known_before X P specs delay q m b Known last (Noise span ∷ es) ends good init late some facts order all f here s =
    ⊎_elim (λ (z : Fills delay b (Noise span)). absurd z) (λ (t : Has (Fills delay b) es). known_before X P specs delay q span.begin b Known last es ends good init late some facts order.2 all.1 f t s) here
known_before X P specs delay q m b Known last (Sent r ∷ es) ends good init late some facts order all f here s =
    ⊎_elim (λ (fill : Fills delay b (Sent r)). let is : is_initiator r ≡ true = ap initiates (sym fill.2) ∙ init in before fill is last facts (f.0 is (let g = fill.0 in omega (arith, g, late))) (s.0 is))
    (λ (t : Has (Fills delay b) es). on (is_initiator r) refl (λ l k g h. known_before X P specs delay q r.begin b Known l es ends good init late some k order.2 all.1 g t h) f.1 s.1) here
  where
    before : Fills delay b (Sent r) → is_initiator r ≡ true → (l : Option Record) → LastFacts specs delay q b l → IsLast delay q Known l → P l r → X
    before fill is None k i h = absurd i
    before fill is (Some w) k i h = ⊎_elim (λ (known : Known w). good w r known fill all.0.2 is h) (λ (u : q ≤ w.begin + delay). absurd (hidden w k u (ends w r h))) i
      where
        hidden : (w : Record) → LastFacts specs delay q b (Some w) → q ≤ w.begin + delay → w.end ≤ r.begin → ⊥
        hidden w k u ended =
            let long = k.1 in
            let g = fill.0 in
            ⊎_elim (λ (a : w.end + delay ≤ q). omega (arith, a, u, long)) (λ (c : b.begin ≤ w.begin + delay). omega (arith, c, long, g, ended)) k.2.0

    on : (z : Bool) → is_initiator r ≡ z → ((l : Option Record) → LastFacts specs delay q b l → Follows delay q Known l es → Successive P l es → X) → Follows delay q Known (if z then Some r else last) es → Successive P (if z then Some r else last) es → X
    on true e rec g h = rec (Some r) (e, order.1, all.0) g h
    on false e rec g h = rec last facts g h

-- ---- numbers and states

pub not_within : (from to b e : ℕ) → (e ≤ from) ⊎ (to ≤ b) → (nat_lt b to && nat_lt from e) ≡ false
not_within from to b e (inl l) = ap (λ z. nat_lt b to && z) (le-ltb from e l) ∙ never (nat_lt b to)
  where
    never : (z : Bool) → (z && false) ≡ false
    never true = refl
    never false = refl
not_within from to b e (inr l) = ap (λ z. z && nat_lt from e) (le-ltb b to l)

pub same_last : (p : Params) (slack : ℕ) (j : State) (begin : ℕ) → ((silence_before p slack j begin).last ≡ j.last) × ((silence_before p slack j begin).quiet ≡ j.quiet)
same_last p slack j begin = by (is_kept p slack j begin)
  where
    by : (c : Bool) → ((if c then record j { silent_from = silent_since p slack j begin; silent_to = begin } else j).last ≡ j.last)
        × ((if c then record j { silent_from = silent_since p slack j begin; silent_to = begin } else j).quiet ≡ j.quiet)
    by true = (refl, refl)
    by false = (refl, refl)
