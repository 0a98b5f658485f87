-- A tape of what a tap has heard up to the clock, and that it stays right.
use Rattle.std.proofs.Common.{◌≡◌, ℕ, ◌<◌, ◌≤◌, List, [], ◌∷◌, ◌++◌, refl, sym, subst, arith, Option, Some, None}
use Rattle.law_turn.specs.Arrivals.{NoTelegram, arrival_of}
use Rattle.law_model.specs.Trace.{Entry}
use Rattle.law_token.specs.Lists.{Each}
use Rattle.pb_monitor.specs.Captures.{Burst, Has, Fills}
use Rattle.law_monitor.specs.Taps.{Tape}
use Rattle.law_monitor.proofs.hearing.Ears.{Ear, Clear, Begins, Told, SameTrace}

-- A burst that has ended: something begins with it, at each moment within it something lasts, and one that spells a
-- telegram is that telegram alone.
pub record Closed (x : Ear) (trace : List Entry) (b : Burst) : Type 0 where
  pub begins : Has (Begins x b.begin) trace
  pub through : (m : ℕ) → b.begin < m → m < b.end → Clear x m m trace → ⊥
  pub told : (arrival_of b.chars ≡ NoTelegram → ⊥) → Has (Fills x.delay b) trace × Each (Told x b) trace

-- such bursts, one behind the other, until the last end
abbrev pub Chain : Ear → List Entry → (q until : ℕ) → List Burst → Type 0
Chain x trace q until [] = q ≡ until
Chain x trace q until (b ∷ bs) = (q ≤ b.begin) × (b.begin < b.end) × Clear x q b.begin trace × Closed x trace b × Chain x trace b.end until bs

-- nothing was heard since the last end, or a burst has begun and something has lasted at each moment since
abbrev pub Open : Ear → (now : ℕ) → List Entry → ℕ → Option ℕ → Type 0
Open x now trace q None = Clear x q now trace
Open x now trace q (Some b) = (q ≤ b) × (b < now) × Clear x q b trace × Has (Begins x b) trace × ((m : ℕ) → b < m → m ≤ now → Clear x m m trace → ⊥)

pub record Hearing (x : Ear) (now : ℕ) (trace : List Entry) (tape : Tape) : Type 0 where
  pub began : x.since ≤ now
  pub q : ℕ
  pub late : q ≤ now
  pub chain : Chain x trace x.since q tape.bursts
  pub open_since : Open x now trace q tape.begun

-- ---- a trace that is the same up to the clock

chain_later : (x : Ear) (trace : List Entry) (q until : ℕ) (bs : List Burst) → Chain x trace q until bs → q ≤ until
chain_later x trace q until [] c = omega (arith, c)
chain_later x trace q until (b ∷ bs) c = let l = chain_later x trace b.end until bs c.4 in let a = c.0 in let d = c.1 in omega (arith, a, d, l)

closed_same : (x : Ear) (now : ℕ) (es ys : List Entry) (b : Burst) → SameTrace x now es ys → b.begin < b.end → b.end ≤ now → Closed x es b → Closed x ys b
closed_same x now es ys b s some late c = record {
  begins = s.begins b.begin (omega (arith, some, late)) c.begins;
  through = λ m after before clear. c.through m after before (s.back m (omega (arith, before, late)) clear);
  told = λ spells. let t = c.told spells in (s.filled b late t.0, s.told b (omega (arith, some)) late t.1);
}

chain_same : (x : Ear) (now : ℕ) (es ys : List Entry) (q until : ℕ) (bs : List Burst) → SameTrace x now es ys → until ≤ now → Chain x es q until bs → Chain x ys q until bs
chain_same x now es ys q until [] s late c = c
chain_same x now es ys q until (b ∷ bs) s late c =
    let l = chain_later x es b.end until bs c.4 in
    let some = c.1 in (
      c.0,
      some,
      s.clear q b.begin c.0 (omega (arith, some, l, late)) c.2,
      closed_same x now es ys b s some (omega (arith, l, late)) c.3,
      chain_same x now es ys b.end until bs s late c.4,
    )

open_same : (x : Ear) (now : ℕ) (es ys : List Entry) (q : ℕ) (o : Option ℕ) → SameTrace x now es ys → q ≤ now → Open x now es q o → Open x now ys q o
open_same x now es ys q None s late o = s.clear q now late (omega arith) o
open_same x now es ys q (Some b) s late o =
    let after = o.0 in
    let before = o.1 in (
      after,
      before,
      s.clear q b after (omega (arith, before)) o.2,
      s.begins b before o.3,
      λ m later at clear. o.4 m later at (s.back m at clear),
    )

pub hearing_same : (x : Ear) (now : ℕ) (es ys : List Entry) (tape : Tape) → SameTrace x now es ys → Hearing x now es tape → Hearing x now ys tape
hearing_same x now es ys tape s h = record {
  began = h.began;
  q = h.q;
  late = h.late;
  chain = chain_same x now es ys x.since h.q tape.bursts s h.late h.chain;
  open_since = open_same x now es ys h.q tape.begun s h.late h.open_since;
}

-- ---- one burst more

pub chain_more : (x : Ear) (trace : List Entry) (q until : ℕ) (bs : List Burst) (b : Burst) → Chain x trace q until bs → until ≤ b.begin → b.begin < b.end → Clear x until b.begin trace → Closed x trace b
    → Chain x trace q b.end (bs ++ b ∷ [])
chain_more x trace q until [] b c late some clear closed = (omega (arith, c, late), some, subst (λ n. Clear x n b.begin trace) (sym c) clear, closed, refl)
chain_more x trace q until (y ∷ bs) b c late some clear closed = (c.0, c.1, c.2, c.3, chain_more x trace y.end until bs b c.4 late some clear closed)
