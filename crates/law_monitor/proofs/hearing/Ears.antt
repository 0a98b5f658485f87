-- What a tap hears of entries, by moments.
use Rattle.std.proofs.Common.{◌≡◌, ℕ, ◌<◌, ◌≤◌, ◌⊎◌, inl, inr, ⊎_elim, Bool, true, List, [], ◌∷◌, map, arith, Option, Some, None}
use Rattle.law_turn.specs.Spans.{Span}
use Rattle.law_model.specs.Trace.{Entry, goes_before, with_entry}
use Rattle.law_model.specs.Step.{change_first}
use Rattle.law_model.proofs.Cases.{by_test}
use Rattle.law_token.specs.Lists.{Each}
use Rattle.law_token.specs.Places.{heard_span, IsOver}
use Rattle.law_token.proofs.bus.Hearers.{IsNew}
use Rattle.law_token.proofs.bus.Lists.{each_with, each_without}
use Rattle.pb_monitor.specs.Captures.{Burst, Has, Fills}

-- a tap that listens since a moment
pub record Ear : Type 0 where
  pub delay : ℕ
  pub tap : ℕ
  pub since : ℕ

-- what it hears of an entry
abbrev pub at_ear : Ear → Entry → Option Span
at_ear x e = heard_span x.delay x.tap x.since e

-- it hears nothing from one moment on, before another
abbrev pub IsClearAt : Ear → (u v : ℕ) → Entry → Type 0
IsClearAt x u v e = IsOver v u (at_ear x e)

abbrev pub Clear : Ear → (u v : ℕ) → List Entry → Type 0
Clear x u v es = Each (λ e. IsClearAt x u v e) es

abbrev pub BeginsIn : ℕ → Option Span → Type 0
BeginsIn m None = ⊥
BeginsIn m (Some s) = (s.begin ≡ m) × (s.begin < s.end)

abbrev pub Begins : Ear → ℕ → Entry → Type 0
Begins x m e = BeginsIn m (at_ear x e)

-- an entry fills a burst, or is not heard in it
abbrev pub Told : Ear → Burst → Entry → Type 0
Told x b e = Fills x.delay b e ⊎ IsClearAt x b.begin b.end e

-- ---- lists

pub has_with : (X : Entry → Type 0) (e : Entry) (es : List Entry) → Has X es → Has X (with_entry e es)
has_with X e [] h = absurd h
has_with X e (y ∷ es) h =
    by_test (λ (ys : List Entry). Has X ys) (goes_before e y) (e ∷ y ∷ es) (y ∷ with_entry e es)
    (λ _. inr h) (λ _. ⊎_elim (λ (a : X y). inl a) (λ (b : Has X es). inr (has_with X e es b)) h)

-- two lists of entries, one related to the other at each place
abbrev pub Pairs : (Entry → Entry → Type 0) → List Entry → List Entry → Type 0
Pairs R [] [] = Unit {0}
Pairs R [] (y ∷ ys) = ⊥
Pairs R (e ∷ es) [] = ⊥
Pairs R (e ∷ es) (y ∷ ys) = R e y × Pairs R es ys

pub pairs_each : (R : Entry → Entry → Type 0) (P Q : Entry → Type 0) (es ys : List Entry) → ((e y : Entry) → R e y → P e → Q y) → Pairs R es ys → Each P es → Each Q ys
pairs_each R P Q [] [] f s all = tt
pairs_each R P Q [] (y ∷ ys) f s all = absurd s
pairs_each R P Q (e ∷ es) [] f s all = absurd s
pairs_each R P Q (e ∷ es) (y ∷ ys) f s all = (f e y s.0 all.0, pairs_each R P Q es ys f s.1 all.1)

pub pairs_back : (R : Entry → Entry → Type 0) (P Q : Entry → Type 0) (es ys : List Entry) → ((e y : Entry) → R e y → Q y → P e) → Pairs R es ys → Each Q ys → Each P es
pairs_back R P Q [] [] f s all = tt
pairs_back R P Q [] (y ∷ ys) f s all = absurd s
pairs_back R P Q (e ∷ es) [] f s all = absurd s
pairs_back R P Q (e ∷ es) (y ∷ ys) f s all = (f e y s.0 all.0, pairs_back R P Q es ys f s.1 all.1)

pub pairs_has : (R : Entry → Entry → Type 0) (P Q : Entry → Type 0) (es ys : List Entry) → ((e y : Entry) → R e y → P e → Q y) → Pairs R es ys → Has P es → Has Q ys
pairs_has R P Q [] [] f s h = absurd h
pairs_has R P Q [] (y ∷ ys) f s h = absurd s
pairs_has R P Q (e ∷ es) [] f s h = absurd s
pairs_has R P Q (e ∷ es) (y ∷ ys) f s h = ⊎_elim (λ (a : P e). inl (f e y s.0 a)) (λ (b : Has P es). inr (pairs_has R P Q es ys f s.1 b)) h

pub pairs_self : (R : Entry → Entry → Type 0) (es : List Entry) → ((e : Entry) → R e e) → Pairs R es es
pairs_self R [] f = tt
pairs_self R (e ∷ es) f = (f e, pairs_self R es f)

pub pairs_map : (R : Entry → Entry → Type 0) (f : Entry → Entry) (es : List Entry) → ((e : Entry) → R e (f e)) → Pairs R es (map f es)
pairs_map R f [] h = tt
pairs_map R f (e ∷ es) h = (h e, pairs_map R f es h)

pub pairs_change : (R : Entry → Entry → Type 0) (test : Entry → Bool) (change : Entry → Entry) (es : List Entry) → ((e : Entry) → R e e) → ((e : Entry) → test e ≡ true → R e (change e)) → Pairs R es (change_first test change es)
pairs_change R test change [] self h = tt
pairs_change R test change (e ∷ es) self h =
    by_test (λ (ys : List Entry). Pairs R (e ∷ es) ys) (test e) (change e ∷ es) (e ∷ change_first test change es)
    (λ passes. (h e passes, pairs_self R es self)) (λ _. (self e, pairs_change R test change es self h))

-- ---- what is heard up to the clock stays

-- an entry is heard up to the clock as another, and fills the same bursts
pub record SameEntry (x : Ear) (now : ℕ) (e y : Entry) : Type 0 where
  pub clear : (u v : ℕ) → u ≤ v → v ≤ now → IsClearAt x u v e → IsClearAt x u v y
  pub back : (m : ℕ) → m ≤ now → IsClearAt x m m y → IsClearAt x m m e
  pub begins : (m : ℕ) → m < now → Begins x m e → Begins x m y
  pub fills : (b : Burst) → b.end ≤ now → Fills x.delay b e → Fills x.delay b y

pub same_self : (x : Ear) (now : ℕ) (e : Entry) → SameEntry x now e e
same_self x now e = record { clear = λ u v le late h. h; back = λ m late h. h; begins = λ m early h. h; fills = λ b late h. h }

-- and so are lists of entries
pub record SameTrace (x : Ear) (now : ℕ) (es ys : List Entry) : Type 0 where
  pub clear : (u v : ℕ) → u ≤ v → v ≤ now → Clear x u v es → Clear x u v ys
  pub back : (m : ℕ) → m ≤ now → Clear x m m ys → Clear x m m es
  pub begins : (m : ℕ) → m < now → Has (Begins x m) es → Has (Begins x m) ys
  pub filled : (b : Burst) → b.end ≤ now → Has (Fills x.delay b) es → Has (Fills x.delay b) ys
  pub told : (b : Burst) → b.begin ≤ b.end → b.end ≤ now → Each (Told x b) es → Each (Told x b) ys

pub same_pairs : (x : Ear) (now : ℕ) (es ys : List Entry) → Pairs (SameEntry x now) es ys → SameTrace x now es ys
same_pairs x now es ys s = record {
  clear = λ u v le late. pairs_each (SameEntry x now) (IsClearAt x u v) (IsClearAt x u v) es ys (λ e y r. r.clear u v le late) s;
  back = λ m late. pairs_back (SameEntry x now) (IsClearAt x m m) (IsClearAt x m m) es ys (λ e y r. r.back m late) s;
  begins = λ m early. pairs_has (SameEntry x now) (Begins x m) (Begins x m) es ys (λ e y r. r.begins m early) s;
  filled = λ b late. pairs_has (SameEntry x now) (Fills x.delay b) (Fills x.delay b) es ys (λ e y r. r.fills b late) s;
  told = λ b le late. pairs_each (SameEntry x now) (Told x b) (Told x b) es ys
      (λ e y r h. ⊎_elim (λ (f : Fills x.delay b e). inl (r.fills b late f)) (λ (c : IsClearAt x b.begin b.end e). inr (r.clear b.begin b.end le late c)) h) s;
}

pub new_clear : (now u v : ℕ) (o : Option Span) → v ≤ now → IsNew now o → IsOver v u o
new_clear now u v None late new = tt
new_clear now u v (Some s) late new = inl (omega (arith, late, new))

-- with one entry more that is heard now at the earliest
pub same_with : (x : Ear) (now : ℕ) (e : Entry) (es : List Entry) → IsNew now (at_ear x e) → SameTrace x now es (with_entry e es)
same_with x now e es new = record {
  clear = λ u v le late h. each_with (IsClearAt x u v) e es (new_clear now u v (at_ear x e) late new) h;
  back = λ m late h. (each_without (IsClearAt x m m) e es h).1;
  begins = λ m early h. has_with (Begins x m) e es h;
  filled = λ b late h. has_with (Fills x.delay b) e es h;
  told = λ b le late h. each_with (Told x b) e es (inr (new_clear now b.begin b.end (at_ear x e) late new)) h;
}
