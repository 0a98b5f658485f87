-- What holds of each initiator telegram after the one before it, in a trace that changes.
use Rattle.std.proofs.Common.{◌≡◌, ℕ, ◌≤◌, Bool, true, false, if◌then◌else◌, List, [], ◌∷◌, sym, ◌∙◌, subst, Option, Some, None}
use Rattle.std.proofs.lemmas.Bool.{le-leb}
use Rattle.law_model.specs.Trace.{Record, Entry, Sent, Noise, goes_before, with_entry}
use Rattle.law_model.proofs.Cases.{by_test}
use Rattle.law_runs.specs.Initiators.{is_initiator, later_record, last_from}
use Rattle.law_token.specs.Lists.{Each}
use Rattle.law_token.proofs.bus.Legal.{Begun, NoInit, BehindNone, none_last}
use Rattle.law_monitor.specs.Timely.{Successive}
use Rattle.law_monitor.proofs.hearing.Ears.{Pairs}

-- ---- another property

pub successive_by : (P Q : Option Record → Record → Type 0) (last : Option Record) (es : List Entry) → ((l : Option Record) (r : Record) → P l r → Q l r) → Successive P last es → Successive Q last es
successive_by P Q last [] f s = tt
successive_by P Q last (Noise span ∷ es) f s = successive_by P Q last es f s
successive_by P Q last (Sent r ∷ es) f s = (λ init. f last r (s.0 init), successive_by P Q (later_record last r) es f s.1)

pub successive_map : (P Q : Option Record → Record → Type 0) (now : ℕ) (last : Option Record) (es : List Entry) → ((l : Option Record) (r : Record) → r.begin ≤ now → P l r → Q l r) → Each (Begun now) es → Successive P last es → Successive Q last es
successive_map P Q now last [] f begun s = tt
successive_map P Q now last (Noise span ∷ es) f begun s = successive_map P Q now last es f begun.1 s
successive_map P Q now last (Sent r ∷ es) f begun s = (λ init. f last r begun.0 (s.0 init), successive_map P Q now (later_record last r) es f begun.1 s.1)

-- ---- other entries, each like the one in its place

abbrev pub Both : (Record → Record → Type 0) → Option Record → Option Record → Type 0
Both R None None = Unit {0}
Both R None (Some y) = ⊥
Both R (Some r) None = ⊥
Both R (Some r) (Some y) = R r y

-- entries that are both noise, or both telegrams that are so related
abbrev pub Likened : (Record → Record → Type 0) → Entry → Entry → Type 0
Likened R (Noise a) (Noise b) = Unit {0}
Likened R (Noise a) (Sent y) = ⊥
Likened R (Sent r) (Noise b) = ⊥
Likened R (Sent r) (Sent y) = R r y

pub successive_pairs : (P Q : Option Record → Record → Type 0) (R : Record → Record → Type 0) (now : ℕ) (last other : Option Record) (es ys : List Entry)
    → ((r y : Record) → R r y → is_initiator y ≡ is_initiator r) → ((l k : Option Record) (r y : Record) → r.begin ≤ now → Both R l k → R r y → P l r → Q k y)
    → Both R last other → Each (Begun now) es → Pairs (Likened R) es ys → Successive P last es → Successive Q other ys
successive_pairs P Q R now last other [] [] same f both begun pairs s = tt
successive_pairs P Q R now last other [] (y ∷ ys) same f both begun pairs s = absurd pairs
successive_pairs P Q R now last other (e ∷ es) [] same f both begun pairs s = absurd pairs
successive_pairs P Q R now last other (Noise a ∷ es) (Noise b ∷ ys) same f both begun pairs s = successive_pairs P Q R now last other es ys same f both begun.1 pairs.1 s
successive_pairs P Q R now last other (Noise a ∷ es) (Sent y ∷ ys) same f both begun pairs s = absurd pairs.0
successive_pairs P Q R now last other (Sent r ∷ es) (Noise b ∷ ys) same f both begun pairs s = absurd pairs.0
successive_pairs P Q R now last other (Sent r ∷ es) (Sent y ∷ ys) same f both begun pairs s = (
  λ init. f last other r y begun.0 both pairs.0 (s.0 (sym (same r y pairs.0) ∙ init)),
  successive_pairs P Q R now (later_record last r) (later_record other y) es ys same f
      (subst (λ b. Both R (later_record last r) (if b then Some y else other)) (sym (same r y pairs.0)) (later (is_initiator r))) begun.1 pairs.1 s.1,
)
  where
    later : (b : Bool) → Both R (if b then Some r else last) (if b then Some y else other)
    later true = pairs.0
    later false = both

-- ---- one entry more

first : (P : Option Record → Record → Type 0) (last : Option Record) (e : Entry) (es : List Entry) → NoInit e → Successive P last es → Successive P last (e ∷ es)
first P last (Noise span) es none s = s
first P last (Sent x) es none s = (λ init. absurd (let w : true ≡ false = sym init ∙ none in cc), subst (λ b. Successive P (if b then Some x else last) es) (sym none) s)

-- no initiator telegram
pub successive_with_other : (P : Option Record → Record → Type 0) (last : Option Record) (e : Entry) (es : List Entry) → NoInit e → Successive P last es → Successive P last (with_entry e es)
successive_with_other P last e [] none s = first P last e [] none s
successive_with_other P last e (Noise span ∷ es) none s =
    by_test (λ ys. Successive P last ys) (goes_before e (Noise span)) (e ∷ Noise span ∷ es) (Noise span ∷ with_entry e es)
    (λ _. first P last e (Noise span ∷ es) none s) (λ _. successive_with_other P last e es none s)
successive_with_other P last e (Sent r ∷ es) none s =
    by_test (λ ys. Successive P last ys) (goes_before e (Sent r)) (e ∷ Sent r ∷ es) (Sent r ∷ with_entry e es)
    (λ _. first P last e (Sent r ∷ es) none s) (λ _. (s.0, successive_with_other P (later_record last r) e es none s.1))

-- behind the last initiator telegram there is none
none_behind : (P : Option Record → Record → Type 0) (last : Option Record) (es : List Entry) → Each NoInit es → Successive P last es
none_behind P last [] none = tt
none_behind P last (Noise span ∷ es) none = none_behind P last es none.1
none_behind P last (Sent r ∷ es) none = (λ init. absurd (let w : true ≡ false = sym init ∙ none.0 in cc), none_behind P (later_record last r) es none.1)

-- a new initiator telegram, that has the property after the last one
pub successive_with : (P : Option Record → Record → Type 0) (now : ℕ) (last : Option Record) (x : Record) (es : List Entry) → is_initiator x ≡ true → Each (Begun now) es → BehindNone (Sent x) es
    → P (last_from last now es) x → Successive P last es → Successive P last (with_entry (Sent x) es)
successive_with P now last x [] init begun behind h s = (λ _. h, tt)
successive_with P now last x (Noise span ∷ es) init begun behind h s =
    by_test (λ ys. Successive P last ys) (goes_before (Sent x) (Noise span)) (Sent x ∷ Noise span ∷ es) (Noise span ∷ with_entry (Sent x) es)
    (λ before. let none = behind.0 before in (λ _. subst (λ l. P l x) (none_last last now (Noise span ∷ es) none) h, none_behind P (later_record last x) (Noise span ∷ es) none))
    (λ _. successive_with P now last x es init begun.1 behind.1 h s)
successive_with P now last x (Sent r ∷ es) init begun behind h s =
    by_test (λ ys. Successive P last ys) (goes_before (Sent x) (Sent r)) (Sent x ∷ Sent r ∷ es) (Sent r ∷ with_entry (Sent x) es)
    (λ before. let none = behind.0 before in (λ _. subst (λ l. P l x) (none_last last now (Sent r ∷ es) none) h, none_behind P (later_record last x) (Sent r ∷ es) none))
    (λ _. (s.0, successive_with P now (later_record last r) x es init begun.1 behind.1 (subst (λ b. P (last_from (if b then later_record last r else last) now es) x) (le-leb r.begin now begun.0) h) s.1))
