-- A new telegram in the trace, and the taps after a turn.
use Rattle.std.proofs.Common.{◌≡◌, ℕ, zero, suc, ◌+◌, ◌<◌, ◌≤◌, inl, inr, ⊎_elim, Bool, true, false, if◌then◌else◌, ◌==◌, ◌&&◌, ◌||◌, List, [], ◌∷◌, map, refl, sym, ap, ◌∙◌, subst, arith, Option, Some, None}
use Rattle.std.specs.Prelude.{slice_get, slice_set, nat_lt, nat_le}
use Rattle.std.proofs.lemmas.Bool.{ltb-true, eqb-true, le-leb, cases_eq}
use Rattle.std.proofs.lemmas.Option.{none-some, same_Some}
use Rattle.pb_timers.specs.Timers.{Params}
use Rattle.law_turn.specs.Stations.{Station}
use Rattle.law_model.specs.Trace.{Own, Pending, Record, Entry, Sent, Noise, entry_begin, rank, goes_before, with_entry, heard_at_first}
use Rattle.law_model.specs.Medium.{TapSpec, Tap, is_unheard}
use Rattle.law_model.proofs.Cases.{by_test}
use Rattle.law_runs.specs.Initiators.{is_initiator, later_record, last_from}
use Rattle.law_runs.specs.Legality.{is_whole, is_legal_after, first_illegal_from}
use Rattle.law_runs.specs.Judging.{StandsFrom}
use Rattle.law_token.specs.Lists.{Each, In}
use Rattle.law_token.specs.Entries.{IsAnother, AllOthers}
use Rattle.law_token.proofs.bus.Lists.{each_map, each_with, get_set_at, get_set_other}
use Rattle.law_token.proofs.bus.Legal.{NoInit, BehindNone, none_last, Begun}

-- ---- a trace stands by begin

abbrev pub NotBefore : ℕ → Entry → Type 0
NotBefore n e = n ≤ entry_begin e

abbrev pub ByBegin : List Entry → Type 0
ByBegin [] = Unit {0}
ByBegin (e ∷ es) = Each (NotBefore (entry_begin e)) es × ByBegin es

before_ends : (a b : ℕ) (r s : ℕ) → (nat_lt a b || (a == b && nat_lt r s)) ≡ true → a ≤ b
before_ends a b r s h = by (nat_lt a b) (a == b) refl refl h
  where
    by : (u v : Bool) → nat_lt a b ≡ u → (a == b) ≡ v → (u || (v && nat_lt r s)) ≡ true → a ≤ b
    by true v e f h = let l = ltb-true a b e in omega (arith, l)
    by false true e f h = let l = eqb-true a b f in omega (arith, l)
    by false false e f h = absurd (let w : false ≡ true = h in cc)

goes_first : (e x : Entry) → goes_before e x ≡ true → entry_begin e ≤ entry_begin x
goes_first e x h = before_ends (entry_begin e) (entry_begin x) (rank e) (rank x) h

all_later : (n m : ℕ) (es : List Entry) → n ≤ m → Each (NotBefore m) es → Each (NotBefore n) es
all_later n m es le all = each_map (NotBefore m) (NotBefore n) es (λ e h. omega (arith, h, le)) all

pub by_begin_with : (e : Entry) (es : List Entry) → Each (Begun (entry_begin e)) es → ByBegin es → ByBegin (with_entry e es)
by_begin_with e [] begun stands = (tt, tt)
by_begin_with e (x ∷ xs) begun stands =
    by_test ByBegin (goes_before e x) (e ∷ x ∷ xs) (x ∷ with_entry e xs)
    (λ first. let le = goes_first e x first in ((le, all_later (entry_begin e) (entry_begin x) xs le stands.0), stands))
    (λ _. (each_with (NotBefore (entry_begin x)) e xs begun.0 stands.0, by_begin_with e xs begun.1 stands.1))

-- a trace that stands by begin, with its begins in pairs
all_by : (n : ℕ) (es : List Entry) → StandsFrom n es → Each (NotBefore n) es × ByBegin es
all_by n [] stands = (tt, tt)
all_by n (e ∷ es) stands = let r = all_by (entry_begin e) es stands.1 in ((stands.0, all_later n (entry_begin e) es stands.0 r.0), (r.0, r.1))

pub by_begin : (es : List Entry) → StandsFrom 0 es → ByBegin es
by_begin es stands = (all_by 0 es stands).1

-- ---- behind a new initiator record there is none

abbrev pub InitBefore : ℕ → Entry → Type 0
InitBefore now (Noise span) = Unit {0}
InitBefore now (Sent r) = is_initiator r ≡ true → r.begin < now

no_init : (now : ℕ) (e : Entry) → InitBefore now e → NotBefore now e → NoInit e
no_init now (Noise span) before late = tt
no_init now (Sent r) before late = by (is_initiator r) refl
  where
    by : (b : Bool) → is_initiator r ≡ b → b ≡ false
    by true e = absurd (let l = before e in omega (arith, l, late))
    by false e = refl

none_init : (now : ℕ) (es : List Entry) → Each (InitBefore now) es → Each (NotBefore now) es → Each NoInit es
none_init now [] before late = tt
none_init now (e ∷ es) before late = (no_init now e before.0 late.0, none_init now es before.1 late.1)

pub behind : (x : Record) (es : List Entry) → Each (InitBefore x.begin) es → ByBegin es → BehindNone (Sent x) es
behind x [] before stands = tt
behind x (e ∷ es) before stands =
    (λ first. let le = goes_first (Sent x) e first in none_init x.begin (e ∷ es) before (le, all_later x.begin (entry_begin e) es le stands.0), behind x es before.1 stands.1)

-- ---- the last initiator record

pub last_with : (x : Record) (t : ℕ) (l : Option Record) (es : List Entry) → is_initiator x ≡ true → x.begin ≤ t → BehindNone (Sent x) es → last_from l t (with_entry (Sent x) es) ≡ Some x
last_with x t l [] init begun none = ap (λ b. if b then later_record l x else l) (le-leb x.begin t begun) ∙ ap (λ b. if b then Some x else l) init
last_with x t l (Noise span ∷ es) init begun none =
    by_test (λ ys. last_from l t ys ≡ Some x) (goes_before (Sent x) (Noise span)) (Sent x ∷ Noise span ∷ es) (Noise span ∷ with_entry (Sent x) es)
    (λ first. ap (λ b. last_from (if b then later_record l x else l) t (Noise span ∷ es)) (le-leb x.begin t begun) ∙ ap (λ b. last_from (if b then Some x else l) t (Noise span ∷ es)) init ∙ none_last (Some x) t (Noise span ∷ es) (none.0 first))
    (λ _. last_with x t l es init begun none.1)
last_with x t l (Sent r ∷ es) init begun none =
    by_test (λ ys. last_from l t ys ≡ Some x) (goes_before (Sent x) (Sent r)) (Sent x ∷ Sent r ∷ es) (Sent r ∷ with_entry (Sent x) es)
    (λ first. ap (λ b. last_from (if b then later_record l x else l) t (Sent r ∷ es)) (le-leb x.begin t begun) ∙ ap (λ b. last_from (if b then Some x else l) t (Sent r ∷ es)) init ∙ none_last (Some x) t (Sent r ∷ es) (none.0 first))
    (λ _. last_with x t (if nat_le r.begin t then later_record l r else l) es init begun none.1)

-- a reply is skipped
skipped : (x : Record) (t : ℕ) (l : Option Record) → is_initiator x ≡ false → (if nat_le x.begin t then later_record l x else l) ≡ l
skipped x t l none = by_test (λ o. o ≡ l) (nat_le x.begin t) (later_record l x) l (λ _. ap (λ b. if b then Some x else l) none) (λ _. refl)

pub last_reply : (x : Record) (t : ℕ) (l : Option Record) (es : List Entry) → is_initiator x ≡ false → last_from l t (with_entry (Sent x) es) ≡ last_from l t es
last_reply x t l [] none = skipped x t l none
last_reply x t l (Noise span ∷ es) none =
    by_test (λ ys. last_from l t ys ≡ last_from l t (Noise span ∷ es)) (goes_before (Sent x) (Noise span)) (Sent x ∷ Noise span ∷ es) (Noise span ∷ with_entry (Sent x) es)
    (λ _. ap (λ o. last_from o t (Noise span ∷ es)) (skipped x t l none)) (λ _. last_reply x t l es none)
last_reply x t l (Sent r ∷ es) none =
    by_test (λ ys. last_from l t ys ≡ last_from l t (Sent r ∷ es)) (goes_before (Sent x) (Sent r)) (Sent x ∷ Sent r ∷ es) (Sent r ∷ with_entry (Sent x) es)
    (λ _. ap (λ o. last_from o t (Sent r ∷ es)) (skipped x t l none)) (λ _. last_reply x t (if nat_le r.begin t then later_record l r else l) es none)

-- ---- a reply leaves the trace legal

-- a record that is legal, or no initiator's, and what is behind it
by_record : (b c : Bool) (n m : ℕ) (u v u' v' : Option ℕ) → (u ≡ None → u' ≡ None) → (v ≡ None → v' ≡ None) → (if b then (if c then u else Some n) else v) ≡ None → (if b then (if c then u' else Some m) else v') ≡ None
by_record true true n m u v u' v' f g h = f h
by_record true false n m u v u' v' f g h = absurd (none-some n (sym h))
by_record false c n m u v u' v' f g h = g h

any_place : (p : Params) (specs : List TapSpec) (trace : List Entry) (l : Option Record) (n m : ℕ) (es : List Entry) → first_illegal_from p specs trace l n es ≡ None → first_illegal_from p specs trace l m es ≡ None
any_place p specs trace l n m [] h = refl
any_place p specs trace l n m (Noise span ∷ es) h = any_place p specs trace l (n + 1) (m + 1) es h
any_place p specs trace l n m (Sent r ∷ es) h =
    by_record (is_initiator r) (is_legal_after p specs trace l r) n m (first_illegal_from p specs trace (Some r) (n + 1) es) (first_illegal_from p specs trace l (n + 1) es) (first_illegal_from p specs trace (Some r) (m + 1) es) (first_illegal_from p specs trace l (m + 1) es)
    (λ e. any_place p specs trace (Some r) (n + 1) (m + 1) es e) (λ e. any_place p specs trace l (n + 1) (m + 1) es e) h

pub legal_reply : (p : Params) (specs : List TapSpec) (trace : List Entry) (x : Record) (l : Option Record) (n : ℕ) (es : List Entry) → is_initiator x ≡ false → first_illegal_from p specs trace l n es ≡ None
    → first_illegal_from p specs trace l n (with_entry (Sent x) es) ≡ None
legal_reply p specs trace x l n [] none h = ap (λ b. if b then (if is_legal_after p specs trace l x then None else Some n) else None) none
legal_reply p specs trace x l n (Noise span ∷ es) none h =
    by_test (λ ys. first_illegal_from p specs trace l n ys ≡ None) (goes_before (Sent x) (Noise span)) (Sent x ∷ Noise span ∷ es) (Noise span ∷ with_entry (Sent x) es)
    (λ _. ap (λ b. if b then (if is_legal_after p specs trace l x then first_illegal_from p specs trace (Some x) (n + 1) (Noise span ∷ es) else Some n) else first_illegal_from p specs trace l (n + 1) (Noise span ∷ es)) none
    ∙ any_place p specs trace l n (n + 1) (Noise span ∷ es) h)
    (λ _. legal_reply p specs trace x l (n + 1) es none h)
legal_reply p specs trace x l n (Sent r ∷ es) none h =
    by_test (λ ys. first_illegal_from p specs trace l n ys ≡ None) (goes_before (Sent x) (Sent r)) (Sent x ∷ Sent r ∷ es) (Sent r ∷ with_entry (Sent x) es)
    (λ _. ap (λ b. if b then (if is_legal_after p specs trace l x then first_illegal_from p specs trace (Some x) (n + 1) (Sent r ∷ es) else Some n) else first_illegal_from p specs trace l (n + 1) (Sent r ∷ es)) none
    ∙ any_place p specs trace l n (n + 1) (Sent r ∷ es) h)
    (λ _. by_record (is_initiator r) (is_legal_after p specs trace l r) n n (first_illegal_from p specs trace (Some r) (n + 1) es) (first_illegal_from p specs trace l (n + 1) es)
    (first_illegal_from p specs trace (Some r) (n + 1) (with_entry (Sent x) es)) (first_illegal_from p specs trace l (n + 1) (with_entry (Sent x) es))
    (λ e. legal_reply p specs trace x (Some r) (n + 1) es none e) (λ e. legal_reply p specs trace x l (n + 1) es none e) h)

-- ---- what is in the trace

pub in_new : (e : Entry) (es : List Entry) → In e (with_entry e es)
in_new e [] = inl refl
in_new e (x ∷ xs) = by_test (In e) (goes_before e x) (e ∷ x ∷ xs) (x ∷ with_entry e xs) (λ _. inl refl) (λ _. inr (in_new e xs))

pub in_old : (y e : Entry) (es : List Entry) → In y es → In y (with_entry e es)
in_old y e [] i = absurd i
in_old y e (x ∷ xs) i =
    by_test (In y) (goes_before e x) (e ∷ x ∷ xs) (x ∷ with_entry e xs) (λ _. inr i) (λ _. ⊎_elim (λ (a : x ≡ y). inl a) (λ (b : In y xs). inr (in_old y e xs b)) i)

-- it begins apart from the other telegrams of its tap
abbrev pub Apart : Record → Entry → Type 0
Apart x (Noise span) = Unit {0}
Apart x (Sent r) = r.tap ≡ x.tap → r.begin ≡ x.begin → ⊥

another_new : (x : Record) (e : Entry) → Apart x e → IsAnother (Sent x) e
another_new x (Noise span) a = tt
another_new x (Sent r) a = λ t b. a (sym t) (sym b)

another_old : (x : Record) (e : Entry) → Apart x e → IsAnother e (Sent x)
another_old x (Noise span) a = tt
another_old x (Sent r) a = a

pub others_with : (x : Record) (es : List Entry) → Each (Apart x) es → AllOthers es → AllOthers (with_entry (Sent x) es)
others_with x [] apart others = (tt, tt)
others_with x (e ∷ es) apart others =
    by_test AllOthers (goes_before (Sent x) e) (Sent x ∷ e ∷ es) (e ∷ with_entry (Sent x) es)
    (λ _. (each_map (Apart x) (IsAnother (Sent x)) (e ∷ es) (another_new x) apart, others))
    (λ _. (each_with (IsAnother e) (Sent x) es (another_old x e apart.0) others.0, others_with x es apart.1 others.1))

-- ---- what a new telegram is to the taps

unheard_first : {X : Type 0} (speaker n : ℕ) (xs : List X) (i : ℕ) → is_unheard (slice_get (heard_at_first speaker n xs) i) ≡ false
unheard_first {X} speaker n [] i = refl
unheard_first {X} speaker n (x ∷ xs) zero = by_test (λ h. is_unheard (Some h) ≡ false) (n == speaker) Own Pending (λ _. refl) (λ _. refl)
unheard_first {X} speaker n (x ∷ xs) (suc i) = unheard_first speaker (n + 1) xs i

whole_first : {X : Type 0} (speaker n : ℕ) (xs : List X) (i : ℕ) → is_whole (slice_get (heard_at_first speaker n xs) i) ≡ false
whole_first {X} speaker n [] i = refl
whole_first {X} speaker n (x ∷ xs) zero = by_test (λ h. is_whole (Some h) ≡ false) (n == speaker) Own Pending (λ _. refl) (λ _. refl)
whole_first {X} speaker n (x ∷ xs) (suc i) = whole_first speaker (n + 1) xs i

pending_first : {X : Type 0} (speaker n k : ℕ) (xs : List X) (i : ℕ) (x : X) → k ≡ n + i → slice_get xs i ≡ Some x → (speaker ≡ k → ⊥) → slice_get (heard_at_first speaker n xs) i ≡ Some Pending
pending_first {X} speaker n k [] i x e at ne = absurd (none-some x at)
pending_first {X} speaker n k (y ∷ ys) zero x e at ne = by (n == speaker) refl
  where
    by : (b : Bool) → (n == speaker) ≡ b → Some (if b then Own else Pending) ≡ Some Pending
    by true f = absurd (ne (let l = eqb-true n speaker f in omega (arith, l, e)))
    by false f = refl
pending_first {X} speaker n k (y ∷ ys) (suc i) x e at ne = pending_first speaker (n + 1) k ys i x (omega (arith, e)) at ne

pub unheard_new : {X : Type 0} (speaker : ℕ) (xs : List X) (i : ℕ) → is_unheard (slice_get (heard_at_first speaker 0 xs) i) ≡ false
unheard_new {X} speaker xs i = unheard_first speaker 0 xs i

pub whole_new : {X : Type 0} (speaker : ℕ) (xs : List X) (i : ℕ) → is_whole (slice_get (heard_at_first speaker 0 xs) i) ≡ false
whole_new {X} speaker xs i = whole_first speaker 0 xs i

pub pending_new : {X : Type 0} (speaker i : ℕ) (xs : List X) (x : X) → slice_get xs i ≡ Some x → (speaker ≡ i → ⊥) → slice_get (heard_at_first speaker 0 xs) i ≡ Some Pending
pending_new {X} speaker i xs x at ne = pending_first speaker 0 i xs i x (omega arith) at ne

-- ---- the taps

pub record WasTap (ts : List Tap) (i : ℕ) (u : Tap) : Type 0 where
  pub t : Tap
  pub here : slice_get ts i ≡ Some t
  pub spec_is : u.spec ≡ t.spec
  pub running_is : u.running ≡ t.running
  pub since_is : u.since ≡ t.since
  pub amid_is : u.amid ≡ t.amid

pub was_tap : (ts : List Tap) (k : ℕ) (t : Tap) (s' : Station) → slice_get ts k ≡ Some t → (i : ℕ) (u : Tap) → slice_get (slice_set ts k (record t { station = s'; marks = [] })) i ≡ Some u → WasTap ts i u
was_tap ts k t s' here i u at =
    ⊎_elim
    (λ (e : k ≡ i).
    let at' : slice_get (slice_set ts k (record t { station = s'; marks = [] })) k ≡ Some u = subst (λ n. slice_get (slice_set ts k (record t { station = s'; marks = [] })) n ≡ Some u) (sym e) at in
    let same = get_set_at ts k (record t { station = s'; marks = [] }) u at' in
    record {
      t = t;
      here = subst (λ n. slice_get ts n ≡ Some t) e here;
      spec_is = ap (λ (z : Tap). z.spec) same;
      running_is = ap (λ (z : Tap). z.running) same;
      since_is = ap (λ (z : Tap). z.since) same;
      amid_is = ap (λ (z : Tap). z.amid) same;
    })
    (λ (ne : k ≡ i → ⊥). record { t = u; here = sym (get_set_other ts k i (record t { station = s'; marks = [] }) ne) ∙ at; spec_is = refl; running_is = refl; since_is = refl; amid_is = refl })
    (cases_eq k i)

pub specs_set : (ts : List Tap) (k : ℕ) (t : Tap) (s' : Station) → slice_get ts k ≡ Some t → map (λ z. z.spec) (slice_set ts k (record t { station = s'; marks = [] })) ≡ map (λ (z : Tap). z.spec) ts
specs_set [] k t s' here = refl
specs_set (x ∷ xs) zero t s' here = ap (λ (z : Tap). z.spec ∷ map (λ (z : Tap). z.spec) xs) (sym (same_Some x t here))
specs_set (x ∷ xs) (suc k) t s' here = ap (λ zs. x.spec ∷ zs) (specs_set xs k t s' here)
