-- A walk through the moments sees only the entries that may be on the bus, and skips moments at which that is idle.
use Rattle.std.proofs.Common.{◌≡◌, ◌∙◌, ◌⊎◌, inl, inr, ap, sym, subst, refl, arith, ℕ, zero, suc, ◌+◌, ◌-◌, ◌<◌, ◌≤◌, Bool, true, false, List, [], ◌∷◌, ◌++◌, Option, Some, None, append_assoc}
use Rattle.std.specs.Prelude.{slice_get, drop, take, nat_le, nat_lt, ◌&&◌, if◌then◌else◌}
use Rattle.std.specs.List.{flat_map}
use Rattle.std.proofs.Math.Nat.{eq-or-lt_of_le}
use Rattle.std.proofs.lemmas.Bool.{and_parts, ltb-true, leb-true}
use Rattle.std.proofs.lemmas.List.{drop_all}
use Rattle.std.proofs.lemmas.Option.{none-some, same_Some}
use Rattle.law_model.specs.Trace.{Entry, Sent, Noise, entry_begin, entry_end}
use Rattle.law_runs.specs.Judging.{StandsFrom}
use Rattle.pb_export.specs.declared.options.Window.{Window}
use Rattle.pb_export.specs.declared.options.Strings.{Strings}
use Rattle.pb_export.specs.declared.options.Strings.TheVariants.{Shown, LeftOut}
use Rattle.pb_export.specs.declared.levels.Level.{Level}
use Rattle.pb_export.specs.declared.levels.Level.TheVariants.{High}
use Rattle.pb_export.specs.Levels.{bus_at, bus_from, bus_with, is_on, joined}
use Rattle.pb_export.specs.Windows.{is_shown}
use Rattle.pb_export.specs.Vcd.{entry_change, level_change, line_change, moment, moments, name_change, named_at, named_from, named_with, stamped}
use Rattle.pb_export.specs.Waves.{AreOver, AreToCome, level_behind, named_behind}
use Rattle.pb_texts.proofs.Taps.{dropped}

-- ---- which are over, and which are to come

from-any : (from : ℕ) (es : List Entry) → StandsFrom from es → StandsFrom 0 es
from-any from [] stands = tt
from-any from (e ∷ es) (here, rest) = (omega arith, rest)

stands-drop : (from i : ℕ) (es : List Entry) → StandsFrom from es → StandsFrom 0 (drop i es)
stands-drop from zero es stands = from-any from es stands
stands-drop from (suc i) [] stands = tt
stands-drop from (suc i) (e ∷ es) (here, rest) = stands-drop (entry_begin e) i es rest

come-from : (t from : ℕ) (es : List Entry) → t < from → StandsFrom from es → AreToCome t es
come-from t from [] less stands = tt
come-from t from (e ∷ es) less (here, rest) =
    let later : t < entry_begin e = omega (arith, less, here) in
    (later, come-from t (entry_begin e) es later rest)

pub come-at : (t i : ℕ) (es : List Entry) (e : Entry) → StandsFrom 0 es → slice_get es i ≡ Some e → t < entry_begin e → AreToCome t (drop i es)
come-at t i es e stands here less =
    let tail = drop (i + 1) es in
    let behind : StandsFrom 0 (e ∷ tail) = subst (StandsFrom 0) (dropped es i e here) (stands-drop 0 i es stands) in
    subst (AreToCome t) (sym (dropped es i e here)) (less, come-from t (entry_begin e) tail less behind.1)

pub over-more : (t i : ℕ) (es : List Entry) (e : Entry) → slice_get es i ≡ Some e → entry_end e ≤ t → AreOver t (take i es) → AreOver t (take (i + 1) es)
over-more t i [] e here over before = absurd (none-some e here)
over-more t zero (x ∷ xs) e here over before = (subst (λ (y : Entry). entry_end y ≤ t) (sym (same_Some x e here)) over, tt)
over-more t (suc i) (x ∷ xs) e here over (first, rest) =
    let place : suc (i + 1) ≡ suc i + 1 = omega arith in
    subst (λ (n : ℕ). AreOver t (take n (x ∷ xs))) place (first, over-more t i xs e here over rest)

pub over-later : (t u : ℕ) (es : List Entry) → t ≤ u → AreOver t es → AreOver u es
over-later t u [] later over = tt
over-later t u (e ∷ es) later (here, rest) = (omega (arith, later, here), over-later t u es later rest)

-- ---- neither is on the bus

pub off-over : (w : Window) (e : Entry) (t : ℕ) → entry_end e ≤ t → is_on w e t ≡ false
off-over w e t over = by (is_on w e t) refl
  where
    by : (b : Bool) → is_on w e t ≡ b → is_on w e t ≡ false
    by false off = off
    by true on =
        let less = ltb-true t (entry_end e) (and_parts (is_shown w e && nat_le (entry_begin e) t) (nat_lt t (entry_end e)) on).1 in
        absurd (omega (arith, over, less))

pub off-come : (w : Window) (e : Entry) (t : ℕ) → t < entry_begin e → is_on w e t ≡ false
off-come w e t less = by (is_on w e t) refl
  where
    by : (b : Bool) → is_on w e t ≡ b → is_on w e t ≡ false
    by false off = off
    by true on =
        let both = (and_parts (is_shown w e && nat_le (entry_begin e) t) (nat_lt t (entry_end e)) on).0 in
        let begun = leb-true (entry_begin e) t (and_parts (is_shown w e) (nat_le (entry_begin e) t) both).1 in
        absurd (omega (arith, less, begun))

-- ---- the lines

pub no-change : (w : Window) (t : ℕ) (e : Entry) → is_on w e t ≡ false → entry_change w t e ≡ []
no-change w t (Noise span) off = refl
no-change w t (Sent r) off = ap (λ (b : Bool). if b then line_change r t else []) off

lines-over : (w : Window) (t i : ℕ) (es : List Entry) → AreOver t (take i es) → flat_map (entry_change w t) es ≡ flat_map (entry_change w t) (drop i es)
lines-over w t zero es over = refl
lines-over w t (suc i) [] over = refl
lines-over w t (suc i) (e ∷ es) (here, rest) =
    ap (λ (z : List ℕ). z ++ flat_map (entry_change w t) es) (no-change w t e (off-over w e t here)) ∙ lines-over w t i es rest

pub lines-none : (w : Window) (t : ℕ) (es : List Entry) → AreToCome t es → flat_map (entry_change w t) es ≡ []
lines-none w t [] come = refl
lines-none w t (e ∷ es) (here, rest) =
    ap (λ (z : List ℕ). z ++ flat_map (entry_change w t) es) (no-change w t e (off-come w e t here)) ∙ lines-none w t es rest

lines-come : (w : Window) (t n : ℕ) (es : List Entry) → AreToCome t (drop n es) → flat_map (entry_change w t) es ≡ flat_map (entry_change w t) (take n es)
lines-come w t zero es come = lines-none w t es come
lines-come w t (suc n) [] come = refl
lines-come w t (suc n) (e ∷ es) come = ap (λ (z : List ℕ). entry_change w t e ++ z) (lines-come w t n es come)

-- ---- the bus

bus-over : (w : Window) (t : ℕ) (bus : Level) (i : ℕ) (es : List Entry) → AreOver t (take i es) → bus_from w bus es t ≡ bus_from w bus (drop i es) t
bus-over w t bus zero es over = refl
bus-over w t bus (suc i) [] over = refl
bus-over w t bus (suc i) (e ∷ es) (here, rest) =
    ap (λ (b : Bool). bus_from w (if b then joined bus e t else bus) es t) (off-over w e t here) ∙ bus-over w t bus i es rest

pub bus-none : (w : Window) (t : ℕ) (bus : Level) (es : List Entry) → AreToCome t es → bus_from w bus es t ≡ bus
bus-none w t bus [] come = refl
bus-none w t bus (e ∷ es) (here, rest) =
    ap (λ (b : Bool). bus_from w (if b then joined bus e t else bus) es t) (off-come w e t here) ∙ bus-none w t bus es rest

bus-come : (w : Window) (t : ℕ) (bus : Level) (n : ℕ) (es : List Entry) → AreToCome t (drop n es) → bus_from w bus es t ≡ bus_from w bus (take n es) t
bus-come w t bus zero es come = bus-none w t bus es come
bus-come w t bus (suc n) [] come = refl
bus-come w t bus (suc n) (e ∷ es) come = bus-come w t (bus_with w bus e t) n es come

-- ---- the name

named-over : (w : Window) (t place : ℕ) (found : Option ℕ) (i : ℕ) (es : List Entry) → AreOver t (take i es)
    → named_from w t place found es ≡ named_from w t (place + i) found (drop i es)
named-over w t place found zero es over =
    let same : place ≡ place + zero = omega arith in
    ap (λ (p : ℕ). named_from w t p found es) same
named-over w t place found (suc i) [] over = refl
named-over w t place found (suc i) (e ∷ es) (here, rest) =
    let same : place + 1 + i ≡ place + suc i = omega arith in
    ap (λ (b : Bool). named_from w t (place + 1) (if b then Some place else found) es) (off-over w e t here)
    ∙ named-over w t (place + 1) found i es rest ∙ ap (λ (p : ℕ). named_from w t p found (drop i es)) same

pub named-none : (w : Window) (t place : ℕ) (found : Option ℕ) (es : List Entry) → AreToCome t es → named_from w t place found es ≡ found
named-none w t place found [] come = refl
named-none w t place found (e ∷ es) (here, rest) =
    ap (λ (b : Bool). named_from w t (place + 1) (if b then Some place else found) es) (off-come w e t here) ∙ named-none w t (place + 1) found es rest

named-come : (w : Window) (t place : ℕ) (found : Option ℕ) (n : ℕ) (es : List Entry) → AreToCome t (drop n es)
    → named_from w t place found es ≡ named_from w t place found (take n es)
named-come w t place found zero es come = named-none w t place found es come
named-come w t place found (suc n) [] come = refl
named-come w t place found (suc n) (e ∷ es) come = named-come w t (place + 1) (named_with w t place found e) n es come

-- ---- what is seen of all of them

pub drop-between : {X : Type 0} (first next : ℕ) (xs : List X) → first ≤ next → drop next xs ≡ drop (next - first) (drop first xs)
drop-between zero next xs less =
    let same : next ≡ next - zero = omega arith in
    ap (λ (n : ℕ). drop n xs) same
drop-between (suc i) next [] less = drop_all next [] (omega arith) ∙ sym (drop_all (next - suc i) [] (omega arith))
drop-between (suc i) zero (x ∷ xs) less = absurd (omega (arith, less))
drop-between (suc i) (suc m) (x ∷ xs) less =
    let same : m - i ≡ suc m - suc i = omega arith in
    drop-between i m xs (omega (arith, less)) ∙ ap (λ (n : ℕ). drop n (drop i xs)) same

come-between : (t first next : ℕ) (es : List Entry) → first ≤ next → AreToCome t (drop next es) → AreToCome t (drop (next - first) (drop first es))
come-between t first next es less come = subst (AreToCome t) (drop-between first next es less) come

pub lines-seen : (w : Window) (t first next : ℕ) (es : List Entry) → first ≤ next → AreOver t (take first es) → AreToCome t (drop next es)
    → flat_map (entry_change w t) es ≡ flat_map (entry_change w t) (take (next - first) (drop first es))
lines-seen w t first next es less over come =
    lines-over w t first es over ∙ lines-come w t (next - first) (drop first es) (come-between t first next es less come)

pub bus-seen : (w : Window) (t first next : ℕ) (es : List Entry) → first ≤ next → AreOver t (take first es) → AreToCome t (drop next es)
    → bus_at w es t ≡ bus_from w High (take (next - first) (drop first es)) t
bus-seen w t first next es less over come =
    bus-over w t High first es over ∙ bus-come w t High (next - first) (drop first es) (come-between t first next es less come)

pub named-seen : (w : Window) (t place first next : ℕ) (es : List Entry) → first ≤ next → AreOver t (take first es) → AreToCome t (drop next es)
    → named_at w place es t ≡ named_from w t (place + first) None (take (next - first) (drop first es))
named-seen w t place first next es less over come =
    named-over w t place None first es over
    ∙ named-come w t (place + first) None (next - first) (drop first es) (come-between t first next es less come)

-- ---- a moment at which the bus is idle

pub come-earlier : (t u : ℕ) (es : List Entry) → t ≤ u → AreToCome u es → AreToCome t es
come-earlier t u [] less come = tt
come-earlier t u (e ∷ es) less (here, rest) = (omega (arith, less, here), come-earlier t u es less rest)

-- nothing is on the bus
pub record IsIdle (w : Window) (place : ℕ) (es : List Entry) (t : ℕ) : Type 0 where
  pub lines : flat_map (entry_change w t) es ≡ []
  pub bus : bus_at w es t ≡ High
  pub named : named_at w place es t ≡ None

pub idle : (w : Window) (t place first next : ℕ) (es : List Entry) → first ≤ next → next ≤ first → AreOver t (take first es) → AreToCome t (drop next es) → IsIdle w place es t
idle w t place first next es less same over come =
    let none : next - first ≡ 0 = omega (arith, same) in
    record {
      lines = lines-seen w t first next es less over come ∙ ap (λ (n : ℕ). flat_map (entry_change w t) (take n (drop first es))) none;
      bus = bus-seen w t first next es less over come ∙ ap (λ (n : ℕ). bus_from w High (take n (drop first es)) t) none;
      named = named-seen w t place first next es less over come ∙ ap (λ (n : ℕ). named_from w t (place + first) None (take n (drop first es))) none;
    }

unnamed : (strings : Strings) (place : ℕ) (es : List Entry) → name_change strings place es None None ≡ []
unnamed Shown place es = refl
unnamed LeftOut place es = refl

-- such a moment changes nothing of an idle bus
idle-moment : (baud : ℕ) (strings : Strings) (w : Window) (place : ℕ) (es : List Entry) (t : ℕ) → IsIdle w place es t → moment baud strings w place es High None t ≡ []
idle-moment baud strings w place es t is =
    ap (λ (z : List ℕ). stamped baud t (z ++ level_change High (bus_at w es t) ++ name_change strings place es None (named_at w place es t))) is.lines
    ∙ ap (λ (l : Level). stamped baud t (level_change High l ++ name_change strings place es None (named_at w place es t))) is.bus
    ∙ ap (λ (n : Option ℕ). stamped baud t (level_change High High ++ name_change strings place es None n)) is.named
    ∙ ap (stamped baud t) (unnamed strings place es)

-- nor do many of them
abbrev IsQuiet : Window → (place : ℕ) → List Entry → (t k : ℕ) → Type 0
IsQuiet w place es t k = (i : ℕ) → t ≤ i → i < t + k → IsIdle w place es i

quiet-later : (w : Window) (place : ℕ) (es : List Entry) (t k : ℕ) → IsQuiet w place es t (suc k) → IsQuiet w place es (t + 1) k
quiet-later w place es t k quiet i from to = quiet i (omega (arith, from)) (omega (arith, to))

quiet-moments : (baud : ℕ) (strings : Strings) (w : Window) (place : ℕ) (es : List Entry) (t k n : ℕ) → IsQuiet w place es t k
    → moments baud strings w place es High None t (k + n) ≡ moments baud strings w place es High None (t + k) n
quiet-moments baud strings w place es t zero n quiet =
    let same : t ≡ t + zero = omega arith in
    let all : zero + n ≡ n = omega arith in
    ap (moments baud strings w place es High None t) all ∙ ap (λ (i : ℕ). moments baud strings w place es High None i n) same
quiet-moments baud strings w place es t (suc k) n quiet =
    let is = quiet t (omega arith) (omega arith) in
    let same : t + 1 + k ≡ t + suc k = omega arith in
    let one : suc k + n ≡ suc (k + n) = omega arith in
    ap (moments baud strings w place es High None t) one
    ∙ ap (λ (z : List ℕ). z ++ moments baud strings w place es (bus_at w es t) (named_at w place es t) (t + 1) (k + n)) (idle-moment baud strings w place es t is)
    ∙ ap (λ (l : Level). moments baud strings w place es l (named_at w place es t) (t + 1) (k + n)) is.bus
    ∙ ap (λ (o : Option ℕ). moments baud strings w place es High o (t + 1) (k + n)) is.named
    ∙ quiet-moments baud strings w place es (t + 1) k n (quiet-later w place es t k quiet)
    ∙ ap (λ (i : ℕ). moments baud strings w place es High None i n) same

quiet-level : (w : Window) (place : ℕ) (es : List Entry) (t k n : ℕ) → IsQuiet w place es t k → level_behind w es High t (k + n) ≡ level_behind w es High (t + k) n
quiet-level w place es t zero n quiet =
    let same : t ≡ t + zero = omega arith in
    let all : zero + n ≡ n = omega arith in
    ap (level_behind w es High t) all ∙ ap (λ (i : ℕ). level_behind w es High i n) same
quiet-level w place es t (suc k) n quiet =
    let is = quiet t (omega arith) (omega arith) in
    let same : t + 1 + k ≡ t + suc k = omega arith in
    let one : suc k + n ≡ suc (k + n) = omega arith in
    ap (level_behind w es High t) one
    ∙ ap (λ (l : Level). level_behind w es l (t + 1) (k + n)) is.bus ∙ quiet-level w place es (t + 1) k n (quiet-later w place es t k quiet)
    ∙ ap (λ (i : ℕ). level_behind w es High i n) same

quiet-named : (w : Window) (place : ℕ) (es : List Entry) (t k n : ℕ) → IsQuiet w place es t k
    → named_behind w place es None t (k + n) ≡ named_behind w place es None (t + k) n
quiet-named w place es t zero n quiet =
    let same : t ≡ t + zero = omega arith in
    let all : zero + n ≡ n = omega arith in
    ap (named_behind w place es None t) all ∙ ap (λ (i : ℕ). named_behind w place es None i n) same
quiet-named w place es t (suc k) n quiet =
    let is = quiet t (omega arith) (omega arith) in
    let same : t + 1 + k ≡ t + suc k = omega arith in
    let one : suc k + n ≡ suc (k + n) = omega arith in
    ap (named_behind w place es None t) one
    ∙ ap (λ (o : Option ℕ). named_behind w place es o (t + 1) (k + n)) is.named ∙ quiet-named w place es (t + 1) k n (quiet-later w place es t k quiet)
    ∙ ap (λ (i : ℕ). named_behind w place es None i n) same

-- ---- a turn of the walk

-- a walk goes from a moment to a later one: those between are quiet, and the bus is idle before them
pub record Skips (w : Window) (place : ℕ) (es : List Entry) (level : Level) (named : Option ℕ) (now next : ℕ) : Type 0 where
  pub after : now < next
  pub is_high : now + 1 < next → level ≡ High
  pub is_unnamed : now + 1 < next → named ≡ None
  pub quiet : now + 1 < next → (i : ℕ) → now < i → i < next → IsIdle w place es i

pub skips : (w : Window) (place first next : ℕ) (es : List Entry) (level : Level) (named : Option ℕ) (now to : ℕ) → first ≤ next → now < to
    → AreOver now (take first es) → AreToCome now (drop next es) → level ≡ bus_at w es now → named ≡ named_at w place es now
    → (now + 1 < to → next ≤ first) → (now + 1 < to → AreToCome (to - 1) (drop next es)) → Skips w place es level named now to
skips w place first next es level named now to less after over come bus name idles comes = record {
  after = after;
  is_high = λ far. bus ∙ (idle w now place first next es less (idles far) over come).bus;
  is_unnamed = λ far. name ∙ (idle w now place first next es less (idles far) over come).named;
  quiet = λ far i from below. idle w i place first next es less (idles far) (over-later now i (take first es) (omega (arith, from)) over)
      (come-earlier i (to - 1) (drop next es) (omega (arith, below)) (comes far));
}

quiet-between : (w : Window) (place : ℕ) (es : List Entry) (level : Level) (named : Option ℕ) (now to : ℕ) → Skips w place es level named now to → now + 1 < to
    → IsQuiet w place es (now + 1) (to - (now + 1))
quiet-between w place es level named now to s far i from below = s.quiet far i (omega (arith, from)) (omega (arith, below, far))

pub moments-skip : (baud : ℕ) (strings : Strings) (w : Window) (place : ℕ) (es : List Entry) (level : Level) (named : Option ℕ) (now to end : ℕ)
    → Skips w place es level named now to → to ≤ end
    → moments baud strings w place es level named (now + 1) (end - (now + 1)) ≡ moments baud strings w place es level named to (end - to)
moments-skip baud strings w place es level named now to end s bound = by (eq-or-lt_of_le {n = now + 1} {m = to} (omega (arith, s.after)))
  where
    by : ((now + 1) ≡ to) ⊎ (now + 1 < to) → moments baud strings w place es level named (now + 1) (end - (now + 1)) ≡ moments baud strings w place es level named to (end - to)
    by (inl same) = ap (λ (i : ℕ). moments baud strings w place es level named i (end - i)) same
    by (inr far) =
        let k = to - (now + 1) in
        let n = end - to in
        let all : end - (now + 1) ≡ k + n = omega (arith, bound, far) in
        let there : now + 1 + k ≡ to = omega (arith, far) in
        ap (λ (l : Level). moments baud strings w place es l named (now + 1) (end - (now + 1))) (s.is_high far)
        ∙ ap (λ (o : Option ℕ). moments baud strings w place es High o (now + 1) (end - (now + 1))) (s.is_unnamed far)
        ∙ ap (λ (m : ℕ). moments baud strings w place es High None (now + 1) m) all
        ∙ quiet-moments baud strings w place es (now + 1) k n (quiet-between w place es level named now to s far)
        ∙ ap (λ (i : ℕ). moments baud strings w place es High None i n) there
        ∙ ap (λ (l : Level). moments baud strings w place es l None to n) (sym (s.is_high far))
        ∙ ap (λ (o : Option ℕ). moments baud strings w place es level o to n) (sym (s.is_unnamed far))

-- one moment more, and the quiet ones behind it
pub moments-step : (baud : ℕ) (strings : Strings) (w : Window) (place : ℕ) (es : List Entry) (level : Level) (named : Option ℕ) (after-level : Level)
    (after-named : Option ℕ) (t to end : ℕ) (text after all : List ℕ) → to ≤ end → after ≡ text ++ moment baud strings w place es level named t
    → after-level ≡ bus_at w es t → after-named ≡ named_at w place es t → Skips w place es after-level after-named t to
    → text ++ moments baud strings w place es level named t (end - t) ≡ all
    → after ++ moments baud strings w place es after-level after-named to (end - to) ≡ all
moments-step baud strings w place es level named after-level after-named t to end text after all bound is bus name s so_far =
    let left = end - (t + 1) in
    let piece = moment baud strings w place es level named t in
    let rest = moments baud strings w place es (bus_at w es t) (named_at w place es t) (t + 1) left in
    let one : end - t ≡ suc left = omega (arith, s.after, bound) in
    ap (λ (z : List ℕ). after ++ z) (sym (moments-skip baud strings w place es after-level after-named t to end s bound))
    ∙ ap (λ (l : Level). after ++ moments baud strings w place es l after-named (t + 1) left) bus
    ∙ ap (λ (n : Option ℕ). after ++ moments baud strings w place es (bus_at w es t) n (t + 1) left) name
    ∙ ap (λ (z : List ℕ). z ++ rest) is ∙ append_assoc text piece rest
    ∙ ap (λ (z : List ℕ). text ++ z) (sym (ap (moments baud strings w place es level named t) one)) ∙ so_far

pub level-step : (w : Window) (place : ℕ) (es : List Entry) (level after-level all : Level) (after-named : Option ℕ) (t to end : ℕ) → to ≤ end
    → after-level ≡ bus_at w es t → Skips w place es after-level after-named t to → level_behind w es level t (end - t) ≡ all
    → level_behind w es after-level to (end - to) ≡ all
level-step w place es level after-level all after-named t to end bound bus s so_far =
    by (eq-or-lt_of_le {n = t + 1} {m = to} (omega (arith, s.after)))
  where
    here : level_behind w es after-level (t + 1) (end - (t + 1)) ≡ all
    here =
        let one : end - t ≡ suc (end - (t + 1)) = omega (arith, s.after, bound) in
        ap (λ (l : Level). level_behind w es l (t + 1) (end - (t + 1))) bus ∙ sym (ap (level_behind w es level t) one) ∙ so_far

    by : ((t + 1) ≡ to) ⊎ (t + 1 < to) → level_behind w es after-level to (end - to) ≡ all
    by (inl same) = ap (λ (i : ℕ). level_behind w es after-level i (end - i)) (sym same) ∙ here
    by (inr far) =
        let k = to - (t + 1) in
        let n = end - to in
        let whole : k + n ≡ end - (t + 1) = omega (arith, bound, far) in
        let there : to ≡ t + 1 + k = omega (arith, far) in
        ap (λ (l : Level). level_behind w es l to n) (s.is_high far) ∙ ap (λ (i : ℕ). level_behind w es High i n) there
        ∙ sym (quiet-level w place es (t + 1) k n (quiet-between w place es after-level after-named t to s far))
        ∙ ap (λ (m : ℕ). level_behind w es High (t + 1) m) whole
        ∙ ap (λ (l : Level). level_behind w es l (t + 1) (end - (t + 1))) (sym (s.is_high far)) ∙ here

pub named-step : (w : Window) (place : ℕ) (es : List Entry) (after-level : Level) (named after-named all : Option ℕ) (t to end : ℕ) → to ≤ end
    → after-named ≡ named_at w place es t → Skips w place es after-level after-named t to → named_behind w place es named t (end - t) ≡ all
    → named_behind w place es after-named to (end - to) ≡ all
named-step w place es after-level named after-named all t to end bound name s so_far =
    by (eq-or-lt_of_le {n = t + 1} {m = to} (omega (arith, s.after)))
  where
    here : named_behind w place es after-named (t + 1) (end - (t + 1)) ≡ all
    here =
        let one : end - t ≡ suc (end - (t + 1)) = omega (arith, s.after, bound) in
        ap (λ (o : Option ℕ). named_behind w place es o (t + 1) (end - (t + 1))) name ∙ sym (ap (named_behind w place es named t) one) ∙ so_far

    by : ((t + 1) ≡ to) ⊎ (t + 1 < to) → named_behind w place es after-named to (end - to) ≡ all
    by (inl same) = ap (λ (i : ℕ). named_behind w place es after-named i (end - i)) (sym same) ∙ here
    by (inr far) =
        let k = to - (t + 1) in
        let n = end - to in
        let whole : k + n ≡ end - (t + 1) = omega (arith, bound, far) in
        let there : to ≡ t + 1 + k = omega (arith, far) in
        ap (λ (o : Option ℕ). named_behind w place es o to n) (s.is_unnamed far) ∙ ap (λ (i : ℕ). named_behind w place es None i n) there
        ∙ sym (quiet-named w place es (t + 1) k n (quiet-between w place es after-level after-named t to s far))
        ∙ ap (λ (m : ℕ). named_behind w place es None (t + 1) m) whole
        ∙ ap (λ (o : Option ℕ). named_behind w place es o (t + 1) (end - (t + 1))) (sym (s.is_unnamed far)) ∙ here
