-- What is left of a list of steps at a moment.
use Rattle.std.proofs.Common.{◌≡◌, ◌≢◌, ◌∙◌, ap, sym, subst, refl, arith, ℕ, zero, suc, ◌+◌, ◌<◌, ◌≤◌, Bool, true, false, cond, List, [], ◌∷◌, ◌++◌, length, take, drop, Option, Some, None, max, append-nil}
use Rattle.std.specs.Prelude.{if◌then◌else◌, nat_lt, nat_le, ◌==◌, slice_index, slice_set, replicate, min, ◌&&◌}
use Rattle.std.specs.List.{filter_map, cons_option, prefix_len}
use Rattle.std.proofs.lemmas.List.Elements.{filter_map-append}
use Rattle.std.proofs.lemmas.List.{get_or-set_other, length-set, get_or-replicate, length-replicate}
use Rattle.std.proofs.lemmas.Grind.{get_or-set_at}
use Rattle.std.proofs.lemmas.Bool.{eqb-false, ltb-true, ltb-false, eqb-true, ne_eqb, eq-eqb, le-leb, lt-leb, lt-ltb, le-ltb}
use Rattle.law_turn.specs.Stations.{earlier}
use Rattle.law_model.specs.World.{Event}
use Rattle.law_runs.specs.Runs.{after, comes, next_turn, next, onward, wants}
use Rattle.law_runs.specs.Scenarios.{Deed, Happens, Withhold, Planned, event_before, event_after, deed_holds, holds_until, held_until, next_step, plan_of}
use Rattle.pb_scenario.specs.Coming.{comes_in, next_turn_in, onward_to, wants_in}
use Rattle.pb_scenario.specs.Walks.{AreFrom, AreBefore, held_by, hold_tap, hold_one, hold_all, IsAhead, IsLeft, Advances, first_at}

-- ---- order

pub from-earlier : (m n : ℕ) (steps : List Planned) → n ≤ m → AreFrom m steps → AreFrom n steps
from-earlier m n [] le from = tt
from-earlier m n (s ∷ steps) le from = (omega (arith, le, from.0), from.1)

-- steps in order, cut where they no longer stand before a moment
pub before-front : (at : ℕ) (steps : List Planned) → AreBefore at (take (prefix_len (λ s. nat_lt s.at at) steps) steps)
before-front at [] = tt
before-front at (s ∷ steps) = by (before-front at steps) (nat_lt s.at at) refl
  where
    by : AreBefore at (take (prefix_len (λ s. nat_lt s.at at) steps) steps) → (b : Bool) → nat_lt s.at at ≡ b
        → AreBefore at (take (cond b (1 + prefix_len (λ s. nat_lt s.at at) steps) 0) (s ∷ steps))
    by more true is = let same : suc (prefix_len (λ s. nat_lt s.at at) steps) ≡ 1 + prefix_len (λ s. nat_lt s.at at) steps = omega arith in
        subst (λ n. AreBefore at (take n (s ∷ steps))) same (ltb-true s.at at is, more)
    by more false is = tt

pub from-back : (m at : ℕ) (steps : List Planned) → AreFrom m steps → AreFrom at (drop (prefix_len (λ s. nat_lt s.at at) steps) steps)
from-back m at [] from = tt
from-back m at (s ∷ steps) from = by (from-back s.at at steps from.1) (nat_lt s.at at) refl
  where
    by : AreFrom at (drop (prefix_len (λ s. nat_lt s.at at) steps) steps) → (b : Bool) → nat_lt s.at at ≡ b
        → AreFrom at (drop (cond b (1 + prefix_len (λ s. nat_lt s.at at) steps) 0) (s ∷ steps))
    by more true is = let same : suc (prefix_len (λ s. nat_lt s.at at) steps) ≡ 1 + prefix_len (λ s. nat_lt s.at at) steps = omega arith in
        subst (λ n. AreFrom at (drop n (s ∷ steps))) same more
    by more false is = (ltb-false s.at at is, from.1)

pub from-front : (m n : ℕ) (steps : List Planned) → AreFrom m steps → AreFrom m (take n steps)
from-front m zero steps from = tt
from-front m (suc n) [] from = tt
from-front m (suc n) (s ∷ steps) from = (from.0, from-front s.at n steps from.1)

-- ---- events

-- what some steps say at a moment, where none of them stands there
says-none : (f : Deed → Option Event) (m : ℕ) (s : Planned) (xs : List Event) → s.at ≢ m → cons_option (if s.at == m then f s.deed else None) xs ≡ xs
says-none f m s xs other = ap (λ b. cons_option (if b then f s.deed else None) xs) (ne_eqb s.at m other)

abbrev said : (Deed → Option Event) → ℕ → List Planned → List Event
said f m steps = filter_map (λ s. if s.at == m then f s.deed else None) steps

before-says-none : (f : Deed → Option Event) (at m : ℕ) (steps : List Planned) → at ≤ m → AreBefore at steps → said f m steps ≡ []
before-says-none f at m [] le before = refl
before-says-none f at m (s ∷ steps) le before =
    says-none f m s (said f m steps) (λ same. omega (arith, same, before.0, le)) ∙ before-says-none f at m steps le before.1

from-says-none : (f : Deed → Option Event) (at m : ℕ) (steps : List Planned) → m < at → AreFrom at steps → said f m steps ≡ []
from-says-none f at m [] less from = refl
from-says-none f at m (s ∷ steps) less from =
    says-none f m s (said f m steps) (λ same. omega (arith, same, from.0, less)) ∙ from-says-none f s.at m steps (omega (arith, from.0, less)) from.1

-- steps that all stand at a moment say there what they do
now-says : (f : Deed → Option Event) (at : ℕ) (steps : List Planned) → AreFrom at steps → AreBefore (at + 1) steps → said f at steps ≡ filter_map (λ s. f s.deed) steps
now-says f at [] from before = refl
now-says f at (s ∷ steps) from before =
    let same : s.at ≡ at = omega (arith, from.0, before.0) in
    ap (λ b. cons_option (if b then f s.deed else None) (said f at steps)) (eq-eqb s.at at same)
    ∙ ap (cons_option (f s.deed)) (now-says f at steps (from-earlier s.at at steps from.0 from.1) before.1)

-- ---- the next step

pub after-none : (now m : ℕ) → m ≤ now → after now (Some m) ≡ None
after-none now m le = ap (λ b. if b then Some m else None) (le-ltb now m le)

pub after-some : (now m : ℕ) → now < m → after now (Some m) ≡ Some m
after-some now m less = ap (λ b. if b then Some m else None) (lt-ltb now m less)

before-next : (at m : ℕ) (xs ys : List Planned) → at ≤ m + 1 → AreBefore at xs → next_step (xs ++ ys) m ≡ next_step ys m
before-next at m [] ys le before = refl
before-next at m (s ∷ xs) ys le before =
    ap (λ o. earlier o (next_step (xs ++ ys) m)) (after-none m s.at (omega (arith, before.0, le))) ∙ before-next at m xs ys le before.1

-- ---- withholding

held_until-append : (at m tap : ℕ) (xs ys : List Planned) → at ≤ m + 1 → AreBefore at xs → held_until (xs ++ ys) m tap ≡ max (held_by xs tap) (held_until ys m tap)
held_until-append at m tap [] ys le before = omega arith
held_until-append at m tap (s ∷ xs) ys le before =
    let one : holds_until m tap s ≡ deed_holds tap s.at s.deed = ap (λ b. if b then deed_holds tap s.at s.deed else 0) (le-leb s.at m (omega (arith, before.0, le))) in
    omega (arith, one, held_until-append at m tap xs ys le before.1)

pub held_until-from : (at m tap : ℕ) (steps : List Planned) → m < at → AreFrom at steps → held_until steps m tap ≡ 0
held_until-from at m tap [] less from = refl
held_until-from at m tap (s ∷ steps) less from =
    let one : holds_until m tap s ≡ 0 = ap (λ b. if b then deed_holds tap s.at s.deed else 0) (lt-leb s.at m (omega (arith, from.0, less))) in
    omega (arith, one, held_until-from s.at m tap steps (omega (arith, from.0, less)) from.1)

get-hold_tap : (held : List ℕ) (tap until i : ℕ) → i < length held → slice_index (hold_tap held tap until) i ≡ (if tap == i then max (slice_index held i) until else slice_index held i)
get-hold_tap held tap until i less = by (nat_lt tap (length held)) (tap == i) refl refl
  where
    by : (a b : Bool) → nat_lt tap (length held) ≡ a → (tap == i) ≡ b
        → slice_index (if a then slice_set held tap (max (slice_index held tap) until) else held) i ≡ (if b then max (slice_index held i) until else slice_index held i)
    by true true there same =
        let is : i ≡ tap = sym (eqb-true tap i same) in
        get_or-set_at held tap i (max (slice_index held tap) until) 0 is (ltb-true tap (length held) there) ∙ ap (λ n. max (slice_index held n) until) (sym is)
    by true false there other = get_or-set_other held tap i (max (slice_index held tap) until) 0 (λ is. eqb-false tap i other (sym is))
    by false true there same = absurd (omega (arith, less, eqb-true tap i same, ltb-false tap (length held) there))
    by false false there other = refl

length-hold_tap : (held : List ℕ) (tap until : ℕ) → length (hold_tap held tap until) ≡ length held
length-hold_tap held tap until = by (nat_lt tap (length held))
  where
    by : (a : Bool) → length (if a then slice_set held tap (max (slice_index held tap) until) else held) ≡ length held
    by true = length-set held tap (max (slice_index held tap) until)
    by false = refl

get-hold_one : (held : List ℕ) (at : ℕ) (deed : Deed) (i : ℕ) → i < length held → slice_index (hold_one held at deed) i ≡ max (slice_index held i) (deed_holds i at deed)
get-hold_one held at (Happens e) i less = omega arith
get-hold_one held at (Withhold of bits) i less = get-hold_tap held of (at + bits) i less ∙ by (of == i)
  where
    by : (b : Bool) → (if b then max (slice_index held i) (at + bits) else slice_index held i) ≡ max (slice_index held i) (if b then at + bits else 0)
    by true = refl
    by false = omega arith

pub length-hold_one : (held : List ℕ) (at : ℕ) (deed : Deed) → length (hold_one held at deed) ≡ length held
length-hold_one held at (Happens e) = refl
length-hold_one held at (Withhold of bits) = length-hold_tap held of (at + bits)

pub length-hold_all : (held : List ℕ) (steps : List Planned) → length (hold_all held steps) ≡ length held
length-hold_all held [] = refl
length-hold_all held (s ∷ steps) = length-hold_all (hold_one held s.at s.deed) steps ∙ length-hold_one held s.at s.deed

-- what is noted of a tap
pub get-hold_all : (held : List ℕ) (steps : List Planned) (i : ℕ) → i < length held → slice_index (hold_all held steps) i ≡ max (slice_index held i) (held_by steps i)
get-hold_all held [] i less = omega arith
get-hold_all held (s ∷ steps) i less =
    omega (arith, get-hold_all (hold_one held s.at s.deed) steps i (omega (arith, less, length-hold_one held s.at s.deed)), get-hold_one held s.at s.deed i less)

-- ---- advancing

-- what a list says where it is cut
said-cut : (f : Deed → Option Event) (m : ℕ) (past today rest : List Planned) → said f m (past ++ (today ++ rest)) ≡ said f m past ++ (said f m today ++ said f m rest)
said-cut f m past today rest =
    filter_map-append (λ s. if s.at == m then f s.deed else None) past (today ++ rest)
    ∙ ap (λ xs. said f m past ++ xs) (filter_map-append (λ s. if s.at == m then f s.deed else None) today rest)

-- at the moment only its own steps say something
said-now : (f : Deed → Option Event) (at : ℕ) (later past today rest : List Planned) → later ≡ past ++ (today ++ rest) → AreBefore at past → AreFrom at today → AreBefore (at + 1) today → AreFrom (at + 1) rest
    → said f at later ≡ filter_map (λ s. f s.deed) today
said-now f at later past today rest cut before from now after =
    ap (said f at) cut ∙ said-cut f at past today rest
    ∙ ap (λ xs. xs ++ (said f at today ++ said f at rest)) (before-says-none f at at past (omega arith) before)
    ∙ ap (λ xs. said f at today ++ xs) (from-says-none f (at + 1) at rest (omega arith) after)
    ∙ append-nil (said f at today) ∙ now-says f at today from now

-- after it only the later steps do
said-later : (f : Deed → Option Event) (at m : ℕ) (later past today rest : List Planned) → at + 1 ≤ m → later ≡ past ++ (today ++ rest) → AreBefore at past → AreBefore (at + 1) today
    → said f m later ≡ said f m rest
said-later f at m later past today rest le cut before now =
    ap (said f m) cut ∙ said-cut f m past today rest
    ∙ ap (λ xs. xs ++ (said f m today ++ said f m rest)) (before-says-none f at m past (omega (arith, le)) before)
    ∙ ap (λ xs. xs ++ said f m rest) (before-says-none f (at + 1) m today le now)

pub left-advances : (steps : List Planned) (from : ℕ) (later : List Planned) (held : List ℕ) (at : ℕ) (today rest : List Planned) (next : List ℕ)
    → IsAhead steps from later held → from ≤ at → Advances later at today rest held next → IsLeft steps at today rest next
left-advances steps from later held at today rest next ahead le cut =
    let past = cut.past in
    record {
      early = ahead.early at le ∙ said-now event_before at later past today rest cut.cut cut.before cut.from cut.now cut.after;
      late = ahead.late at le ∙ said-now event_after at later past today rest cut.cut cut.before cut.from cut.now cut.after;
      ahead = record {
        order = cut.after;
        early = λ m less. ahead.early m (omega (arith, le, less)) ∙ said-later event_before at m later past today rest less cut.cut cut.before cut.now;
        late = λ m less. ahead.late m (omega (arith, le, less)) ∙ said-later event_after at m later past today rest less cut.cut cut.before cut.now;
        next = λ m less. ahead.next m (omega (arith, le, less)) ∙ ap (λ xs. next_step xs m) cut.cut
            ∙ before-next at m past (today ++ rest) (omega (arith, less)) cut.before ∙ before-next (at + 1) m today rest less cut.now;
        withheld = λ m tap less there.
            let same : length next ≡ length held = ap length cut.noted ∙ length-hold_all (hold_all held past) today ∙ length-hold_all held past in
            let inside : tap < length held = omega (arith, there, same) in
            let all : held_until later m tap ≡ max (held_by past tap) (max (held_by today tap) (held_until rest m tap))
            = ap (λ xs. held_until xs m tap) cut.cut ∙ held_until-append at m tap past (today ++ rest) (omega (arith, less)) cut.before
            ∙ ap (λ n. max (held_by past tap) n) (held_until-append (at + 1) m tap today rest less cut.now) in
            let noted : slice_index next tap ≡ max (max (slice_index held tap) (held_by past tap)) (held_by today tap)
            = ap (λ xs. slice_index xs tap) cut.noted ∙ get-hold_all (hold_all held past) today tap (omega (arith, inside, length-hold_all held past))
            ∙ ap (λ n. max n (held_by today tap)) (get-hold_all held past tap inside) in
            omega (arith, ahead.withheld m tap (omega (arith, le, less)) inside, all, noted);
      };
    }

pub length-advanced : (later : List Planned) (at : ℕ) (today rest : List Planned) (held next : List ℕ) → Advances later at today rest held next → length next ≡ length held
length-advanced later at today rest held next cut = ap length cut.noted ∙ length-hold_all (hold_all held cut.past) today ∙ length-hold_all held cut.past

-- the same, where the table is lent
pub left-advanced : (steps : List Planned) (from : ℕ) (later : List Planned) (held lent : List ℕ) (at : ℕ) (today rest : List Planned) (next : List ℕ)
    → IsAhead steps from later held → lent ≡ held → from ≤ at → Advances later at today rest lent next → IsLeft steps at today rest next
left-advanced steps from later held lent at today rest next ahead same le cut =
    left-advances steps from later held at today rest next ahead le (subst (λ xs. Advances later at today rest xs next) same cut)

-- before all steps everything is ahead, and no tap is withheld
pub all-ahead : (steps : List Planned) (taps : ℕ) → AreFrom 0 steps → IsAhead steps 0 steps (replicate taps 0)
all-ahead steps taps order = record {
  order = order;
  early = λ m le. refl;
  late = λ m le. refl;
  next = λ m le. refl;
  withheld = λ m tap le there. omega (arith, get_or-replicate {A = ℕ} taps tap 0 0 (omega (arith, there, length-replicate {A = ℕ} taps 0)));
}

-- ---- what a walk knows of the plan

-- until when a tap is withheld
pub held-left : (steps : List Planned) (at : ℕ) (today rest : List Planned) (held : List ℕ) (tap : ℕ) → IsLeft steps at today rest held → tap < length held → held_until steps at tap ≡ slice_index held tap
held-left steps at today rest held tap left there =
    omega (arith, left.ahead.withheld at tap (omega arith) there, held_until-from (at + 1) at tap rest (omega arith) left.ahead.order)

-- of steps in order the first is the next
next-first : (m at : ℕ) (steps : List Planned) → m < at → AreFrom at steps → next_step steps m ≡ first_at steps
next-first m at [] less from = refl
next-first m at (s ∷ steps) less from =
    ap (λ o. earlier o (next_step steps m)) (after-some m s.at (omega (arith, less, from.0))) ∙ ap (earlier (Some s.at)) (next-first m s.at steps (omega (arith, less, from.0)) from.1) ∙ by steps from.1
  where
    by : (xs : List Planned) → AreFrom s.at xs → earlier (Some s.at) (first_at xs) ≡ Some s.at
    by [] in_order = refl
    by (x ∷ xs) in_order = let least : min s.at x.at ≡ s.at = omega (arith, in_order.0) in ap (λ n. Some n) least

pub next-left : (steps : List Planned) (at : ℕ) (today rest : List Planned) (held : List ℕ) → IsLeft steps at today rest held → next_step steps at ≡ first_at rest
next-left steps at today rest held left = left.ahead.next at (omega arith) ∙ next-first at (at + 1) rest (omega arith) left.ahead.order

comes-in : (steps : List Planned) (until now tap : ℕ) (held : List ℕ) (due : Option ℕ) → held_until steps now tap ≡ slice_index held tap → comes (plan_of steps until) now tap due ≡ comes_in now (slice_index held tap) due
comes-in steps until now tap held due same = ap (λ n. comes_in now n due) same

pub turns-left : (steps : List Planned) (until at : ℕ) (today rest : List Planned) (held : List ℕ) (tap : ℕ) (dues : List (Option ℕ)) → IsLeft steps at today rest held → tap + length dues ≤ length held
    → next_turn (plan_of steps until) at tap dues ≡ next_turn_in held at tap dues
turns-left steps until at today rest held tap [] left short = refl
turns-left steps until at today rest held tap (due ∷ dues) left short =
    ap (λ o. earlier o (next_turn (plan_of steps until) at (tap + 1) dues)) (comes-in steps until at tap held due (held-left steps at today rest held tap left (omega (arith, short))))
    ∙ ap (earlier (comes_in at (slice_index held tap) due)) (turns-left steps until at today rest held (tap + 1) dues left (omega (arith, short)))

-- who takes a turn
pub wants-left : (steps : List Planned) (until at : ℕ) (today rest : List Planned) (held : List ℕ) (tap : ℕ) (due : Option ℕ) → IsLeft steps at today rest held → tap < length held
    → wants (plan_of steps until) at tap due ≡ wants_in (slice_index held tap) at due
wants-left steps until at today rest held tap None left there = refl
wants-left steps until at today rest held tap (Some due) left there = ap (λ n. nat_le due at && nat_le n at) (held-left steps at today rest held tap left there)

-- when a tap may take a turn next
pub comes-left : (steps : List Planned) (until at : ℕ) (today rest : List Planned) (held : List ℕ) (tap : ℕ) (due : Option ℕ) → IsLeft steps at today rest held → tap < length held
    → comes (plan_of steps until) at tap due ≡ comes_in at (slice_index held tap) due
comes-left steps until at today rest held tap due left there = comes-in steps until at tap held due (held-left steps at today rest held tap left there)

-- the next instant, where what comes besides the steps is known
pub onward-left : (steps : List Planned) (until at : ℕ) (today rest : List Planned) (held : List ℕ) (other : Option ℕ) → IsLeft steps at today rest held
    → onward (plan_of steps until) at (earlier (next_step steps at) other) ≡ onward_to until at (earlier (first_at rest) other)
onward-left steps until at today rest held other left =
    ap (λ o. onward (plan_of steps until) at (earlier o other)) (next-left steps at today rest held left) ∙ same (earlier (first_at rest) other)
  where
    same : (o : Option ℕ) → onward (plan_of steps until) at o ≡ onward_to until at o
    same None = refl
    same (Some m) = refl
