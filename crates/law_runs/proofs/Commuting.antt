-- Turns of two taps in one instant, in either order.
use Rattle.std.proofs.Common.{◌≡◌, ◌≢◌, ◌∙◌, ap, sym, subst, refl, arith, ℕ, zero, suc, ◌+◌, ◌<◌, ◌≤◌, ◌==◌, ◌||◌, ◌&&◌, nat_lt, nat_le, not, List, [], ◌∷◌, length, Bool, true, false, if◌then◌else◌, Option, Some, None, Ok, Result}
use Rattle.std.specs.Prelude.{slice_get, slice_set, is_some}
use Rattle.std.proofs.lemmas.Bool.{not-false, and_parts, ltb-true, ltb-false, lt-ltb, le-ltb, leb-false, lt-leb, eq-eqb, eqb-true}
use Rattle.law_turn.specs.Turns.{turn_of}
use Rattle.law_model.specs.Trace.{Own, Pending, Entry, Sent, entry_begin, rank, goes_before, with_entry, heard_at_first}
use Rattle.law_model.specs.Medium.{Tap}
use Rattle.law_model.specs.World.{World, Turn, Reply, Fault, NotRunning, TraceFull, trace_limit, unless}
use Rattle.law_model.specs.Step.{sending, with_said, step_turn, step}
use Rattle.law_model.proofs.Cases.{by_test}
use Rattle.law_model.proofs.Worlds.{unless-Ok}
use Rattle.law_runs.specs.Commuting.{BothTurn}

-- ---- the taps

get-other : {X : Type 0} (xs : List X) (i j : ℕ) (x : X) → i ≢ j → slice_get (slice_set xs i x) j ≡ slice_get xs j
get-other [] i j x other = refl
get-other (y ∷ ys) zero zero x other = absurd (other refl)
get-other (y ∷ ys) zero (suc j) x other = refl
get-other (y ∷ ys) (suc i) zero x other = refl
get-other (y ∷ ys) (suc i) (suc j) x other = get-other ys i j x (λ same. other (ap suc same))

set-other : {X : Type 0} (xs : List X) (i j : ℕ) (x z : X) → i ≢ j → slice_set (slice_set xs i x) j z ≡ slice_set (slice_set xs j z) i x
set-other [] i j x z other = refl
set-other (y ∷ ys) zero zero x z other = absurd (other refl)
set-other (y ∷ ys) zero (suc j) x z other = refl
set-other (y ∷ ys) (suc i) zero x z other = refl
set-other (y ∷ ys) (suc i) (suc j) x z other = ap (λ ts. y ∷ ts) (set-other ys i j x z (λ same. other (ap suc same)))

heard-set : {X : Type 0} (speaker k : ℕ) (xs : List X) (i : ℕ) (x : X) → heard_at_first speaker k (slice_set xs i x) ≡ heard_at_first speaker k xs
heard-set speaker k [] i x = refl
heard-set speaker k (y ∷ ys) zero x = refl
heard-set speaker k (y ∷ ys) (suc i) x = ap (λ hs. (if k == speaker then Own else Pending) ∷ hs) (heard-set speaker (k + 1) ys i x)

-- ---- the trace

-- which of two entries goes before the other, as numbers say it
abbrev Before : Entry → Entry → Type 0
Before e x = (entry_begin e ≤ entry_begin x) × (entry_begin e ≡ entry_begin x → rank e < rank x)

before-true : (e x : Entry) → goes_before e x ≡ true → Before e x
before-true e x goes = by (nat_lt (entry_begin e) (entry_begin x)) refl goes
  where
    by : (b : Bool) → nat_lt (entry_begin e) (entry_begin x) ≡ b → (b || (entry_begin e == entry_begin x && nat_lt (rank e) (rank x))) ≡ true → Before e x
    by true less goes = let earlier = ltb-true (entry_begin e) (entry_begin x) less in (omega (arith, earlier), λ same. absurd (omega (arith, earlier, same)))
    by false least goes =
        let parts = and_parts (entry_begin e == entry_begin x) (nat_lt (rank e) (rank x)) goes in
        let same = eqb-true (entry_begin e) (entry_begin x) parts.0 in (omega (arith, same), λ _. ltb-true (rank e) (rank x) parts.1)

before-false : (e x : Entry) → goes_before e x ≡ false → Before e x → ⊥
before-false e x stays before = by (nat_lt (entry_begin e) (entry_begin x)) refl stays
  where
    by : (b : Bool) → nat_lt (entry_begin e) (entry_begin x) ≡ b → (b || (entry_begin e == entry_begin x && nat_lt (rank e) (rank x))) ≡ false → ⊥
    by true less stays = let wrong : true ≡ false = stays in absurd cc
    by false least stays =
        let same : entry_begin e ≡ entry_begin x = omega (arith, ltb-false (entry_begin e) (entry_begin x) least, before.0) in
        let less = ap (λ (b : Bool). b && nat_lt (rank e) (rank x)) (eq-eqb (entry_begin e) (entry_begin x) same) ∙ lt-ltb (rank e) (rank x) (before.1 same) in
        let wrong : true ≡ false = sym less ∙ stays in
        absurd cc

-- of two entries of one begin the one of the lower rank goes before the other
goes-by-rank : (a b : Entry) → entry_begin a ≡ entry_begin b → goes_before a b ≡ nat_lt (rank a) (rank b)
goes-by-rank a b same =
    ap (λ p. p || (entry_begin a == entry_begin b && nat_lt (rank a) (rank b))) (le-ltb (entry_begin a) (entry_begin b) (omega (arith, same)))
    ∙ ap (λ p. p && nat_lt (rank a) (rank b)) (eq-eqb (entry_begin a) (entry_begin b) same)

front-commutes : (a b : Entry) (es : List Entry) → entry_begin a ≡ entry_begin b → rank a ≢ rank b
    → (if goes_before a b then a ∷ b ∷ es else b ∷ a ∷ es) ≡ (if goes_before b a then b ∷ a ∷ es else a ∷ b ∷ es)
front-commutes a b es same other =
    ap (λ p. if p then a ∷ b ∷ es else b ∷ a ∷ es) (goes-by-rank a b same) ∙ by (nat_lt (rank a) (rank b)) refl
    ∙ sym (ap (λ p. if p then b ∷ a ∷ es else a ∷ b ∷ es) (goes-by-rank b a (sym same)))
  where
    by : (p : Bool) → nat_lt (rank a) (rank b) ≡ p → (if p then a ∷ b ∷ es else b ∷ a ∷ es) ≡ (if nat_lt (rank b) (rank a) then b ∷ a ∷ es else a ∷ b ∷ es)
    by true less = sym (ap (λ p. if p then b ∷ a ∷ es else a ∷ b ∷ es) (le-ltb (rank b) (rank a) (omega (arith, ltb-true (rank a) (rank b) less))))
    by false least =
        sym (ap (λ p. if p then b ∷ a ∷ es else a ∷ b ∷ es) (lt-ltb (rank b) (rank a) (grind (arith, other, ltb-false (rank a) (rank b) least))))

-- where one of two entries of one begin goes before a third, and the other doesn't, the other doesn't go before the one
not-between : (a b x : Entry) → entry_begin a ≡ entry_begin b → goes_before a x ≡ true → goes_before b x ≡ false → goes_before b a ≡ false
not-between a b x same goes stays = goes-by-rank b a (sym same) ∙ by (nat_lt (rank b) (rank a)) refl
  where
    by : (p : Bool) → nat_lt (rank b) (rank a) ≡ p → p ≡ false
    by false least = refl
    by true less =
        let first = before-true a x goes in
        let lower = ltb-true (rank b) (rank a) less in
        absurd (before-false b x stays (omega (arith, same, first.0), λ at. let next = first.1 (same ∙ at) in omega (arith, next, lower)))

entered-before : (e x : Entry) (es : List Entry) → goes_before e x ≡ true → with_entry e (x ∷ es) ≡ e ∷ x ∷ es
entered-before e x es goes = ap (λ p. if p then e ∷ x ∷ es else x ∷ with_entry e es) goes

entered-after : (e x : Entry) (es : List Entry) → goes_before e x ≡ false → with_entry e (x ∷ es) ≡ x ∷ with_entry e es
entered-after e x es stays = ap (λ p. if p then e ∷ x ∷ es else x ∷ with_entry e es) stays

one-before : (a b x : Entry) (es : List Entry) → entry_begin a ≡ entry_begin b → goes_before a x ≡ true → goes_before b x ≡ false
    → with_entry a (with_entry b (x ∷ es)) ≡ with_entry b (with_entry a (x ∷ es))
one-before a b x es same goes stays =
    ap (with_entry a) (entered-after b x es stays) ∙ entered-before a x (with_entry b es) goes
    ∙ ap (λ xs. a ∷ xs) (sym (entered-after b x es stays))
    ∙ sym (entered-after b a (x ∷ es) (not-between a b x same goes stays)) ∙ ap (with_entry b) (sym (entered-before a x es goes))

-- two entries of one begin and different ranks go into a trace in either order
entries-commute : (a b : Entry) (es : List Entry) → entry_begin a ≡ entry_begin b → rank a ≢ rank b → with_entry a (with_entry b es) ≡ with_entry b (with_entry a es)
entries-commute a b [] same other = front-commutes a b [] same other
entries-commute a b (x ∷ es) same other = by (entries-commute a b es same other) (goes_before a x) (goes_before b x) refl refl
  where
    by : with_entry a (with_entry b es) ≡ with_entry b (with_entry a es) → (p q : Bool) → goes_before a x ≡ p → goes_before b x ≡ q
        → with_entry a (with_entry b (x ∷ es)) ≡ with_entry b (with_entry a (x ∷ es))
    by rest true true one two =
        ap (with_entry a) (entered-before b x es two) ∙ ap (λ xs. if goes_before a b then a ∷ b ∷ x ∷ es else b ∷ xs) (entered-before a x es one)
        ∙ front-commutes a b (x ∷ es) same other
        ∙ sym (ap (λ xs. if goes_before b a then b ∷ a ∷ x ∷ es else a ∷ xs) (entered-before b x es two)) ∙ sym (ap (with_entry b) (entered-before a x es one))
    by rest true false one two = one-before a b x es same one two
    by rest false true one two = sym (one-before b a x es (sym same) two one)
    by rest false false one two =
        ap (with_entry a) (entered-after b x es two) ∙ entered-after a x (with_entry b es) one ∙ ap (λ xs. x ∷ xs) rest
        ∙ sym (entered-after b x (with_entry a es) two) ∙ sym (ap (with_entry b) (entered-after a x es one))

entry-longer : (e : Entry) (es : List Entry) → length (with_entry e es) ≡ length es + 1
entry-longer e [] = refl
entry-longer e (x ∷ es) =
    by_test (λ (xs : List Entry). length xs ≡ suc (length es) + 1) (goes_before e x) (e ∷ x ∷ es) (x ∷ with_entry e es)
    (λ _. omega arith) (λ _. omega (arith, entry-longer e es))

-- ---- what two taps say

said-set : (now : ℕ) (taps : List Tap) (es : List Entry) (i k : ℕ) (x : Tap) (o : Option (List ℕ)) → with_said i o now (slice_set taps k x) es ≡ with_said i o now taps es
said-set now taps es i k x None = refl
said-set now taps es i k x (Some octets) =
    ap (λ hs. with_entry (Sent (record (sending i octets now taps) { heard = hs })) es) (heard-set i 0 taps k x)

-- the trace where a tap of a world has said something, if anything
abbrev said : World → ℕ → Option (List ℕ) → List Entry
said w tap octets = with_said tap octets w.now w.taps w.trace

said-commute : (w : World) (i j : ℕ) (a b : Option (List ℕ)) → i ≢ j → with_said i a w.now w.taps (said w j b) ≡ with_said j b w.now w.taps (said w i a)
said-commute w i j None None other = refl
said-commute w i j None (Some b) other = refl
said-commute w i j (Some a) None other = refl
said-commute w i j (Some a) (Some b) other =
    entries-commute (Sent (sending i a w.now w.taps)) (Sent (sending j b w.now w.taps)) w.trace refl (λ same. other (omega (arith, same)))

-- ---- turns

-- a tap after its turn
abbrev turned : World → Tap → Tap
turned w t = record t { station = (turn_of w.params t.station t.marks w.now).0; marks = [] }

-- what it says
abbrev says : World → Tap → Option (List ℕ)
says w t = (turn_of w.params t.station t.marks w.now).1

abbrev world_turned : World → ℕ → Tap → World
world_turned w i t = record w { trace = said w i (says w t); taps = slice_set w.taps i (turned w t) }

abbrev has_no_room : ℕ → Option (List ℕ) → List Entry → Bool
has_no_room limit o es = is_some o && nat_le limit (length es)

-- a turn that is accepted
record Accepted (w : World) (i : ℕ) (next : World) (reply : Reply) : Type 0 where
  tap : Tap
  at : slice_get w.taps i ≡ Some tap
  runs : tap.running ≡ true
  room : has_no_room w.limit (says w tap) w.trace ≡ false
  world : world_turned w i tap ≡ next
  answer : (record { now = w.now; spoke = says w tap }) ≡ reply

accepted : (w : World) (i : ℕ) (next : World) (reply : Reply) → step w (Turn i) ≡ Ok (next, reply) → Accepted w i next reply
accepted w i next reply = by (slice_get w.taps i) refl
  where
    by : (o : Option Tap) → slice_get w.taps i ≡ o → step_turn w i o ≡ Ok (next, reply) → Accepted w i next reply
    by None at ok = absurd cc
    by (Some t) at ok =
        let made : World × Reply = (world_turned w i t, record { now = w.now; spoke = says w t }) in
        let is = unless-Ok ((not t.running, NotRunning) ∷ (has_no_room w.limit (says w t) w.trace, TraceFull) ∷ []) made (next, reply) ok in
        record {
          tap = t;
          at = at;
          runs = not-false t.running is.0.0;
          room = is.0.1.0;
          world = ap (λ x. x.0) is.1;
          answer = ap (λ x. x.1) is.1;
        }

accepts : (w : World) (i : ℕ) (t : Tap) → slice_get w.taps i ≡ Some t → t.running ≡ true → has_no_room w.limit (says w t) w.trace ≡ false
    → step w (Turn i) ≡ Ok (world_turned w i t, record { now = w.now; spoke = says w t })
accepts w i t at runs room =
    let made : World × Reply = (world_turned w i t, record { now = w.now; spoke = says w t }) in
    let ending : Bool → Bool → Result (World × Reply) Fault = λ down full. unless ((not down, NotRunning) ∷ (full, TraceFull) ∷ []) made in
    ap (step_turn w i) at ∙ ap (λ b. ending b (has_no_room w.limit (says w t) w.trace)) runs ∙ ap (ending true) room

-- room for one more leaves room where less has been said
room-before : (w : World) (i : ℕ) (a b : Option (List ℕ)) → has_no_room w.limit b (said w i a) ≡ false → has_no_room w.limit b w.trace ≡ false
room-before w i a None room = refl
room-before w i None (Some b) room = room
room-before w i (Some a) (Some b) room =
    let e : Entry = Sent (sending i a w.now w.taps) in
    lt-leb w.limit (length w.trace) (omega (arith, leb-false w.limit (length (with_entry e w.trace)) room, entry-longer e w.trace))

room-after : (w : World) (i j : ℕ) (a b : Option (List ℕ)) → has_no_room w.limit a w.trace ≡ false → has_no_room w.limit b (said w i a) ≡ false → has_no_room w.limit a (said w j b) ≡ false
room-after w i j None b one two = refl
room-after w i j (Some a) None one two = one
room-after w i j (Some a) (Some b) one two =
    let e : Entry = Sent (sending i a w.now w.taps) in
    let x : Entry = Sent (sending j b w.now w.taps) in
    lt-leb w.limit (length (with_entry x w.trace)) (omega (arith, leb-false w.limit (length (with_entry e w.trace)) two, entry-longer e w.trace, entry-longer x w.trace))

pub turns-commute : (w after : World) (i j : ℕ) (first second : Reply) → i ≢ j → BothTurn w i j after first second → BothTurn w j i after second first
turns-commute w after i j first second other (between, ok, okay) =
    let one = accepted w i between first ok in
    let two = accepted (world_turned w i one.tap) j after second (subst (λ x. step x (Turn j) ≡ Ok (after, second)) (sym one.world) okay) in
    let t = one.tap in
    let u = two.tap in
    let there = sym (get-other w.taps i j (turned w t) other) ∙ two.at in
    let swapped : j ≢ i = λ same. other (sym same) in
    let here = get-other w.taps j i (turned w u) swapped ∙ one.at in
    let traces = said-set w.now w.taps (said w j (says w u)) i j (turned w u) (says w t) ∙ said-commute w i j (says w t) (says w u) other
    ∙ sym (said-set w.now w.taps (said w i (says w t)) j i (turned w t) (says w u)) in
    let same : world_turned (world_turned w j u) i t ≡ world_turned (world_turned w i t) j u
    = ap (λ es. record w { trace = es; taps = slice_set (slice_set w.taps j (turned w u)) i (turned w t) }) traces
    ∙ ap (λ ts. record w { trace = said (world_turned w i t) j (says w u); taps = ts }) (set-other w.taps j i (turned w u) (turned w t) swapped) in (
      world_turned w j u,
      accepts w j u there two.runs (room-before w i (says w t) (says w u) two.room) ∙ ap (λ r. Ok (world_turned w j u, r)) two.answer,
      accepts (world_turned w j u) i t here one.runs (room-after w i j (says w t) (says w u) one.room two.room)
          ∙ ap (λ x. Ok (x, record { now = w.now; spoke = says w t })) (same ∙ two.world) ∙ ap (λ r. Ok (after, r)) one.answer,
    )
