-- A run on one thread, instant by instant, of any machine with events, by a plan of what happens from outside.
use Rattle.std.specs.Prelude.{ℕ, zero, suc, ◌+◌, ◌-◌, Bool, false, nat_lt, nat_le, ◌&&◌, List, [], ◌∷◌, ◌++◌, map, slice_get, Option, Some, None, Result, Ok, Err, if◌then◌else◌}
use Rattle.law_turn.specs.Stations.{earlier}

-- What is run: what an event does to a state, or why it is refused; the events of a turn and of a pass of time; when
-- each tap is due; and the next moment at which something else changes.
pub record Machine (W E R F : Type 0) : Type 0 where
  pub step : W → E → Result (W × R) F
  pub turn : ℕ → E
  pub pass : ℕ → E
  pub due : W → List (Option ℕ)
  pub change : W → Option ℕ

-- What happens from outside, for each moment: the events before the turns and after them, until when a tap is withheld,
-- and the next moment at which an event happens; and the end.
pub record Plan (E : Type 0) : Type 0 where
  pub early : ℕ → List E
  pub late : ℕ → List E
  pub held_until : ℕ → ℕ → ℕ
  pub later : ℕ → Option ℕ
  pub until : ℕ

-- ---- which taps take a turn

-- a tap takes its turn if it is due and not withheld
abbrev pub wants : {E : Type 0} → Plan E → ℕ → ℕ → Option ℕ → Bool
wants p now tap None = false
wants p now tap (Some due) = nat_le due now && nat_le (p.held_until now tap) now

-- whether each of some taps takes a turn now, the first of them at an index
abbrev pub wanted : {E : Type 0} → Plan E → ℕ → ℕ → List (Option ℕ) → List Bool
wanted p now tap [] = []
wanted p now tap (due ∷ dues) = wants p now tap due ∷ wanted p now (tap + 1) dues

-- the indices of the true elements, in order, given the index of the first element
abbrev pub places : ℕ → List Bool → List ℕ
places tap [] = []
places tap (b ∷ bs) = if b then tap ∷ places (tap + 1) bs else places (tap + 1) bs

-- ---- the next instant

abbrev pub after : ℕ → Option ℕ → Option ℕ
after now None = None
after now (Some m) = if nat_lt now m then Some m else None

-- when a tap may take a turn next: when its withholding ends, or when it is due
abbrev pub comes : {E : Type 0} → Plan E → ℕ → ℕ → Option ℕ → Option ℕ
comes p now tap due = if nat_lt now (p.held_until now tap) then Some (p.held_until now tap) else after now due

-- the first moment at which one of some taps may take a turn next, the first of them at an index
abbrev pub next_turn : {E : Type 0} → Plan E → ℕ → ℕ → List (Option ℕ) → Option ℕ
next_turn p now tap [] = None
next_turn p now tap (due ∷ dues) = earlier (comes p now tap due) (next_turn p now (tap + 1) dues)

-- a moment after now, up to the end
abbrev pub onward : {E : Type 0} → Plan E → ℕ → Option ℕ → Option ℕ
onward p now None = None
onward p now (Some m) = if nat_lt now m && nat_le m p.until then Some m else None

-- The next instant, if there is one: the first moment at which an event of the plan happens, something changes in the
-- machine, or a tap may take a turn.
abbrev pub next : {E : Type 0} → Plan E → ℕ → List (Option ℕ) → Option ℕ → Option ℕ
next p now dues change = onward p now (earlier (p.later now) (earlier change (next_turn p now 0 dues)))

-- time passes to the next instant, or to the end
abbrev pub passing : {W E R F : Type 0} → Machine W E R F → Plan E → ℕ → Option ℕ → List E
passing m p now (Some t) = m.pass (t - now) ∷ []
passing m p now None = if nat_lt now p.until then m.pass (p.until - now) ∷ [] else []

-- ---- consecutive events

-- continues with a state, or is refused at a moment
abbrev pub and_then : {W R F : Type 0} → ℕ → Result (W × R) F → (W → Result W (ℕ × F)) → Result W (ℕ × F)
and_then now (Ok next) f = f next.0
and_then now (Err fault) f = Err (now, fault)

-- the state after events of a moment, or the first fault with the moment
abbrev pub all : {W E R F : Type 0} → Machine W E R F → ℕ → List E → W → Result W (ℕ × F)
all m now [] w = Ok w
all m now (e ∷ es) w = and_then now (m.step w e) (all m now es)

-- the turns that are due in a state, in the order of the taps
abbrev pub turns : {W E R F : Type 0} → Machine W E R F → Plan E → ℕ → W → List E
turns m p now w = map m.turn (places 0 (wanted p now 0 (m.due w)))

-- ---- the run

abbrev pub on_ok : {A B F : Type 0} → Result A F → (A → Option (Result B F)) → Option (Result B F)
on_ok (Ok a) f = f a
on_ok (Err fault) f = Some (Err fault)

-- a run with events before it
abbrev pub with_front : {W E F : Type 0} → List E → Option (Result (W × List E) F) → Option (Result (W × List E) F)
with_front es None = None
with_front es (Some (Err fault)) = Some (Err fault)
with_front es (Some (Ok end)) = Some (Ok (end.0, es ++ end.1))

-- the run continues at the next instant, if there is one
abbrev pub ending : {W E F : Type 0} → Option ℕ → List E → W → (ℕ → W → Option (Result (W × List E) F)) → Option (Result (W × List E) F)
ending None es w f = Some (Ok (w, es))
ending (Some t) es w f = with_front es (f t w)

-- the events of an instant; the turns begin in one state, and time passes in another
abbrev pub instant : {W E R F : Type 0} → Machine W E R F → Plan E → ℕ → W → W → List E
instant m p now before after = p.early now ++ (turns m p now before ++ (p.late now ++ passing m p now (next p now (m.due after) (m.change after))))

-- The run from an instant on: the plan's early events, the turns that are due then, its late events, and a pass of time
-- to the next instant or to the end. It gives the last state and all events, or the first fault with its moment; None
-- if it has more instants than are allowed.
unfoldable pub run : {W E R F : Type 0} → ℕ → Machine W E R F → Plan E → ℕ → W → Option (Result (W × List E) (ℕ × F))
run zero m p now w = None
run (suc k) m p now w =
    on_ok (all m now (p.early now) w) (λ a.
    on_ok (all m now (turns m p now a) a) (λ b.
    on_ok (all m now (p.late now) b) (λ c.
    on_ok (all m now (passing m p now (next p now (m.due c) (m.change c))) c) (λ d.
    ending (next p now (m.due c) (m.change c)) (instant m p now a c) d (run k m p)))))

-- ---- the same, with each tap tested just before its turn

abbrev pub due_at : Option (Option ℕ) → Option ℕ
due_at None = None
due_at (Some due) = due

-- each of some taps, from an index on, takes its turn if it is due at that point
abbrev pub one_by_one : {W E R F : Type 0} → Machine W E R F → Plan E → ℕ → ℕ → ℕ → W → Result W (ℕ × F)
one_by_one m p now zero tap w = Ok w
one_by_one m p now (suc n) tap w =
    if wants p now tap (due_at (slice_get (m.due w) tap)) then and_then now (m.step w (m.turn tap)) (one_by_one m p now n (tap + 1)) else one_by_one m p now n (tap + 1) w
