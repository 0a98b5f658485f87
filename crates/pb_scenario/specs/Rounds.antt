-- Steps by when they happen next.
use Rattle.std.specs.Prelude.{◌≡◌, ℕ, ◌+◌, ◌≤◌, ◌<◌, ◌^◌, Bool, not, ◌==◌, List, [], ◌∷◌, ◌++◌, map, length, max, slice_index, Option, Some, None}
use Rattle.std.specs.List.{All, filter, filter_map, flat_map}
use Rattle.law_turn.specs.Stations.{earlier}
use Rattle.law_model.specs.World.{Event}
use Rattle.law_runs.specs.Scenarios.{Deed, Planned, event_before, event_after, early_of, late_of, held_until, next_step}
use Rattle.pb_scenario.specs.declared.agendas.Agenda.{Agenda}
use Rattle.pb_scenario.specs.declared.rounds.Block.{Block}
use Rattle.pb_scenario.specs.declared.rounds.Round.{Round}
use Rattle.pb_scenario.specs.Repeats.{series}
use Rattle.pb_scenario.specs.Steps.{deed_of}
use Rattle.pb_scenario.specs.Walks.{hold_one}

-- ---- what still happens

abbrev pub series_of : Round → List Planned
series_of r = series r.at r.every r.left (deed_of r.deed.now)

abbrev pub rounds_of : List Round → List Planned
rounds_of rounds = flat_map series_of rounds

abbrev pub block_of : Block → List Planned
block_of b = rounds_of b.rounds.items

abbrev pub blocks_of : List Block → List Planned
blocks_of blocks = flat_map block_of blocks

-- ---- moments

-- none of some happenings is before a moment
abbrev pub AreAllFrom : ℕ → List Planned → Type 0
AreAllFrom m [] = Unit {0}
AreAllFrom m (s ∷ steps) = (m ≤ s.at) × AreAllFrom m steps

-- the moment of the first of some happenings
abbrev pub soonest : List Planned → Option ℕ
soonest [] = None
soonest (s ∷ steps) = earlier (Some s.at) (soonest steps)

-- those of a moment, and all others
abbrev pub ones_at : ℕ → List Planned → List Planned
ones_at m steps = filter (λ s. s.at == m) steps

abbrev pub others_than : ℕ → List Planned → List Planned
others_than m steps = filter (λ s. not (s.at == m)) steps

-- what is done at a moment
abbrev pub deeds_at : ℕ → List Planned → List Deed
deeds_at m steps = map (λ s. s.deed) (ones_at m steps)

-- until when each tap is withheld, after some deeds of a moment
abbrev pub hold_deeds : List ℕ → ℕ → List Deed → List ℕ
hold_deeds held at [] = held
hold_deeds held at (d ∷ deeds) = hold_deeds (hold_one held at d) at deeds

-- ---- invariants

abbrev pub IsSteadyRound : Round → Type 0
IsSteadyRound r = (1 ≤ r.every) × (r.every < 2 ^ 63)

pub record IsBlock (b : Block) : Type 0 where
  pub steady : All IsSteadyRound b.rounds.items
  pub next : b.next ≡ soonest (block_of b)

pub record IsAgenda (a : Agenda) : Type 0 where
  pub blocks : All IsBlock a.blocks.items
  pub next : a.next ≡ soonest (blocks_of a.blocks.items)

-- ---- what is left

-- What matters of some steps at a moment: what they do then, what happens later, and until when each tap is withheld by
-- what has happened.
pub record IsComing (steps : List Planned) (at : ℕ) (today : List Deed) (later : List Planned) (held : List ℕ) : Type 0 where
  pub early : filter_map (early_of at) steps ≡ filter_map event_before today
  pub late : filter_map (late_of at) steps ≡ filter_map event_after today
  pub order : AreAllFrom (at + 1) later
  pub early_later : (m : ℕ) → at < m → filter_map (early_of m) steps ≡ filter_map (early_of m) later
  pub late_later : (m : ℕ) → at < m → filter_map (late_of m) steps ≡ filter_map (late_of m) later
  pub next : (m : ℕ) → at ≤ m → next_step steps m ≡ next_step later m
  pub withheld : (m tap : ℕ) → at ≤ m → tap < length held → held_until steps m tap ≡ max (slice_index held tap) (held_until later m tap)

-- ---- room

-- how many steps some blocks have
abbrev pub count_of : List Block → ℕ
count_of [] = 0
count_of (b ∷ blocks) = length b.rounds.items + count_of blocks
