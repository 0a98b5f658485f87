-- What an initiator's table represents: the list of its acts.
use Rattle.std.specs.Prelude.{◌≡◌, ℕ, ◌+◌, ◌%◌, ◌≤◌, ◌==◌, Bool, true, false, if◌then◌else◌, List, [], ◌∷◌, reverse, length, count_by, Option, Some, None, IfSome, option_map}
use Rattle.std.specs.List.{after_last}
use Rattle.pb_cycles.specs.Fields.{Fields}
use Rattle.pb_cycles.specs.RequestFields.{RequestFields}
use Rattle.pb_cycles.specs.Requests.{is_answered}
use Rattle.pb_cycles.specs.Counts.{count_at}
use Rattle.pb_cycles.specs.Tables.{InitiatorTable}
use Rattle.pb_telegram.specs.declared.control.FrameCount.{FrameCount}
use Rattle.pb_telegram.specs.declared.control.FrameCount.TheVariants.{First, Clear, Set}
use Rattle.pb_cycles.specs.declared.outcomes.Outcome.{Outcome}
use Rattle.pb_cycles.specs.declared.outcomes.Outcome.TheVariants.{Acked, Data, NoResource, NoAnswer}

-- an SDN was sent; an SDA or SRD was sent for the first time; it was sent again; a cycle with an address had an outcome
pub data Act : Type 0 where
  Told : Fields → Act
  Opened : Fields → Act
  Resent : Fields → Act
  Closed : (address : ℕ) (outcome : Outcome) → Act

-- the act of a request that is sent
abbrev pub sending_act : RequestFields → Fields → Act
sending_act r f = if is_answered r.service then Opened f else Told f

-- ---- frame count bits

abbrev pub is_opening_to : ℕ → Act → Bool
is_opening_to d (Told f) = false
is_opening_to d (Opened f) = f.da == d
is_opening_to d (Resent f) = false
is_opening_to d (Closed address outcome) = false

abbrev pub is_no_answer : Outcome → Bool
is_no_answer Acked = false
is_no_answer (Data unit) = false
is_no_answer NoResource = false
is_no_answer NoAnswer = true

abbrev pub is_unanswered_at : ℕ → Act → Bool
is_unanswered_at d (Told f) = false
is_unanswered_at d (Opened f) = false
is_unanswered_at d (Resent f) = false
is_unanswered_at d (Closed address outcome) = if address == d then is_no_answer outcome else false

-- how many SDA and SRD were sent to an address since the start, or since the last outcome NoAnswer there
abbrev pub number_to : ℕ → List Act → ℕ
number_to d acts = count_by (is_opening_to d) (after_last (is_unanswered_at d) acts)

-- bits 5 and 4 of the k-th of these: FCB 1 and FCV 0 for the first, then FCV 1, with FCB 0 for an even k, else 1
abbrev pub kth_bits : ℕ → ℕ
kth_bits k = if k == 1 then 0x20 else if k % 2 == 0 then 0x10 else 0x30

-- the frame count bits after k of them
abbrev pub count_of : ℕ → FrameCount
count_of k = if k == 0 then First else if k % 2 == 1 then Clear else Set

-- ---- the open request

-- the request of the newest act apart from retries, if that act opened a cycle; the newest act is first
abbrev pub open_in : List Act → Option Fields
open_in [] = None
open_in (Told f ∷ older) = None
open_in (Opened f ∷ older) = Some f
open_in (Resent f ∷ older) = open_in older
open_in (Closed address outcome ∷ older) = None

-- how many of the newest acts are retries
abbrev pub retries_in : List Act → ℕ
retries_in [] = 0
retries_in (Told f ∷ older) = 0
retries_in (Opened f ∷ older) = 0
retries_in (Resent f ∷ older) = retries_in older + 1
retries_in (Closed address outcome ∷ older) = 0

-- ---- the table

pub record InitiatorStandsFor (t : InitiatorTable) (acts : List Act) : Type 0 where
  pub stations : length t.counts ≡ 127
  pub counts : (d : ℕ) → d ≤ 126 → count_at t.counts d ≡ count_of (number_to d acts)
  pub pending : option_map (λ o. o.sent) t.pending ≡ open_in (reverse acts)
  pub left : IfSome t.pending (λ o. o.left + retries_in (reverse acts) ≡ t.retries)
