-- What is kept of an event, and why an event is not kept.
use Rattle.std.specs.Prelude.{◌≡◌, ◌≢◌, ℕ, ◌<◌, Bool, Option, Some, None, Result, Ok, IfErr, OnOk, if◌then◌else◌, length, vec_len, vec_capacity}
use Rattle.std.specs.declared.vec.Vec.{Vec}
use Rattle.law_model.specs.World.{World, Event, Reply}
use Rattle.law_model.specs.Step.{step}
use Rattle.pb_taps.specs.Faults.{Refuses}
use Rattle.pb_taps.specs.declared.faults.WorldFault.{WorldFault}
use Rattle.pb_taps.specs.declared.faults.WorldFault.TheVariants as world
use Rattle.pb_segment.specs.declared.blocks.Blocks.{Blocks}
use Rattle.pb_segment.specs.declared.faults.CommitFault.{CommitFault}
use Rattle.pb_segment.specs.declared.faults.CommitFault.TheVariants as commit
use Rattle.pb_segment.specs.declared.notes.Note.{Note}
use Rattle.pb_segment.specs.Blocks.{HasRoom, happened_in}
use Rattle.pb_segment.specs.Histories.{Receipt}

-- a reply is that to an event, if the event is not refused
abbrev pub IsReplyTo : World → Event → Reply → Type 0
IsReplyTo w event reply = (next : World) (told : Reply) → step w event ≡ Ok (next, told) → reply ≡ told

-- a moment is the clock after an event, if the event is not refused
abbrev pub IsClockAfter : World → Event → ℕ → Type 0
IsClockAfter w event now = (next : World) (told : Reply) → step w event ≡ Ok (next, told) → now ≡ told.now

-- what is kept of an event at an index of the history: the event, its reply, and a receipt of both
pub record IsNoteOf (w : World) (of : Event) (place : ℕ) (n : Note) : Type 0 where
  pub event : n.happened.event ≡ of
  pub reply : IsReplyTo w of n.happened.reply
  pub kept : n.kept ≡ record { place = place; reply = n.happened.reply }

-- what is kept of an event that has led from one world to another, at an index of the history
pub record IsKeptOf (w : World) (of : Event) (place : ℕ) (next : World) (n : Note) : Type 0 where
  pub event : n.happened.event ≡ of
  pub reply : step w of ≡ Ok (next, n.happened.reply)
  pub kept : n.kept ≡ record { place = place; reply = n.happened.reply }

-- the reply to a turn, given whether octets are sent, the clock, and the reply with octets
abbrev pub said_by : Bool → ℕ → Reply → Reply
said_by sent now reply = if sent then reply else record { now = now; spoke = None }

-- why a turn is not taken in place: by the world, or because memory is refused, which may come first
abbrev pub IsRefused : World → Event → CommitFault → Type 0
IsRefused w event commit.WrongTap = ⊥
IsRefused w event commit.Disagree = ⊥
IsRefused w event (commit.Stale turns now) = ⊥
IsRefused w event (commit.World fault) = fault ≢ world.NoMemory → Refuses w event (step w event) fault
IsRefused w event commit.HistoryFull = ⊥

-- there is no room for one more event than this many, with this limit: the history is full; or else memory is refused
abbrev pub IsWantOfRoom : ℕ → ℕ → CommitFault → Type 0
IsWantOfRoom events limit commit.WrongTap = ⊥
IsWantOfRoom events limit commit.Disagree = ⊥
IsWantOfRoom events limit (commit.Stale turns now) = ⊥
IsWantOfRoom events limit (commit.World fault) = (fault ≡ world.NoMemory) × (events < limit)
IsWantOfRoom events limit commit.HistoryFull = events ≡ limit

-- if the result is Ok, a history of at most a limit has room for one more event, and a seat for its receipt; either way
-- no event and no receipt is added or changed
pub record MakesRoom {T Z : Type 0} (old new : Blocks) (receipts_old receipts_new : Vec Receipt Z) (limit : ℕ) (result : Result T CommitFault) : Type 0 where
  pub same : happened_in new ≡ happened_in old
  pub same_receipts : receipts_new.items ≡ receipts_old.items
  pub room : OnOk result (HasRoom new)
  pub room_receipts : OnOk result (vec_len receipts_new < vec_capacity receipts_new)
  pub inside : OnOk result (length (happened_in old) < limit)
  pub err : IfErr result (IsWantOfRoom (length (happened_in old)) limit)

-- the world's fault comes before any other
abbrev pub earlier_fault : Option WorldFault → CommitFault → CommitFault
earlier_fault (Some reason) fault = commit.World reason
earlier_fault None fault = fault
