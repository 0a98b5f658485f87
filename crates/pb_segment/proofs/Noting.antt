-- What is kept of an event that happens, and the fault of one that doesn't.
use Rattle.std.proofs.Common.{◌≡◌, ◌≢◌, ◌∙◌, ℕ, ◌<◌, [], ◌∷◌, ◌++◌, length, Ok, Err, refl, sym, ap, subst}
use Rattle.std.specs.Prelude.{Result}
use Rattle.law_model.specs.World.{World, Event, Turn, Reply, Fault}
use Rattle.law_model.specs.Step.{step}
use Rattle.pb_world.specs.Refusals.{fault_of}
use Rattle.pb_taps.specs.Faults.{Refuses}
use Rattle.pb_taps.specs.declared.faults.WorldFault.{WorldFault}
use Rattle.pb_taps.specs.declared.faults.WorldFault.TheVariants as world
use Rattle.law_live.specs.Promises.{LeadOn}
use Rattle.pb_segment.specs.declared.faults.CommitFault.{CommitFault}
use Rattle.pb_segment.specs.declared.faults.CommitFault.TheVariants as commit
use Rattle.pb_segment.specs.declared.notes.Note.{Note}
use Rattle.pb_segment.specs.Counts.{counted, counted_drives}
use Rattle.pb_segment.specs.Histories.{Receipt}
use Rattle.pb_segment.specs.Locked.{LockedView, IsKept, KnowsTurns, RefusesToKeep, RefusesToTake, RefusesTurn, view_of}
use Rattle.pb_segment.specs.Seats.{SeatView}
use Rattle.pb_segment.specs.Notes.{IsNoteOf, IsKeptOf, IsRefused, IsWantOfRoom, earlier_fault}
use Rattle.pb_segment.proofs.Replaying.{kept_push}

-- the world does what the note says
noted_step : (w u : World) (event : Event) (place : ℕ) (n : Note) (told : Reply) → IsNoteOf w event place n → step w event ≡ Ok (u, told)
    → step w n.happened.event ≡ Ok (u, n.happened.reply)
noted_step w u event place n told is ok = ap (λ (e : Event). step w e) is.event ∙ ok ∙ ap (λ (r : Reply). Ok (u, r)) (sym (is.reply u told ok))

-- what stands in the history is the event, with the reply of its receipt
pub noted_entry : (w : World) (event : Event) (place : ℕ) (n : Note) → IsNoteOf w event place n → n.happened ≡ record { event = event; reply = n.kept.reply }
noted_entry w event place n is =
    ap (λ (e : Event). record { event = e; reply = n.happened.reply }) is.event
    ∙ ap (λ (k : Receipt). record { event = event; reply = k.reply }) (sym is.kept)

-- the reply of its receipt is the event's
pub noted_reply : (w u : World) (event : Event) (place : ℕ) (n : Note) (told : Reply) → IsNoteOf w event place n → step w event ≡ Ok (u, told)
    → step w event ≡ Ok (u, n.kept.reply)
noted_reply w u event place n told is ok =
    ok ∙ ap (λ (r : Reply). Ok (u, r)) (sym (is.reply u told ok)) ∙ ap (λ (k : Receipt). Ok (u, k.reply)) (sym is.kept)

-- what is under the lock stays as it is to be, with the event at the end of the history
pub noted_push : (l : LockedView) (u : World) (event : Event) (place : ℕ) (n : Note) (told : Reply) → IsKept l → length l.history < l.limit → IsNoteOf l.world event place n
    → step l.world event ≡ Ok (u, told) → LeadOn l.world (event ∷ []) u
    → IsKept (view_of u l.origin (l.history ++ n.happened ∷ []) (counted l.turns n.happened.event) (counted_drives l.drives n.happened.event) l.outlooks l.limit)
noted_push l u event place n told k room is ok on =
    kept_push l n.happened u k room (noted_step l.world u event place n told is ok) (subst (λ (e : Event). LeadOn l.world (e ∷ []) u) (sym is.event) on)

-- the same where the event has led to the world
pub taken_push : (l : LockedView) (u : World) (event : Event) (place : ℕ) (n : Note) → IsKept l → length l.history < l.limit → IsKeptOf l.world event place u n
    → LeadOn l.world (event ∷ []) u
    → IsKept (view_of u l.origin (l.history ++ n.happened ∷ []) (counted l.turns n.happened.event) (counted_drives l.drives n.happened.event) l.outlooks l.limit)
taken_push l u event place n k room is on =
    kept_push l n.happened u k room (ap (λ (e : Event). step l.world e) is.event ∙ is.reply) (subst (λ (e : Event). LeadOn l.world (e ∷ []) u) (sym is.event) on)

-- what stands in the history is the event, with the reply of its receipt
pub taken_entry : (w u : World) (event : Event) (place : ℕ) (n : Note) → IsKeptOf w event place u n → n.happened ≡ record { event = event; reply = n.kept.reply }
taken_entry w u event place n is =
    ap (λ (e : Event). record { event = e; reply = n.happened.reply }) is.event
    ∙ ap (λ (k : Receipt). record { event = event; reply = k.reply }) (sym is.kept)

-- the reply of its receipt is the event's
pub taken_reply : (w u : World) (event : Event) (place : ℕ) (n : Note) → IsKeptOf w event place u n → step w event ≡ Ok (u, n.kept.reply)
taken_reply w u event place n is = is.reply ∙ ap (λ (k : Receipt). Ok (u, k.reply)) (sym is.kept)

-- ---- faults

taken_of : (l : LockedView) (event : Event) (fault : WorldFault) (r : Result (World × Reply) Fault) → step l.world event ≡ r → Refuses l.world event r fault → fault ≢ world.NoMemory
    → RefusesToKeep l event (commit.World fault)
taken_of l event fault (Ok next) is refuses other = absurd (other refuses.1)
taken_of l event fault (Err reason) is refuses other = rw is refuses

-- a turn that is not taken in place is refused as it is to be
pub taken_refused : (l : LockedView) (event : Event) (fault : CommitFault) → IsRefused l.world event fault → RefusesToTake l event fault
taken_refused l event commit.WrongTap is = absurd is
taken_refused l event commit.Disagree is = absurd is
taken_refused l event (commit.Stale turns now) is = absurd is
taken_refused l event (commit.World fault) is = λ other. taken_of l event fault (step l.world event) refl (is other) other
taken_refused l event commit.HistoryFull is = absurd is

refused_of : (l : LockedView) (event : Event) (fault : CommitFault) (r : Result (World × Reply) Fault) → step l.world event ≡ r → IsWantOfRoom (length l.history) l.limit fault
    → RefusesToKeep l event (earlier_fault (fault_of r) fault)
refused_of l event commit.WrongTap r is want = absurd want
refused_of l event commit.Disagree r is want = absurd want
refused_of l event (commit.Stale turns now) r is want = absurd want
refused_of l event (commit.World fault) (Ok next) is want = rw is want
refused_of l event (commit.World fault) (Err reason) is want = rw is refl
refused_of l event commit.HistoryFull (Ok next) is want = (rw is cc, want)
refused_of l event commit.HistoryFull (Err reason) is want = rw is refl

-- the world's fault comes first, where there is no room
pub refused_first : (l : LockedView) (event : Event) (fault : CommitFault) → IsWantOfRoom (length l.history) l.limit fault
    → RefusesToKeep l event (earlier_fault (fault_of (step l.world event)) fault)
refused_first l event fault want = refused_of l event fault (step l.world event) refl want

kept_or_taken : (l : LockedView) (event : Event) (fault : CommitFault) → RefusesToKeep l event fault → RefusesToTake l event fault
kept_or_taken l event commit.WrongTap is = absurd is
kept_or_taken l event commit.Disagree is = absurd is
kept_or_taken l event (commit.Stale turns now) is = absurd is
kept_or_taken l event (commit.World fault) is = λ other. is
kept_or_taken l event commit.HistoryFull is = is

-- the world's fault comes first, where the history is full
pub full_refused : (l : LockedView) (event : Event) (fault : CommitFault) → length l.history ≡ l.limit
    → fault ≡ earlier_fault (fault_of (step l.world event)) commit.HistoryFull → RefusesToTake l event fault
full_refused l event fault full is = rw is (kept_or_taken l event (earlier_fault (fault_of (step l.world event)) commit.HistoryFull) (refused_first l event commit.HistoryFull full))

-- so a seat's turn is refused as it is to be
pub refused_turn : (l : LockedView) (s : SeatView) (fault : CommitFault) → KnowsTurns l s → RefusesToTake l (Turn s.tap) fault → RefusesTurn l s fault
refused_turn l s commit.WrongTap knows is = absurd is
refused_turn l s commit.Disagree knows is = absurd is
refused_turn l s (commit.Stale turns now) knows is = absurd is
refused_turn l s (commit.World fault) knows is = (knows, is)
refused_turn l s commit.HistoryFull knows is = (knows, is)
