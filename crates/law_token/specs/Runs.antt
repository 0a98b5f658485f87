-- What runs never change, and how they are joined and split.
use Rattle.std.specs.Prelude.{◌≡◌, ℕ, ◌≤◌, true, false, List, [], ◌∷◌, ◌++◌, Some, None, Ok, slice_get}
use Rattle.pb_timers.specs.Timers.{Params}
use Rattle.law_turn.specs.Laws.{IsSilentWhileBusy}
use Rattle.law_turn.specs.Marks.{Mark}
use Rattle.law_turn.specs.Phases.{Offline}
use Rattle.law_turn.specs.Stations.{Station}
use Rattle.law_turn.specs.Turns.{turn_of}
use Rattle.law_model.specs.Medium.{TapSpec, Tap}
use Rattle.law_model.specs.World.{World, Event, Reply, Unheard}
use Rattle.law_model.specs.Step.{step, RunsTo}
use Rattle.law_runs.specs.Headline.{specs_of}
use Rattle.law_runs.specs.Premises.{first_broken}
use Rattle.law_token.specs.Promises.{HasRun}

-- the parameters, and the definition of each tap
pub record SameBus (w next : World) : Type 0 where
  pub params : next.params ≡ w.params
  pub specs : specs_of next ≡ specs_of w

abbrev pub RunsKeepTheBus : Type 0
RunsKeepTheBus = (w next : World) (events : List Event) → RunsTo w events next → SameBus w next

-- two consecutive runs
abbrev pub RunsBoth : World → List Event → List Event → World → Type 0
RunsBoth w xs ys next = (between : World) × RunsTo w xs between × RunsTo between ys next

-- they are a run of both lists
abbrev pub RunsJoin : Type 0
RunsJoin = (w next : World) (xs ys : List Event) → RunsBoth w xs ys next → RunsTo w (xs ++ ys) next

-- a run of both lists is two consecutive runs
abbrev pub RunsPart : Type 0
RunsPart = (w next : World) (xs ys : List Event) → RunsTo w (xs ++ ys) next → RunsBoth w xs ys next

-- a loss that is not refused breaks a premise
abbrev pub LossesBreak : Type 0
LossesBreak = (w next : World) (tap speaker : ℕ) (reply : Reply) → step w (Unheard tap speaker) ≡ Ok (next, reply)
    → first_broken w (Unheard tap speaker ∷ []) ≡ None → ⊥

abbrev pub BeginningsKeepPremises : Type 0
BeginningsKeepPremises = (w : World) (xs ys : List Event) → first_broken w (xs ++ ys) ≡ None → first_broken w xs ≡ None

-- the tap at an index after a run, on a bus whose addresses are those of stations
pub record IsTapAfter (p : Params) (specs : List TapSpec) (events : List Event) (tap : ℕ) (t : Tap) : Type 0 where
  pub highest : p.hsa ≤ 126
  pub new : World
  pub w : World
  pub run : HasRun p specs events new w
  pub here : slice_get w.taps tap ≡ Some t

abbrev pub StoppedAreOffline : Type 0
StoppedAreOffline = (p : Params) (specs : List TapSpec) (events : List Event) (tap : ℕ) (t : Tap) → IsTapAfter p specs events tap t
    → t.running ≡ false → t.station.phase ≡ Offline

-- the data with which a station replies to a request for data
abbrev pub TurnsKeepTheReply : Type 0
TurnsKeepTheReply = (p : Params) (s : Station) (marks : List Mark) (now : ℕ) → (turn_of p s marks now).0.cycles.responder.reply ≡ s.cycles.responder.reply

abbrev pub RunsKeepTheReply : Type 0
RunsKeepTheReply = (p : Params) (specs : List TapSpec) (events : List Event) (tap : ℕ) (t : Tap) → IsTapAfter p specs events tap t
    → t.station.cycles.responder.reply ≡ t.spec.reply

-- A station that holds the token, or checks whether it was taken, keeps no unsent reply, and a busy station has nothing
-- to send: whatever the premises.
abbrev pub HoldersKeepNoReply : Type 0
HoldersKeepNoReply = (p : Params) (specs : List TapSpec) (events : List Event) (tap : ℕ) (t : Tap) → IsTapAfter p specs events tap t
    → t.running ≡ true → IsSilentWhileBusy t.station
