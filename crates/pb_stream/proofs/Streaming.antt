-- What an instant leaves to come of a stream.
use Rattle.std.proofs.Common.{◌≡◌, ◌∙◌, ap, refl, sym, subst, arith, append-nil, append_assoc, ℕ, suc, ◌+◌, ◌<◌, ◌≤◌, List, [], ◌∷◌, ◌++◌, length, max, if◌then◌else◌, Option, Some, None}
use Rattle.std.specs.Prelude.{IfSome}
use Rattle.std.proofs.Math.Nat.{le-max_left, le-max_right}
use Rattle.std.proofs.lemmas.Bool.{le-leb}
use Rattle.std.proofs.lemmas.List.{length-append, length-drop, length-take-le}
use Rattle.law_model.specs.Trace.{Entry}
use Rattle.law_model.specs.World.{World}
use Rattle.law_model.specs.Laws.{AllFrom, AllOver}
use Rattle.law_model.specs.Behind.{behind, IsPast}
use Rattle.pb_medium.specs.LettingGo.{gone_of, past_of}
use Rattle.pb_medium.specs.Traces.{entries_of, limit_of, over_of, recent_of}
use Rattle.pb_medium.specs.declared.traces.Trace.{Trace}
use Rattle.pb_taps.specs.declared.faults.WorldFault.{WorldFault}
use Rattle.law_runs.specs.Runs.{run}
use Rattle.law_runs.specs.Scenarios.{At}
use Rattle.law_streams.specs.Audits.{no_events}
use Rattle.law_streams.specs.Streams.{Streamed, telling_bus, streamed_of, stream_on}
use Rattle.law_streams.specs.Limits.{stream_behind}
use Rattle.law_streams.proofs.Followed.{stream-behind}
use Rattle.law_streams.proofs.Instants.{more-instants}
use Rattle.pb_scenario.specs.Faults.{model_fault}
use Rattle.pb_scenario.specs.Texts.{entries_text, entry_text}
use Rattle.pb_scenario.specs.Walks.{WalkView, plan_in}
use Rattle.pb_world.specs.Buses.{world_of, IsKept}
use Rattle.pb_world.specs.LettingGo.{LetsPastGo}
use Rattle.pb_world.specs.declared.buses.Bus.{Bus}
use Rattle.pb_stream.specs.Plays.{GoesOn, IsNext, StopsIn}
use Rattle.pb_stream.specs.Stages.{GoesFrom, bus_view}
use Rattle.pb_stream.specs.Streams.{Appends, HandsOn, HasPlayed, IsShort, KeepsFew, Tells, kept_of, names_of}
use Rattle.pb_stream.specs.declared.streams.Progress.{Progress}
use Rattle.pb_stream.specs.declared.streams.Progress.TheVariants as progress
use Rattle.pb_stream.specs.declared.streams.Stream.{Stream}
use Rattle.pb_stream.proofs.Courses.{goes-streams, stops-streams}
use Rattle.pb_stream.proofs.Playing.{stops-so}

-- what is to come from a moment on
abbrev pub to_come : WalkView → World → Option Streamed
to_come walk w = streamed_of (run (walk.until + 1) telling_bus (plan_in walk) walk.clock w)

-- entries that are let go stand in front of what is left of it
pub let-go-rest : (walk : WalkView) (old new : World) (entries : List Entry) → old ≡ behind entries new → IsPast entries new → to_come walk old ≡ stream_behind entries (to_come walk new)
let-go-rest walk old new entries whole past = ap (to_come walk) whole ∙ stream-behind entries new (walk.until + 1) walk.clock (plan_in walk) past

-- ---- none are let go

from-start : (delay : ℕ) (es : List Entry) → AllFrom delay 0 es
from-start delay [] = tt
from-start delay (e ∷ es) = (omega arith, from-start delay es)

pub none-past : (w : World) → IsPast [] w
none-past w = (0, omega arith, tt, from-start w.params.ttd w.trace)

pub behind-none : (w : World) → w ≡ behind [] w
behind-none w = let same : w.limit ≡ 0 + w.limit = omega arith in ap (λ limit. record w { limit = limit }) same

pub hands-none : (names : List (List ℕ)) (bus : Bus) (text : List ℕ) → IsKept bus → HandsOn names bus text bus text
hands-none names bus text kept = ([], sym (append-nil text), record { whole = behind-none (world_of bus); past = none-past (world_of bus); kept = kept })

-- ---- an instant

-- a bus is at the end of the course without events from its world
pub from-bus : (bus : Bus) → IsKept bus → GoesFrom (bus_view bus) [] (no_events (world_of bus))
from-bus bus kept = record { at = record { kept = kept; past = none-past (world_of bus); here = behind-none (world_of bus); found = tt }; knows = tt }

goes-world : (walk : WalkView) (old mid : Bus) (t : Option ℕ) → GoesOn walk [] (no_events (world_of old)) t (bus_view mid)
    → to_come walk (world_of old) ≡ stream_on (plan_in walk) walk.until t (world_of mid)
goes-world walk old mid t goes =
    let p = plan_in walk in
    let one : walk.until + 1 ≡ suc walk.until = omega arith in
    ap (λ n. streamed_of (run n telling_bus p walk.clock (world_of old))) one
    ∙ goes-streams walk.until walk.clock p (no_events (world_of old)) goes.after t goes.events (goes.rest walk.until)
    ∙ ap (stream_on p walk.until t) (goes.from.at.here ∙ sym (behind-none (world_of mid)))

-- an instant that is played leaves it as it is
pub played-rest : (walk after : WalkView) (old mid : Bus) (at : ℕ) → after ≡ record walk { clock = at } → GoesOn walk [] (no_events (world_of old)) (Some at) (bus_view mid)
    → IsNext walk at → to_come walk (world_of old) ≡ to_come after (world_of mid)
played-rest walk after old mid at moved goes next =
    let p = plan_in walk in
    let k = walk.until in
    let one : k + 1 ≡ suc k = omega arith in
    goes-world walk old mid (Some at) goes
    ∙ ap streamed_of (sym (more-instants k p at (world_of mid) next.in_time (omega (arith, next.later))))
    ∙ ap (λ n. streamed_of (run n telling_bus p at (world_of mid))) (sym one)
    ∙ ap (λ (v : WalkView). to_come v (world_of mid)) (sym moved)

pub ends-rest : (walk : WalkView) (old mid : Bus) → GoesOn walk [] (no_events (world_of old)) None (bus_view mid)
    → to_come walk (world_of old) ≡ Some (record { entries = entries_of mid.trace; fault = None })
ends-rest walk old mid goes = goes-world walk old mid None goes

pub stops-rest : (walk : WalkView) (old mid : Bus) (fault : WorldFault) → IfSome (model_fault fault) (λ f. StopsIn walk [] (no_events (world_of old)) f (bus_view mid))
    → IfSome (model_fault fault) (λ f. to_come walk (world_of old) ≡ Some (record { entries = entries_of mid.trace; fault = Some (At walk.clock f) }))
stops-rest walk old mid fault stops =
    let p = plan_in walk in
    let one : walk.until + 1 ≡ suc walk.until = omega arith in
    stops-so fault (λ f. StopsIn walk [] (no_events (world_of old)) f (bus_view mid))
    (λ f. to_come walk (world_of old) ≡ Some (record { entries = entries_of mid.trace; fault = Some (At walk.clock f) }))
    (λ f is. ap (λ n. streamed_of (run n telling_bus p walk.clock (world_of old))) one
    ∙ stops-streams walk.until walk.clock walk.clock p (no_events (world_of old)) is.after f (is.rest walk.until)
    ∙ ap (λ (w : World). Some (record { entries = w.trace; fault = Some (At walk.clock f) })) is.at.here) stops

-- at the end the lines of all entries that are left are appended
pub tells-rest : (end : Progress) (block : ℕ) (old new : Stream) (before after : List ℕ) → (end ≡ progress.Goes → ⊥) → HasPlayed end old new → Appends (names_of old) (kept_of new) before after
    → Tells end old new before after × KeepsFew block end new
tells-rest progress.Goes block old new before after ended rest text = absurd (ended refl)
tells-rest progress.Ended block old new before after ended rest text = ((kept_of new, text, rest), tt)
tells-rest (progress.Refused clock fault) block old new before after ended rest text = ((kept_of new, text, rest), tt)

-- ---- what is kept

-- where fewer than a block can be let go, the trace is short
pub is-short : (block : ℕ) (t : Trace) → over_of t ≤ length (entries_of t) → length (past_of t) < max block 1 → IsShort block t
is-short block t within few room =
    let all : over_of t + length (recent_of t) ≡ length (entries_of t) = omega (arith, within, length-drop (over_of t) (entries_of t)) in
    let gone : gone_of t ≡ over_of t = ap (λ b. if b then over_of t else 0) (le-leb (over_of t) (limit_of t) room) in
    let count : length (past_of t) ≡ over_of t = length-take-le (gone_of t) (entries_of t) (omega (arith, within, gone)) ∙ gone in
    omega (arith, few, all, count)

-- ---- more are let go

over-later : (delay m n : ℕ) (es : List Entry) → m ≤ n → AllOver delay m es → AllOver delay n es
over-later delay m n [] later over = tt
over-later delay m n (e ∷ es) later over = (over.0, omega (arith, over.1, later), over-later delay m n es later over.2)

over-both : (delay m : ℕ) (es fs : List Entry) → AllOver delay m es → AllOver delay m fs → AllOver delay m (es ++ fs)
over-both delay m [] fs over more = more
over-both delay m (e ∷ es) fs over more = (over.0, over.1, over-both delay m es fs over.2 more)

from-last : (delay m : ℕ) (es fs : List Entry) → AllFrom delay m (es ++ fs) → AllFrom delay m fs
from-last delay m [] fs from = from
from-last delay m (e ∷ es) fs from = from-last delay m es fs from.1

from-later : (delay m n : ℕ) (es : List Entry) → AllFrom delay m es → AllFrom delay n es → AllFrom delay (max m n) es
from-later delay m n [] one two = tt
from-later delay m n (e ∷ es) one two = (omega (arith, one.0, two.0), from-later delay m n es one.1 two.1)

past-both : (es fs : List Entry) (w : World) → IsPast es (behind fs w) → IsPast fs w → IsPast (es ++ fs) w
past-both es fs w (m, began, over, from) (n, more, ended, later) =
    let delay = w.params.ttd in
    let all : max m n ≤ w.now = omega (arith, began, more) in (
      max m n,
      all,
      over-both delay (max m n) es fs (over-later delay m (max m n) es (le-max_left m n) over) (over-later delay n (max m n) fs (le-max_right m n) ended),
      from-later delay m n w.trace (from-last delay m fs w.trace from) later,
    )

behind-both : (es fs : List Entry) (w : World) → behind es (behind fs w) ≡ behind (es ++ fs) w
behind-both es fs w =
    let count : length es + (length fs + w.limit) ≡ length (es ++ fs) + w.limit = omega (arith, length-append es fs) in
    ap (λ trace. record w { trace = trace; limit = length es + (length fs + w.limit) }) (sym (append_assoc es fs w.trace))
    ∙ ap (λ limit. record w { trace = (es ++ fs) ++ w.trace; limit = limit }) count

lets-both : (es fs : List Entry) (a b c : Bus) → LetsPastGo es a b → LetsPastGo fs b c → LetsPastGo (es ++ fs) a c
lets-both es fs a b c first more = record {
  whole = first.whole ∙ ap (behind es) more.whole ∙ behind-both es fs (world_of c);
  past = past-both es fs (world_of c) (subst (IsPast es) more.whole first.past) more.past;
  kept = more.kept;
}

pub lines-both : (names : List (List ℕ)) (es fs : List Entry) → entries_text names (es ++ fs) ≡ entries_text names es ++ entries_text names fs
lines-both names [] fs = refl
lines-both names (e ∷ es) fs =
    ap (λ (l : List ℕ). entry_text names e ++ l) (lines-both names es fs) ∙ sym (append_assoc (entry_text names e) (entries_text names es) (entries_text names fs))

pub hands-both : (names : List (List ℕ)) (a b c : Bus) (s t u : List ℕ) → HandsOn names a s b t → HandsOn names b t c u → HandsOn names a s c u
hands-both names a b c s t u (es, first, gone) (fs, more, left) = (
  es ++ fs,
  more ∙ ap (λ (l : List ℕ). l ++ entries_text names fs) first ∙ append_assoc s (entries_text names es) (entries_text names fs)
      ∙ ap (λ (l : List ℕ). s ++ l) (sym (lines-both names es fs)),
  lets-both es fs a b c gone left,
)
