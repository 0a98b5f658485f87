-- The statements of the laws.
use Rattle.std.specs.Prelude.{◌≡◌, ◌+◌, ◌-◌, ◌≤◌, ℕ, true, false, List, [], ◌∷◌, ◌++◌, length, Option, Some, None, Ok}
use Rattle.pb_timers.specs.Timers.{Params}
use Rattle.law_model.specs.Trace.{Entry, entry_begin, Own, Whole}
use Rattle.law_model.specs.Medium.{TapSpec}
use Rattle.law_model.specs.World.{World, Event, Reply, trace_limit, new_world_within}
use Rattle.law_model.specs.Scenarios.{example_bus, two_masters}
use Rattle.law_model.specs.Step.{step}
use Rattle.law_model.specs.Behind.{behind, all_behind, IsPast}
use Rattle.law_runs.specs.Examples.{sent}
use Rattle.law_runs.specs.Judging.{IsOrdered}
use Rattle.law_runs.specs.Legality.{first_illegal}
use Rattle.law_runs.specs.Runs.{Plan, run}
use Rattle.law_runs.specs.Bus.{bus}
use Rattle.law_runs.specs.Scenarios.{Scenario, run_of, trace_of}
use Rattle.law_streams.specs.Judgement.{Kept, hear, hear_all, kept_of}
use Rattle.law_streams.specs.Audits.{audited_within, audit_ends_full, findings_from, findings_of_audit}
use Rattle.law_streams.specs.Streams.{run_within, trace_within, telling_bus, streamed_of, stream_within}
use Rattle.law_streams.specs.Limits.{ends_full, stream_ends_full, run_of_stream, run_behind, stream_behind}

-- ---- limits

-- the run of a scenario is that within 100,000 entries
abbrev pub RunIsWithin : Type 0
RunIsWithin = (s : Scenario) → (run_of s ≡ run_within trace_limit s) × (trace_of s ≡ trace_within trace_limit s)

-- where the trace does not get full, a greater limit changes nothing
abbrev pub MoreIsSame : Type 0
MoreIsSame = (s : Scenario) (few many : ℕ) → few ≤ many → ends_full (trace_within few s) ≡ false → trace_within many s ≡ trace_within few s

abbrev pub MoreStreamsSame : Type 0
MoreStreamsSame = (s : Scenario) (few many : ℕ) → few ≤ many → stream_ends_full (stream_within few s) ≡ false → stream_within many s ≡ stream_within few s

-- the trace of a run is what its stream has, if no event is refused
abbrev pub StreamIsRun : Type 0
StreamIsRun = (s : Scenario) (limit : ℕ) → trace_within limit s ≡ run_of_stream (stream_within limit s)

-- ---- audits

-- the audit of a scenario finds what is found in its run, if no event is refused, and else has the fault that ends it
abbrev pub AuditIsOfRun : Type 0
AuditIsOfRun = (s : Scenario) (limit : ℕ) → findings_of_audit (audited_within limit s) ≡ findings_from s (new_world_within limit s.params s.taps)

-- where the trace does not get full, a greater limit changes nothing
abbrev pub MoreAuditsSame : Type 0
MoreAuditsSame = (s : Scenario) (few many : ℕ) → few ≤ many → audit_ends_full (audited_within few s) ≡ false → audited_within many s ≡ audited_within few s

-- ---- the past

-- an event has the same effect without the past, and what is past stays so
abbrev pub PastRidesAlong : Type 0
PastRidesAlong = (old : List Entry) (w : World) (e : Event) → IsPast old w → step (behind old w) e ≡ all_behind old (step w e)

abbrev pub PastStays : Type 0
PastStays = (old : List Entry) (w next : World) (e : Event) (reply : Reply) → IsPast old w → step w e ≡ Ok (next, reply) → IsPast old next

-- the same for a run from an instant on, whatever its plan, and for what it streams
abbrev pub RunsWithoutPast : Type 0
RunsWithoutPast = (old : List Entry) (w : World) (instants now : ℕ) (p : Plan Event) → IsPast old w
    → run instants bus p now (behind old w) ≡ run_behind old (run instants bus p now w)

abbrev pub StreamsWithoutPast : Type 0
StreamsWithoutPast = (old : List Entry) (w : World) (instants now : ℕ) (p : Plan Event) → IsPast old w
    → streamed_of (run instants telling_bus p now (behind old w)) ≡ stream_behind old (streamed_of (run instants telling_bus p now w))

-- ---- a judge that keeps no trace

-- what a judge finds while it hears the entries is the first illegal one of all of them
abbrev pub JudgedAsHeard : Type 0
JudgedAsHeard = (p : Params) (specs : List TapSpec) (entries : List Entry) → IsOrdered entries → (kept_of p specs entries).illegal ≡ first_illegal p specs entries

-- what it keeps of some entries is all that it needs of them to judge the rest
abbrev pub JudgedInPieces : Type 0
JudgedInPieces = (p : Params) (specs : List TapSpec) (old rest : List Entry) → IsOrdered (old ++ rest)
    → (hear_all p specs (kept_of p specs old) rest).illegal ≡ first_illegal p specs (old ++ rest)

-- entries began no earlier than a moment
abbrev pub AllSince : ℕ → List Entry → Type 0
AllSince moment [] = Unit {0}
AllSince moment (e ∷ es) = (moment ≤ entry_begin e) × AllSince moment es

-- of the entries it keeps those that began at most a cable delay before the newest one, and for each tap one moment
abbrev pub KeepsFew : Type 0
KeepsFew = (p : Params) (specs : List TapSpec) (entries : List Entry) (e : Entry) → IsOrdered (entries ++ e ∷ [])
    → AllSince (entry_begin e - p.ttd) (kept_of p specs (entries ++ e ∷ [])).recent × (length (kept_of p specs (entries ++ e ∷ [])).ends ≡ length specs)

-- two masters form a ring, with a token to the second as the newest entry; this is kept of it
abbrev pub kept_of_ring : Kept
kept_of_ring = record {
  count = 5;
  ends = 1083 ∷ 1083 ∷ [];
  recent = sent 0 1120 1153 [] [] ∷ [];
  last = Some (record { telegram = record { tap = 0; octets = 0xdc ∷ 0x02 ∷ 0x01 ∷ []; begin = 1120; end = 1153; hits = []; heard = Own ∷ Whole ∷ [] }; silent = true });
  illegal = None;
}

-- what is found with one more telegram of three octets by the second master, that begins at a moment
abbrev pub found_after_ring : ℕ → List ℕ → Option ℕ
found_after_ring begin octets = (hear example_bus two_masters kept_of_ring (sent 1 begin (begin + 33) octets (Whole ∷ Own ∷ []))).illegal
